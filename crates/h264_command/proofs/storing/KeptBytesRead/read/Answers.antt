use Rattle.std.proofs.Common.{◌≡◌, refl, arith, rules}
use Rattle.h264_command.proofs.Kept.{after-nothing, gave-memory}
use Rattle.h264_command.proofs.storing.KeptBytesRead.read.Goals as goal
use Rattle.h264_command.proofs.storing.KeptBytesRead.read.Goals.{then-n-gt0-via-then-n-gt0, then-n-gt0-via-else-n-gt0+then-is_empty}

pub returns-then-n-gt0-clause-bytes : goal.returns-then-n-gt0-clause-bytes
returns-then-n-gt0-clause-bytes g c = (
  gave-memory g.S.Read.remaining _ _ _ _ _ c.give-n.ensures.others c.give-n.ensures.gave,
  λ none room. elim c.then-n-gt0.branch [
    | then-n-gt0-via-then-n-gt0 w ↦ (let t = w.if-n-gt0.true in absurd (omega (arith, t, none)))
    | then-n-gt0-via-else-n-gt0+then-is_empty w ↦ search rules
  ],
)

pub returns-clause-bytes : goal.returns-clause-bytes
returns-clause-bytes g c =
    let none : c.give-n.result ≡ 0 = omega (arith, c.if-n-gt0.false) in
    let nothing = rw none at (gave-memory g.S.Read.remaining _ _ _ _ _ c.give-n.ensures.others c.give-n.ensures.gave) in
    (after-nothing _ _ _ _ _ nothing refl c.give_refused.ensures.bytes, c.give_refused.ensures.end)
