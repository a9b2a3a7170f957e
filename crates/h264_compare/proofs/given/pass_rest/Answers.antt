use Rattle.std.proofs.Common.{◌≢◌, ℕ, ◌∷◌, [], ◌++◌, ap}
use Rattle.std.proofs.KnownBytes.{Consumes-trans}
use Rattle.std.proofs.lemmas.List.Elements.{All-append, All-cons, All-nil}
use Rattle.h264_compare.proofs.given.pass_rest.Goals as goal

-- a byte that does not end the line
abbrev IsWithin : ℕ → Type 0
IsWithin byte = byte ≢ 10

pub returns-then-byte-eq10-clause-read : goal.returns-then-byte-eq10-clause-read
returns-then-byte-eq10-clause-read g c =
    let before = c.loop.invariant.0 in (
      before ++ c.in-Ok.byte ∷ [],
      Consumes-trans _ _ _ _ _ c.loop.invariant.1 c.in-Ok.ensures.bytes,
      (before, ap (λ b. before ++ b ∷ []) c.if-byte-eq10.true, c.loop.invariant.2),
    )

pub loop-preserved : goal.loop-preserved
loop-preserved g c =
    let before = c.loop.invariant.0 in (
      before ++ c.in-Ok.byte ∷ [],
      Consumes-trans _ _ _ _ _ c.loop.invariant.1 c.in-Ok.ensures.bytes,
      All-append IsWithin before (c.in-Ok.byte ∷ []) c.loop.invariant.2 (All-cons IsWithin c.in-Ok.byte [] c.if-byte-eq10.false (All-nil IsWithin)),
    )
