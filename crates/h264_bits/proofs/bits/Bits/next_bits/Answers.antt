use Rattle.std.proofs.Common.{◌∙◌, arith}
use Rattle.h264_bits.proofs.Upcomings.{first-bits}
use Rattle.h264_bits.proofs.bits.Bits.next_bits.Goals.{then-self-n, else-self-n}
use Rattle.h264_bits.proofs.bits.Bits.next_bits.Goals as goal

pub returns-clause-value : goal.returns-clause-value
returns-clause-value c =
    let i = c.self.invariant in
    rw (← c.self.view_is, ← i.0)
    (c.first_of.ensures ∙ elim c.if-self-n.branch [
      | then-self-n w ↦ rw w.self-inside-is (w.loaded-self-inside.ensures.front c.args.n c.requires)
      | else-self-n w ↦ let enough = w.if-self-n.false in
          rw w.self-inside-is (first-bits c.self.inside.bytes.now c.self.inside.at c.args.n c.self.inside.upcoming (omega arith) i.5)
    ])
