use Rattle.std.proofs.Common.{◌∙◌, arith}
use Rattle.h264_bits.proofs.Upcomings.{first-bits}
use Rattle.h264_bits.proofs.Peeks.{peek-below}
use Rattle.h264_bits.proofs.bits.Bits.ready.Goals as goal

pub returns-clause-value : goal.returns-clause-value
returns-clause-value c =
    let i = c.self.invariant in
    rw (← c.self.view_is, ← i.0)
    (c.first_of.ensures ∙ first-bits c.self.inside.bytes.now c.self.inside.at c.args.n c.self.inside.upcoming (let e = c.if-self-n.false in omega arith) i.5)

pub returns-clause-small : goal.returns-clause-small
returns-clause-small c = rw (returns-clause-value c) (peek-below c.args.n c.args.self.now.body.bytes c.args.self.now.at)
