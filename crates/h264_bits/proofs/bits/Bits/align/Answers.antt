use Rattle.std.proofs.Common.{◌∙◌, sym, ap}
use Rattle.std.specs.Option.{is_some}
use Rattle.h264_bits.proofs.Readings.{zeros-padded, set-not_padded}
use Rattle.h264_bits.proofs.bits.Bits.align.Goals as goal

pub returns-then-is_some-clause-none : goal.returns-then-is_some-clause-none
returns-then-is_some-clause-none c =
    rw (← c.self.view_is, ← c.self.invariant.0)
    (set-not_padded c.self.inside.bytes.now c.self.inside.at (ap is_some (sym c.first_set.ensures.set) ∙ sym c.is_some.ensures ∙ c.if-is_some.true))

pub returns-clause-zeros : goal.returns-clause-zeros
returns-clause-zeros c =
    rw (← c.self.view_is, ← c.self.invariant.0)
    (zeros-padded c.self.inside.bytes.now c.self.inside.at (ap is_some (sym c.first_set.ensures.set) ∙ sym c.is_some.ensures ∙ c.if-is_some.false))
