use Rattle.std.proofs.Common.{pos}
use Rattle.h264_base.specs.Word.{Unsigned}
use Rattle.h264_base.proofs.Words.{value-reads}
use Rattle.h264_bits.proofs.Readings.{none-reads}
use Rattle.h264_bits.proofs.bits.Bits.ue_of_any_length.Goals as goal

pub returns-in_default-clause-none : goal.returns-in_default-clause-none
returns-in_default-clause-none c = rw (← c.self.view_is, ← c.self.invariant.0)
    (none-reads Unsigned c.self.inside.bytes.now c.self.inside.at c.in_default.ensures.value)

pub returns-clause-word : goal.returns-clause-word
returns-clause-word c = rw (c.pass.ensures, ← c.self.view_is, ← c.self.invariant.0)
    (value-reads Unsigned c.self.inside.bytes.now c.self.inside.at (pos c.in-Some.value) c.in-Some.next c.in-Some.ensures.value)
