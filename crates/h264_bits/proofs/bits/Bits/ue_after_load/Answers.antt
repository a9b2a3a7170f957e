use Rattle.std.proofs.Common.{pos, ◌+◌, ◌-◌, ◌*◌, ◌≤◌, length, arith}
use Rattle.h264_base.specs.Word.{Unsigned}
use Rattle.h264_base.proofs.Words.{value-reads}
use Rattle.h264_bits.proofs.bits.Bits.ue_after_load.Goals as goal

pub returns-in-Some-short_golomb-clause-word : goal.returns-in-Some-short_golomb-clause-word
returns-in-Some-short_golomb-clause-word c =
    let bytes = c.args.self.now.body.bytes in
    let i = c.args.self.now.at in
    let inside = c.in-Some.ensures.together.inside in
    let few = c.in-Some-short_golomb.ensures.few in
    let fits : c.in-Some-short_golomb.word.length ≤ 8 * length bytes - i = omega arith in
    rw (c.pass_by.ensures, c.in-Some.ensures.kept)
    (value-reads Unsigned bytes i (pos c.in-Some-short_golomb.word.value) (i + c.in-Some-short_golomb.word.length)
    (c.in-Some-short_golomb.ensures.word bytes i c.in-Some.ensures.value fits))

pub returns-clause-none : goal.returns-clause-none
returns-clause-none c = rw (← c.held.ensures.kept) c.ue_of_any_length.ensures.none
