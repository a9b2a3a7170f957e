use Rattle.std.proofs.Common.{refl, ap, sym, ◌∙◌, w64}
use Rattle.std.proofs.lemmas.Int.{to_z-of_z}
use Rattle.h264_lines.specs.Chosen.{after_element, after_first}
use Rattle.h264_lines.proofs.Reaching.{others-stay}
use Rattle.h264_lines.proofs.reading.Reading.note_element.Goals as goal

pub returns-in-FirstMbInSlice : goal.returns-in-FirstMbInSlice
unfolding after_element
returns-in-FirstMbInSlice c =
    let count = rw (to_z-of_z w64 c.args.value c.ranges.value) at c.count_of.ensures in
    rw c.in-FirstMbInSlice.is (c.begin_slice.ensures ∙ ap (λ n. after_first n c.args.self.now) count)

pub returns-in-Some : goal.returns-in-Some
unfolding after_element
returns-in-Some c =
    let count = rw (to_z-of_z w64 c.args.value c.ranges.value) at c.count_of-in-Some.ensures in
    rw (c.in-MbSkipRun.is, c.in-Some.is, c.after_run.ensures, count) refl

pub returns-in_default-reach : goal.returns-in_default-reach
unfolding after_element
returns-in_default-reach c = rw (c.in-MbSkipRun.is, c.in_default-reach.is) refl

pub returns-in-Some-reach : goal.returns-in-Some-reach
unfolding after_element
returns-in-Some-reach c = rw (c.in-MbType.is, c.in-Some-reach.is, c.after_type.ensures) refl

pub returns-in_default-reach-2 : goal.returns-in_default-reach-2
unfolding after_element
returns-in_default-reach-2 c = rw (c.in-MbType.is, c.in_default-reach-2.is) refl

pub returns-in_default : goal.returns-in_default
returns-in_default c = sym (others-stay c.args.name c.args.value c.args.self.now c.in_default.not-FirstMbInSlice c.in_default.not-MbSkipRun
    c.in_default.not-MbType)
