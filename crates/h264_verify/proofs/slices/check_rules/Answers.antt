use Rattle.h264_base.specs.Call.{span}
use Rattle.std.proofs.Common.{◌∙◌, sym, ap, subst, [], map, length}
use Rattle.h264_verify.specs.Keeping.{slice_at}
use Rattle.h264_verify.specs.Telling.{took_with}
use Rattle.h264_verify.specs.Outcome.{Plays}
use Rattle.h264_verify.specs.Demands.{judged}
use Rattle.h264_verify.specs.Course.{Steps}
use Rattle.h264_verify.specs.CourseOutcome.{outcome_of}
use Rattle.h264_verify.specs.Buffering.{after_all}
use Rattle.h264_verify.specs.Order.{later_slice_rules}
use Rattle.h264_verify.specs.Slices.{SlicesBefore, slices_before}
use Rattle.h264_verify.specs.Pictures.{goes_on, runs_of, with_sets, counted}
use Rattle.h264_verify.proofs.language.Played.{rules-play}
use Rattle.h264_verify.proofs.kept.KeepsOutput.{ended-gap}
use Rattle.h264_verify.proofs.judged.SliceRules.{some-begun, first-rules, enters-first, enters-later, later-rules}
use Rattle.h264_verify.proofs.slices.check_rules.Goals as goal
use Rattle.h264_base.proofs.Plain.{on-ok}

pub check_first_slice-requires-clause-kept : goal.check_first_slice-requires-clause-kept
check_first_slice-requires-clause-kept g c =
    some-begun c.args.head.now.place.begins c.args.slices.now c.args.decoder.now c.if-head.true c.requires.kept c.requires.pictures

pub returns-then-head-clause-plays : goal.returns-then-head-clause-plays
returns-then-head-clause-plays g c = rw c.if-head.true (λ depth frames before k b d.
    subst (λ (steps : Steps). Plays (span (took_with frames g.S.Elements.took) g.S.Elements.failures c.args.sink.now c.check_first_slice.new.sink)
    (λ (x : Unit {0}). x) (outcome_of steps) c.check_first_slice.result)
    (first-rules depth (goes_on before) (runs_of before) c.args.slices.now (slice_at c.args.head.now.place c.args.head.now.header.now []) k.kept)
    (c.check_first_slice.ensures.plays depth frames (after_all (runs_of before)) (length (runs_of before)) (map counted (runs_of before))
    (ended-gap depth frames (goes_on before) (runs_of before) c.args.decoder.now d) k.kept.counts))

pub returns-then-head-clause-frames : goal.returns-then-head-clause-frames
returns-then-head-clause-frames g c = rw c.if-head.true (λ depth frames before k b d.
    enters-first c.check_first_slice.result depth frames (goes_on before) (runs_of before) c.args.slices.now
    (with_sets c.args.head.now.place.unit.now c.args.head.now.header.now [] (c.args.head.now.place.pps.now, c.args.head.now.place.sps.now))
    c.args.decoder.now c.check_first_slice.new.decoder d c.check_first_slice.ensures.format (λ i. (c.requires.goes c.if-head.true i).format) k.kept
    (c.check_first_slice.ensures.gap depth frames (after_all (runs_of before)) (length (runs_of before))
    (ended-gap depth frames (goes_on before) (runs_of before) c.args.decoder.now d)))

pub returns-else-head-clause-plays : goal.returns-else-head-clause-plays
returns-else-head-clause-plays g c = rw c.if-head.false (λ depth frames before k b d.
    rules-play (took_with frames g.S.Elements.took) g.S.Elements.failures
    (later_slice_rules (slices_before (runs_of before)) (slice_at c.args.head.now.place c.args.head.now.header.now [])) c.args.sink.now
    c.check_later_slice.result (c.check_later_slice.ensures.judged ∙
    ap (λ (b : SlicesBefore). judged (later_slice_rules b (slice_at c.args.head.now.place c.args.head.now.header.now [])))
    (later-rules (goes_on before) (runs_of before) c.args.slices.now c.args.head.now.header.now (sym b) k.kept)))

pub returns-else-head-clause-frames : goal.returns-else-head-clause-frames
returns-else-head-clause-frames g c = rw c.if-head.false (λ depth frames before k b d.
    on-ok c.check_later_slice.result (enters-later depth frames (goes_on before) (runs_of before)
    (with_sets c.args.head.now.place.unit.now c.args.head.now.header.now [] (c.args.head.now.place.pps.now, c.args.head.now.place.sps.now))
    c.args.head.now.header.now c.args.decoder.now (sym b) d))
