use Rattle.std.proofs.Common.{[], ap, sym, subst, ◌∙◌}
use Rattle.h264_pages.proofs.Surveying.{none-surveyed}
use Rattle.h264_strict.specs.StrictUnits.{TellsOfBytes}
use Rattle.h264_strict.specs.declared.strict_units.UnitsRead.{UnitsRead}
use Rattle.h264_strict.specs.Strict.{TookStrict}
use Rattle.h264_strict.specs.declared.strict_sink.StrictSink.{StrictSink}
use Rattle.h264_verify.specs.Modes.{purpose_for}
use Rattle.h264_verify.proofs.samples.FamiliesByPurpose.{with-family}
use Rattle.h264_command.specs.Files.{left_of}
use Rattle.h264_words.specs.Words.{mode_of}
use Rattle.h264_command.proofs.Answered.{answered, survey-of, surveyed-calls}
use Rattle.h264_command.proofs.Further.{judged}
use Rattle.h264_command.proofs.job.judge_further.Goals as goal

pub returns-then-not-is_surveyed-clause-answer : goal.returns-then-not-is_surveyed-clause-answer
returns-then-not-is_surveyed-clause-answer g c =
    rw c.judged_further.ensures.answer (answered c.args.job.now.task c.args.job.now.options.target _ (left_of g.F.Read.remaining c.args.file.now.reader)
    c.judge_strictly-judgement.result.answer c.mode_of-mode.ensures c.judge_strictly-judgement.ensures.verdict c.judge_strictly-judgement.ensures.units.0
    c.judge_strictly-judgement.ensures.units.4)

pub returns-clause-answer : goal.returns-clause-answer
returns-clause-answer g c =
    rw c.judged_further-2.ensures.answer (answered c.args.job.now.task c.args.job.now.options.target _ (left_of g.F.Read.remaining c.args.file.now.reader)
    c.judge_strictly-judgement-2.result.answer c.mode_of-mode.ensures c.judge_strictly-judgement-2.ensures.verdict
    c.judge_strictly-judgement-2.ensures.units.0 c.judge_strictly-judgement-2.ensures.units.4)

pub returns-then-not-is_surveyed-clause-read : goal.returns-then-not-is_surveyed-clause-read
returns-then-not-is_surveyed-clause-read g c e = c.judge_strictly-judgement.ensures.read (sym c.judged_further.ensures.answer ∙ e)

pub returns-then-not-is_surveyed-clause-further : goal.returns-then-not-is_surveyed-clause-further
returns-then-not-is_surveyed-clause-further g c =
    let u = c.judge_strictly-judgement.ensures.units in
    let none = subst (λ s. g.S.Elements.took s []) (sym c.new-sink.ensures.sink) c.requires.none in
    let tells = subst (λ (units : UnitsRead). TellsOfBytes units.extent u.1 units.found units.lack u.0) (sym c.judged_further.ensures.units) u.5 in
    rw c.judged_further.ensures.answer (judged _ (mode_of c.args.job.now.task) c.args.job.now.options.target
    (left_of g.F.Read.remaining c.args.file.now.reader) c.judge_strictly-judgement.result.answer c.judged_further.result.further
    c.mode_of-mode.ensures u.0 u.1 u.2 u.3 (with-family (purpose_for c.mode_of-mode.result) u.4) (none, c.new-sink.ensures.strict)
    (λ calls t. subst (λ s. TookStrict s calls) (sym c.judged_further.ensures.strict) t.1) tells)

pub returns-clause-read : goal.returns-clause-read
returns-clause-read g c e = c.judge_strictly-judgement-2.ensures.read (sym c.judged_further-2.ensures.answer ∙ e)

pub returns-clause-further : goal.returns-clause-further
returns-clause-further g c =
    let u = c.judge_strictly-judgement-2.ensures.units in
    let none = subst (λ s. g.S.Elements.took s []) (sym c.new-sink.ensures.sink) c.requires.none in
    let tells = subst (λ (units : UnitsRead). TellsOfBytes units.extent u.1 units.found units.lack u.0) (sym c.judged_further-2.ensures.units) u.5 in
    rw c.judged_further-2.ensures.answer (judged _ (mode_of c.args.job.now.task) c.args.job.now.options.target
    (left_of g.F.Read.remaining c.args.file.now.reader) c.judge_strictly-judgement-2.result.answer c.judged_further-2.result.further
    c.mode_of-mode.ensures u.0 u.1 u.2 u.3 (with-family (purpose_for c.mode_of-mode.result) u.4)
    ((none, c.new-sink.ensures.strict), none-surveyed c.args.watch.fresh)
    (λ calls t. subst (λ s. TookStrict s calls)
    (ap (λ (s : StrictSink g.row.S.Denot). s.strict) (sym c.tell_end.ensures.sink) ∙ sym c.judged_further-2.ensures.strict) t.0.1) tells)

pub returns-clause-surveyed : goal.returns-clause-surveyed
returns-clause-surveyed g c e =
    let u = c.judge_strictly-judgement-2.ensures.units in
    let none = subst (λ s. g.S.Elements.took s []) (sym c.new-sink.ensures.sink) c.requires.none in
    survey-of c.args.job.now _ c.judged_further-2.ensures.answer (c.judged_further-2.ensures.survey ∙ c.tell_end.ensures.survey)
    (surveyed-calls (λ (x : StrictSink g.row.S.Denot) calls. g.S.Elements.took x.sink calls × TookStrict x.strict calls)
    {s' = c.judge_strictly-judgement-2.new.sink} c.args.job.now.task c.args.job.now.options.target _ (left_of g.F.Read.remaining c.args.file.now.reader)
    c.judge_strictly-judgement-2.result.answer c.mode_of-mode.ensures c.judge_strictly-judgement-2.ensures.verdict u.0 u.4
    (none, c.new-sink.ensures.strict) c.args.watch.fresh).1
