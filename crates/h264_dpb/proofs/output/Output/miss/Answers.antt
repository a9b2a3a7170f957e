use Rattle.std.proofs.Common.{ap, ◌∙◌, map}
use Rattle.h264_marking.specs.declared.frame.ReferenceFrame.{ReferenceFrame}
use Rattle.h264_dpb.proofs.Answering.{miss-room, missed-writes, missed-keeps, missed-frames, missed-ordered}
use Rattle.h264_dpb.proofs.OutputSteps.{passed-over}
use Rattle.h264_dpb.proofs.output.Output.miss.Goals as goal

pub put-requires-clause-few : goal.put-requires-clause-few
put-requires-clause-few g c = miss-room c.args.held.now c.missing-stored.result c.args.self.now c.missing-stored.ensures.kind
    (c.missing-stored.ensures.held ∙ c.as_slice.ensures.value ∙ c.names-names.ensures ∙
    ap (λ l. map (λ f. ReferenceFrame.picture f) l) c.frames.ensures.value) _ c.requires.ordered.2.rising c.requires.missing c.requires.few

pub returns-clause-writes : goal.returns-clause-writes
returns-clause-writes g c = missed-writes g.S.Elements.took g.S.Elements.failures (g.F.FrameStore.lent c.args.store.now) c.missing-stored.result
    c.args.self.now c.put.new.self c.args.sink.now c.put.new.sink c.put.result c.missing-stored.ensures.kind c.put.ensures.steps c.args.held.now
    (c.missing-stored.ensures.held ∙ c.as_slice.ensures.value ∙ c.names-names.ensures ∙
    ap (λ l. map (λ f. ReferenceFrame.picture f) l) c.frames.ensures.value)

pub returns-clause-keeps : goal.returns-clause-keeps
returns-clause-keeps g c = missed-keeps g.S.Elements.took g.S.Elements.failures (g.F.FrameStore.lent c.args.store.now) c.missing-stored.result c.args.self.now
    c.put.new.self c.args.sink.now c.put.new.sink c.put.result c.missing-stored.ensures.kind c.put.ensures.steps c.args.held.now
    (c.missing-stored.ensures.held ∙ c.as_slice.ensures.value ∙ c.names-names.ensures ∙
    ap (λ l. map (λ f. ReferenceFrame.picture f) l) c.frames.ensures.value) c.put.ensures.missing c.put.ensures.size c.put.ensures.frames

pub returns-clause-frames : goal.returns-clause-frames
returns-clause-frames g c = missed-frames g.S.Elements.took g.S.Elements.failures (g.F.FrameStore.lent c.args.store.now) c.missing-stored.result
    c.args.self.now c.put.new.self c.args.sink.now c.put.new.sink c.put.result c.missing-stored.ensures.kind c.put.ensures.steps

pub returns-clause-ordered : goal.returns-clause-ordered
returns-clause-ordered g c = missed-ordered g.S.Elements.took g.S.Elements.failures (g.F.FrameStore.lent c.args.store.now) c.missing-stored.result
    c.args.self.now c.put.new.self c.args.sink.now c.put.new.sink c.put.result c.missing-stored.ensures.kind c.put.ensures.steps c.put.ensures.within
    c.put.ensures.frames

pub returns-clause-passes : goal.returns-clause-passes
returns-clause-passes g c = λ n. passed-over g.S.Elements.took g.S.Elements.failures (g.F.FrameStore.lent c.args.store.now) _ _ _ _ _ n c.put.ensures.steps
