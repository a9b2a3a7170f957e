use Rattle.std.proofs.Common.{ap, ◌∙◌, map}
use Rattle.h264_marking.specs.declared.frame.ReferenceFrame.{ReferenceFrame}
use Rattle.h264_dpb.proofs.Answering.{stored-as, store-room, store-writes, store-keeps, store-frames, store-ordered}
use Rattle.h264_dpb.proofs.OutputSteps.{passed-over}
use Rattle.h264_dpb.proofs.output.Output.store.Goals as goal

pub put-requires-clause-few : goal.put-requires-clause-few
put-requires-clause-few g c =
    let s = stored-as c.args.picture.now c.args.place c.args.held.now c.stored_at-stored.result c.stored_at-stored.ensures.kind c.stored_at-stored.ensures.of
    c.stored_at-stored.ensures.count (c.stored_at-stored.ensures.held ∙ c.as_slice.ensures.value ∙ c.names-names.ensures ∙
    ap (λ l. map (λ f. ReferenceFrame.picture f) l) c.frames.ensures.value) in
    store-room c.args.picture.now c.args.place c.args.held.now c.stored_at-stored.result c.args.self.now s c.requires.ordered.rising c.requires.marked
    c.requires.few

pub returns-clause-writes : goal.returns-clause-writes
returns-clause-writes g c =
    let s = stored-as c.args.picture.now c.args.place c.args.held.now c.stored_at-stored.result c.stored_at-stored.ensures.kind c.stored_at-stored.ensures.of
    c.stored_at-stored.ensures.count (c.stored_at-stored.ensures.held ∙ c.as_slice.ensures.value ∙ c.names-names.ensures ∙
    ap (λ l. map (λ f. ReferenceFrame.picture f) l) c.frames.ensures.value) in
    store-writes g.S.Elements.took g.S.Elements.failures (g.F.FrameStore.lent c.args.store.now) c.args.picture.now c.args.place c.args.held.now
    c.stored_at-stored.result c.args.self.now c.put.new.self c.args.sink.now c.put.new.sink c.put.result s c.put.ensures.steps

pub returns-clause-keeps : goal.returns-clause-keeps
returns-clause-keeps g c =
    let s = stored-as c.args.picture.now c.args.place c.args.held.now c.stored_at-stored.result c.stored_at-stored.ensures.kind c.stored_at-stored.ensures.of
    c.stored_at-stored.ensures.count (c.stored_at-stored.ensures.held ∙ c.as_slice.ensures.value ∙ c.names-names.ensures ∙
    ap (λ l. map (λ f. ReferenceFrame.picture f) l) c.frames.ensures.value) in
    store-keeps g.S.Elements.took g.S.Elements.failures (g.F.FrameStore.lent c.args.store.now) c.args.picture.now c.args.place c.args.held.now
    c.stored_at-stored.result c.args.self.now c.put.new.self c.args.sink.now c.put.new.sink c.put.result s c.put.ensures.steps c.put.ensures.missing
    c.put.ensures.size c.put.ensures.frames

pub returns-clause-frames : goal.returns-clause-frames
returns-clause-frames g c =
    let s = stored-as c.args.picture.now c.args.place c.args.held.now c.stored_at-stored.result c.stored_at-stored.ensures.kind c.stored_at-stored.ensures.of
    c.stored_at-stored.ensures.count (c.stored_at-stored.ensures.held ∙ c.as_slice.ensures.value ∙ c.names-names.ensures ∙
    ap (λ l. map (λ f. ReferenceFrame.picture f) l) c.frames.ensures.value) in
    store-frames g.S.Elements.took g.S.Elements.failures (g.F.FrameStore.lent c.args.store.now) c.args.picture.now c.args.place c.args.held.now
    c.stored_at-stored.result c.args.self.now c.put.new.self c.args.sink.now c.put.new.sink c.put.result s c.put.ensures.steps

pub returns-clause-ordered : goal.returns-clause-ordered
returns-clause-ordered g c =
    let s = stored-as c.args.picture.now c.args.place c.args.held.now c.stored_at-stored.result c.stored_at-stored.ensures.kind c.stored_at-stored.ensures.of
    c.stored_at-stored.ensures.count (c.stored_at-stored.ensures.held ∙ c.as_slice.ensures.value ∙ c.names-names.ensures ∙
    ap (λ l. map (λ f. ReferenceFrame.picture f) l) c.frames.ensures.value) in
    store-ordered g.S.Elements.took g.S.Elements.failures (g.F.FrameStore.lent c.args.store.now) c.args.picture.now c.args.place c.args.held.now
    c.stored_at-stored.result c.args.self.now c.put.new.self c.args.sink.now c.put.new.sink c.put.result s c.put.ensures.steps c.put.ensures.within
    c.put.ensures.frames c.requires.ordered

pub returns-clause-passes : goal.returns-clause-passes
returns-clause-passes g c = λ n. passed-over g.S.Elements.took g.S.Elements.failures (g.F.FrameStore.lent c.args.store.now) _ _ _ _ _ n c.put.ensures.steps
