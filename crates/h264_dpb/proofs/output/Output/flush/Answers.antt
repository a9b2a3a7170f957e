use Rattle.std.proofs.Common.{refl, true, ap, ◌∙◌}
use Rattle.std.proofs.lemmas.Result.{err_from_is_err_and}
use Rattle.h264_dpb.specs.Bumping.{flushed}
use Rattle.h264_dpb.specs.Turns.{flush_turn}
use Rattle.h264_dpb.specs.Kept.{IsAtPlace, waiting_in}
use Rattle.h264_dpb.proofs.Every.{both-flushed}
use Rattle.h264_dpb.proofs.Following.{flushed-follows}
use Rattle.h264_dpb.proofs.Answering.{turn-written, flush-kept, flush-added, flush-same}
use Rattle.h264_dpb.proofs.OutputSteps.{passed-over}
use Rattle.h264_dpb.proofs.output.Output.flush.Goals as goal

pub returns-in_err-flush-clause-writes : goal.returns-in_err-flush-clause-writes
returns-in_err-flush-clause-writes g c =
    let p = err_from_is_err_and c.from_residual.result c.from_residual.ensures.1 in
    rw (p.1, p.2) (λ frames b written k h. turn-written g.S.Elements.took g.S.Elements.failures (g.F.FrameStore.lent c.args.store.now)
    (flushed c.args.write c.args.self.now.buffer.entries) 0 c.args.size (flush_turn c.args.write c.args.size b)
    (flushed-follows b c.args.self.now.buffer c.args.write c.args.size k.same) _ _ _ _ frames c.in_err-flush.ensures.steps
    (both-flushed (IsAtPlace frames (g.F.FrameStore.lent c.args.store.now)) c.args.write c.args.self.now.buffer.entries h.each).0)

pub returns-then-write-clause-writes : goal.returns-then-write-clause-writes
returns-then-write-clause-writes g c = λ frames b written k h. turn-written g.S.Elements.took g.S.Elements.failures (g.F.FrameStore.lent c.args.store.now)
    (flushed c.args.write c.args.self.now.buffer.entries) 0 c.args.size (flush_turn c.args.write c.args.size b)
    (flushed-follows b c.args.self.now.buffer c.args.write c.args.size k.same) _ _ _ _ frames c.in_ok-flush.ensures.steps
    (both-flushed (IsAtPlace frames (g.F.FrameStore.lent c.args.store.now)) c.args.write c.args.self.now.buffer.entries h.each).0

pub returns-then-write-clause-keeps : goal.returns-then-write-clause-keeps
returns-then-write-clause-keeps g c = λ b written k. flush-kept b c.args.self.now _ c.args.write c.args.size written k c.in_ok-flush.ensures.emptied
    (flush-added c.args.self.now.frames _ c.args.self.now.buffer.entries c.args.write true c.if-write.true
    (c.waiting-before.ensures ∙ ap (λ l. waiting_in l) c.entries.ensures) refl)

pub returns-else-write-clause-writes : goal.returns-else-write-clause-writes
returns-else-write-clause-writes g c = λ frames b written k h. turn-written g.S.Elements.took g.S.Elements.failures (g.F.FrameStore.lent c.args.store.now)
    (flushed c.args.write c.args.self.now.buffer.entries) 0 c.args.size (flush_turn c.args.write c.args.size b)
    (flushed-follows b c.args.self.now.buffer c.args.write c.args.size k.same) _ _ _ _ frames c.in_ok-flush.ensures.steps
    (both-flushed (IsAtPlace frames (g.F.FrameStore.lent c.args.store.now)) c.args.write c.args.self.now.buffer.entries h.each).0

pub returns-else-write-clause-keeps : goal.returns-else-write-clause-keeps
returns-else-write-clause-keeps g c = λ b written k. flush-kept b c.args.self.now _ c.args.write c.args.size written k c.in_ok-flush.ensures.emptied
    (flush-same c.args.self.now.frames c.args.self.now.buffer.entries c.args.write c.if-write.false)

pub returns-in_err-flush-clause-passes : goal.returns-in_err-flush-clause-passes
returns-in_err-flush-clause-passes g c =
    let p = err_from_is_err_and c.from_residual.result c.from_residual.ensures.1 in
    rw (p.1, p.2) (λ n. passed-over g.S.Elements.took g.S.Elements.failures (g.F.FrameStore.lent c.args.store.now)
    (flushed c.args.write c.args.self.now.buffer.entries) _ _ _ _ n c.in_err-flush.ensures.steps)

pub returns-then-write-clause-passes : goal.returns-then-write-clause-passes
returns-then-write-clause-passes g c = λ n. passed-over g.S.Elements.took g.S.Elements.failures (g.F.FrameStore.lent c.args.store.now)
    (flushed c.args.write c.args.self.now.buffer.entries) _ _ _ _ n c.in_ok-flush.ensures.steps

pub returns-else-write-clause-passes : goal.returns-else-write-clause-passes
returns-else-write-clause-passes g c = λ n. passed-over g.S.Elements.took g.S.Elements.failures (g.F.FrameStore.lent c.args.store.now)
    (flushed c.args.write c.args.self.now.buffer.entries) _ _ _ _ n c.in_ok-flush.ensures.steps
