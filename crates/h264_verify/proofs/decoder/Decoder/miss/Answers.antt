use Rattle.h264_dpb.specs.Turns.{missing_turn}
use Rattle.h264_picture.specs.Places.{lent}
use Rattle.h264_dpb.specs.Kept.{HasFrames}
use Rattle.h264_verify.proofs.samples.FamiliesByPurpose.{lent-for, frames-at}
use Rattle.h264_verify.proofs.samples.ToldFrames.{writes-plays, writes-kept, writes-alone, written-by}
use Rattle.h264_verify.proofs.samples.FillsFrames.{gap-ordered, gap-ready, gap-filled}
use Rattle.h264_verify.proofs.decoder.Decoder.miss.Goals as goal

pub miss-requires-clause-ordered : goal.miss-requires-clause-ordered
miss-requires-clause-ordered g c = gap-ordered _ c.requires.kept

pub miss-requires-clause-ready : goal.miss-requires-clause-ready
miss-requires-clause-ready g c = gap-ready _ c.requires.kept

pub returns-clause-plays : goal.returns-clause-plays
returns-clause-plays g c = λ frames t next k. writes-plays frames _ _ (missing_turn c.args.held.now t.buffer).written _ _ _
    (written-by frames _ _ (lent c.args.self.now.work) c.args.self.now.output _ _ _ _
    (lent-for frames c.args.self.now.work c.args.self.now.output k.output.made k.output.frames_are)
    (λ f x. c.miss.ensures.writes f t.buffer _ k.output.buffer x) c.miss.ensures.passes)

pub returns-clause-keeps : goal.returns-clause-keeps
returns-clause-keeps g c = λ frames t next k. gap-filled frames t next c.args.held.now c.args.self.now _ _ k (c.miss.ensures.keeps t.buffer _ k.output.buffer)
    (λ f e. c.miss.ensures.frames f (frames-at (λ x. HasFrames x (lent c.args.self.now.work) c.args.self.now.output) frames f e k.output.frames_are))
    (c.miss.ensures.ordered next k.output.ordered) c.miss.ensures.ready

pub returns-clause-kept : goal.returns-clause-kept
returns-clause-kept g c =
    let k = c.requires.kept.keeps in
    writes-kept _ _ _ _ _ _ (written-by c.requires.kept.frames _ _ (lent c.args.self.now.work) c.args.self.now.output _ _ _ _
    (lent-for c.requires.kept.frames c.args.self.now.work c.args.self.now.output k.output.made k.output.frames_are)
    (λ f x. c.miss.ensures.writes f c.requires.kept.turn.buffer _ k.output.buffer x) c.miss.ensures.passes)

pub returns-clause-no_memory : goal.returns-clause-no_memory
returns-clause-no_memory g c =
    let k = c.requires.kept.keeps in
    writes-alone _ _ _ _ _ _ (written-by c.requires.kept.frames _ _ (lent c.args.self.now.work) c.args.self.now.output _ _ _ _
    (lent-for c.requires.kept.frames c.args.self.now.work c.args.self.now.output k.output.made k.output.frames_are)
    (λ f x. c.miss.ensures.writes f c.requires.kept.turn.buffer _ k.output.buffer x) c.miss.ensures.passes)
