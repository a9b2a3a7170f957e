use Rattle.h264_dpb.specs.Turns.{last_turn}
use Rattle.h264_picture.specs.Places.{lent}
use Rattle.h264_verify.proofs.samples.FamiliesByPurpose.{lent-for}
use Rattle.h264_verify.proofs.samples.ToldFrames.{writes-plays, writes-alone, written-by}
use Rattle.h264_verify.proofs.samples.FillsFrames.{gap-ordered, gap-ready}
use Rattle.h264_verify.proofs.decoder.Decoder.finish.Goals as goal

pub finish-requires-clause-ordered : goal.finish-requires-clause-ordered
finish-requires-clause-ordered g c = gap-ordered _ c.requires.kept

pub finish-requires-clause-ready : goal.finish-requires-clause-ready
finish-requires-clause-ready g c = gap-ready _ c.requires.kept

pub returns-clause-plays : goal.returns-clause-plays
returns-clause-plays g c = λ frames t next k. writes-plays frames _ _ (last_turn t.buffer).written _ _ _
    (written-by frames _ _ (lent c.args.self.now.work) c.args.self.now.output _ _ _ _
    (lent-for frames c.args.self.now.work c.args.self.now.output k.output.made k.output.frames_are)
    (λ f x. c.finish.ensures.writes f t.buffer _ k.output.buffer x) c.finish.ensures.passes)

pub returns-clause-no_memory : goal.returns-clause-no_memory
returns-clause-no_memory g c =
    let k = c.requires.kept.keeps in
    writes-alone _ _ _ _ _ _ (written-by c.requires.kept.frames _ _ (lent c.args.self.now.work) c.args.self.now.output _ _ _ _
    (lent-for c.requires.kept.frames c.args.self.now.work c.args.self.now.output k.output.made k.output.frames_are)
    (λ f x. c.finish.ensures.writes f c.requires.kept.turn.buffer _ k.output.buffer x) c.finish.ensures.passes)
