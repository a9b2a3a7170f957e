use Rattle.h264_header.proofs.Entries.{where-ok}
use Rattle.h264_verify.proofs.kept.WhereMade.{some-made, none-made, quiet-made, full-made, quiet-told}
use Rattle.h264_verify.proofs.samples.FillsFrames.{some-filled}
use Rattle.h264_verify.proofs.language.OutcomesPlayed.{gives-plays}
use Rattle.h264_verify.proofs.unit.finish_frames.Goals as goal

pub finish-requires-clause-kept : goal.finish-requires-clause-kept
finish-requires-clause-kept g c = some-filled _ _ c.in-Some.is c.requires.kept

pub returns-in-None-clause-plays : goal.returns-in-None-clause-plays
returns-in-None-clause-plays g c = λ depth frames t next k. rw (quiet-told depth _ (none-made _ depth _ c.in-None.is k))
    (gives-plays _ _ (λ (x : Unit {0}). x) tt _)

pub returns-in-None-clause-written : goal.returns-in-None-clause-written
returns-in-None-clause-written g c = λ depth frames t next k. quiet-made _ depth _ c.in-None.is (none-made _ depth _ c.in-None.is k)

pub returns-in-Some-clause-plays : goal.returns-in-Some-clause-plays
returns-in-Some-clause-plays g c = λ depth frames t next k.
    let made = some-made _ depth _ _ c.in-Some.is k in
    rw made.0 (c.finish.ensures.plays frames t next made.1)

pub returns-in-Some-clause-written : goal.returns-in-Some-clause-written
returns-in-Some-clause-written g c = λ depth frames t next k.
    let made = some-made _ depth _ _ c.in-Some.is k in
    where-ok c.finish.result (full-made _ depth _ made.0) (c.finish.ensures.written frames t next made.1)
