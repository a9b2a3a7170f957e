use Rattle.std.proofs.Common.{rules, sym}
use Rattle.h264_report.proofs.judging.write_frames.Goals as goal

pub returns-clause-frames : goal.returns-clause-frames
returns-clause-frames g c bytes h =
    let same = sym c.run_frames-answer.ensures.same_reference in
    let told = c.run_frames-answer.ensures.frames bytes h in search rules

pub returns-clause-some : goal.returns-clause-some
returns-clause-some g c =
    let same = sym c.run_frames-answer.ensures.same_reference in
    let told = c.run_frames-answer.ensures.some in search rules
