use Rattle.std.proofs.Common.{rules, sym}
use Rattle.h264_report.proofs.strict_judging.judge_strictly.Goals as goal

pub returns-clause-read : goal.returns-clause-read
returns-clause-read g c =
    let same = sym c.judge_inside.ensures.same_reference in
    let read = c.judge_inside.ensures.read in search rules

pub returns-clause-read_told : goal.returns-clause-read_told
returns-clause-read_told g c =
    let same = sym c.judge_inside.ensures.same_reference in
    let told = c.judge_inside.ensures.read_told in search rules
