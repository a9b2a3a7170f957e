use Rattle.std.proofs.Common.{rules, sym}
use Rattle.h264_report.proofs.judging.write_lines.Goals as goal

pub returns-clause-lines : goal.returns-clause-lines
returns-clause-lines g c bytes h =
    let same = sym c.run_lines-answer.ensures.same_reference in
    let told = c.run_lines-answer.ensures.lines bytes h in search rules

pub returns-clause-some : goal.returns-clause-some
returns-clause-some g c =
    let same = sym c.run_lines-answer.ensures.same_reference in
    let told = c.run_lines-answer.ensures.some in search rules
