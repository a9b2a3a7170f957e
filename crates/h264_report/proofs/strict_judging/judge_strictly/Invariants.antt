use Rattle.h264_report.proofs.strict_judging.judge_strictly.Given as goal

abbrev pub ghosts-judge_inside : goal.ghosts-judge_inside
ghosts-judge_inside g a = record { name = a.lent.source.ghost_name }
