use Rattle.h264_command.proofs.explaining.strict_lines.Goals as goal

pub returns : goal.returns
returns c = rw (c.label-label.ensures, c.clause-clause.ensures) at c.format.ensures.ok
