use Rattle.h264_command.proofs.explaining.strict_front.Goals as goal

pub returns : goal.returns
returns c = rw (
  c.label-label.ensures,
  c.clause-clause.ensures,
  c.as_str-breaks.ensures.value,
  c.in_ok-breaks.ensures,
  c.as_str-bit.ensures.value,
  c.in_ok-bit.ensures,
) at c.format.ensures.ok
