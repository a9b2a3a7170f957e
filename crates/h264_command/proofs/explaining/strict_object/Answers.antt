use Rattle.h264_command.proofs.explaining.strict_object.Goals as goal

pub returns : goal.returns
returns c = rw (
  c.as_str-front.ensures.value,
  c.in_ok-front.ensures,
  c.as_str-cause.ensures.value,
  c.in_ok-cause.ensures,
  c.as_str-example.ensures.value,
  c.in_ok-example.ensures,
) at c.format.ensures.ok
