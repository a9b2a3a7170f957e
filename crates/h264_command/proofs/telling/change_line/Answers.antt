use Rattle.std.proofs.Common.{◌∙◌}
use Rattle.h264_command.proofs.telling.change_line.Goals as goal

pub returns : goal.returns
returns c =
    rw (
      c.as_str-name.ensures.value ∙ c.in_ok-name.ensures.text,
      c.as_str-first.ensures.value ∙ c.in_ok-first.ensures,
      c.as_str-other.ensures.value ∙ c.in_ok-other.ensures,
    ) at c.format.ensures.ok
