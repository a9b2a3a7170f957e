use Rattle.std.proofs.Common.{◌∙◌}
use Rattle.h264_strict.proofs.Broken.{none-found, none-stands}
use Rattle.h264_strict.proofs.strict.Strict.new.Goals as goal

pub returns : goal.returns
returns c = (c.new.ensures ∙ none-stands, λ rule. none-found rule)
