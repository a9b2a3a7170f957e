use Rattle.h264_cabac.proofs.Parts.{below-from, from-below}
use Rattle.h264_cabac.proofs.register.is_below.Goals as goal

pub returns : goal.returns
returns c = let r = c.args.r in (
  below-from r.number c.args.rest r.ahead c.requires.rest c.requires.few,
  from-below r.number c.args.rest r.ahead c.requires.rest c.requires.few,
)
