use Rattle.h264_picture.proofs.Turns.{lent-references}
use Rattle.h264_picture.proofs.laws.references_are_lent.Goals as goal

pub returns : goal.returns
returns c work place n f = lent-references work.base place n work.active work.older f
