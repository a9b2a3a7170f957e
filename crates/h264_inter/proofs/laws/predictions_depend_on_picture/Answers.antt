use Rattle.h264_inter.proofs.Depends.{luma_depends, chroma_depends}
use Rattle.h264_inter.proofs.laws.predictions_depend_on_picture.Goals as goal

pub returns-clause-luma : goal.returns-clause-luma
returns-clause-luma c = luma_depends

pub returns-clause-chroma : goal.returns-clause-chroma
returns-clause-chroma c = chroma_depends
