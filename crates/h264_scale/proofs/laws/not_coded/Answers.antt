use Rattle.h264_scale.proofs.Whole.{no_luma, no_cb, no_cr}
use Rattle.h264_scale.proofs.laws.not_coded.Goals as goal

pub returns : goal.returns
returns c = record { y = no_luma; cb = no_cb; cr = no_cr }
