use Rattle.h264_dpb.proofs.Cropping.{crop-shown}
use Rattle.h264_dpb.proofs.laws.cropping_is_shown.Goals as goal

pub returns : goal.returns
returns c = crop-shown
