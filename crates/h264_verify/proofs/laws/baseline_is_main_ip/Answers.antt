use Rattle.h264_verify.specs.Modes.{depth_of}
use Rattle.h264_verify.proofs.laws.BaselineIsMainIp.{holds-follows}
use Rattle.h264_verify.proofs.laws.baseline_is_main_ip.Goals as goal

pub returns : goal.returns
returns c = λ mode. holds-follows (depth_of mode)
