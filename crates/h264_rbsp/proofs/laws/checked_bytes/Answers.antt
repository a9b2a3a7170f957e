use Rattle.h264_rbsp.proofs.Told.{is-checked}
use Rattle.h264_rbsp.proofs.laws.checked_bytes.Goals as goal

pub returns : goal.returns
returns c = is-checked
