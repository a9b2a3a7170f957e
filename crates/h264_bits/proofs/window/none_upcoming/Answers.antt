use Rattle.std.proofs.Common.{refl}
use Rattle.h264_bits.proofs.Upcomings.{following-none}
use Rattle.h264_bits.proofs.window.none_upcoming.Goals as goal

pub returns : goal.returns
returns c = record { bits = following-none; count = refl }
