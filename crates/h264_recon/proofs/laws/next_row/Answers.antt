use Rattle.h264_plane.specs.Places.{side}
use Rattle.h264_recon.specs.Lines.{store_of}
use Rattle.h264_recon.proofs.Step.{stored_wrap}
use Rattle.h264_recon.proofs.laws.next_row.Goals as goal

pub returns : goal.returns
returns c = λ w r u l held p. stored_wrap (side p) w r (u p) (store_of p l) (held p)
