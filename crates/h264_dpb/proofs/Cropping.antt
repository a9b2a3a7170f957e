-- The cropping rectangle of a set that some unit gives.
use Rattle.std.proofs.Common.{◌≡◌, true, Some, refl}
use Rattle.std.proofs.lemmas.Bool.{and_parts}
use Rattle.h264_sps.specs.declared.sps.FrameCropping.{FrameCropping}
use Rattle.h264_sps.specs.declared.sps.Sps.{Sps}
use Rattle.h264_sps.specs.Usable.{has_lengths, is_usable, is_accepted, is_frame_size, crops_within}
use Rattle.h264_dpb.specs.Rectangles.{is_within, rectangle_of}

crop-within : (sps : Sps) (c : FrameCropping) → is_accepted sps ≡ true → sps.frame_cropping ≡ Some c → is_within c sps.frame_size ≡ true
unfolding is_usable
crop-within sps c h e =
    let usable = (and_parts (has_lengths sps) _ h).1 in
    let rest = (and_parts (is_frame_size sps.frame_size) _ usable).1 in
    rw e at ((and_parts (crops_within sps.frame_size sps.frame_cropping) _ rest).0)

pub crop-shown : (sps : Sps) (c : FrameCropping) → is_accepted sps ≡ true → sps.frame_cropping ≡ Some c →
    rectangle_of sps ≡ record { left = c.left; right = c.right; top = c.top; bottom = c.bottom }
unfolding rectangle_of
crop-shown sps c h e = rw (e, crop-within sps c h e) refl
