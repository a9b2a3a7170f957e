-- To be read beside the standard. What holds of each picture of a stream that is legal: its predictions refer to pictures that are held, and the buffer
-- stays within its level's frames (8.4.2.1, A.3.1, C.4.2, C.4.4, C.4.5).
use Rattle.std.specs.Prelude.{List, [], ◌∷◌}
use Rattle.h264_verify.specs.declared.state.Depth.{Depth}
use Rattle.h264_verify.specs.declared.state.Depth.TheVariants as depths
use Rattle.h264_verify.specs.Pictures.{CodedPicture, held_in}
use Rattle.h264_verify.specs.Buffering.{within_newest}
use Rattle.h264_verify.specs.Held.{AreAmong}
use Rattle.h264_verify.specs.Predicting.{ArePredicted}
use Rattle.h264_verify.specs.Within.{DecodesWithin, EndsWithin}

-- A picture after these. Each block of its inter macroblocks refers to a picture that is held while it is decoded, and each
-- picture that is held then has its frame in the buffer. The buffer stays within its places before it, while it is decoded, and
-- once it has ended; there are then at most MaxDpbFrames of its level.
pub record IsDecodable (p : CodedPicture) (ps : List CodedPicture) : Type 0 where
  pub predicted : ArePredicted p ps
  pub held : AreAmong (held_in (p ∷ ps)) (within_newest (p ∷ ps)).buffer
  pub decodes : DecodesWithin p ps
  pub ends : EndsWithin p ps

-- each of these pictures, the newest first
abbrev pub EachIsDecodable : List CodedPicture → Type 0
EachIsDecodable [] = Unit {0}
EachIsDecodable (p ∷ ps) = IsDecodable p ps × EachIsDecodable ps

-- where slice data are read
abbrev pub AreDecodable : Depth → List CodedPicture → Type 0
AreDecodable depths.Units pictures = Unit {0}
AreDecodable depths.Headers pictures = Unit {0}
AreDecodable depths.Full pictures = EachIsDecodable pictures
