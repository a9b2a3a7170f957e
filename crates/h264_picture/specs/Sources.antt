-- What the samples of a picture depend on beside its coded macroblocks: its reference pictures and the parameters of its slices. A working form.
use Rattle.std.specs.Prelude.{◌≡◌, ℕ, ◌*◌, ◌<◌, List, slice_get, get_or, Option, Some, None}
use Rattle.h264_plane.specs.declared.frame.Component.{Component}
use Rattle.h264_plane.specs.Places.{side}
use Rattle.h264_near.specs.declared.motion.Motion.{Motion}
use Rattle.h264_near.specs.Coded.{CodedMacroblock, Prediction, Intra4x4, Intra16x16, Pcm, Inter}
use Rattle.h264_picture.specs.Decoded.{Parameters, IsDecoded}

-- samples of pictures by place, plane, column and row; the place of each reference picture by its number; and the parameters of each slice by its number
pub record Sources : Type 0 where
  pub reference : ℕ → Component → ℕ → ℕ → ℕ
  pub place : ℕ → ℕ
  pub slices : ℕ → Parameters

-- the samples of a picture of so many macroblocks across and down, decoded from these
abbrev pub IsDecodedFrom : (across down : ℕ) → Sources → List CodedMacroblock → (Component → ℕ → ℕ → ℕ) → Type 0
IsDecodedFrom across down s picture final = IsDecoded (record { across = across; down = down; reference = s.reference }) s.place s.slices picture final

-- A block has its motion, and the picture to which it refers has the same samples in both, in the picture.
abbrev pub IsSharedBy : (across down : ℕ) → Sources → Sources → Option Motion → Type 0
IsSharedBy across down s t None = ⊥
IsSharedBy across down s t (Some m) =
    (p : Component) (x y : ℕ) → x < side p * across → y < side p * down → s.reference (s.place m.picture) p x y ≡ t.reference (t.place m.picture) p x y

abbrev pub AreSharedBy : (across down : ℕ) → Sources → Sources → Prediction → Type 0
AreSharedBy across down s t (Intra4x4 modes chroma) = Unit {0}
AreSharedBy across down s t (Intra16x16 mode chroma) = Unit {0}
AreSharedBy across down s t (Pcm samples) = Unit {0}
AreSharedBy across down s t (Inter motions) = (n : ℕ) → n < 16 → IsSharedBy across down s t (get_or motions n None)

-- The slices of these macroblocks have the same parameters in both, and the pictures to which they refer the same samples.
pub record AreShared (across down : ℕ) (s t : Sources) (picture : List CodedMacroblock) : Type 0 where
  pub parameters : (a : ℕ) (m : CodedMacroblock) → slice_get picture a ≡ Some m → s.slices m.slice ≡ t.slices m.slice
  pub references : (a : ℕ) (m : CodedMacroblock) → slice_get picture a ≡ Some m → AreSharedBy across down s t m.prediction
