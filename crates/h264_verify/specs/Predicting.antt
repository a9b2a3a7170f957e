-- What the macroblocks of a picture are predicted from is held (8.4.2.1). To be read beside the standard.
use Rattle.std.specs.Prelude.{◌≡◌, ℕ, ◌<◌, true, Option, Some, None, List, ◌∷◌, get_or, slice_get}
use Rattle.h264_near.specs.declared.motion.Motion.{Motion}
use Rattle.h264_near.specs.Coded.{CodedMacroblock, Prediction, Intra4x4, Intra16x16, Pcm, Inter}
use Rattle.h264_marking.specs.Frames.{References}
use Rattle.h264_dpb.specs.Bumping.{is_held}
use Rattle.h264_dpb.specs.Turns.{names}
use Rattle.h264_verify.specs.Pictures.{CodedPicture, last_slice, held_in}

-- a block refers to a picture, which is held
abbrev pub RefersTo : References → Option Motion → Type 0
RefersTo held None = ⊥
RefersTo held (Some m) = is_held (names held) m.picture ≡ true

-- each of the sixteen blocks of an inter macroblock does
abbrev pub PredictsFrom : References → Prediction → Type 0
PredictsFrom held (Intra4x4 modes chroma) = Unit {0}
PredictsFrom held (Intra16x16 mode chroma) = Unit {0}
PredictsFrom held (Pcm samples) = Unit {0}
PredictsFrom held (Inter motions) = (b : ℕ) → b < 16 → RefersTo held (get_or motions b None)

-- The macroblocks of a picture after these are predicted from pictures that are held while it is decoded.
abbrev pub ArePredicted : CodedPicture → List CodedPicture → Type 0
ArePredicted p ps = (a : ℕ) (m : CodedMacroblock) → slice_get (last_slice p).macroblocks a ≡ Some m → PredictsFrom (held_in (p ∷ ps)) m.prediction
