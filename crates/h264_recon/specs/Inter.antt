-- Inter prediction (8.4.2.2) from reference pictures that are functions: their samples by column and row. To be read beside the standard.
use Rattle.std.specs.Prelude.{ℕ, ◌+◌, ◌*◌, ◌/◌, List, get_or, pos}
use Rattle.h264_plane.specs.Places.{side, Grid}
use Rattle.h264_plane.specs.declared.frame.Component.{Component}
use Rattle.h264_plane.specs.declared.frame.Component.TheVariants.{Y, Cb, Cr}
use Rattle.h264_inter.specs.Luma.{predicted_luma}
use Rattle.h264_inter.specs.Chroma.{predicted_chroma}
use Rattle.h264_recon.specs.declared.macroblock.Motion.{Motion}
use Rattle.h264_recon.specs.declared.macroblock.Position.{Position}

-- what the macroblocks of a picture share: how many there are across and down, and the reference pictures, by place of the picture
-- in the pool, plane, column and row
pub record Setting : Type 0 where
  pub across : ℕ
  pub down : ℕ
  pub reference : ℕ → Component → Grid

-- the place of a macroblock by its column and row
abbrev pub position_at : ℕ → ℕ → Position
position_at c r = record { column = c; row = r }

-- the predicted sample at column x and row y of a plane of w columns and h rows, from the samples s of that plane of the reference picture
unfoldable pub predicted_from : Component → ℕ → ℕ → Grid → Motion → Grid
predicted_from Y w h s m x y = predicted_luma w h s m.vector x y
predicted_from Cb w h s m x y = predicted_chroma w h s m.vector x y
predicted_from Cr w h s m x y = predicted_chroma w h s m.vector x y

abbrev pub predicted_at : Setting → Motion → Component → Grid
predicted_at k m p = predicted_from p (side p * k.across) (side p * k.down) (k.reference m.picture p) m

-- the motion of the 4x4 luma place, and of the chroma samples that belong to it, of a macroblock
abbrev pub no_motion : Motion
no_motion = record { picture = 0; vector = record { x = pos 0; y = pos 0 } }

abbrev pub motion_at : List Motion → Component → ℕ → ℕ → Motion
motion_at motion p x y = get_or motion (4 * (4 * y / side p) + 4 * x / side p) no_motion
