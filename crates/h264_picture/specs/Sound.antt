-- What is always so of the memory of a sequence. A working form.
use Rattle.std.specs.Prelude.{◌≡◌, ◌≢◌, ℕ, ◌+◌, ◌*◌, ◌<◌, ◌≤◌, List, length, get_or, vec_len, Option, Some, None}
use Rattle.h264_plane.specs.Places.{side}
use Rattle.h264_plane.specs.declared.frame.Component.{Component}
use Rattle.h264_recon.specs.Lines.{store_of}
use Rattle.h264_picture.specs.declared.canvas.Canvas.{Canvas}
use Rattle.h264_picture.specs.declared.frames.Frames.{Frames}
use Rattle.h264_picture.specs.declared.picture.Picture.{Picture}
use Rattle.h264_picture.specs.Lent.{AreFrames}

-- a frame stands at this place, and can be read
pub record IsPlace (f : Frames) (place : ℕ) : Type 0 where
  pub inside : place < length f.pool
  pub other : place ≢ f.place

-- frames stand at these sixteen places, and can be read
pub record ArePlaces (f : Frames) (places : List ℕ) : Type 0 where
  pub each : (n : ℕ) → n < 16 → IsPlace f (get_or places n 0)

-- likewise where there are frames
abbrev pub IsPlaceIn : Option Canvas → ℕ → Type 0
IsPlaceIn None place = Unit {0}
IsPlaceIn (Some c) place = IsPlace c.frames place

abbrev pub ArePlacesIn : Option Canvas → List ℕ → Type 0
ArePlacesIn None places = Unit {0}
ArePlacesIn (Some c) places = ArePlaces c.frames places

-- Pictures have so many macroblocks in a row, in a column and in all, and the next one stands where its address says.
pub record IsSound (across down count : ℕ) (p : Picture) : Type 0 where
  pub wide : (0 < across) × (across ≤ 543)
  pub tall : (0 < down) × (down ≤ 543)
  pub size : count ≡ across * down
  pub next : p.next ≡ p.position.row * across + p.position.column
  pub column : p.position.column < across

-- Lines and frames have the size of such pictures, and there are so many frames.
pub record IsCanvas (across down places : ℕ) (c : Canvas) : Type 0 where
  pub lines : (k : Component) → vec_len (store_of k c.lines).above ≡ side k * across
  pub frames : AreFrames (16 * across) (16 * down) c.frames
  pub count : length c.frames.pool ≡ places

-- so it is, if there is one
abbrev pub HasCanvas : (across down places : ℕ) → Option Canvas → Type 0
HasCanvas across down places o = (c : Canvas) → o ≡ Some c → IsCanvas across down places c
