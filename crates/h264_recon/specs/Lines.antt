-- What is kept of the macroblocks before this one, as they were constructed. A working form.
use Rattle.std.specs.Prelude.{◌≡◌, ℕ, ◌+◌, ◌-◌, ◌*◌, ◌<◌, ◌≤◌, ◌==◌, if◌then◌else◌, List, slice_index, vec_len, pos, ◌+ℤ◌, Bool, true, false}
use Rattle.h264_plane.specs.declared.frame.Component.{Component}
use Rattle.h264_plane.specs.declared.frame.Component.TheVariants.{Y, Cb, Cr}
use Rattle.h264_plane.specs.Clip.{clip1}
use Rattle.h264_plane.specs.Places.{side, Grid}
use Rattle.h264_scale.specs.Macroblock.{residual}
use Rattle.h264_scale.specs.declared.levels.Levels.{Levels}
use Rattle.h264_intra.specs.Chroma.{predicted_chroma}
use Rattle.h264_intra.specs.declared.chroma.IntraChromaPredMode.{IntraChromaPredMode}
use Rattle.h264_recon.specs.Blocks.{sides_of}
use Rattle.h264_recon.specs.Inter.{Setting}
use Rattle.h264_recon.specs.Constructed.{Coded, made, predicted_luma}
use Rattle.h264_recon.specs.declared.macroblock.Available.{Available}
use Rattle.h264_recon.specs.declared.macroblock.Position.{Position}
use Rattle.h264_recon.specs.declared.macroblock.IntraLuma.{IntraLuma}
use Rattle.h264_recon.specs.Predicted.{PcmSamples}
use Rattle.h264_recon.specs.Table.{table}
use Rattle.h264_recon.specs.declared.store.Store.{Store}
use Rattle.h264_recon.specs.declared.store.Lines.{Lines}
use Rattle.h264_recon.specs.declared.store.Samples.{Samples}

-- the samples round the macroblock of n columns and rows at column c, of which the store has the sides and a list, row by row, its own
unfoldable pub local : ℕ → Store → ℕ → List ℕ → Grid
local n l c own x y =
    if y == 0 then (if x == 0 then l.corner else slice_index l.above.items (n * c + (x - 1)))
    else if x == 0 then slice_index l.left (y - 1)
    else slice_index own (n * (y - 1) + (x - 1))

-- a list has the samples of the macroblock m that stands here, which are constructed from the store
pub record IsMadeFrom (k : Setting) (here : Position) (m : Coded) (p : Component) (l : Store) (own : List ℕ) : Type 0 where
  pub each : (x y : ℕ) → x < side p → y < side p → slice_index own (side p * y + x) ≡ made k here m p (local (side p) l here.column own) x y

-- the store after the macroblock at column c, which has these samples
pub record IsSaved (n c : ℕ) (old new : Store) (own : List ℕ) : Type 0 where
  pub size : vec_len new.above ≡ vec_len old.above
  pub bottom : (k : ℕ) → k < n → slice_index new.above.items (n * c + k) ≡ slice_index own (n * (n - 1) + k)
  pub before : (k : ℕ) → k < n * c → slice_index new.above.items k ≡ slice_index old.above.items k
  pub after : (k : ℕ) → n * c + n ≤ k → slice_index new.above.items k ≡ slice_index old.above.items k
  pub corner : new.corner ≡ slice_index old.above.items (n * c + (n - 1))

-- the right column of a macroblock of n columns and rows
abbrev pub right_column : ℕ → List ℕ → List ℕ
right_column n own = table 16 (λ k. slice_index own (n * k + (n - 1)))

-- the store with the right column of the macroblock before, which has these samples
abbrev pub with_left : ℕ → Store → List ℕ → Store
with_left n l own = record { above = l.above; left = right_column n own; corner = l.corner }

-- the store holds u, not filtered, round the macroblock at column c and row r, of w to a row
pub record Stored (n w c r : ℕ) (u : Grid) (l : Store) : Type 0 where
  pub size : vec_len l.above ≡ n * w
  pub above : 0 < r → (k : ℕ) → n * c ≤ k → k < n * w → slice_index l.above.items k ≡ u k (n * r - 1)
  pub bottoms : (k : ℕ) → k < n * c → slice_index l.above.items k ≡ u k (n * r + n - 1)
  pub left : 0 < c → (k : ℕ) → k < n → slice_index l.left k ≡ u (n * c - 1) (n * r + k)
  pub corner : 0 < c → 0 < r → l.corner ≡ u (n * c - 1) (n * r - 1)

-- the samples of a plane of a macroblock
abbrev pub samples_of : Samples → Component → List ℕ
samples_of s Y = s.y
samples_of s Cb = s.cb
samples_of s Cr = s.cr

-- the store of a plane, with the right column of the macroblock before
abbrev pub store_of : Component → Lines → Store
store_of Y l = with_left 16 l.y l.last.y
store_of Cb l = with_left 8 l.cb l.last.cb
store_of Cr l = with_left 8 l.cr l.last.cr

-- the stores of all planes do
abbrev pub AreStored : ℕ → ℕ → ℕ → (Component → Grid) → Lines → Type 0
AreStored w c r u l = (p : Component) → Stored (side p) w c r (u p) (store_of p l)

-- the samples of all planes are constructed from them
abbrev pub AreMadeFrom : Setting → Position → Coded → Lines → Samples → Type 0
AreMadeFrom k here m l own = (p : Component) → IsMadeFrom k here m p (store_of p l) (samples_of own p)

-- a chroma plane
abbrev pub chroma_plane : Bool → Component
chroma_plane true = Cr
chroma_plane false = Cb

abbrev pub pcm_list : Bool → PcmSamples → List ℕ
pcm_list true b = b.cr
pcm_list false b = b.cb

-- a list has the luma samples of an intra macroblock of these modes at column c, which are constructed from the store
pub record IsLumaMade (modes : IntraLuma) (a : Available) (levels : Levels) (c : ℕ) (l : Store) (own : List ℕ) : Type 0 where
  pub each : (x y : ℕ) → x < 16 → y < 16 →
      slice_index own (16 * y + x) ≡ clip1 (pos (predicted_luma modes a (local 16 l c own) x y) +ℤ residual levels Y x y)

-- the chroma of an intra macroblock: its mode, the sides that its prediction may use, and the levels
pub record IntraChroma : Type 0 where
  pub mode : IntraChromaPredMode
  pub available : Available
  pub levels : Levels

abbrev pub intra_chroma : IntraChromaPredMode → Available → Levels → IntraChroma
intra_chroma mode a levels = record { mode = mode; available = a; levels = levels }

-- a list has the samples of one of its planes, likewise
pub record IsChromaMade (m : IntraChroma) (p : Component) (c : ℕ) (l : Store) (own : List ℕ) : Type 0 where
  pub each : (x y : ℕ) → x < 8 → y < 8 →
      slice_index own (8 * y + x) ≡ clip1 (pos (predicted_chroma m.mode (sides_of m.available) (local 8 l c own) x y) +ℤ residual m.levels p x y)
