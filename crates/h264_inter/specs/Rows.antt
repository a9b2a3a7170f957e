-- A working form: rows of eight lanes and windows of six of them, and the samples of a plane that they stand for.
use Rattle.std.specs.Prelude.{◌≡◌, ◌<◌, ◌≤◌, ℕ, ◌+◌, Bool, true, false, ◌==◌, if◌then◌else◌, List, get_or, pos, negsuc, ◌*◌, ◌+ℤ◌}
use Rattle.h264_plane.specs.Samples.{Samples, at}
use Rattle.h264_inter.specs.Luma.{six}
use Rattle.h264_inter.specs.declared.pairs.SixTaps.{SixTaps}
use Rattle.h264_inter.specs.declared.window.Pair.{Pair}
use Rattle.h264_inter.specs.declared.window.Pairs.{Pairs}
use Rattle.h264_inter.specs.declared.window.Window.{Window}
use Rattle.h264_inter.specs.declared.window.Windows.{Windows}

-- eight samples of row y + r, from column x + c on
pub record AreSamples (p : Samples) (x c y r : ℕ) (lanes : List ℕ) : Type 0 where
  pub each : (u : ℕ) → u < 8 → get_or lanes u 0 ≡ at p (x + u + c) (y + r)
  pub small : (u : ℕ) → u < 8 → get_or lanes u 0 < 256

-- eight values of the filter over six columns of row y + r, the first of those from column x on, each raised by 2550
pub record AreRaised (p : Samples) (x y r : ℕ) (lanes : List ℕ) : Type 0 where
  pub each : (u : ℕ) → u < 8 → pos (get_or lanes u 0) ≡ six (λ i. pos (at p (x + u + i) (y + r))) +ℤ pos 2550
  pub small : (u : ℕ) → u < 8 → get_or lanes u 0 ≤ 13260

-- eight samples of row y + r, from column x + c on, each added to the one below it
pub record AreSums (p : Samples) (x c y r : ℕ) (lanes : List ℕ) : Type 0 where
  pub each : (u : ℕ) → u < 8 → get_or lanes u 0 ≡ at p (x + u + c) (y + r) + at p (x + u + c) (y + (r + 1))
  pub small : (u : ℕ) → u < 8 → get_or lanes u 0 ≤ 510

-- where rows are read: values across from column x on, samples from column x + c on, and the first row is row y
pub record RowPlace : Type 0 where
  pub x : ℕ
  pub c : ℕ
  pub y : ℕ

abbrev pub rows_at : ℕ → ℕ → ℕ → RowPlace
rows_at x c y = record { x = x; c = c; y = y }

-- row r that is read there, of values across or of samples
abbrev pub IsRow : Bool → Samples → RowPlace → ℕ → List ℕ → Type 0
IsRow true p s r lanes = AreRaised p s.x s.y r lanes
IsRow false p s r lanes = AreSamples p s.x s.c s.y r lanes

-- a row that a window holds above its last: values across as they are, samples added to those below
abbrev pub IsHeld : Bool → Samples → RowPlace → ℕ → List ℕ → Type 0
IsHeld true p s r lanes = AreRaised p s.x s.y r lanes
IsHeld false p s r lanes = AreSums p s.x s.c s.y r lanes

-- the last five rows of a window are those from this place on
pub record LastFive (across : Bool) (p : Samples) (s : RowPlace) (w : Window) : Type 0 where
  pub f : IsHeld across p s 0 w.f
  pub g : IsHeld across p s 1 w.g
  pub h : IsHeld across p s 2 w.h
  pub i : IsHeld across p s 3 w.i
  pub j : IsRow across p s 4 w.j

-- its six rows are those from this place on
pub record AllSix (across : Bool) (p : Samples) (s : RowPlace) (w : Window) : Type 0 where
  pub e : IsHeld across p s 0 w.e
  pub f : IsHeld across p s 1 w.f
  pub g : IsHeld across p s 2 w.g
  pub h : IsHeld across p s 3 w.h
  pub i : IsHeld across p s 4 w.i
  pub j : IsRow across p s 5 w.j

-- the same of the windows of a block of `width` columns
pub record LastFiveOfBoth (across : Bool) (width : ℕ) (p : Samples) (s : RowPlace) (w : Windows) : Type 0 where
  pub left : LastFive across p s w.left
  pub right : 8 < width → LastFive across p (rows_at (s.x + 8) s.c s.y) w.right

pub record AllSixOfBoth (across : Bool) (width : ℕ) (p : Samples) (s : RowPlace) (w : Windows) : Type 0 where
  pub left : AllSix across p s w.left
  pub right : 8 < width → AllSix across p (rows_at (s.x + 8) s.c s.y) w.right

-- no number of a window is above this
pub record AreUpTo (most : ℕ) (w : Window) : Type 0 where
  pub e : (u : ℕ) → u < 8 → get_or w.e u 0 ≤ most
  pub f : (u : ℕ) → u < 8 → get_or w.f u 0 ≤ most
  pub g : (u : ℕ) → u < 8 → get_or w.g u 0 ≤ most
  pub h : (u : ℕ) → u < 8 → get_or w.h u 0 ≤ most
  pub i : (u : ℕ) → u < 8 → get_or w.i u 0 ≤ most
  pub j : (u : ℕ) → u < 8 → get_or w.j u 0 ≤ most

-- the column, of the six, of the samples between two rows that places x quarters to the right are made of: that of m or that of h
unfoldable pub partner : ℕ → ℕ
partner x = if x == 3 then 3 else 2

-- the weights of the six taps, 1, -5, 20, 20, -5, 1, two by two
pub record AreSixTaps (w : SixTaps) : Type 0 where
  pub first : (k : ℕ) → k < 8 → (get_or w.first (2 * k) (pos 0) ≡ pos 1) × (get_or w.first (2 * k + 1) (pos 0) ≡ negsuc 4)
  pub middle : (k : ℕ) → k < 8 → (get_or w.middle (2 * k) (pos 0) ≡ pos 20) × (get_or w.middle (2 * k + 1) (pos 0) ≡ pos 20)
  pub last : (k : ℕ) → k < 8 → (get_or w.last (2 * k) (pos 0) ≡ negsuc 4) × (get_or w.last (2 * k + 1) (pos 0) ≡ pos 1)

-- ---- for chroma

-- samples of row y + r from column x on and from the next one on
pub record IsPair (p : Samples) (x y r : ℕ) (s : Pair) : Type 0 where
  pub a : AreSamples p x 0 y r s.a
  pub b : AreSamples p x 1 y r s.b

-- the same for a block of `width` columns
pub record ArePairs (width : ℕ) (p : Samples) (x y r : ℕ) (s : Pairs) : Type 0 where
  pub left : IsPair p x y r s.left
  pub right : 8 < width → IsPair p (x + 8) y r s.right

-- the numbers of a pair are bytes
pub record AreBytes (s : Pair) : Type 0 where
  pub a : (u : ℕ) → u < 8 → get_or s.a u 0 < 256
  pub b : (u : ℕ) → u < 8 → get_or s.b u 0 < 256
