-- Rows of samples as lists.
use Rattle.std.proofs.Common.{◌≡◌, ℕ, zero, suc, ◌+◌, ◌/◌, ◌<◌, ◌≤◌, List, length, map, slice_index, refl, arith}
use Rattle.std.proofs.lemmas.List.FromFn.{fill_by_all}
use Rattle.std.specs.List.{range_with_len, flat_map}
use Rattle.h264_plane.specs.Rows.{row_of, rows_of, picture_bytes}
use Rattle.h264_plane.specs.declared.frame.Component.{Component}
use Rattle.h264_plane.specs.declared.frame.Component.TheVariants.{Y, Cb, Cr}

-- a list that has these samples is the row
pub is_row : (xs : List ℕ) (width : ℕ) (s : ℕ → ℕ) → length xs ≡ width → ((x : ℕ) → x < width → slice_index xs x ≡ s x) → xs ≡ row_of width s
is_row xs width s e each = fill_by_all s xs width 0 e each

map_same : (f g : ℕ → ℕ) (a n : ℕ) → ((k : ℕ) → a ≤ k → k < a + n → f k ≡ g k) → map f (range_with_len a n) ≡ map g (range_with_len a n)
map_same f g a zero same = refl
map_same f g a (suc n) same = rw (same a (omega arith) (omega arith), map_same f g (a + 1) n (λ k p q. same k (omega arith) (omega arith))) refl

flat_map_same : (f g : ℕ → List ℕ) (a n : ℕ) → ((k : ℕ) → a ≤ k → k < a + n → f k ≡ g k) → flat_map f (range_with_len a n) ≡ flat_map g (range_with_len a n)
flat_map_same f g a zero same = refl
flat_map_same f g a (suc n) same = rw (same a (omega arith) (omega arith), flat_map_same f g (a + 1) n (λ k p q. same k (omega arith) (omega arith))) refl

-- samples that agree at the places of a plane, and of a picture, have the same rows
pub rows_same : (width height : ℕ) (s t : ℕ → ℕ → ℕ) → ((x y : ℕ) → x < width → y < height → s x y ≡ t x y) → rows_of width height s ≡ rows_of width height t
rows_same width height s t same =
    flat_map_same _ _ 0 height (λ y p q. map_same (λ x. s x y) (λ x. t x y) 0 width (λ x i j. same x y (omega arith) (omega arith)))

pub bytes_same : (width height : ℕ) (s t : Component → ℕ → ℕ → ℕ) → ((x y : ℕ) → x < width → y < height → s Y x y ≡ t Y x y) →
    ((x y : ℕ) → x < width / 2 → y < height / 2 → s Cb x y ≡ t Cb x y) → ((x y : ℕ) → x < width / 2 → y < height / 2 → s Cr x y ≡ t Cr x y) →
    picture_bytes width height s ≡ picture_bytes width height t
unfolding picture_bytes
bytes_same width height s t y cb cr =
    rw (rows_same width height (s Y) (t Y) y, rows_same (width / 2) (height / 2) (s Cb) (t Cb) cb, rows_same (width / 2) (height / 2) (s Cr) (t Cr) cr) refl
