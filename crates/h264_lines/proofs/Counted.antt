-- The parts of a picture, counted over its planes.
use Rattle.std.proofs.Common.{◌≡◌, ℕ, zero, suc, ◌+◌, ◌-◌, ◌/◌, ◌<◌, ◌≤◌, nat_lt, Bool, List, ◌++◌, refl, sym, ap, ap₂, ◌∙◌, arith, true, false}
use Rattle.std.specs.List.{range_with_len, flat_map}
use Rattle.std.proofs.lemmas.List.{append_assoc, append-nil}
use Rattle.std.proofs.lemmas.Bool.{cond-true, cond-false}
use Rattle.std.proofs.lemmas.Bool.Decides.{nat_tests}
use Rattle.h264_plane.specs.declared.frame.Component.{Component}
use Rattle.h264_plane.specs.declared.frame.Component.TheVariants.{Y, Cb, Cr}
use Rattle.h264_plane.specs.Rows.{row_of, rows_of, picture_bytes}
use Rattle.h264_lines.specs.Rows.{row_count, row_at, part_count, parts_before}
use Rattle.h264_lines.specs.declared.rows.TheConstants.{PLANES}

-- so many numbers from a on, in two parts
pub flat_split : (f : ℕ → List ℕ) (a n m t b : ℕ) → n + m ≡ t → a + n ≡ b →
    flat_map f (range_with_len a t) ≡ flat_map f (range_with_len a n) ++ flat_map f (range_with_len b m)
flat_split f a zero m t b e d =
    let begin : a ≡ b = omega arith in
    let count : t ≡ m = omega arith in
    ap₂ (λ i k. flat_map f (range_with_len i k)) begin count
flat_split f a (suc n) m zero b e d = let none : 0 < 0 = omega arith in absurd (omega arith)
flat_split f a (suc n) m (suc t) b e d =
    ap (λ l. f a ++ l) (flat_split f (a + 1) n m t b (omega arith) (omega arith)) ∙
    sym (append_assoc (f a) (flat_map f (range_with_len (a + 1) n)) (flat_map f (range_with_len b m)))

-- two runs whose members go together
pub flat_shift : (f g : ℕ → List ℕ) (a b n : ℕ) → ((i j : ℕ) → a ≤ i → i < a + n → i + b ≡ j + a → f i ≡ g j) →
    flat_map f (range_with_len a n) ≡ flat_map g (range_with_len b n)
flat_shift f g a b zero same = refl
flat_shift f g a b (suc n) same =
    ap₂ (λ x l. x ++ l) (same a b (omega arith) (omega arith) (omega arith))
    (flat_shift f g (a + 1) (b + 1) n (λ i j p q e. same i j (omega arith) (omega arith) (omega arith)))

-- the parts before the next one
pub next-part : (f : ℕ → List ℕ) (k : ℕ) → flat_map f (range_with_len 0 k) ++ f k ≡ flat_map f (range_with_len 0 (k + 1))
next-part f k =
    ap (λ l. flat_map f (range_with_len 0 k) ++ l) (sym (append-nil (f k)))
    ∙ sym (flat_split f 0 k 1 (k + 1) k (omega arith) (omega arith))

-- the first parts, the next, and those after it
pub part-between : (f : ℕ → List ℕ) (k n : ℕ) → k < n →
    flat_map f (range_with_len 0 n) ≡ flat_map f (range_with_len 0 k) ++ (f k ++ flat_map f (range_with_len (k + 1) (n - (k + 1))))
part-between f k n within = flat_split f 0 k (suc (n - (k + 1))) n k (omega arith) (omega arith)

module _ (w h : ℕ) (s : Component → ℕ → ℕ → ℕ) where
  luma : (i j : ℕ) → i < h → i ≡ j → row_at w h s i ≡ row_of w (λ x. s Y x j)
  luma i j p e = let t : nat_lt i h ≡ true = grind (arith, nat_tests) in cond-true _ _ _ t ∙ ap (λ n. row_of w (λ x. s Y x n)) e

  first : (i j : ℕ) → h ≤ i → i < h + h / 2 → i ≡ j + h → row_at w h s i ≡ row_of (w / 2) (λ x. s Cb x j)
  first i j p q e =
      let d : i - h ≡ j = omega arith in
      let f : nat_lt i h ≡ false = grind (arith, nat_tests) in
      let t : nat_lt i (h + h / 2) ≡ true = grind (arith, nat_tests) in
      cond-false _ _ _ f ∙ cond-true _ _ _ t ∙ ap (λ n. row_of (w / 2) (λ x. s Cb x n)) d

  second : (i j : ℕ) → h + h / 2 ≤ i → i ≡ j + (h + h / 2) → row_at w h s i ≡ row_of (w / 2) (λ x. s Cr x j)
  second i j p e =
      let d : i - h - h / 2 ≡ j = omega arith in
      let f : nat_lt i h ≡ false = grind (arith, nat_tests) in
      let g : nat_lt i (h + h / 2) ≡ false = grind (arith, nat_tests) in
      cond-false _ _ _ f ∙ cond-false _ _ _ g ∙ ap (λ n. row_of (w / 2) (λ x. s Cr x n)) d

  rows_whole : parts_before false w h s (row_count h) ≡ picture_bytes w h s
  unfolding picture_bytes
  rows_whole =
      let y = flat_shift (row_at w h s) (λ k. row_of w (λ x. s Y x k)) 0 0 h (λ i j p q e. luma i j (omega arith) (omega arith)) in
      let cb = flat_shift (row_at w h s) (λ k. row_of (w / 2) (λ x. s Cb x k)) h 0 (h / 2) (λ i j p q e. first i j p q (omega arith)) in
      let cr = flat_shift (row_at w h s) (λ k. row_of (w / 2) (λ x. s Cr x k)) (h + h / 2) 0 (h / 2) (λ i j p q e. second i j p (omega arith)) in
      flat_split (row_at w h s) 0 (h + h / 2) (h / 2) (row_count h) (h + h / 2) refl (omega arith)
      ∙ ap₂ (λ l r. l ++ r) (flat_split (row_at w h s) 0 h (h / 2) (h + h / 2) h refl (omega arith) ∙ ap₂ (λ l r. l ++ r) y cb) cr

  planes_whole : parts_before true w h s PLANES ≡ picture_bytes w h s
  unfolding picture_bytes
  planes_whole =
      ap (λ l. rows_of w h (s Y) ++ (rows_of (w / 2) (h / 2) (s Cb) ++ l)) (append-nil (rows_of (w / 2) (h / 2) (s Cr)))
      ∙ sym (append_assoc (rows_of w h (s Y)) (rows_of (w / 2) (h / 2) (s Cb)) (rows_of (w / 2) (h / 2) (s Cr)))

  -- all parts are the picture
  pub whole : (by_planes : Bool) → parts_before by_planes w h s (part_count by_planes h) ≡ picture_bytes w h s
  whole true = planes_whole
  whole false = rows_whole
