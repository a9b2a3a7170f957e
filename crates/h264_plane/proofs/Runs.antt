use Rattle.std.proofs.Common.{◌≡◌, ◌≢◌, ◌⊎◌, ℕ, ◌+◌, ◌-◌, ◌*◌, ◌<◌, ◌≤◌, List, length, slice_index, arith, refl, sym, ap, ◌∙◌, get_or, ⊎_elim, inl, inr}
use Rattle.std.proofs.Math.Seq.{take-length}
use Rattle.std.proofs.lemmas.Nat.{mul-le}
use Rattle.std.proofs.lemmas.Grind.{elements}
use Rattle.std.proofs.lemmas.Bool.{cases_lt, cases_eq}
use Rattle.std.proofs.lemmas.Bool.Decides.{nat_tests}
use Rattle.std.proofs.lemmas.List.{with_items_is}
use Rattle.std.specs.Global.{Vec}
use Rattle.std.specs.Vec.{with_items, vec_len}
use borrow.Rule.Slice.PartMut.{put_mid}
use lib.Lanes.{chunk}
use Rattle.h264_plane.specs.Samples.{at, ShowsSamples, with_run, rows_of}

pub put_below : (a k i : ℕ) (xs ys : List ℕ) → i < a → a ≤ length xs → get_or (put_mid a k xs ys) i 0 ≡ get_or xs i 0
put_below a k i xs ys p q = grind (arith, elements)

pub put_in : (a k i : ℕ) (xs ys : List ℕ) → i < length ys → a ≤ length xs → get_or (put_mid a k xs ys) (a + i) 0 ≡ get_or ys i 0
put_in a k i xs ys p q = grind (arith, elements)

put_above : (a k i : ℕ) (xs ys : List ℕ) → a + k ≤ i → a ≤ length xs → length ys ≡ k → get_or (put_mid a k xs ys) i 0 ≡ get_or xs i 0
put_above a k i xs ys p q e = grind (arith, elements)

pub length_put : (a k : ℕ) (xs ys : List ℕ) (n : ℕ) → length xs ≡ n → length ys ≡ k → a + k ≤ n → length (put_mid a k xs ys) ≡ n
length_put a k xs ys n e f p = grind (arith, elements)

-- an earlier row ends before a later one begins
row_before : (w v y : ℕ) → v < y → v * w + w ≤ y * w
row_before w v y p = omega (arith, mul-le (v + 1) w y w (omega arith) (omega arith))

-- with_run at a place of the run, and at any other
run_inside : (x y : ℕ) (run : List ℕ) (s : ℕ → ℕ → ℕ) (u : ℕ) → x ≤ u → u < x + length run → with_run x y run s u y ≡ slice_index run (u - x)
unfolding with_run
run_inside x y run s u p q = grind (arith, nat_tests)

pub run_outside : (x y : ℕ) (run : List ℕ) (s : ℕ → ℕ → ℕ) (u v : ℕ) → (v ≢ y) ⊎ ((u < x) ⊎ (x + length run ≤ u)) → with_run x y run s u v ≡ s u v
unfolding with_run
run_outside x y run s u v p = grind (arith, nat_tests)

-- a run that is copied into a row
pub run_is : (w h x y : ℕ) (xs ys run : List ℕ) → length xs ≡ h * w → x + length run ≤ w → y < h → ys ≡ run →
    ShowsSamples (record { width = w; height = h; list = xs }) (record { width = w; height = h; list = put_mid (y * w + x) (length run) xs ys })
    (with_run x y run (at (record { width = w; height = h; list = xs })))
run_is w h x y xs ys run e p q same =
    let s = at (record { width = w; height = h; list = xs }) in
    let fits : y * w + x + length run ≤ length xs = omega (arith, row_before w y h q) in
    let count : length ys ≡ length run = ap length same in
    record {
      width = refl;
      height = refl;
      samples = λ u v a b. ⊎_elim
          (λ here. rw here (⊎_elim
          (λ left. put_below _ _ _ xs ys (omega arith) (omega arith) ∙ sym (run_outside x y run s u y (inr (inl left))))
          (λ right. ⊎_elim
          (λ inside.
          let place : y * w + u ≡ y * w + x + (u - x) = omega arith in
          rw place (put_in (y * w + x) (length run) (u - x) xs ys (omega arith) (omega arith)) ∙ ap (λ (l : List ℕ). get_or l (u - x) 0) same ∙
          sym (run_inside x y run s u right inside))
          (λ beyond. put_above _ _ _ xs ys (omega arith) (omega arith) count ∙ sym (run_outside x y run s u y (inr (inr beyond))))
          (cases_lt u (x + length run)))
          (cases_lt u x)))
          (λ other. ⊎_elim
          (λ earlier. put_below _ _ _ xs ys (omega (arith, row_before w v y earlier)) (omega arith))
          (λ later. put_above _ _ _ xs ys (omega (arith, row_before w y v (omega arith))) (omega arith) count)
          (cases_lt v y)
          ∙ sym (run_outside x y run s u v (inl other)))
          (cases_eq v y);
    }

-- the same by the place where the run begins, and its length
pub run_at : (w h x y : ℕ) (xs ys run : List ℕ) (start k : ℕ) → length xs ≡ h * w → x + length run ≤ w → y < h → ys ≡ run → start ≡ y * w + x →
    k ≡ length run → ShowsSamples (rows_of w h xs) (rows_of w h (put_mid start k xs ys)) (with_run x y run (at (rows_of w h xs)))
run_at w h x y xs ys run start k e p q same place count = rw (place, count) (run_is w h x y xs ys run e p q same)

-- a chunk that is all of a list
pub chunk_whole : (n : ℕ) (xs : List ℕ) → length xs ≡ n → chunk 0 n xs ≡ xs
chunk_whole n xs e = rw (sym e) (take-length xs)

-- the same for a vector that was written through a slice
pub run_put : (w h x y : ℕ) (v : Vec ℕ) (xs ys run : List ℕ) (k : ℕ) → vec_len v ≡ h * w → x + length run ≤ w → y < h →
    xs ≡ v.items → k ≡ length run → ys ≡ run →
    ShowsSamples (record { width = w; height = h; list = v.items })
    (record { width = w; height = h; list = (with_items v (put_mid (y * w + x) k xs ys)).items })
    (with_run x y run (at (record { width = w; height = h; list = v.items })))
run_put w h x y v xs ys run k e p q same count copied =
    let whole : length v.items ≡ h * w = omega (arith, v.ok) in
    let fits : y * w + x + length run ≤ length v.items = omega (arith, row_before w y h q) in
    let size : length (put_mid (y * w + x) k xs ys) ≡ v.len =
    length_put (y * w + x) k xs ys v.len (omega (arith, ap length same, v.ok)) (omega (arith, ap length copied)) (omega (arith, v.ok)) in
    rw (with_items_is v (put_mid (y * w + x) k xs ys) size, same, count) (run_is w h x y v.items ys run whole p q copied)
