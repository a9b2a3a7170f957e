-- Samples written from a place on.
use Rattle.std.proofs.Common.{◌≡◌, ℕ, ◌+◌, ◌-◌, ◌*◌, ◌<◌, ◌≤◌, List, length, slice_index, arith, sym, ap, ◌∙◌}
use Rattle.std.proofs.lemmas.Grind.{elements}
use Rattle.std.proofs.lemmas.List.{get_or_past, with_items_is}
use Rattle.std.proofs.lemmas.Nat.{mul-le}
use Rattle.std.specs.Global.{Vec}
use Rattle.std.specs.Vec.{with_items, vec_len}
use borrow.Rule.Slice.PartMut.{mid_of}
use Rattle.h264_recon.specs.Lines.{IsSaved}
use Rattle.h264_recon.specs.declared.store.Store.{Store}
use Rattle.h264_recon.specs.Parts.{IsRun}

-- a part of a list
pub mid_length : (a k : ℕ) (xs : List ℕ) → a + k ≤ length xs → length (mid_of a k xs) ≡ k
mid_length a k xs p = grind (arith, elements)

pub mid_at : (a k i : ℕ) (xs : List ℕ) → i < k → a + k ≤ length xs → slice_index (mid_of a k xs) i ≡ slice_index xs (a + i)
mid_at a k i xs p q = grind (arith, elements)

-- below the last row of a macroblock of n columns and rows there are no samples
pub beyond : (n k : ℕ) (own : List ℕ) → length own ≡ n * n → n ≤ k → slice_index own (n * k + (n - 1)) ≡ 0
beyond n k own e q = get_or_past own _ 0 (omega (arith, e, mul-le n n n k (omega arith) q))

-- ---- the border of a macroblock of n columns and rows at column c, kept in its store
pub saved_is : (n c : ℕ) (old : Store) (v : Vec ℕ) (xs ys left own : List ℕ) (corner a k : ℕ) → v ≡ old.above → xs ≡ v.items → a ≡ n * (n - 1) → k ≡ n →
    n * (n - 1) + n ≤ length own →
    n * c + n ≤ vec_len old.above → IsRun xs ys (n * c) (mid_of a k own) →
    corner ≡ slice_index old.above.items (n * c + (n - 1)) → IsSaved n c old (record { above = with_items v ys; left = left; corner = corner }) own
saved_is n c old v xs ys left own corner a k ev ex ea ek room inside put is =
    let there : length xs ≡ v.len = ap length ex ∙ sym v.ok.0 in
    let count : length ys ≡ v.len = put.size ∙ there in
    let size : length (mid_of a k own) ≡ n = mid_length a k own (omega (arith, ea, ek)) ∙ ek in
    let items = with_items_is v ys count in
    let kept : (z : ℕ) → slice_index xs z ≡ slice_index old.above.items z = λ z. ap (λ (l : List ℕ). slice_index l z) (ex ∙ ap (λ (w : Vec ℕ). w.items) ev) in
    record {
      size = ap (λ (w : Vec ℕ). vec_len w) ev;
      bottom = λ z p. ap (λ (l : List ℕ). slice_index l (n * c + z)) items ∙ put.here z (omega (arith, size)) ∙
          mid_at a k z own (omega (arith, ek)) (omega (arith, ea, ek)) ∙ ap (λ b. slice_index own (b + z)) ea;
      before = λ z p. ap (λ (l : List ℕ). slice_index l z) items ∙ put.before z p ∙ kept z;
      after = λ z p. ap (λ (l : List ℕ). slice_index l z) items ∙ put.after z (omega (arith, size)) ∙ kept z;
      corner = is;
    }
