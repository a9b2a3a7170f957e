use Rattle.std.proofs.Common.{◌≡◌, ℕ, ◌+◌, ◌*◌, ◌/◌, refl, sym, ap, ◌∙◌, List, slice_index, Some, None, Bool, true, false, cond, eqb}
use Rattle.std.proofs.lemmas.Bool.{cond-true, eq-eqb}
use Rattle.h264_intra.specs.Filters.{total}
use Rattle.h264_intra.specs.Luma4.{sides4, around4, dc}
use Rattle.h264_intra.specs.Sides.{beside}
use Rattle.h264_intra.specs.Luma16.{sides16, around16, dc16}
use Rattle.h264_intra.specs.Chroma.{sides_chroma, around_chroma, block_dc}
use Rattle.h264_intra.specs.declared.luma4.Neighbours4.{Neighbours4}
use Rattle.h264_intra.specs.declared.luma16.Neighbours16.{Neighbours16}
use Rattle.h264_intra.specs.declared.chroma.NeighboursChroma.{NeighboursChroma}
use Rattle.h264_intra.proofs.Totals.{left_total, above_total, left_part, above_part}

-- the mean of the sides of a 4x4 block, where there are both and where there is one
pub both4 : (n : Neighbours4) (l a : List ℕ) (s t : ℕ) → n.left ≡ Some l → n.above ≡ Some a →
    s ≡ total 4 (λ k. slice_index l k) → t ≡ total 4 (λ k. slice_index a k) → (s + t + 4) / 8 ≡ dc (sides4 n) (around4 n)
unfolding total
both4 n l a s t p q e f = rw (p, q, e, f) refl

pub left4 : (n : Neighbours4) (l : List ℕ) (s : ℕ) → n.left ≡ Some l → n.above ≡ None →
    s ≡ total 4 (λ k. slice_index l k) → (s + 2) / 4 ≡ dc (sides4 n) (around4 n)
unfolding total
left4 n l s p q e = rw (p, q, e) refl

pub above4 : (n : Neighbours4) (a : List ℕ) (s : ℕ) → n.left ≡ None → n.above ≡ Some a →
    s ≡ total 4 (λ k. slice_index a k) → (s + 2) / 4 ≡ dc (sides4 n) (around4 n)
unfolding total
above4 n a s p q e = rw (p, q, e) refl

-- the same of a macroblock of luma samples
pub both16 : (n : Neighbours16) (l a : List ℕ) (s t : ℕ) → n.left ≡ Some l → n.above ≡ Some a →
    s ≡ total 16 (λ k. slice_index l k) → t ≡ total 16 (λ k. slice_index a k) → (s + t + 16) / 32 ≡ dc16 (sides16 n) (around16 n)
both16 n l a s t p q e f =
    let left = e ∙ left_total 16 (Some l) (Some a) n.corner in
    let above = f ∙ above_total 16 (Some l) (Some a) n.corner in
    rw (p, q, left, above) refl

pub left16 : (n : Neighbours16) (l : List ℕ) (s : ℕ) → n.left ≡ Some l → n.above ≡ None →
    s ≡ total 16 (λ k. slice_index l k) → (s + 8) / 16 ≡ dc16 (sides16 n) (around16 n)
left16 n l s p q e =
    let left = e ∙ left_total 16 (Some l) None n.corner in
    rw (p, q, left) refl

pub above16 : (n : Neighbours16) (a : List ℕ) (s : ℕ) → n.left ≡ None → n.above ≡ Some a →
    s ≡ total 16 (λ k. slice_index a k) → (s + 8) / 16 ≡ dc16 (sides16 n) (around16 n)
above16 n a s p q e =
    let above = e ∙ above_total 16 None (Some a) n.corner in
    rw (p, q, above) refl

-- the same of a 4x4 block of chroma samples
both_block : (n : NeighboursChroma) (l a : List ℕ) (i j s t : ℕ) → n.left ≡ Some l → n.above ≡ Some a →
    s ≡ total 4 (λ k. slice_index l (4 * j + k)) → t ≡ total 4 (λ k. slice_index a (4 * i + k)) →
    block_dc (sides_chroma n) (around_chroma n) i j ≡ cond (eqb i j) ((s + t + 4) / 8) (cond (eqb j 0) ((t + 2) / 4) ((s + 2) / 4))
both_block n l a i j s t p q e f =
    let left = e ∙ left_part j (Some l) (Some a) n.corner in
    let above = f ∙ above_part i (Some l) (Some a) n.corner in
    rw (p, q, left, above) refl

pub same_block : (n : NeighboursChroma) (l a : List ℕ) (i j s t : ℕ) → n.left ≡ Some l → n.above ≡ Some a → i ≡ j →
    s ≡ total 4 (λ k. slice_index l (4 * j + k)) → t ≡ total 4 (λ k. slice_index a (4 * i + k)) →
    (s + t + 4) / 8 ≡ block_dc (sides_chroma n) (around_chroma n) i j
same_block n l a i j s t p q same e f = sym (both_block n l a i j s t p q e f ∙ cond-true _ _ _ (eq-eqb i j same))

same_either : (b : Bool) (x : ℕ) → cond b x x ≡ x
same_either true x = refl
same_either false x = refl

pub left_block : (n : NeighboursChroma) (l : List ℕ) (i j s : ℕ) → n.left ≡ Some l → n.above ≡ None →
    s ≡ total 4 (λ k. slice_index l (4 * j + k)) → (s + 2) / 4 ≡ block_dc (sides_chroma n) (around_chroma n) i j
left_block n l i j s p q e =
    let left = e ∙ left_part j (Some l) None n.corner in
    rw (p, q, left) (sym (ap (λ x. cond (eqb i j) ((total 4 (λ k. beside (Some l) None n.corner 0 (4 * j + k + 1)) + 2) / 4) x) (same_either (eqb j 0) _) ∙
    same_either (eqb i j) _))

pub above_block : (n : NeighboursChroma) (a : List ℕ) (i j t : ℕ) → n.left ≡ None → n.above ≡ Some a →
    t ≡ total 4 (λ k. slice_index a (4 * i + k)) → (t + 2) / 4 ≡ block_dc (sides_chroma n) (around_chroma n) i j
above_block n a i j t p q f =
    let above = f ∙ above_part i None (Some a) n.corner in
    rw (p, q, above) (sym (ap (λ x. cond (eqb i j) ((total 4 (λ k. beside None (Some a) n.corner (4 * i + k + 1) 0) + 2) / 4) x) (same_either (eqb j 0) _) ∙
    same_either (eqb i j) _))
