-- The weights of a macroblock's places.
use Rattle.std.proofs.Common.{◌≡◌, ◌≢◌, Bool, true, false, IsTrue, ℕ, zero, suc, ◌+◌, ◌-◌, ◌*◌, ◌/◌, ◌%◌, ◌<◌, ◌≤◌, ⊎_elim, List, get_or, replicate}
use Rattle.std.proofs.Common.{slice_index, length, Option, Some, None, unwrap_or, refl, sym, ap, ◌∙◌, subst, arith}
use Rattle.std.specs.List.{slice_set}
use Rattle.std.proofs.lemmas.Bool.{cases_lt}
use Rattle.std.proofs.lemmas.List.{get_or-replicate, get_or-set_same, get_or-set_other}
use Rattle.h264_plane.specs.declared.frame.Component.{Component}
use Rattle.std.specs.Option.{option_and_then, ForSome}
use Rattle.h264_base.specs.declared.weight.Weights.{Weights}
use Rattle.h264_near.specs.declared.motion.Motion.{Motion}
use Rattle.h264_plane.specs.Blocks.{number_of}
use Rattle.h264_near.specs.Coded.{CodedMacroblock}
use Rattle.h264_near.specs.Keeps.{AreContexts}
use Rattle.h264_near.specs.declared.context.Contexts.{Contexts}
use Rattle.h264_recon.specs.Given.{weights_of}
use Rattle.h264_recon.specs.Lines.{samples_of}
use Rattle.h264_recon.specs.Placed.{weights_placed_at, placed_weights, weights_of_blocks}
use Rattle.h264_recon.specs.declared.store.Samples.{Samples}
use Rattle.h264_recon.specs.Weights.{AreInRange, index_weights, weighted_if}
use Rattle.h264_recon.specs.Weighing.{index_of, IsRunWeighted, ArePlacesWeighted, AreAllWeighted}
use Rattle.h264_plane.specs.Places.{side}
use Rattle.h264_plane.specs.declared.frame.Component.TheVariants.{Y, Cb, Cr}
use Rattle.h264_near.specs.Partition.{MovesByPartition}
use Rattle.h264_near.specs.declared.partition.Partition.TheVariants.{P16x16}
use Rattle.h264_recon.proofs.Tables.{table-ext, table-at, table-replicate}
use Rattle.h264_recon.proofs.Pool.{motion_inside}
use Rattle.h264_near.proofs.Places.{number-at-place}

-- those of the blocks that were read are those of the coded macroblock
pub weights-given : (c : Contexts) (m : CodedMacroblock) (weights : List (Option Weights)) → AreContexts c m →
    placed_weights weights c.motions ≡ weights_of weights m.prediction
unfolding placed_weights weights_of
weights-given c m weights s =
    table-ext 16 _ _ (λ k h. ap (λ o. index_weights weights (option_and_then (λ x. x) o)) (sym (s.motions (number_of (k % 4) (k / 4)) (number-at-place k h))))

-- the weights of a place
pub placed-at : (weights : List (Option Weights)) (motions : List (Option Motion)) (k : ℕ) → k < 16 →
    get_or (placed_weights weights motions) k None ≡ weights_placed_at weights motions k
unfolding placed_weights
placed-at weights motions k h = table-at 16 (weights_placed_at weights motions) k None h

-- no index has weights
none-at : (n k : ℕ) → ◌≡◌ {A = Option Weights} (get_or (replicate n None) k None) None
none-at zero k = refl
none-at (suc n) zero = refl
none-at (suc n) (suc k) = none-at n k

none-of : (o : Option Motion) → index_weights (replicate 16 None) o ≡ None
none-of None = refl
none-of (Some m) = none-at 16 m.ref_idx

none-placed : (motions : List (Option Motion)) (k : ℕ) → k < 16 → get_or (placed_weights (replicate 16 None) motions) k None ≡ None
none-placed motions k h = placed-at (replicate 16 None) motions k h ∙ none-of (get_or motions (number_of (k % 4) (k / 4)) None)

-- blocks of one index have the same weights
same-index : (weights : List (Option Weights)) (a b : Option Motion) → index_of b ≡ index_of a → index_weights weights b ≡ index_weights weights a
same-index weights None None e = refl
same-index weights None (Some b) e = absurd (cc)
same-index weights (Some a) None e = absurd (cc)
same-index weights (Some a) (Some b) e = let i : b.ref_idx ≡ a.ref_idx = cc in ap (λ n. get_or weights n None) i

pub one-are : (weights : List (Option Weights)) (motions : List (Option Motion)) →
    ((k : ℕ) → k < 16 → index_of (get_or motions k None) ≡ index_of (get_or motions 0 None)) →
    (k : ℕ) → k < 16 → index_weights weights (get_or motions 0 None) ≡ get_or (placed_weights weights motions) k None
one-are weights motions all k h =
    let n = number_of (k % 4) (k / 4) in
    sym (placed-at weights motions k h ∙ same-index weights (get_or motions 0 None) (get_or motions n None) (all n (number-at-place k h)))

pub alike : (weights : List (Option Weights)) (motions : List (Option Motion)) (o : Option Weights) →
    ((k : ℕ) → k < 16 → index_of (get_or motions k None) ≡ index_of (get_or motions 0 None)) →
    o ≡ index_weights weights (get_or motions 0 None) → (k : ℕ) → k < 16 → o ≡ get_or (placed_weights weights motions) k None
alike weights motions o all e k h = e ∙ one-are weights motions all k h

-- one more place whose weights are in their ranges
pub range-grown : (each : List (Option Weights)) (n : ℕ) (o : Option Weights) → n < length each →
    ((k : ℕ) → k < n → ForSome (get_or each k None) AreInRange) → ForSome o AreInRange →
    (k : ℕ) → k < n + 1 → ForSome (get_or (slice_set each n o) k None) AreInRange
range-grown each n o h before own k i = ⊎_elim
    (λ (q : k < n). let differs : k ≢ n = λ e. absurd (omega arith) in
    subst (λ z. ForSome z AreInRange) (sym (get_or-set_other each n k o None differs)) (before k q))
    (λ (q : n ≤ k). let e : k ≡ n = omega arith in rw e (subst (λ z. ForSome z AreInRange) (sym (get_or-set_same each n o None h)) own))
    (cases_lt k n)

-- where the first of blocks that are predicted alike stands for all, the weights are those of each
pub whole-is : (weights : List (Option Weights)) (whole : Bool) (motions : List (Option Motion)) → (IsTrue whole → MovesByPartition P16x16 motions) →
    weights_of_blocks weights whole motions ≡ placed_weights weights motions
unfolding placed_weights number_of
whole-is weights false motions same = refl
whole-is weights true motions same =
    let one = index_weights weights (get_or motions 0 None) in
    table-replicate 16 one ∙ table-ext 16 (λ k. one) (weights_placed_at weights motions)
    (λ k h. ap (index_weights weights) (sym ((same refl).each (number_of (k % 4) (k / 4)) (number-at-place k h))))

-- ---- a macroblock whose places have the weights of a list

luma_place : (x y : ℕ) → x < 16 → y < 16 → 4 * (4 * y / 16) + 4 * x / 16 < 16
luma_place x y i j = omega arith

chroma_place : (x y : ℕ) → x < 8 → y < 8 → 4 * (4 * y / 8) + 4 * x / 8 < 16
chroma_place x y i j = omega arith

nothing-added : (n : ℕ) → 0 + n ≡ n
nothing-added n = omega arith

-- all its samples are weighted alike
pub luma-alike : (o : Option Weights) (list : List (Option Weights)) (old new : List ℕ) → ((k : ℕ) → k < 16 → o ≡ get_or list k None) →
    IsRunWeighted 256 0 Y o old new → ArePlacesWeighted 16 Y (λ k. get_or list k None) old new
luma-alike o list old new all run = record {
  each = λ x y i j. (rw (nothing-added (16 * y + x)) at (run.here (16 * y + x) (omega arith))) ∙
      ap (λ z. weighted_if Y z (slice_index old (16 * y + x))) (all (4 * (4 * y / 16) + 4 * x / 16) (luma_place x y i j));
}

pub chroma-alike : (p : Component) (o : Option Weights) (list : List (Option Weights)) (old new : List ℕ) → ((k : ℕ) → k < 16 → o ≡ get_or list k None) →
    IsRunWeighted 64 0 p o old new → ArePlacesWeighted 8 p (λ k. get_or list k None) old new
chroma-alike p o list old new all run = record {
  each = λ x y i j. (rw (nothing-added (8 * y + x)) at (run.here (8 * y + x) (omega arith))) ∙
      ap (λ z. weighted_if p z (slice_index old (8 * y + x))) (all (4 * (4 * y / 8) + 4 * x / 8) (chroma_place x y i j));
}

-- ---- all planes

pub all-alike : (o : Option Weights) (list : List (Option Weights)) (old new : Samples) → ((k : ℕ) → k < 16 → o ≡ get_or list k None) →
    IsRunWeighted 256 0 Y o old.y new.y → IsRunWeighted 64 0 Cb o old.cb new.cb →
    IsRunWeighted 64 0 Cr o old.cr new.cr → AreAllWeighted list old new
all-alike o list old new all y cb cr Y = luma-alike o list old.y new.y all y
all-alike o list old new all y cb cr Cb = chroma-alike Cb o list old.cb new.cb all cb
all-alike o list old new all y cb cr Cr = chroma-alike Cr o list old.cr new.cr all cr

pub all-of : (list : List (Option Weights)) (old new : Samples) → ArePlacesWeighted 16 Y (λ k. get_or list k None) old.y new.y →
    ArePlacesWeighted 8 Cb (λ k. get_or list k None) old.cb new.cb →
    ArePlacesWeighted 8 Cr (λ k. get_or list k None) old.cr new.cr → AreAllWeighted list old new
all-of list old new y cb cr Y = y
all-of list old new y cb cr Cb = cb
all-of list old new y cb cr Cr = cr

-- no index has weights, so no place has
none-of-blocks : (whole : Bool) (motions : List (Option Motion)) (k : ℕ) → k < 16 → get_or (weights_of_blocks (replicate 16 None) whole motions) k None ≡ None
none-of-blocks true motions k h = get_or-replicate 16 k (index_weights (replicate 16 None) (get_or motions 0 None)) None h ∙ none-of (get_or motions 0 None)
none-of-blocks false motions k h = none-placed motions k h

pub all-kept : (all : Option (List (Option Weights))) (whole : Bool) (motions : List (Option Motion)) (samples : Samples) → all ≡ None →
    AreAllWeighted (weights_of_blocks (unwrap_or all (replicate 16 None)) whole motions) samples samples
all-kept all whole motions samples e p = rw e (record {
  each = λ x y i j. ap (λ z. weighted_if p z (slice_index (samples_of samples p) (side p * y + x)))
      (sym (none-of-blocks whole motions (4 * (4 * y / side p) + 4 * x / side p) (motion_inside p x y i j)));
})

pub all-by : (all : Option (List (Option Weights))) (weights : List (Option Weights)) (whole : Bool) (motions : List (Option Motion)) (old new : Samples) →
    all ≡ Some weights → AreAllWeighted (weights_of_blocks weights whole motions) old new →
    AreAllWeighted (weights_of_blocks (unwrap_or all (replicate 16 None)) whole motions) old new
all-by all weights whole motions old new e h = rw e h

-- where the first motion stands for all
pub whole-by : (weights : List (Option Weights)) (whole : Bool) (motions : List (Option Motion)) (o : Option Weights) → whole ≡ true →
    o ≡ index_weights weights (get_or motions 0 None) → (k : ℕ) → k < 16 →
    o ≡ get_or (weights_of_blocks weights whole motions) k None
whole-by weights whole motions o w e k h = rw w (e ∙ sym (get_or-replicate 16 k (index_weights weights (get_or motions 0 None)) None h))

-- and where each stands for itself
pub each-by : (weights : List (Option Weights)) (whole : Bool) (motions : List (Option Motion)) (old new : Samples) → whole ≡ false →
    AreAllWeighted (placed_weights weights motions) old new → AreAllWeighted (weights_of_blocks weights whole motions) old new
each-by weights whole motions old new w h = rw w h

-- ---- runs of samples

-- one run more, of four samples
pub four-more : (p : Component) (r : ℕ) (weights : List (Option Weights)) (first old new : List ℕ) →
    ((n : ℕ) → n < 4 * r → slice_index old n ≡ weighted_if p (get_or weights (4 * (n / 64) + n % 16 / 4) None) (slice_index first n)) →
    ((n : ℕ) → 4 * r ≤ n → slice_index old n ≡ slice_index first n) →
    IsRunWeighted 4 (4 * r) p (get_or weights (4 * (r / 16) + r % 4) None) old new →
    (n : ℕ) → n < 4 * (r + 1) → slice_index new n ≡ weighted_if p (get_or weights (4 * (n / 64) + n % 16 / 4) None) (slice_index first n)
four-more p r weights first old new done rest run n h = ⊎_elim
    (λ (l : n < 4 * r). run.before n l ∙ done n l)
    (λ (g : 4 * r ≤ n).
    let at : 4 * r + (n - 4 * r) ≡ n = omega arith in
    let place : 4 * (r / 16) + r % 4 ≡ 4 * (n / 64) + n % 16 / 4 = omega arith in
    (rw at at (run.here (n - 4 * r) (omega arith))) ∙ ap (λ z. weighted_if p (get_or weights (4 * (r / 16) + r % 4) None) z) (rest n g)
    ∙ ap (λ z. weighted_if p (get_or weights z None) (slice_index first n)) place)
    (cases_lt n (4 * r))

-- and of two
pub two-more : (p : Component) (r : ℕ) (weights : List (Option Weights)) (first old new : List ℕ) →
    ((n : ℕ) → n < 2 * r → slice_index old n ≡ weighted_if p (get_or weights (4 * (n / 16) + n % 8 / 2) None) (slice_index first n)) →
    ((n : ℕ) → 2 * r ≤ n → slice_index old n ≡ slice_index first n) →
    IsRunWeighted 2 (2 * r) p (get_or weights (4 * (r / 8) + r % 4) None) old new →
    (n : ℕ) → n < 2 * (r + 1) → slice_index new n ≡ weighted_if p (get_or weights (4 * (n / 16) + n % 8 / 2) None) (slice_index first n)
two-more p r weights first old new done rest run n h = ⊎_elim
    (λ (l : n < 2 * r). run.before n l ∙ done n l)
    (λ (g : 2 * r ≤ n).
    let at : 2 * r + (n - 2 * r) ≡ n = omega arith in
    let place : 4 * (r / 8) + r % 4 ≡ 4 * (n / 16) + n % 8 / 2 = omega arith in
    (rw at at (run.here (n - 2 * r) (omega arith))) ∙ ap (λ z. weighted_if p (get_or weights (4 * (r / 8) + r % 4) None) z) (rest n g)
    ∙ ap (λ z. weighted_if p (get_or weights z None) (slice_index first n)) place)
    (cases_lt n (2 * r))
