-- Motions by index and by picture.
use Rattle.std.proofs.Common.{◌≡◌, ℕ, zero, suc, ◌/◌, ◌%◌, ◌<◌, IsTrue, List, [], ◌∷◌, length, get_or, replicate, Option, Some, None, refl, sym, ap, ◌∙◌, arith}
use Rattle.std.specs.List.{slice_get, AllByRecursion}
use Rattle.std.specs.Prelude.{nat_lt, Bool, true, false, if◌then◌else◌}
use Rattle.std.proofs.lemmas.Bool.{lt-ltb, ltb-true}
use Rattle.std.specs.Option.{option_map, option_and_then, is_some}
use Rattle.h264_near.specs.declared.motion.Motion as derived
use Rattle.h264_near.specs.Coded as coded
use Rattle.h264_near.specs.Partition.{first_of, MovesByPartition}
use Rattle.h264_near.specs.declared.partition.Partition.{Partition}
use Rattle.h264_near.specs.declared.partition.Partition.TheVariants.{P16x16}
use Rattle.h264_plane.specs.Blocks.{number_of}
use Rattle.h264_near.specs.Coded.{CodedMacroblock}
use Rattle.h264_near.specs.Keeps.{AreContexts}
use Rattle.h264_near.specs.declared.context.Contexts.{Contexts}
use Rattle.h264_vectors.specs.declared.slice.SliceContext.{SliceContext}
use Rattle.h264_mbsyntax.specs.Possible.{Refers}
use Rattle.h264_recon.specs.Given.{motion_of, motions_of}
use Rattle.h264_recon.specs.Inter.{no_motion}
use Rattle.h264_recon.specs.Placed.{ArePlaced, IsOneOf}
use Rattle.h264_recon.specs.Predicted.{unmoved, placed_motion, placed_at, placed_motions, parted_at, parted_motions}
use Rattle.h264_recon.specs.declared.macroblock.Motion.{Motion}
use Rattle.h264_recon.proofs.Tables.{table-ext, table-at, table-replicate}
use Rattle.h264_near.proofs.Places.{number-at-place}

-- ---- by partition

-- the motion of a place
pub parted-place : (partition : Partition) (places : List ℕ) (motions : List (Option derived.Motion)) (n : ℕ) → n < 16 →
    get_or (parted_motions partition places motions) n no_motion ≡ placed_motion places (get_or motions (first_of partition (number_of (n % 4) (n / 4))) None)
unfolding parted_motions
parted-place partition places motions n h = table-at 16 (parted_at partition places motions) n no_motion h

-- of a macroblock that moves by its partition they are those of its blocks
pub parted-are : (partition : Partition) (places : List ℕ) (motions : List (Option derived.Motion)) → MovesByPartition partition motions →
    parted_motions partition places motions ≡ placed_motions places motions
unfolding parted_motions placed_motions
parted-are partition places motions moves =
    table-ext 16 (parted_at partition places motions) (placed_at places motions)
    (λ k h. ap (placed_motion places) (sym (moves.each (number_of (k % 4) (k / 4)) (number-at-place k h))))

-- one partition
pub parted-one : (places : List ℕ) (motions : List (Option derived.Motion)) →
    parted_motions P16x16 places motions ≡ replicate 16 (placed_motion places (get_or motions 0 None))
unfolding parted_motions
parted-one places motions = sym (table-replicate 16 (placed_motion places (get_or motions 0 None)))

-- ---- an index names one of the places

pub points-at : (places : List ℕ) (m : Option derived.Motion) → IsOneOf places (placed_motion places m).picture
points-at places None = (0, omega arith, refl)
points-at places (Some m) = by (nat_lt m.ref_idx 16) refl
  where
    by : (b : Bool) → nat_lt m.ref_idx 16 ≡ b →
        IsOneOf places (if b then record { picture = get_or places m.ref_idx 0; vector = record { x = m.vector.x; y = m.vector.y } } else unmoved
        places).picture
    by true e = (m.ref_idx, ltb-true m.ref_idx 16 e, refl)
    by false e = (0, omega arith, refl)

pub points : (partition : Partition) (places : List ℕ) (motions : List (Option derived.Motion)) (n : ℕ) → n < 16 →
    IsOneOf places (get_or (parted_motions partition places motions) n no_motion).picture
points partition places motions n h = rw (parted-place partition places motions n h)
    (points-at places (get_or motions (first_of partition (number_of (n % 4) (n / 4))) None))

-- ---- and the one of the picture

found : {A : Type 0} (xs : List (Option A)) (i : ℕ) (n : A) → option_and_then (λ p. p) (slice_get xs i) ≡ Some n → (i < length xs) × (get_or xs i None ≡ Some n)
found [] i n e = absurd (grind (arith, e))
found (x ∷ xs) zero n e = (omega arith, e)
found (x ∷ xs) (suc i) n e = let r = found xs i n e in (omega (arith, r.0), r.1)

all-at : {A : Type 0} (P : A → Type 0) (xs : List A) (n : ℕ) (d : A) → AllByRecursion P xs → P d → P (get_or xs n d)
all-at P [] n d a e = e
all-at P (x ∷ xs) zero d a e = a.0
all-at P (x ∷ xs) (suc n) d a e = all-at P xs n d a.1 e

there : (m : Option derived.Motion) → option_map (λ x. Some x) m ≡ Some m → IsTrue (is_some m)
there None e = absurd (cc)
there (Some m) e = refl

placed-is : (slice : SliceContext) (places : List ℕ) (place : ℕ → ℕ) (m : Option derived.Motion) → length slice.references ≡ 16 →
    ArePlaced slice places place → Refers slice m → IsTrue (is_some m) → placed_motion places m ≡ motion_of place m
placed-is slice places place None l a r t = absurd (grind (arith, t))
placed-is slice places place (Some m) l a r t =
    let f = found slice.references m.ref_idx m.picture r in
    let h : m.ref_idx < 16 = let h = f.0 in omega arith in
    rw (lt-ltb m.ref_idx 16 h, a.each m.ref_idx m.picture h f.1) refl

-- those of a whole inter macroblock
pub motions-are : (slice : SliceContext) (places : List ℕ) (place : ℕ → ℕ) (c : Contexts) (m : CodedMacroblock) (list : List Motion) →
    length slice.references ≡ 16 → ArePlaced slice places place → AreContexts c m → m.prediction ≡ coded.Inter c.motions →
    AllByRecursion (Refers slice) c.motions → list ≡ placed_motions places c.motions → list ≡ motions_of place c.motions
unfolding placed_motions motions_of
motions-are slice places place c m list l a s p r e =
    e ∙ table-ext 16 _ _ (λ k h.
    let n = number_of (k % 4) (k / 4) in
    let t : option_map (λ x. Some x) (get_or c.motions n None) ≡ Some (get_or c.motions n None) = rw p at (s.motions n (number-at-place k h)) in
    placed-is slice places place (get_or c.motions n None) l a (all-at (Refers slice) c.motions n None r tt) (there (get_or c.motions n None) t))
