-- The blocks of a partition are predicted alike, once all parts of the macroblock are derived.
use Rattle.std.proofs.Common.{◌≡◌, ◌≢◌, ℕ, zero, suc, ◌+◌, ◌*◌, ◌/◌, ◌%◌, ◌<◌, ◌==◌, nat_lt, Bool, true, false, ◌&&◌, List, [], ◌∷◌, replicate, get_or}
use Rattle.std.proofs.Common.{Option, None, refl, sym, ap, ◌∙◌, arith, if◌then◌else◌}
use Rattle.std.specs.List.{list_all, range_with_len}
use Rattle.std.proofs.lemmas.Bool.{ltb-true, false≢true, and_parts}
use Rattle.std.proofs.lemmas.List.{get_or-replicate}
use Rattle.std.proofs.lemmas.List.FromFn.{get_or-map-range_with_len}
use Rattle.h264_near.specs.declared.motion.Motion.{Motion}
use Rattle.h264_near.specs.declared.partition.SubPartition.{SubPartition}
use Rattle.h264_near.specs.declared.partition.SubPartition.TheVariants as sub
use Rattle.h264_near.specs.declared.partition.Partition.{Partition}
use Rattle.h264_near.specs.declared.partition.Partition.TheVariants.{P16x16, P16x8, P8x16, P8x8}
use Rattle.h264_plane.specs.Blocks.{column_of, row_of}
use Rattle.h264_near.specs.Partition.{first_in_sub, first_of, MovesByPartition}
use Rattle.h264_vectors.specs.declared.part.Direction.TheVariants as direction
use Rattle.h264_vectors.specs.declared.part.Part.{Part}
use Rattle.h264_vectors.specs.Vectors.{part}
use Rattle.h264_vectors.specs.Derived.{is_inside, in_part, with_part, parts_of, sub_parts_of}
use Rattle.h264_vectors.specs.Partitions.{sub_partition_of, IsOfType}
use Rattle.h264_vectors.specs.Agrees.{is_on_one_side, are_on_one_side, StayAlike}

-- ---- results

-- ---- a part more

pub stay-same : (parts : List Part) (motions : List (Option Motion)) → StayAlike parts motions motions
stay-same parts motions = record { each = λ i j h k side e. e }

with-at : (motions : List (Option Motion)) (p : Part) (m : Motion) (n : ℕ) → n < 16 →
    get_or (with_part motions p m) n None ≡ in_part p n m (get_or motions n None)
unfolding with_part
with-at motions p m n h = get_or-map-range_with_len (λ n. in_part p n m (get_or motions n None)) 0 16 n n None h (omega arith)

pub stay-with : (motions : List (Option Motion)) (p : Part) (m : Motion) → StayAlike (p ∷ []) motions (with_part motions p m)
stay-with motions p m = record {
  each = λ i j h k side e. with-at motions p m i h ∙
      go i j (is_inside p i) (is_inside p j) refl refl (and_parts (is_on_one_side p i j) true side).0 e ∙ sym (with-at motions p m j k);
}
  where
    go : (i j : ℕ) (a b : Bool) → is_inside p i ≡ a → is_inside p j ≡ b → is_on_one_side p i j ≡ true → get_or motions i None ≡ get_or motions j None →
        in_part p i m (get_or motions i None) ≡ in_part p j m (get_or motions j None)
    go i j true true e f side same = rw (e, f) refl
    go i j true false e f side same = absurd (false≢true (rw (e, f) at side))
    go i j false true e f side same = absurd (false≢true (rw (e, f) at side))
    go i j false false e f side same = rw (e, f) same

pub stay-then : (p : Part) (parts : List Part) (a b c : List (Option Motion)) → StayAlike (p ∷ []) a b → StayAlike parts b c → StayAlike (p ∷ parts) a c
stay-then p parts a b c first others = record {
  each = λ i j h k side e.
      let s = and_parts (is_on_one_side p i j) (are_on_one_side parts i j) side in
      others.each i j h k s.1 (first.each i j h k (rw s.0 refl) e);
}

-- ---- all parts

at-all : (p : ℕ → Bool) (a n k : ℕ) → list_all p (range_with_len a n) ≡ true → k < n → p (a + k) ≡ true
at-all p a zero k e h = absurd (omega arith)
at-all p a (suc n) zero e h = let same : a + 0 ≡ a = omega arith in ap p same ∙ (and_parts (p a) (list_all p (range_with_len (a + 1) n)) e).0
at-all p a (suc n) (suc k) e h =
    let same : a + suc k ≡ a + 1 + k = omega arith in
    ap p same ∙ at-all p (a + 1) n k (and_parts (p a) (list_all p (range_with_len (a + 1) n)) e).1 (omega arith)

all-below : (p : ℕ → Bool) (n k : ℕ) → list_all p (range_with_len 0 n) ≡ true → k < n → p k ≡ true
all-below p n k e h = let same : 0 + k ≡ k = omega arith in sym (ap p same) ∙ at-all p 0 n k e h

-- the blocks of a partition stand on one side of each of these parts
abbrev are_parted : Partition → List Part → Bool
are_parted partition parts = list_all (λ n. nat_lt (first_of partition n) 16 && are_on_one_side parts n (first_of partition n)) (range_with_len 0 16)

moves-by : (partition : Partition) (parts : List Part) (old new : List (Option Motion)) → are_parted partition parts ≡ true → old ≡ replicate 16 None →
    StayAlike parts old new → MovesByPartition partition new
moves-by partition parts old new e none stay = record {
  each = λ n h.
      let s = and_parts _ _ (all-below (λ n. nat_lt (first_of partition n) 16 && are_on_one_side parts n (first_of partition n)) 16 n e h) in
      let k : first_of partition n < 16 = ltb-true _ _ s.0 in
      stay.each n (first_of partition n) h k s.1 (rw none (get_or-replicate 16 n None None h ∙ sym (get_or-replicate 16 (first_of partition n) None None k)));
}

pub moves16x16 : (old new : List (Option Motion)) → old ≡ replicate 16 None → StayAlike (part 0 0 4 4 direction.Median ∷ []) old new →
    MovesByPartition P16x16 new
unfolding column_of row_of
moves16x16 old new none stay = moves-by P16x16 _ old new refl none stay

pub moves16x8 : (old new : List (Option Motion)) → old ≡ replicate 16 None →
    StayAlike (part 0 0 4 2 direction.FromB ∷ part 0 2 4 2 direction.FromA ∷ []) old new → MovesByPartition P16x8 new
unfolding column_of row_of
moves16x8 old new none stay = moves-by P16x8 _ old new refl none stay

pub moves8x16 : (old new : List (Option Motion)) → old ≡ replicate 16 None →
    StayAlike (part 0 0 2 4 direction.FromA ∷ part 2 0 2 4 direction.FromC ∷ []) old new → MovesByPartition P8x16 new
unfolding column_of row_of
moves8x16 old new none stay = moves-by P8x16 _ old new refl none stay

-- ---- sub-macroblocks

-- types above 3 count as 3
abbrev within3 : ℕ → ℕ
within3 zero = 0
within3 (suc zero) = 1
within3 (suc (suc zero)) = 2
within3 (suc (suc (suc t))) = 3

within-small : (t : ℕ) → within3 t < 4
within-small zero = omega arith
within-small (suc zero) = omega arith
within-small (suc (suc zero)) = omega arith
within-small (suc (suc (suc t))) = omega arith

within-type : (t : ℕ) → sub_partition_of t ≡ sub_partition_of (within3 t)
within-type zero = refl
within-type (suc zero) = refl
within-type (suc (suc zero)) = refl
within-type (suc (suc (suc t))) = refl

within-parts : (x y t : ℕ) → sub_parts_of x y t ≡ sub_parts_of x y (within3 t)
within-parts x y t = ap (parts_of x y) (within-type t)

-- the first block of the partition of a block, in a sub-macroblock of this type
abbrev first_by : ℕ → ℕ → ℕ
first_by t n = n / 4 * 4 + first_in_sub (sub_partition_of t) (n % 4)

-- whether the parts of a sub-macroblock of type t, the one of this number, part no partition of one of type s
abbrev keeps_block : ℕ → ℕ → ℕ → ℕ → ℕ → ℕ → Bool
keeps_block q x y t s n = are_on_one_side (sub_parts_of x y t) n (first_by (if n / 4 == q then t else s) n)

abbrev keeps_all : ℕ → ℕ → ℕ → Bool
keeps_all q x y = list_all (λ t. list_all (λ s. list_all (keeps_block q x y t s) (range_with_len 0 16)) (range_with_len 0 4)) (range_with_len 0 4)

kept0 : keeps_all 0 0 0 ≡ true
unfolding column_of row_of
kept0 = refl

kept1 : keeps_all 1 2 0 ≡ true
unfolding column_of row_of
kept1 = refl

kept2 : keeps_all 2 0 2 ≡ true
unfolding column_of row_of
kept2 = refl

kept3 : keeps_all 3 2 2 ≡ true
unfolding column_of row_of
kept3 = refl

-- no partition of this sub-macroblock, which is of type t, or of another one, of type s
kept : (q x y t s n : ℕ) (b : Bool) → keeps_all q x y ≡ true → n < 16 → (n / 4 == q) ≡ b →
    are_on_one_side (sub_parts_of x y t) n (first_by (if b then t else s) n) ≡ true
kept q x y t s n b e h i =
    let of_t = all-below (λ t. list_all (λ s. list_all (keeps_block q x y t s) (range_with_len 0 16)) (range_with_len 0 4)) 4 (within3 t) e (within-small t) in
    let of_s = all-below (λ s. list_all (keeps_block q x y (within3 t) s) (range_with_len 0 16)) 4 (within3 s) of_t (within-small s) in
    go b i (all-below (keeps_block q x y (within3 t) (within3 s)) 16 n of_s h)
  where
    go : (b : Bool) → (n / 4 == q) ≡ b → keeps_block q x y (within3 t) (within3 s) n ≡ true →
        are_on_one_side (sub_parts_of x y t) n (first_by (if b then t else s) n) ≡ true
    go true i k = rw (within-parts x y t, within-type t) (rw i at k)
    go false i k = rw (within-parts x y t, within-type s) (rw i at k)

-- blocks of four sub-macroblocks, after the parts of each
pub moves8x8 : (t0 t1 t2 t3 : ℕ) (a b c d e : List (Option Motion)) → a ≡ replicate 16 None → StayAlike (sub_parts_of 0 0 t0) a b →
    StayAlike (sub_parts_of 2 0 t1) b c → StayAlike (sub_parts_of 0 2 t2) c d → StayAlike (sub_parts_of 2 2 t3) d e →
    MovesByPartition (P8x8 (sub_partition_of t0 ∷ sub_partition_of t1 ∷ sub_partition_of t2 ∷ sub_partition_of t3 ∷ [])) e
moves8x8 t0 t1 t2 t3 a b c d e none first second third fourth = record { each = λ n h. by_quarter n h (n / 4) refl }
  where
    small : (t n : ℕ) → n < 16 → first_by t n < 16
    small zero n h = omega arith
    small (suc zero) n h = omega arith
    small (suc (suc zero)) n h = omega arith
    small (suc (suc (suc t))) n h = omega arith

    of_type : (n t : ℕ) (b0 b1 b2 b3 : Bool) → n < 16 → (n / 4 == 0) ≡ b0 → (n / 4 == 1) ≡ b1 → (n / 4 == 2) ≡ b2 → (n / 4 == 3) ≡ b3 →
        (if b0 then t0 else t) ≡ t → (if b1 then t1 else t) ≡ t → (if b2 then t2 else t) ≡ t → (if b3 then t3 else t) ≡ t →
        get_or e n None ≡ get_or e (first_by t n) None
    of_type n t b0 b1 b2 b3 h i0 i1 i2 i3 e0 e1 e2 e3 =
        let k = small t n h in
        let m = first_by t n in
        fourth.each n m h k (rw e3 at (kept 3 2 2 t3 t n b3 kept3 h i3)) (third.each n m h k (rw e2 at (kept 2 0 2 t2 t n b2 kept2 h i2))
        (second.each n m h k (rw e1 at (kept 1 2 0 t1 t n b1 kept1 h i1)) (first.each n m h k (rw e0 at (kept 0 0 0 t0 t n b0 kept0 h i0))
        (rw none (get_or-replicate 16 n None None h ∙ sym (get_or-replicate 16 m None None k))))))

    types : List SubPartition
    types = sub_partition_of t0 ∷ sub_partition_of t1 ∷ sub_partition_of t2 ∷ sub_partition_of t3 ∷ []

    by_quarter : (n : ℕ) → n < 16 → (q : ℕ) → n / 4 ≡ q → get_or e n None ≡ get_or e (first_of (P8x8 types) n) None
    by_quarter n h zero q = of_type n t0 true false false false h (rw q refl) (rw q refl) (rw q refl) (rw q refl) refl refl refl refl ∙
        ap (λ z. get_or e (n / 4 * 4 + first_in_sub (get_or types z sub.P8x8) (n % 4)) None) (sym q)
    by_quarter n h (suc zero) q = of_type n t1 false true false false h (rw q refl) (rw q refl) (rw q refl) (rw q refl) refl refl refl refl ∙
        ap (λ z. get_or e (n / 4 * 4 + first_in_sub (get_or types z sub.P8x8) (n % 4)) None) (sym q)
    by_quarter n h (suc (suc zero)) q = of_type n t2 false false true false h (rw q refl) (rw q refl) (rw q refl) (rw q refl) refl refl refl refl ∙
        ap (λ z. get_or e (n / 4 * 4 + first_in_sub (get_or types z sub.P8x8) (n % 4)) None) (sym q)
    by_quarter n h (suc (suc (suc zero))) q = of_type n t3 false false false true h (rw q refl) (rw q refl) (rw q refl) (rw q refl) refl refl refl refl ∙
        ap (λ z. get_or e (n / 4 * 4 + first_in_sub (get_or types z sub.P8x8) (n % 4)) None) (sym q)
    by_quarter n h (suc (suc (suc (suc q)))) f = absurd (omega arith)

-- mb_type 3 and 4
pub of-four : (kind : ℕ) (p : Partition) → kind ≢ 0 → kind ≢ 1 → kind ≢ 2 → IsOfType 3 p → IsOfType kind p
of-four zero p a b c is = absurd (a refl)
of-four (suc zero) p a b c is = absurd (b refl)
of-four (suc (suc zero)) p a b c is = absurd (c refl)
of-four (suc (suc (suc kind))) p a b c is = is
