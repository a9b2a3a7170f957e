-- Parts that are made of whole 8x8 blocks, and what is kept of them block by block.
use Rattle.std.proofs.Common.{◌≡◌, ◌≢◌, ℕ, zero, suc, ◌+◌, ◌*◌, ◌/◌, ◌%◌, ◌<◌, ◌≤◌, Bool, true, false, List, length, set, get_or, Option, Some, None, refl}
use Rattle.std.proofs.Common.{sym, ◌∙◌, arith, ◌⊎◌, inl, inr, ◌&&◌, nat_lt, if◌then◌else◌}
use Rattle.std.proofs.lemmas.Bool.{cases_lt, lt-ltb, le-ltb}
use Rattle.std.proofs.lemmas.Bool.Decides.{eqb_tells}
use Rattle.std.proofs.lemmas.List.{ext_get_or, get_or-set_other, length-set}
use Rattle.std.proofs.lemmas.List.FromFn.{get_or-map-range_with_len, length-map-range_with_len}
use Rattle.std.proofs.lemmas.Grind.{get_or-set_at}
use Rattle.h264_near.specs.declared.motion.Motion.{Motion}
use Rattle.h264_plane.specs.Blocks.{column_of, row_of}
use Rattle.h264_vectors.specs.declared.part.Part.{Part}
use Rattle.h264_vectors.specs.Derived.{lies, is_inside, in_part, with_part}
use Rattle.h264_vectors.specs.Agrees.{IsOfQuarters, IsQuarterFilled}

-- both places of a pair lie below an even number, or neither
below-even : (m a b : ℕ) → m % 2 ≡ 0 → b < 2 → nat_lt (a * 2 + b) m ≡ nat_lt (a * 2) m
below-even m a b e h = elim (cases_lt (a * 2) m) [
  | inl low ↦ lt-ltb (a * 2 + b) m (omega arith) ∙ sym (lt-ltb (a * 2) m low)
  | inr high ↦ le-ltb (a * 2 + b) m (omega arith) ∙ sym (le-ltb (a * 2) m high)
]

lies-even : (x size a b : ℕ) → x % 2 ≡ 0 → size % 2 ≡ 0 → b < 2 → lies x size (a * 2 + b) ≡ lies x size (a * 2)
lies-even x size a b e f h = rw (below-even x a b e h, below-even (x + size) a b (omega arith) h) refl

-- whether a part of whole quarters has the block with this number's quarter
abbrev pub has_quarter : Part → ℕ → Bool
has_quarter p q = lies p.x p.wide (q % 2 * 2) && lies p.y p.high (q / 2 * 2)

inside-quarter : (p : Part) (q k : ℕ) → IsOfQuarters p → k / 4 ≡ q → is_inside p k ≡ has_quarter p q
unfolding column_of row_of
inside-quarter p q k w e =
    let column : 2 * (k / 4 % 2) + k % 2 ≡ q % 2 * 2 + k % 2 = rw e (omega arith) in
    let row : 2 * (k / 8) + k / 2 % 2 ≡ q / 2 * 2 + k / 2 % 2 = omega arith in
    rw (column, row, lies-even p.x p.wide (q % 2) (k % 2) w.0 w.1 (omega arith), lies-even p.y p.high (q / 2) (k / 2 % 2) w.2 w.3 (omega arith)) refl

-- the rule by quarters, where it is known whether the part has the quarter
by-quarter : (p : Part) (q k : ℕ) (m : Motion) (old : Option Motion) (on : Bool) → IsOfQuarters p → has_quarter p q ≡ on → k / 4 ≡ q →
    in_part p k m old ≡ (if on then Some m else old)
by-quarter p q k m old on w h e = rw (inside-quarter p q k w e, h) refl

pub none-filled : (motions : List (Option Motion)) (p : Part) (q : ℕ) (m : Motion) → IsOfQuarters p → has_quarter p q ≡ false →
    IsQuarterFilled motions motions p q m
none-filled motions p q m w h k few = elim (eqb_tells (k / 4) q) [
  | inl same ↦ rw (same.0, by-quarter p q k m (get_or motions k None) false w h same.1) refl
  | inr other ↦ rw other.0 refl
]

-- four blocks written one after another
abbrev four_set : List (Option Motion) → ℕ → Option Motion → List (Option Motion)
four_set l i a = set (set (set (set l i a) (i + 1) a) (i + 2) a) (i + 3) a

four-other : (l : List (Option Motion)) (i k : ℕ) (a : Option Motion) → k ≢ i → k ≢ i + 1 → k ≢ i + 2 → k ≢ i + 3 →
    get_or (four_set l i a) k None ≡ get_or l k None
four-other l i k a e f g h =
    rw (
      get_or-set_other (set (set (set l i a) (i + 1) a) (i + 2) a) (i + 3) k a None h,
      get_or-set_other (set (set l i a) (i + 1) a) (i + 2) k a None g,
      get_or-set_other (set l i a) (i + 1) k a None f,
      get_or-set_other l i k a None e,
    ) refl

-- the last write to a place, or one before it
one-set : (l : List (Option Motion)) (i k : ℕ) (a : Option Motion) → i < length l → (k ≡ i) ⊎ (get_or l k None ≡ a) → get_or (set l i a) k None ≡ a
one-set l i k a h (inl e) = get_or-set_at l i k a None e h
one-set l i k a h (inr e) = elim (eqb_tells k i) [
  | inl same ↦ get_or-set_at l i k a None same.1 h
  | inr other ↦ get_or-set_other l i k a None other.1 ∙ e
]

four-same : (l : List (Option Motion)) (i k : ℕ) (a : Option Motion) → length l ≡ 16 → i + 3 < 16 → i ≤ k → k ≤ i + 3 → get_or (four_set l i a) k None ≡ a
four-same l i k a long few low high =
    let l1 = length-set l i a in
    let l2 = length-set (set l i a) (i + 1) a in
    let l3 = length-set (set (set l i a) (i + 1) a) (i + 2) a in
    one-set (set (set (set l i a) (i + 1) a) (i + 2) a) (i + 3) k a (omega arith) (elim (cases_lt k (i + 3)) [
      | inr last ↦ inl (omega arith)
      | inl before ↦ inr (one-set (set (set l i a) (i + 1) a) (i + 2) k a (omega arith) (elim (cases_lt k (i + 2)) [
        | inr third ↦ inl (omega arith)
        | inl earlier ↦ inr (one-set (set l i a) (i + 1) k a (omega arith) (elim (cases_lt k (i + 1)) [
          | inr second ↦ inl (omega arith)
          | inl first ↦ inr (one-set l i k a (omega arith) (inl (omega arith)))
        ]))
      ]))
    ])

pub one-filled : (motions : List (Option Motion)) (p : Part) (q : ℕ) (m : Motion) → length motions ≡ 16 → q < 4 → IsOfQuarters p → has_quarter p q ≡ true →
    IsQuarterFilled motions (four_set motions (4 * q) (Some m)) p q m
one-filled motions p q m long small w h k few = elim (eqb_tells (k / 4) q) [
  | inl same ↦ let e = same.1 in rw (same.0, by-quarter p q k m (get_or motions k None) true w h e)
      (four-same motions (4 * q) k (Some m) long (omega arith) (omega arith) (omega arith))
  | inr other ↦ let e = other.1 in rw other.0
      (four-other motions (4 * q) k (Some m) (λ f. e (omega arith)) (λ f. e (omega arith)) (λ f. e (omega arith)) (λ f. e (omega arith)))
]

-- four quarters are all blocks
pub all-filled : (a b c d e : List (Option Motion)) (p : Part) (m : Motion) → length e ≡ 16 → IsQuarterFilled a b p 0 m → IsQuarterFilled b c p 1 m →
    IsQuarterFilled c d p 2 m → IsQuarterFilled d e p 3 m → e ≡ with_part a p m
unfolding with_part
all-filled a b c d e p m long first second third fourth =
    ext_get_or None e (with_part a p m) (long ∙ sym (length-map-range_with_len (λ n. in_part p n m (get_or a n None)) 0 16))
    (λ k h. each k (omega arith) ∙ sym (get_or-map-range_with_len (λ n. in_part p n m (get_or a n None)) 0 16 k k None (omega arith) (omega arith)))
  where
    chain : (k : ℕ) → k < 16 → (q : ℕ) → k / 4 ≡ q → q < 4 → get_or e k None ≡ in_part p k m (get_or a k None)
    chain k h zero f g = rw (fourth k h, third k h, second k h, first k h, f) refl
    chain k h (suc zero) f g = rw (fourth k h, third k h, second k h, first k h, f) refl
    chain k h (suc (suc zero)) f g = rw (fourth k h, third k h, second k h, first k h, f) refl
    chain k h (suc (suc (suc zero))) f g = rw (fourth k h, third k h, second k h, first k h, f) refl
    chain k h (suc (suc (suc (suc q)))) f g = absurd (omega arith)

    each : (k : ℕ) → k < 16 → get_or e k None ≡ in_part p k m (get_or a k None)
    each k h = chain k h (k / 4) refl (omega arith)
