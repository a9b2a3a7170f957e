-- Bits stand together where the first and the last of them do.
use Rattle.std.proofs.Common.{◌≡◌, ℕ, ◌+◌, ◌*◌, ◌-◌, ◌/◌, ◌<◌, ◌≤◌, ◌^◌, Bool, true, false, List, [], ◌∷◌, length, nat_le, cond, refl, arith}
use Rattle.std.specs.List.{count_by}
use Rattle.std.proofs.lemmas.Bool.{le-leb, leb-true}
use Rattle.std.proofs.lemmas.List.Recursion.{is_count_by}
use Rattle.h264_base.specs.Body.{Body, place}
use Rattle.h264_bits.specs.Stretch.{IsStretch}
use Rattle.h264_bits.specs.declared.stretch.Stretch.{Stretch}

-- how many of these numbers are at most k
unfoldable counted : ℕ → List ℕ → ℕ
counted k [] = 0
counted k (d ∷ ds) = cond (nat_le d k) (1 + counted k ds) (counted k ds)

counted-is : (k : ℕ) (ds : List ℕ) → counted k ds ≡ count_by (λ d. nat_le d k) ds
unfolding counted
counted-is k ds = is_count_by (counted k) (λ d. nat_le d k) refl (λ d ds. refl) ds

counted-more : (k m : ℕ) (ds : List ℕ) → k ≤ m → counted k ds ≤ counted m ds
unfolding counted
counted-more k m [] h = omega arith
counted-more k m (d ∷ ds) h = go (nat_le d k) refl (counted-more k m ds h)
  where
    rest : (c : Bool) → counted k ds ≤ counted m ds → counted k ds ≤ cond c (1 + counted m ds) (counted m ds)
    rest true more = omega arith
    rest false more = more

    go : (b : Bool) → nat_le d k ≡ b → counted k ds ≤ counted m ds →
        cond b (1 + counted k ds) (counted k ds) ≤ cond (nat_le d m) (1 + counted m ds) (counted m ds)
    go true e more = let below = leb-true d k e in rw (le-leb d m (omega arith)) (omega arith)
    go false e more = rest (nat_le d m) more

count-more : (k m : ℕ) (ds : List ℕ) → k ≤ m → count_by (λ d. nat_le d k) ds ≤ count_by (λ d. nat_le d m) ds
count-more k m ds h = let c = counted-more k m ds h in let a = counted-is k ds in let b = counted-is m ds in omega arith

-- the stream bit of a later bit is as much later, or more
pub place-later : (body : Body) (i j : ℕ) → i ≤ j → place body i + (j - i) ≤ place body j
unfolding place
place-later body i j h = let c = count-more (i / 8) (j / 8) body.dropped (omega arith) in omega arith

pub place-after : (body : Body) (i : ℕ) → i ≤ place body i
unfolding place
place-after body i = omega arith

-- bits stand together where the first and the last of them are as far apart
pub between : (body : Body) (from last shift : ℕ) → from ≤ last → last ≤ 8 * length body.bytes → place body from ≡ from + shift →
    place body last ≡ last + shift → last + shift < 2 ^ 64 → IsStretch body from (record { shift = shift; last = last })
between body from last shift some inside a b fits = record {
  some = some;
  inside = inside;
  steady = λ i low high.
      let p = place-later body from i low in
      let q = place-later body i last high in
      (omega arith, omega arith);
}

same-byte : (body : Body) (i j shift : ℕ) → i / 8 ≡ j / 8 → place body i ≡ i + shift → place body j ≡ j + shift
unfolding place
same-byte body i j shift same e = let f = rw same at e in omega arith

-- so do those of one byte
pub in-byte : (body : Body) (from last shift : ℕ) → from ≤ last → last ≤ 8 * length body.bytes → last / 8 ≡ from / 8 → place body from ≡ from + shift →
    last + shift < 2 ^ 64 → IsStretch body from (record { shift = shift; last = last })
in-byte body from last shift some inside same a fits = between body from last shift some inside a (same-byte body from last shift (omega arith) a) fits

-- the first and the last of them
pub ends-of : (body : Body) (from : ℕ) (s : Stretch) → IsStretch body from s → (place body from ≡ from + s.shift) × (place body s.last ≡ s.last + s.shift)
ends-of body from s is = let some = is.some in ((is.steady from (omega arith) some).0, (is.steady s.last some (omega arith)).0)
