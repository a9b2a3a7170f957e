-- The end of a payload, by the places of its bits.
use Rattle.std.proofs.Common.{◌≡◌, ◌≢◌, ℕ, zero, suc, ◌+◌, ◌-◌, ◌*◌, ◌/◌, ◌%◌, ◌^◌, ◌<◌, ◌≤◌, ◌==◌, ◌&&◌, ◌||◌, Bool, List, Some, None, true, false, nat_lt}
use Rattle.std.proofs.Common.{nat_le, ◌⊎◌, inl, inr, refl, sym, ap, ◌∙◌, arith}
use Rattle.std.specs.List.{count_by}
use Rattle.std.proofs.lemmas.Bool.{eq-eqb, ne_eqb, lt-ltb, le-ltb, cases_lt}
use Rattle.std.proofs.Math.Bool.{and-false}
use Rattle.h264_base.specs.Body.{Body, place}
use Rattle.h264_bits.proofs.Stretches.{place-later}
use Rattle.h264_strict.specs.SeiPart.{u}
use Rattle.h264_strict.specs.SeiPayload.{has_value, is_closed}

-- bits of one byte stand together
place-same : (body : Body) (i j : ℕ) → i / 8 ≡ j / 8 → place body j + i ≡ place body i + j
unfolding place
place-same body i j e = let p = ap (λ b. count_by (λ d. nat_le d b) body.dropped) e in omega arith

one-place : (body : Body) (i j : ℕ) → place body i ≡ place body j → i ≡ j
one-place body i j e = go (cases_lt i j) (cases_lt j i) where
  go : (i < j) ⊎ (j ≤ i) → (j < i) ⊎ (i ≤ j) → i ≡ j
  go (inl less) o = let within : i ≤ j = omega arith in let a = place-later body i j within in omega arith
  go (inr h) (inl more) = let within : j ≤ i = omega arith in let a = place-later body j i within in omega arith
  go (inr h) (inr k) = omega arith

-- a bit that stands before another, or with it
not-after : (body : Body) (i j : ℕ) → place body i ≤ place body j → i ≤ j
not-after body i j h = go (cases_lt j i) where
  go : (j < i) ⊎ (i ≤ j) → i ≤ j
  go (inl more) = let within : j ≤ i = omega arith in let a = place-later body j i within in omega arith
  go (inr k) = k

before-by : (body : Body) (i j : ℕ) → place body i < place body j → i < j
before-by body i j h = go (cases_lt i j) where
  go : (i < j) ⊎ (j ≤ i) → i < j
  go (inl less) = less
  go (inr k) = let a = place-later body j i k in omega arith

-- the bits left, where the content ends in the last byte
pub left-is : (body : Body) (at end : ℕ) → end % 8 ≡ 0 → 8 ≤ end → place body (end - 8) < place body at → place body at - place body (end - 8) < 8 →
    (end - 8 < at) × (at < end) × (8 - (place body at - place body (end - 8)) ≡ end - at)
left-is body at end byte some past near =
    let after : end - 8 < at = before-by body (end - 8) at past in
    let c = place-later body (end - 8) end (omega arith) in
    let nearer : place body at < place body end = omega arith in
    let before : at < end = before-by body at end nearer in
    let one : (end - 8) / 8 ≡ at / 8 = omega arith in
    let d = place-same body (end - 8) at one in
    (after, before, omega arith)

pub outside-before : (body : Body) (at end : ℕ) → place body at ≤ place body (end - 8) → at ≤ end - 8
outside-before body at end h = not-after body at (end - 8) h

pub outside-after : (body : Body) (at end : ℕ) → end % 8 ≡ 0 → 8 ≤ end → place body (end - 8) < place body at → 8 ≤ place body at - place body (end - 8) →
    end ≤ at
outside-after body at end byte some past far = go (cases_lt at end) where
  go : (at < end) ⊎ (end ≤ at) → end ≤ at
  go (inl less) =
      let after : end - 8 < at = before-by body (end - 8) at past in
      let one : (end - 8) / 8 ≡ at / 8 = omega arith in
      let d = place-same body (end - 8) at one in
      omega arith
  go (inr k) = k

pub closed-here : (body : Body) (bytes : List ℕ) (at end : ℕ) → place body at ≡ place body end → true ≡ is_closed bytes at end
closed-here body bytes at end e =
    sym (ap (λ t. t || nat_lt (end - 8) at && nat_lt at end && has_value (2 ^ (end - at - 1)) (u (end - at) bytes at))
    (eq-eqb at end (one-place body at end e)))

-- a bit in 32 bits
small : (k : ℕ) → k < 7 → 1 * 2 ^ k % 4294967296 ≡ 2 ^ k
small zero h = refl
small (suc zero) h = refl
small (suc (suc zero)) h = refl
small (suc (suc (suc zero))) h = refl
small (suc (suc (suc (suc zero)))) h = refl
small (suc (suc (suc (suc (suc zero))))) h = refl
small (suc (suc (suc (suc (suc (suc zero)))))) h = refl
small (suc (suc (suc (suc (suc (suc (suc k))))))) h = omega arith

module _ (bytes : List ℕ) (at end : ℕ) (not_end : at ≢ end) where
  abbrev last : Bool
  last = has_value (2 ^ (end - at - 1)) (u (end - at) bytes at)

  first-not : is_closed bytes at end ≡ (nat_lt (end - 8) at && nat_lt at end && last)
  first-not = ap (λ t. t || nat_lt (end - 8) at && nat_lt at end && last) (ne_eqb at end not_end)

  -- it ends before the last byte, or after it
  pub open-before : at ≤ end - 8 → false ≡ is_closed bytes at end
  open-before h = sym (first-not ∙ ap (λ t. t && nat_lt at end && last) (le-ltb (end - 8) at h))

  pub open-after : end ≤ at → false ≡ is_closed bytes at end
  open-after h = sym (first-not ∙ ap (λ t. nat_lt (end - 8) at && t && last) (le-ltb at end h) ∙ ap (λ t. t && last) (and-false (nat_lt (end - 8) at)))

  -- the bits that are left say it
  closed-last : (left : ℕ) → (end - 8 < at) × (at < end) × (left ≡ end - at) → is_closed bytes at end ≡ has_value (2 ^ (left - 1)) (u left bytes at)
  closed-last left h =
      first-not
      ∙ ap (λ t. t && nat_lt at end && last) (lt-ltb (end - 8) at h.0)
      ∙ ap (λ t. t && last) (lt-ltb at end h.1)
      ∙ ap (λ n. has_value (2 ^ (n - 1)) (u n bytes at)) (sym h.2)

  pub closed-none : (left : ℕ) → (end - 8 < at) × (at < end) × (left ≡ end - at) → None ≡ u left bytes at → false ≡ is_closed bytes at end
  closed-none left h e = sym (closed-last left h ∙ ap (has_value (2 ^ (left - 1))) (sym e))

  pub closed-some : (left v j : ℕ) → (end - 8 < at) × (at < end) × (left ≡ end - at) → Some (v, j) ≡ u left bytes at →
      (v == 1 * 2 ^ (left - 1) % 4294967296) ≡ is_closed bytes at end
  closed-some left v j h e =
      let few = h.0 in
      let less = h.1 in
      let is = h.2 in
      let bound : left - 1 < 7 = omega arith in
      ap (λ n. v == n) (small (left - 1) bound) ∙ sym (closed-last left h ∙ ap (has_value (2 ^ (left - 1))) (sym e))
