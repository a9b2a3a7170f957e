-- The places of the bytes that are left out rise, and none is lost.
use Rattle.std.proofs.Common.{◌≡◌, inl, inr, ℕ, zero, suc, ◌+◌, ◌*◌, ◌<◌, ◌≤◌, List, [], ◌∷◌, length, drop, get_or, refl, ap, sym, ◌∙◌, subst, arith}
use Rattle.std.specs.List.Sorted.{IsNonDecreasingBy}
use Rattle.std.proofs.lemmas.Bool.{cases_Bool}
use Rattle.h264_base.specs.Body.{Body}
use Rattle.h264_units.specs.Stream.{NalUnit, unit_limit, input_limit}
use Rattle.h264_rbsp.specs.Rbsp.{is_prevention, rbsp_bytes, dropped_from, body_of, IsSound}
use Rattle.h264_rbsp.proofs.Unescapes.{bytes-here, bytes-on, dropped-here, dropped-on}

-- each byte is in the RBSP or left out
pub all-bytes-count : (m : ℕ) (l : List ℕ) → length (rbsp_bytes l) + length (dropped_from m l) ≡ length l
unfolding rbsp_bytes dropped_from
all-bytes-count m [] = refl
all-bytes-count m (x ∷ []) = refl
all-bytes-count m (x ∷ y ∷ []) = refl
all-bytes-count m (x ∷ y ∷ z ∷ r) = elim (cases_Bool (is_prevention x y z)) [
  | inl t ↦ let a = ap length (bytes-here x y z r t) in let b = ap length (dropped-here x y z r m t) in let c = all-bytes-count (m + 2) r in omega arith
  | inr f ↦ let a = ap length (bytes-on x y z r f) in let b = ap length (dropped-on x y z r m f) in let c = all-bytes-count (m + 1) (y ∷ z ∷ r) in omega arith
]

above-here : (n : ℕ) (l : List ℕ) → ((k d : ℕ) → k < length l → n + 2 ≤ get_or l k d) → (k d : ℕ) → k < length (n ∷ l) → n ≤ get_or (n ∷ l) k d
above-here n l next zero d h = omega arith
above-here n l next (suc k) d h = let m = next k d (omega arith) in omega arith

-- none is left out before the bytes that were read
pub above : (m : ℕ) (l : List ℕ) (k d : ℕ) → k < length (dropped_from m l) → m + 2 ≤ get_or (dropped_from m l) k d
unfolding dropped_from
above m [] k d h = absurd (omega arith)
above m (x ∷ []) k d h = absurd (omega arith)
above m (x ∷ y ∷ []) k d h = absurd (omega arith)
above m (x ∷ y ∷ z ∷ r) k d h = elim (cases_Bool (is_prevention x y z)) [
  | inl t ↦ subst (λ l. k < length l → m + 2 ≤ get_or l k d) (sym (dropped-here x y z r m t))
      (above-here (m + 2) (dropped_from (m + 2) r) (λ k d. above (m + 2) r k d) k d) h
  | inr f ↦ subst (λ l. k < length l → m + 2 ≤ get_or l k d) (sym (dropped-on x y z r m f)) (λ h. let n = above (m + 1) (y ∷ z ∷ r) k d h in omega arith) h
]

below-here : (n : ℕ) (l : List ℕ) (top : ℕ) → n ≤ top → ((k d : ℕ) → k < length l → get_or l k d ≤ top) → (k d : ℕ) → k < length (n ∷ l) →
    get_or (n ∷ l) k d ≤ top
below-here n l top h next zero d lt = h
below-here n l top h next (suc k) d lt = next k d (omega arith)

-- nor after the last byte of the RBSP
pub below : (m : ℕ) (l : List ℕ) (k d : ℕ) → k < length (dropped_from m l) → get_or (dropped_from m l) k d ≤ m + length (rbsp_bytes l)
unfolding dropped_from
below m [] k d h = absurd (omega arith)
below m (x ∷ []) k d h = absurd (omega arith)
below m (x ∷ y ∷ []) k d h = absurd (omega arith)
below m (x ∷ y ∷ z ∷ r) k d h = elim (cases_Bool (is_prevention x y z)) [
  | inl t ↦ let b = ap length (bytes-here x y z r t) in
      subst (λ l. k < length l → get_or l k d ≤ m + length (rbsp_bytes (x ∷ y ∷ z ∷ r))) (sym (dropped-here x y z r m t))
      (below-here (m + 2) (dropped_from (m + 2) r) (m + length (rbsp_bytes (x ∷ y ∷ z ∷ r))) (omega arith)
      (λ k d lt. let n = below (m + 2) r k d lt in omega arith) k d) h
  | inr f ↦ let b = ap length (bytes-on x y z r f) in
      subst (λ l. k < length l → get_or l k d ≤ m + length (rbsp_bytes (x ∷ y ∷ z ∷ r))) (sym (dropped-on x y z r m f))
      (λ h. let n = below (m + 1) (y ∷ z ∷ r) k d h in omega arith) h
]

rises-on : (m : ℕ) (l : List ℕ) → ((k d : ℕ) → k < length l → m ≤ get_or l k d) → IsNonDecreasingBy (λ (p : ℕ). p) l → IsNonDecreasingBy (λ (p : ℕ). p) (m ∷ l)
rises-on m l low h zero zero d i j = omega arith
rises-on m l low h zero (suc b) d i j = low b d (omega arith)
rises-on m l low h (suc a) zero d i j = absurd (omega arith)
rises-on m l low h (suc a) (suc b) d i j = h a b d (omega arith) (omega arith)

pub rises : (m : ℕ) (l : List ℕ) → IsNonDecreasingBy (λ (p : ℕ). p) (dropped_from m l)
unfolding dropped_from
rises m [] = λ i j d a b. absurd (omega arith)
rises m (x ∷ []) = λ i j d a b. absurd (omega arith)
rises m (x ∷ y ∷ []) = λ i j d a b. absurd (omega arith)
rises m (x ∷ y ∷ z ∷ r) = elim (cases_Bool (is_prevention x y z)) [
  | inl t ↦ subst (IsNonDecreasingBy (λ (p : ℕ). p)) (sym (dropped-here x y z r m t))
      (rises-on (m + 2) (dropped_from (m + 2) r) (λ k d h. let n = above (m + 2) r k d h in omega arith) (rises (m + 2) r))
  | inr f ↦ subst (IsNonDecreasingBy (λ (p : ℕ). p)) (sym (dropped-on x y z r m f)) (rises (m + 1) (y ∷ z ∷ r))
]

-- the RBSP of a unit is sound
pub sound : (from : ℕ) (payload : List ℕ) → length payload < unit_limit → from + 1 + length payload ≤ input_limit →
    IsSound (rbsp_bytes payload) (8 * (from + 1)) (dropped_from 0 payload)
sound from payload fits judged = let n = all-bytes-count 0 payload in record { fits = omega arith; judged = omega arith; sorted = rises 0 payload }

made : List ℕ → ℕ → List ℕ → Body
made bytes first dropped = record { bytes = bytes; first = first; dropped = dropped }

pub same-body : (unit : NalUnit) (from : ℕ) (body payload bytes dropped : List ℕ) → from ≡ unit.from → body ≡ unit.body → payload ≡ drop 1 body →
    bytes ≡ rbsp_bytes payload → dropped ≡ dropped_from 0 payload → record { bytes = bytes; first = 8 * (from + 1); dropped = dropped } ≡ body_of unit
unfolding made body_of
same-body unit from body payload bytes dropped f b p e d =
    let q : payload ≡ drop 1 unit.body = p ∙ ap (drop 1) b in
    ap (λ l. made l (8 * (from + 1)) dropped) (e ∙ ap rbsp_bytes q)
    ∙ ap (λ n. made (rbsp_bytes (drop 1 unit.body)) (8 * (n + 1)) dropped) f
    ∙ ap (made (rbsp_bytes (drop 1 unit.body)) (8 * (unit.from + 1))) (d ∙ ap (dropped_from 0) q)

pub sound-along : (bytes bytes' : List ℕ) (first : ℕ) (dropped dropped' : List ℕ) → bytes ≡ bytes' → dropped ≡ dropped' → IsSound bytes' first dropped' →
    IsSound bytes first dropped
sound-along bytes bytes' first dropped dropped' e f s = subst (λ l. IsSound l first dropped) (sym e) (subst (λ l. IsSound bytes' first l) (sym f) s)
