-- Each byte of the RBSP is the unit's byte at its place.
use Rattle.std.proofs.Common.{◌≡◌, inl, inr, ℕ, zero, suc, ◌+◌, ◌-◌, ◌*◌, ◌/◌, ◌<◌, ◌≤◌, true, false, nat_le, List, [], ◌∷◌, length, drop, get_or, refl, ap}
use Rattle.std.proofs.Common.{sym, ◌∙◌, arith}
use Rattle.std.specs.Prelude.{slice_get}
use Rattle.std.specs.List.{count_by}
use Rattle.std.proofs.lemmas.Bool.{cases_Bool, lt-leb, le-leb}
use Rattle.std.proofs.lemmas.List.{length-drop}
use Rattle.h264_base.specs.Body.{place}
use Rattle.h264_units.specs.Stream.{NalUnit, past}
use Rattle.h264_rbsp.specs.Rbsp.{is_prevention, rbsp_bytes, dropped_from, body_of, IsPlaced, unit_byte}
use Rattle.h264_rbsp.proofs.Places.{count-none, count-all, count-yes}
use Rattle.h264_rbsp.proofs.Sizes.{above, below, all-bytes-count}
use Rattle.h264_rbsp.proofs.Unescapes.{bytes-here, bytes-on, dropped-here, dropped-on}

-- how many bytes were left out before byte n of the RBSP
count : ℕ → List ℕ → ℕ
count n l = count_by (λ d. nat_le d n) l

none-below : (m n : ℕ) (l : List ℕ) → n < m + 2 → count n (dropped_from m l) ≡ 0
unfolding count
none-below m n l h = count-none (λ d. nat_le d n) (dropped_from m l)
    (λ k d lt. lt-leb (get_or (dropped_from m l) k d) n (let a = above m l k d lt in omega arith))

count-next : (n m : ℕ) (l : List ℕ) → m ≤ n → count n (m ∷ l) ≡ 1 + count n l
unfolding count
count-next n m l h = count-yes (λ d. nat_le d n) m l (le-leb m n h)

at : (l : List ℕ) (i j : ℕ) → i ≡ j → slice_get l i ≡ slice_get l j
at l i j e = ap (slice_get l) e

-- the three first bytes lose their last
module _ (x y z : ℕ) (r : List ℕ) (m : ℕ) (t : is_prevention x y z ≡ true)
    (next : (k : ℕ) → k < length (rbsp_bytes r) → slice_get r (k + count (m + 2 + k) (dropped_from (m + 2) r)) ≡ slice_get (rbsp_bytes r) k) where
  placed-here : (k : ℕ) → k < length (rbsp_bytes (x ∷ y ∷ z ∷ r)) →
      slice_get (x ∷ y ∷ z ∷ r) (k + count (m + k) (dropped_from m (x ∷ y ∷ z ∷ r))) ≡ slice_get (rbsp_bytes (x ∷ y ∷ z ∷ r)) k
  placed-here zero h =
      let c = none-below m (m + 0) (x ∷ y ∷ z ∷ r) (omega arith) in
      at (x ∷ y ∷ z ∷ r) (0 + count (m + 0) (dropped_from m (x ∷ y ∷ z ∷ r))) 0 (omega arith) ∙ ap (λ l. slice_get l 0) (sym (bytes-here x y z r t))
  placed-here (suc zero) h =
      let c = none-below m (m + 1) (x ∷ y ∷ z ∷ r) (omega arith) in
      at (x ∷ y ∷ z ∷ r) (1 + count (m + 1) (dropped_from m (x ∷ y ∷ z ∷ r))) 1 (omega arith) ∙ ap (λ l. slice_get l 1) (sym (bytes-here x y z r t))
  placed-here (suc (suc k)) h =
      let e : m + suc (suc k) ≡ m + 2 + k = omega arith in
      let c = ap (count (m + suc (suc k))) (dropped-here x y z r m t) ∙ count-next (m + suc (suc k)) (m + 2) (dropped_from (m + 2) r) (omega arith) in
      let d = ap (λ n. count n (dropped_from (m + 2) r)) e in
      let b = ap length (bytes-here x y z r t) in
      at (x ∷ y ∷ z ∷ r) (suc (suc k) + count (m + suc (suc k)) (dropped_from m (x ∷ y ∷ z ∷ r)))
      (suc (suc (suc (k + count (m + 2 + k) (dropped_from (m + 2) r))))) (omega arith)
      ∙ next k (omega arith) ∙ ap (λ l. slice_get l (suc (suc k))) (sym (bytes-here x y z r t))

-- the first byte is passed on
module _ (x y z : ℕ) (r : List ℕ) (m : ℕ) (f : is_prevention x y z ≡ false)
    (next : (k : ℕ) → k < length (rbsp_bytes (y ∷ z ∷ r)) →
    slice_get (y ∷ z ∷ r) (k + count (m + 1 + k) (dropped_from (m + 1) (y ∷ z ∷ r))) ≡ slice_get (rbsp_bytes (y ∷ z ∷ r)) k) where
  placed-on : (k : ℕ) → k < length (rbsp_bytes (x ∷ y ∷ z ∷ r)) →
      slice_get (x ∷ y ∷ z ∷ r) (k + count (m + k) (dropped_from m (x ∷ y ∷ z ∷ r))) ≡ slice_get (rbsp_bytes (x ∷ y ∷ z ∷ r)) k
  placed-on zero h =
      let c = none-below m (m + 0) (x ∷ y ∷ z ∷ r) (omega arith) in
      at (x ∷ y ∷ z ∷ r) (0 + count (m + 0) (dropped_from m (x ∷ y ∷ z ∷ r))) 0 (omega arith) ∙ ap (λ l. slice_get l 0) (sym (bytes-on x y z r f))
  placed-on (suc k) h =
      let e : m + suc k ≡ m + 1 + k = omega arith in
      let c = ap (count (m + suc k)) (dropped-on x y z r m f) in
      let d = ap (λ n. count n (dropped_from (m + 1) (y ∷ z ∷ r))) e in
      let b = ap length (bytes-on x y z r f) in
      at (x ∷ y ∷ z ∷ r) (suc k + count (m + suc k) (dropped_from m (x ∷ y ∷ z ∷ r))) (suc (k + count (m + 1 + k) (dropped_from (m + 1) (y ∷ z ∷ r))))
      (omega arith)
      ∙ next k (omega arith) ∙ ap (λ l. slice_get l (suc k)) (sym (bytes-on x y z r f))

placed : (l : List ℕ) (m k : ℕ) → k < length (rbsp_bytes l) → slice_get l (k + count (m + k) (dropped_from m l)) ≡ slice_get (rbsp_bytes l) k
unfolding rbsp_bytes dropped_from count
placed [] m k h = absurd (omega arith)
placed (x ∷ []) m k h = at (x ∷ []) (k + 0) k (omega arith)
placed (x ∷ y ∷ []) m k h = at (x ∷ y ∷ []) (k + 0) k (omega arith)
placed (x ∷ y ∷ z ∷ r) m k h = elim (cases_Bool (is_prevention x y z)) [
  | inl t ↦ placed-here x y z r m t (λ k h. placed r (m + 2) k h) k h
  | inr f ↦ placed-on x y z r m f (λ k h. placed (y ∷ z ∷ r) (m + 1) k h) k h
]

first-byte : (l : List ℕ) (i : ℕ) → 0 < length l → slice_get l (suc i) ≡ slice_get (drop 1 l) i
first-byte [] i h = absurd (omega arith)
first-byte (x ∷ l) i h = refl

place-is : (unit : NalUnit) (k : ℕ) → place (body_of unit) (8 * k) ≡ 8 * (unit.from + 1) + 8 * k + 8 * count (8 * k / 8) (dropped_from 0 (drop 1 unit.body))
unfolding body_of place count
place-is unit k = refl

byte-is : (unit : NalUnit) (k : ℕ) → place (body_of unit) (8 * k) ≡ 8 * (unit.from + 1 + k + count k (dropped_from 0 (drop 1 unit.body)))
byte-is unit k =
    let q : 8 * k / 8 ≡ k = omega arith in
    let e = place-is unit k in
    let c = ap (λ n. count n (dropped_from 0 (drop 1 unit.body))) q in
    omega arith

all-below : (n : ℕ) (l : List ℕ) → length (rbsp_bytes l) ≤ n → count n (dropped_from 0 l) ≡ length (dropped_from 0 l)
unfolding count
all-below n l h = count-all (λ d. nat_le d n) (dropped_from 0 l) (λ k d lt. le-leb (get_or (dropped_from 0 l) k d) n (let b = below 0 l k d lt in omega arith))

bytes-of : (unit : NalUnit) → (body_of unit).bytes ≡ rbsp_bytes (drop 1 unit.body)
unfolding body_of
bytes-of unit = refl

pub is-placed : (unit : NalUnit) → 0 < length unit.body → IsPlaced unit
is-placed unit some = record { bytes = bytes; end = end }
  where
    payload : List ℕ
    payload = drop 1 unit.body

    bytes : (k : ℕ) → k < length (body_of unit).bytes → unit_byte unit (place (body_of unit) (8 * k) / 8) ≡ slice_get (body_of unit).bytes k
    bytes k h =
        let e = byte-is unit k in
        let b = ap length (bytes-of unit) in
        let p : place (body_of unit) (8 * k) / 8 - unit.from ≡ suc (k + count k (dropped_from 0 (drop 1 unit.body))) = omega arith in
        at unit.body (place (body_of unit) (8 * k) / 8 - unit.from) (suc (k + count k (dropped_from 0 (drop 1 unit.body)))) p
        ∙ first-byte unit.body (k + count k (dropped_from 0 (drop 1 unit.body))) some
        ∙ ap (λ n. slice_get (drop 1 unit.body) (k + count n (dropped_from 0 (drop 1 unit.body)))) (let z : k ≡ 0 + k = omega arith in z)
        ∙ placed (drop 1 unit.body) 0 k (omega arith)
        ∙ ap (λ l. slice_get l k) (sym (bytes-of unit))

    end : place (body_of unit) (8 * length (body_of unit).bytes) ≡ 8 * past unit
    end =
        let e = byte-is unit (length (body_of unit).bytes) in
        let b = ap length (bytes-of unit) in
        let c = all-below (length (body_of unit).bytes) (drop 1 unit.body) (omega arith) in
        let n = all-bytes-count 0 (drop 1 unit.body) in
        let d = length-drop 1 unit.body in
        omega arith
