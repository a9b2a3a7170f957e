-- The RBSP up to the next emulation prevention byte, and after it.
use Rattle.std.proofs.Common.{◌≡◌, ℕ, zero, suc, ◌+◌, ◌-◌, ◌<◌, ◌≤◌, min, true, false, ◌&&◌, List, [], ◌∷◌, ◌++◌, length, take, drop, get_or, refl, ap, sym}
use Rattle.std.proofs.Common.{◌∙◌, arith, append_assoc, length-append}
use Rattle.std.specs.Prelude.{◌==◌}
use Rattle.std.proofs.lemmas.Bool.{and_parts, and_from, eqb-true, eq-eqb, cond-true, cond-false, false_from_ne_true}
use Rattle.std.proofs.lemmas.List.{append-nil, length-take, length-drop, take_all, drop_all, drop-drop, get_or-drop}
use Rattle.h264_rbsp.specs.Found.{IsFound}
use Rattle.h264_rbsp.specs.Rbsp.{is_prevention, rbsp_bytes, dropped_from}
use Rattle.h264_rbsp.proofs.Told.{zeros-on, zeros-back}

pub is-three : (l : List ℕ) (p : ℕ) → IsFound l 3 p → get_or l p 0 ≡ 3
is-three l p f = let a : 3 ≤ get_or l p 0 = f.low in let b : get_or l p 0 ≤ 3 = f.high in omega arith

module _ (x : ℕ) (l : List ℕ) where
  found-on : (p : ℕ) → IsFound l 3 p → IsFound (x ∷ l) 3 (suc p)
  found-on p f = record { zeros = zeros-on x l p f.zeros; low = f.low; high = f.high }

  found-back : (p : ℕ) → IsFound (x ∷ l) 3 (suc p) → 2 ≤ p → IsFound l 3 p
  found-back p f h = record { zeros = zeros-back x l p f.zeros h; low = f.low; high = f.high }

module _ (x y z : ℕ) (r : List ℕ) where
  found-here : is_prevention x y z ≡ true → IsFound (x ∷ y ∷ z ∷ r) 3 2
  found-here t =
      let p = and_parts ((x == 0) && (y == 0)) (z == 3) t in
      let q = and_parts (x == 0) (y == 0) p.0 in
      let e : z ≡ 3 = eqb-true z 3 p.1 in
      record {
        zeros = record { following = omega arith; within = omega arith; first = eqb-true x 0 q.0; second = eqb-true y 0 q.1 };
        low = omega arith;
        high = omega arith;
      }

  prevents : IsFound (x ∷ y ∷ z ∷ r) 3 2 → is_prevention x y z ≡ true
  prevents f = and_from ((x == 0) && (y == 0)) (z == 3) (and_from (x == 0) (y == 0) (eq-eqb x 0 f.zeros.first) (eq-eqb y 0 f.zeros.second))
      (eq-eqb z 3 (is-three (x ∷ y ∷ z ∷ r) 2 f))

  passes : ¬ IsFound (x ∷ y ∷ z ∷ r) 3 2 → is_prevention x y z ≡ false
  passes n = false_from_ne_true (is_prevention x y z) (λ t. n (found-here t))

  pub bytes-here : is_prevention x y z ≡ true → rbsp_bytes (x ∷ y ∷ z ∷ r) ≡ x ∷ y ∷ rbsp_bytes r
  unfolding rbsp_bytes
  bytes-here t = cond-true (is_prevention x y z) (x ∷ y ∷ rbsp_bytes r) (x ∷ rbsp_bytes (y ∷ z ∷ r)) t

  pub bytes-on : is_prevention x y z ≡ false → rbsp_bytes (x ∷ y ∷ z ∷ r) ≡ x ∷ rbsp_bytes (y ∷ z ∷ r)
  unfolding rbsp_bytes
  bytes-on t = cond-false (is_prevention x y z) (x ∷ y ∷ rbsp_bytes r) (x ∷ rbsp_bytes (y ∷ z ∷ r)) t

  pub dropped-here : (n : ℕ) → is_prevention x y z ≡ true → dropped_from n (x ∷ y ∷ z ∷ r) ≡ (n + 2) ∷ dropped_from (n + 2) r
  unfolding dropped_from
  dropped-here n t = cond-true (is_prevention x y z) ((n + 2) ∷ dropped_from (n + 2) r) (dropped_from (n + 1) (y ∷ z ∷ r)) t

  pub dropped-on : (n : ℕ) → is_prevention x y z ≡ false → dropped_from n (x ∷ y ∷ z ∷ r) ≡ dropped_from (n + 1) (y ∷ z ∷ r)
  unfolding dropped_from
  dropped-on n t = cond-false (is_prevention x y z) ((n + 2) ∷ dropped_from (n + 2) r) (dropped_from (n + 1) (y ∷ z ∷ r)) t

-- no emulation prevention byte in the first n bytes
abbrev pub NoneTo : List ℕ → ℕ → Type 0
NoneTo l n = (p : ℕ) → 2 ≤ p → p < n → IsFound l 3 p → ⊥

none-following : (x : ℕ) (l : List ℕ) (n : ℕ) → NoneTo (x ∷ l) (suc n) → NoneTo l n
none-following x l n h p low lt f = h (suc p) (omega arith) (omega arith) (found-on x l p f)

-- up to the next, and after it
pub bytes-front : (l : List ℕ) (n : ℕ) → IsFound l 3 n → NoneTo l n → rbsp_bytes l ≡ take n l ++ rbsp_bytes (drop (n + 1) l)
bytes-front l zero f h = absurd (omega (arith, f.zeros.following))
bytes-front l (suc zero) f h = absurd (omega (arith, f.zeros.following))
bytes-front [] (suc (suc n)) f h = absurd (omega (arith, f.zeros.within))
bytes-front (x ∷ []) (suc (suc n)) f h = absurd (omega (arith, f.zeros.within))
bytes-front (x ∷ y ∷ []) (suc (suc n)) f h = absurd (omega (arith, f.zeros.within))
bytes-front (x ∷ y ∷ z ∷ r) (suc (suc zero)) f h = bytes-here x y z r (prevents x y z r f)
bytes-front (x ∷ y ∷ z ∷ r) (suc (suc (suc n))) f h =
    bytes-on x y z r (passes x y z r (h 2 (omega arith) (omega arith)))
    ∙ ap (λ l. x ∷ l) (bytes-front (y ∷ z ∷ r) (suc (suc n)) (found-back x (y ∷ z ∷ r) (suc (suc n)) f (omega arith))
    (none-following x (y ∷ z ∷ r) (suc (suc n)) h))
    ∙ ap (λ k. x ∷ (take (suc (suc n)) (y ∷ z ∷ r) ++ rbsp_bytes (drop k (x ∷ y ∷ z ∷ r))))
    (let e : suc (suc (suc n) + 1) ≡ suc (suc (suc n)) + 1 = omega arith in e)

pub dropped-front : (l : List ℕ) (m n : ℕ) → IsFound l 3 n → NoneTo l n → dropped_from m l ≡ (m + n) ∷ dropped_from (m + n) (drop (n + 1) l)
dropped-front l m zero f h = absurd (omega (arith, f.zeros.following))
dropped-front l m (suc zero) f h = absurd (omega (arith, f.zeros.following))
dropped-front [] m (suc (suc n)) f h = absurd (omega (arith, f.zeros.within))
dropped-front (x ∷ []) m (suc (suc n)) f h = absurd (omega (arith, f.zeros.within))
dropped-front (x ∷ y ∷ []) m (suc (suc n)) f h = absurd (omega (arith, f.zeros.within))
dropped-front (x ∷ y ∷ z ∷ r) m (suc (suc zero)) f h = dropped-here x y z r m (prevents x y z r f)
dropped-front (x ∷ y ∷ z ∷ r) m (suc (suc (suc n))) f h =
    dropped-on x y z r m (passes x y z r (h 2 (omega arith) (omega arith)))
    ∙ dropped-front (y ∷ z ∷ r) (m + 1) (suc (suc n)) (found-back x (y ∷ z ∷ r) (suc (suc n)) f (omega arith)) (none-following x (y ∷ z ∷ r) (suc (suc n)) h)
    ∙ ap (λ k. k ∷ dropped_from k (drop (suc (suc n) + 1) (y ∷ z ∷ r))) (let e : m + 1 + suc (suc n) ≡ m + suc (suc (suc n)) = omega arith in e)
    ∙ ap (λ k. (m + suc (suc (suc n))) ∷ dropped_from (m + suc (suc (suc n))) (drop k (x ∷ y ∷ z ∷ r)))
    (let e : suc (suc (suc n) + 1) ≡ suc (suc (suc n)) + 1 = omega arith in e)

-- where there is none
pub bytes-whole : (l : List ℕ) → NoneTo l (length l) → rbsp_bytes l ≡ l
unfolding rbsp_bytes
bytes-whole [] h = refl
bytes-whole (x ∷ []) h = refl
bytes-whole (x ∷ y ∷ []) h = refl
bytes-whole (x ∷ y ∷ z ∷ r) h = bytes-on x y z r (passes x y z r (h 2 (omega arith) (omega arith))) ∙
    ap (λ l. x ∷ l) (bytes-whole (y ∷ z ∷ r) (none-following x (y ∷ z ∷ r) (length (y ∷ z ∷ r)) h))

pub dropped-whole : (l : List ℕ) (m : ℕ) → NoneTo l (length l) → dropped_from m l ≡ []
unfolding dropped_from
dropped-whole [] m h = refl
dropped-whole (x ∷ []) m h = refl
dropped-whole (x ∷ y ∷ []) m h = refl
dropped-whole (x ∷ y ∷ z ∷ r) m h = dropped-on x y z r m (passes x y z r (h 2 (omega arith) (omega arith))) ∙
    dropped-whole (y ∷ z ∷ r) (m + 1) (none-following x (y ∷ z ∷ r) (length (y ∷ z ∷ r)) h)

-- the same in the bytes from a place on
module _ (l : List ℕ) (start : ℕ) where
  drop-at : (k n : ℕ) → k ≡ start + n → get_or (drop start l) n 0 ≡ get_or l k 0
  drop-at k n e = get_or-drop start l n 0 ∙ ap (λ i. get_or l i 0) (sym e)

  found-whole : (p : ℕ) → IsFound (drop start l) 3 p → IsFound l 3 (start + p)
  found-whole p f =
      let b : 2 ≤ p = f.zeros.following in
      let w : p < length (drop start l) = f.zeros.within in
      let n : length (drop start l) ≡ length l - start = length-drop start l in
      let e : start + p - 2 ≡ start + (p - 2) = omega arith in
      let g : start + p - 1 ≡ start + (p - 1) = omega arith in
      let h : start + p ≡ start + p = refl in
      let v = drop-at (start + p) p h in
      let low : 3 ≤ get_or (drop start l) p 0 = f.low in
      let high : get_or (drop start l) p 0 ≤ 3 = f.high in
      record {
        zeros = record {
          following = omega arith;
          within = omega arith;
          first = sym (drop-at (start + p - 2) (p - 2) e) ∙ f.zeros.first;
          second = sym (drop-at (start + p - 1) (p - 1) g) ∙ f.zeros.second;
        };
        low = omega arith;
        high = omega arith;
      }

  found-part : (place : ℕ) → start + 2 ≤ place → IsFound l 3 place → IsFound (drop start l) 3 (place - start)
  found-part place following f =
      let w : place < length l = f.zeros.within in
      let n : length (drop start l) ≡ length l - start = length-drop start l in
      let e : place - 2 ≡ start + (place - start - 2) = omega arith in
      let g : place - 1 ≡ start + (place - start - 1) = omega arith in
      let h : place ≡ start + (place - start) = omega arith in
      let v = drop-at place (place - start) h in
      let low : 3 ≤ get_or l place 0 = f.low in
      let high : get_or l place 0 ≤ 3 = f.high in
      record {
        zeros = record {
          following = omega arith;
          within = omega arith;
          first = drop-at (place - 2) (place - start - 2) e ∙ f.zeros.first;
          second = drop-at (place - 1) (place - start - 1) g ∙ f.zeros.second;
        };
        low = omega arith;
        high = omega arith;
      }

-- what was copied, and what is left
module _ (payload : List ℕ) (start : ℕ) (bytes dropped : List ℕ) (b : bytes ++ rbsp_bytes (drop start payload) ≡ rbsp_bytes payload)
    (d : dropped ++ dropped_from (length bytes) (drop start payload) ≡ dropped_from 0 payload) where
  pub all-bytes : length payload ≤ start → bytes ≡ rbsp_bytes payload
  unfolding rbsp_bytes
  all-bytes h = sym (append-nil bytes) ∙ ap (λ l. bytes ++ rbsp_bytes l) (sym (drop_all start payload h)) ∙ b

  pub all-dropped : length payload ≤ start → dropped ≡ dropped_from 0 payload
  unfolding dropped_from
  all-dropped h = sym (append-nil dropped) ∙ ap (λ l. dropped ++ dropped_from (length bytes) l) (sym (drop_all start payload h)) ∙ d

  module _ (place : ℕ) (within : start ≤ length payload) (none : (p : ℕ) → start + 2 ≤ p → p < place → IsFound payload 3 p → ⊥) where
    none-part : NoneTo (drop start payload) (place - start)
    none-part p low lt f = none (start + p) (omega arith) (omega arith) (found-whole payload start p f)

    none-whole : place ≡ length payload → NoneTo (drop start payload) (length (drop start payload))
    none-whole e p low lt f = none-part p low (let n = length-drop start payload in omega arith) f

    pub last-bytes : place ≡ length payload → bytes ++ take (place - start) (drop start payload) ≡ rbsp_bytes payload
    last-bytes e = ap (λ l. bytes ++ l) (take_all (place - start) (drop start payload) (let n = length-drop start payload in omega arith) ∙
        sym (bytes-whole (drop start payload) (none-whole e))) ∙ b

    pub last-dropped : place ≡ length payload → dropped ≡ dropped_from 0 payload
    last-dropped e = sym (append-nil dropped) ∙ ap (λ l. dropped ++ l) (sym (dropped-whole (drop start payload) (length bytes) (none-whole e))) ∙ d

    module _ (following : start + 2 ≤ place) (f : IsFound payload 3 place) where
      front : IsFound (drop start payload) 3 (place - start)
      front = found-part payload start place following f

      on : drop (place - start + 1) (drop start payload) ≡ drop (place + 1) payload
      on = drop-drop (place - start + 1) start payload ∙ ap (λ k. drop k payload) (let e : start + (place - start + 1) ≡ place + 1 = omega arith in e)

      pub longer : length (bytes ++ take (place - start) (drop start payload)) ≡ length bytes + (place - start)
      longer =
          let w : place < length payload = f.zeros.within in
          let n : length (drop start payload) ≡ length payload - start = length-drop start payload in
          let t : length (take (place - start) (drop start payload)) ≡ min (place - start) (length (drop start payload)) =
          length-take (place - start) (drop start payload) in
          let a : length (bytes ++ take (place - start) (drop start payload)) ≡ length bytes + length (take (place - start) (drop start payload)) =
          length-append bytes (take (place - start) (drop start payload)) in
          omega arith

      pub more-bytes : (bytes ++ take (place - start) (drop start payload)) ++ rbsp_bytes (drop (place + 1) payload) ≡ rbsp_bytes payload
      more-bytes =
          append_assoc bytes (take (place - start) (drop start payload)) (rbsp_bytes (drop (place + 1) payload))
          ∙ ap (λ l. bytes ++ (take (place - start) (drop start payload) ++ rbsp_bytes l)) (sym on)
          ∙ ap (λ l. bytes ++ l) (sym (bytes-front (drop start payload) (place - start) front none-part)) ∙ b

      pub more-dropped : (dropped ++ length (bytes ++ take (place - start) (drop start payload)) ∷ []) ++
          dropped_from (length (bytes ++ take (place - start) (drop start payload))) (drop (place + 1) payload) ≡ dropped_from 0 payload
      more-dropped =
          ap (λ n. (dropped ++ n ∷ []) ++ dropped_from n (drop (place + 1) payload)) longer
          ∙ append_assoc dropped ((length bytes + (place - start)) ∷ []) (dropped_from (length bytes + (place - start)) (drop (place + 1) payload))
          ∙ ap (λ l. dropped ++ (length bytes + (place - start)) ∷ dropped_from (length bytes + (place - start)) l) (sym on)
          ∙ ap (λ l. dropped ++ l) (sym (dropped-front (drop start payload) (length bytes) (place - start) front none-part)) ∙ d
