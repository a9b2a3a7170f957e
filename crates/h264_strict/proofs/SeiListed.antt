-- Messages of SEI are those that a reader finds.
use Rattle.std.proofs.Common.{◌≡◌, ◌≢◌, ℕ, zero, suc, ◌+◌, ◌*◌, ◌<◌, ◌≤◌, ◌==◌, ◌&&◌, ◌||◌, List, [], ◌∷◌, ◌++◌, length, take, drop, slice_index, arith, Bool}
use Rattle.std.proofs.Common.{true, false, Option, None, Some, if◌then◌else◌, nat_lt, nat_le, refl, sym, ap, ap₂, subst, ◌∙◌, ◌⊎◌, inl, inr}
use Rattle.std.proofs.lemmas.Bool.{cases_eq, cond-true, cond-false, eq-eqb, ne_eqb, eqb-true, false≢true, lt-ltb, ltb-true, le-leb, leb-true, and_from}
use Rattle.std.proofs.lemmas.Bool.{and_parts}
use Rattle.std.proofs.Math.Bool.{or-true}
use Rattle.std.proofs.Math.Seq.{drop-append_seam}
use Rattle.std.proofs.lemmas.List.{take-append-drop, length-append, length-take-le}
use Rattle.h264_strict.specs.SeiMessages.{is_trailing, ff_bytes, payload_value, payload_start, message_of, message_length, are_messages, is_sei}
use Rattle.h264_strict.specs.Sei.{coded, SeiMessage, message_before, IsMessage, AreMessages, IsSei}
use Rattle.h264_strict.proofs.SeiReading.{sei-some, sei-none, sei-out}
use Rattle.h264_base.proofs.Plain.{some-same}

-- ---- a value in bytes FF and one more

ff-coded : (k b : ℕ) (xs : List ℕ) → b ≢ 255 → ff_bytes (coded k b xs) ≡ k
ff-coded zero b xs other = cond-false (b == 255) (1 + ff_bytes xs) 0 (ne_eqb b 255 other)
ff-coded (suc k) b xs other = let up : 1 + k ≡ suc k = omega arith in ap (λ n. 1 + n) (ff-coded k b xs other) ∙ up

drop-coded : (k b n : ℕ) (xs : List ℕ) → drop ((k + 1) + n) (coded k b xs) ≡ drop n xs
drop-coded zero b n xs = let up : (0 + 1) + n ≡ suc n = omega arith in ap (λ m. drop m (b ∷ xs)) up
drop-coded (suc k) b n xs = let up : (suc k + 1) + n ≡ suc ((k + 1) + n) = omega arith in ap (λ m. drop m (coded (suc k) b xs)) up ∙ drop-coded k b n xs

past-coded : (k b : ℕ) (xs : List ℕ) → drop (k + 1) (coded k b xs) ≡ xs
past-coded k b xs = let up : k + 1 ≡ (k + 1) + 0 = omega arith in ap (λ m. drop m (coded k b xs)) up ∙ drop-coded k b 0 xs

last-coded : (k b : ℕ) (xs : List ℕ) → slice_index (coded k b xs) k ≡ b
last-coded zero b xs = refl
last-coded (suc k) b xs = last-coded k b xs

length-coded : (k b : ℕ) (xs : List ℕ) → length (coded k b xs) ≡ (k + 1) + length xs
length-coded zero b xs = let up : suc (length xs) ≡ (0 + 1) + length xs = omega arith in up
length-coded (suc k) b xs = let up : suc ((k + 1) + length xs) ≡ (suc k + 1) + length xs = omega arith in ap suc (length-coded k b xs) ∙ up

value-coded : (k b : ℕ) (xs : List ℕ) → b ≢ 255 → payload_value (coded k b xs) ≡ 255 * k + b
value-coded k b xs other = ap (λ n. 255 * n + slice_index (coded k b xs) n) (ff-coded k b xs other) ∙ ap (λ x. 255 * k + x) (last-coded k b xs)

-- a value stands at the front
split-coded : (bytes : List ℕ) → ff_bytes bytes < length bytes → (b : ℕ) × (b ≢ 255) × (xs : List ℕ) × (bytes ≡ coded (ff_bytes bytes) b xs)
split-coded [] within = absurd (none within) where
  none : 0 < 0 → ⊥
  none h = omega arith
split-coded (y ∷ ys) within = go (cases_eq y 255) (split-coded ys) where
  go : (y ≡ 255) ⊎ (y ≡ 255 → ⊥) → (ff_bytes ys < length ys → (b : ℕ) × (b ≢ 255) × (xs : List ℕ) × (ys ≡ coded (ff_bytes ys) b xs)) →
      (b : ℕ) × (b ≢ 255) × (xs : List ℕ) × (y ∷ ys ≡ coded (ff_bytes (y ∷ ys)) b xs)
  go (inl e) later =
      let one : ff_bytes (y ∷ ys) ≡ 1 + ff_bytes ys = cond-true (y == 255) (1 + ff_bytes ys) 0 (eq-eqb y 255 e) in
      let up : ff_bytes (y ∷ ys) ≡ suc (ff_bytes ys) = omega (arith, one) in
      let inside : ff_bytes (y ∷ ys) < suc (length ys) = within in
      let less : ff_bytes ys < length ys = omega (arith, one, inside) in
      let s = later less in
      (s.0, s.1, s.2, ap₂ (λ (z : ℕ) (zs : List ℕ). z ∷ zs) e s.3 ∙ ap (λ n. coded n s.0 s.2) (sym up))
  go (inr other) later =
      let none : ff_bytes (y ∷ ys) ≡ 0 = cond-false (y == 255) (1 + ff_bytes ys) 0 (ne_eqb y 255 other) in
      (y, other, ys, ap (λ n. coded n y ys) (sym none))

-- ---- a message

abbrev pub size_of : SeiMessage → ℕ
size_of m = m.type_ffs + 1 + (m.size_ffs + 1) + (255 * m.size_ffs + m.last_payload_size_byte)

abbrev pub sized_of : SeiMessage → List ℕ → List ℕ
sized_of m rest = coded m.size_ffs m.last_payload_size_byte (m.payload ++ rest)

drop-message : (m : SeiMessage) (rest : List ℕ) → IsMessage m → drop (size_of m) (message_before m rest) ≡ rest
drop-message m rest is =
    let v = 255 * m.size_ffs + m.last_payload_size_byte in
    let up : m.type_ffs + 1 + (m.size_ffs + 1) + v ≡ (m.type_ffs + 1) + ((m.size_ffs + 1) + v) = omega arith in
    ap (λ n. drop n (message_before m rest)) up
    ∙ drop-coded m.type_ffs m.last_payload_type_byte ((m.size_ffs + 1) + v) (sized_of m rest)
    ∙ drop-coded m.size_ffs m.last_payload_size_byte v (m.payload ++ rest)
    ∙ ap (λ n. drop n (m.payload ++ rest)) (sym is.sized)
    ∙ drop-append_seam m.payload rest

length-message : (m : SeiMessage) (rest : List ℕ) → IsMessage m → length (message_before m rest) ≡ size_of m + length rest
length-message m rest is =
    let v = 255 * m.size_ffs + m.last_payload_size_byte in
    let a = length-coded m.type_ffs m.last_payload_type_byte (sized_of m rest) in
    let b = length-coded m.size_ffs m.last_payload_size_byte (m.payload ++ rest) in
    let c = length-append m.payload rest in
    let d = is.sized in
    let up : (m.type_ffs + 1) + ((m.size_ffs + 1) + (v + length rest)) ≡ (m.type_ffs + 1 + (m.size_ffs + 1) + v) + length rest = omega arith in
    a ∙ ap (λ n. (m.type_ffs + 1) + n) (b ∙ ap (λ n. (m.size_ffs + 1) + n) (c ∙ ap (λ n. n + length rest) d)) ∙ up

-- the length that is read of a message at the front
length-is : (bytes xs : List ℕ) (k : ℕ) → ff_bytes bytes ≡ k → drop (k + 1) bytes ≡ xs → k < length bytes → ff_bytes xs < length xs →
    k + 1 + (ff_bytes xs + 1) + payload_value xs ≤ length bytes → message_length bytes ≡ Some (k + 1 + (ff_bytes xs + 1) + payload_value xs)
unfolding message_length
length-is bytes xs k first past inside within fits =
    let some = subst (λ n. nat_lt n (length bytes) ≡ true) (sym first) (lt-ltb k (length bytes) inside) in
    cond-true (nat_lt (ff_bytes bytes) (length bytes)) (message_of (ff_bytes bytes) (drop (ff_bytes bytes + 1) bytes) bytes) None some
    ∙ ap (λ n. message_of n (drop (n + 1) bytes) bytes) first
    ∙ ap (λ l. message_of k l bytes) past
    ∙ cond-true (nat_lt (ff_bytes xs) (length xs) && nat_le (k + 1 + (ff_bytes xs + 1) + payload_value xs) (length bytes))
    (Some (k + 1 + (ff_bytes xs + 1) + payload_value xs)) None
    (and_from _ _ (lt-ltb (ff_bytes xs) (length xs) within) (le-leb (k + 1 + (ff_bytes xs + 1) + payload_value xs) (length bytes) fits))

message-read : (m : SeiMessage) (rest : List ℕ) → IsMessage m → message_length (message_before m rest) ≡ Some (size_of m)
message-read m rest is =
    let bytes = message_before m rest in
    let xs = sized_of m rest in
    let first = ff-coded m.type_ffs m.last_payload_type_byte xs is.type_ends in
    let second = ff-coded m.size_ffs m.last_payload_size_byte (m.payload ++ rest) is.size_ends in
    let value = value-coded m.size_ffs m.last_payload_size_byte (m.payload ++ rest) is.size_ends in
    let whole = length-message m rest is in
    let a = length-coded m.type_ffs m.last_payload_type_byte xs in
    let b = length-coded m.size_ffs m.last_payload_size_byte (m.payload ++ rest) in
    let size : m.type_ffs + 1 + (ff_bytes xs + 1) + payload_value xs ≡ size_of m = ap₂ (λ f v. m.type_ffs + 1 + (f + 1) + v) second value in
    let inside : m.type_ffs < length bytes = omega (arith, a) in
    let within : ff_bytes xs < length xs = omega (arith, b, second) in
    let fits : m.type_ffs + 1 + (ff_bytes xs + 1) + payload_value xs ≤ length bytes = omega (arith, size, whole) in
    length-is bytes xs m.type_ffs first (past-coded m.type_ffs m.last_payload_type_byte xs) inside within fits ∙ ap Some size

-- and the message of a length that is read
some-if : (b : Bool) (o : Option ℕ) (y : ℕ) → (if b then o else None) ≡ Some y → (b ≡ true) × (o ≡ Some y)
some-if true o y e = (refl, e)
some-if false o y e = cc

message-found : (bytes : List ℕ) (whole : ℕ) → message_length bytes ≡ Some whole → (m : SeiMessage) × IsMessage m ×
    (bytes ≡ message_before m (drop whole bytes))
unfolding message_length
message-found bytes whole e =
    let k = ff_bytes bytes in
    let sized = drop (k + 1) bytes in
    let f = ff_bytes sized in
    let one = some-if (nat_lt k (length bytes)) (message_of k sized bytes) whole e in
    let two = some-if (nat_lt f (length sized) && nat_le (k + 1 + (f + 1) + payload_value sized) (length bytes))
    (Some (k + 1 + (f + 1) + payload_value sized)) whole one.1 in
    let both = and_parts (nat_lt f (length sized)) (nat_le (k + 1 + (f + 1) + payload_value sized) (length bytes)) two.0 in
    let p = split-coded bytes (ltb-true k (length bytes) one.0) in
    let q = split-coded sized (ltb-true f (length sized) both.0) in
    let fits = leb-true (k + 1 + (f + 1) + payload_value sized) (length bytes) both.1 in
    let sized-is : sized ≡ p.2 = ap (λ l. drop (k + 1) l) p.3 ∙ past-coded k p.0 p.2 in
    let value : payload_value sized ≡ 255 * f + q.0 = ap payload_value q.3 ∙ value-coded f q.0 q.2 q.1 in
    let a : length bytes ≡ (k + 1) + length p.2 = ap length p.3 ∙ length-coded k p.0 p.2 in
    let b : length p.2 ≡ (f + 1) + length q.2 = ap length (sym sized-is ∙ q.3) ∙ length-coded f q.0 q.2 in
    let enough : 255 * f + q.0 ≤ length q.2 = omega (arith, fits, value, a, b) in
    let m : SeiMessage = record {
      type_ffs = k;
      last_payload_type_byte = p.0;
      size_ffs = f;
      last_payload_size_byte = q.0;
      payload = take (255 * f + q.0) q.2;
    } in
    let rest = drop (255 * f + q.0) q.2 in
    let is : IsMessage m = record { type_ends = p.1; size_ends = q.1; sized = length-take-le (255 * f + q.0) q.2 enough } in
    let bytes-is : bytes ≡ message_before m rest =
    p.3 ∙ ap (λ l. coded k p.0 l) (sym sized-is ∙ q.3) ∙ ap (λ l. coded k p.0 (coded f q.0 l)) (sym (take-append-drop (255 * f + q.0) q.2)) in
    let whole-is : whole ≡ size_of m = sym (some-same (k + 1 + (f + 1) + payload_value sized) whole two.1) ∙ ap (λ v. k + 1 + (f + 1) + v) value in
    let rest-is : drop whole bytes ≡ rest = ap₂ (λ n l. drop n l) whole-is bytes-is ∙ drop-message m rest is in
    (m, is, bytes-is ∙ ap (λ l. message_before m l) (sym rest-is))

-- it has a type and a size before its payload
pub message-inside : (bytes : List ℕ) (whole : ℕ) → message_length bytes ≡ Some whole → (ff_bytes bytes < length bytes) × (payload_start bytes ≤ whole)
unfolding message_length
message-inside bytes whole e =
    let k = ff_bytes bytes in
    let sized = drop (k + 1) bytes in
    let f = ff_bytes sized in
    let one = some-if (nat_lt k (length bytes)) (message_of k sized bytes) whole e in
    let two = some-if (nat_lt f (length sized) && nat_le (k + 1 + (f + 1) + payload_value sized) (length bytes))
    (Some (k + 1 + (f + 1) + payload_value sized)) whole one.1 in
    let is = some-same (k + 1 + (f + 1) + payload_value sized) whole two.1 in
    let enough : k + 1 + (f + 1) ≤ whole = omega arith in
    (ltb-true k (length bytes) one.0, enough)

-- ---- messages

trailing-is : (bytes : List ℕ) → is_trailing bytes ≡ true → bytes ≡ 128 ∷ []
trailing-is [] h = absurd (false≢true h)
trailing-is (b ∷ []) h = ap (λ x. x ∷ []) (eqb-true b 128 (and_parts (b == 128) (length (let none : List ℕ = [] in none) == 0) h).0)
trailing-is (b ∷ c ∷ bytes) h = absurd (none (length bytes) (eqb-true (length (c ∷ bytes)) 0 (and_parts (b == 128) (length (c ∷ bytes) == 0) h).1)) where
  none : (n : ℕ) → suc n ≡ 0 → ⊥
  none n e = omega arith

pub messages-found : (n : ℕ) (bytes : List ℕ) → are_messages n bytes ≡ true → IsSei bytes
messages-found zero bytes h = absurd (false≢true (sym (sei-out zero bytes refl) ∙ h))
messages-found (suc n) bytes h = go (message_length bytes) refl (messages-found n) where
  last : (whole : ℕ) (t : Bool) → message_length bytes ≡ Some whole → is_trailing (drop whole bytes) ≡ t → (t || are_messages n (drop whole bytes)) ≡ true →
      ((rest : List ℕ) → are_messages n rest ≡ true → IsSei rest) → IsSei bytes
  last whole true e t all later = let m = message-found bytes whole e in (m.0, [], (m.1, drop whole bytes, m.2, trailing-is (drop whole bytes) t))
  last whole false e t all later =
      let m = message-found bytes whole e in
      let others = later (drop whole bytes) all in
      (m.0, others.0 ∷ others.1, (m.1, drop whole bytes, m.2, others.2))

  go : (o : Option ℕ) → message_length bytes ≡ o → ((rest : List ℕ) → are_messages n rest ≡ true → IsSei rest) → IsSei bytes
  go None e later = absurd (false≢true (sym (sei-none (suc n) n bytes refl e) ∙ h))
  go (Some whole) e later = last whole (is_trailing (drop whole bytes)) e refl (sym (sei-some (suc n) n bytes whole refl e) ∙ h) later

-- there are no more messages than bytes
messages-fit : (ms : List SeiMessage) (bytes : List ℕ) → AreMessages ms bytes → length ms ≤ length bytes
messages-fit [] bytes h = let z : 0 ≤ length bytes = omega arith in z
messages-fit (m ∷ ms) bytes h =
    let later = messages-fit ms h.1 h.3 in
    let whole = ap length h.2 ∙ length-message m h.1 h.0 in
    let fit : suc (length ms) ≤ length bytes = omega (arith, later, whole) in fit

-- what follows a message is the trailing bits, or more messages
rest-read : (n : ℕ) (ms : List SeiMessage) (rest : List ℕ) → AreMessages ms rest → length ms ≤ n →
    ((m : SeiMessage) (others : List SeiMessage) (bytes : List ℕ) → AreMessages (m ∷ others) bytes → length (m ∷ others) ≤ n → are_messages n bytes ≡ true) →
    (is_trailing rest || are_messages n rest) ≡ true
rest-read n [] rest last few later = ap (λ l. is_trailing l || are_messages n l) last
rest-read n (m ∷ ms) rest more few later = ap (λ t. is_trailing rest || t) (later m ms rest more few) ∙ or-true (is_trailing rest)

pub messages-read : (n : ℕ) (m : SeiMessage) (ms : List SeiMessage) (bytes : List ℕ) → AreMessages (m ∷ ms) bytes → length (m ∷ ms) ≤ n →
    are_messages n bytes ≡ true
messages-read zero m ms bytes h few = absurd (none (length ms) few) where
  none : (k : ℕ) → suc k ≤ 0 → ⊥
  none k e = omega arith
messages-read (suc n) m ms bytes h few =
    sei-some (suc n) n bytes (size_of m) refl (ap message_length h.2 ∙ message-read m h.1 h.0)
    ∙ ap (λ l. is_trailing l || are_messages n l) (ap (λ l. drop (size_of m) l) h.2 ∙ drop-message m h.1 h.0)
    ∙ rest-read n ms h.1 h.3 few' (messages-read n) where
      few' : length ms ≤ n
      few' = omega (arith, few)

pub sei-found : (bytes : List ℕ) → is_sei bytes ≡ true → IsSei bytes
sei-found bytes h = messages-found (length bytes) bytes h

pub sei-read : (bytes : List ℕ) → IsSei bytes → is_sei bytes ≡ true
sei-read bytes s = messages-read (length bytes) s.0 s.1 bytes s.2 (messages-fit (s.0 ∷ s.1) bytes s.2)
