-- Bits in bytes stand there.
use Rattle.std.proofs.Common.{◌≡◌, ℕ, zero, suc, ◌+◌, ◌-◌, ◌*◌, ◌/◌, ◌%◌, ◌^◌, ◌<◌, ◌≤◌, Bool, true, false, [], ◌∷◌, ◌++◌, length, get_or, take, drop}
use Rattle.std.proofs.Common.{Some, slice_get, refl, ap, sym, ◌∙◌, arith}
use Rattle.std.proofs.lemmas.List.{get_or-drop, get_or_past, length-drop}
use Rattle.std.proofs.Math.Seq.{take-length}
use Rattle.std.proofs.lemmas.List.FromFn.{length-map-range_with_len, get_or-map-range_with_len, map-range_with_len_more}
use Rattle.std.proofs.lemmas.Option.{slice_get-get_or}
use Rattle.h264_base.specs.Word.{Word, digit, bit_of, StandsAt}
use Rattle.h264_write.specs.Packed.{digit_at, first_byte, packed}
use Rattle.h264_write.proofs.Stands.{stands-each}
use Rattle.h264_base.proofs.Plain.{digit-is}

digit-small : (b : Bool) → digit b < 2
digit-small true = omega arith
digit-small false = omega arith

-- the bits of a byte are the digits
abbrev EightDigits : Word → ℕ → Type 0
EightDigits w x = (x / 2 ^ 7 % 2 ≡ digit_at w 0) × (x / 2 ^ 6 % 2 ≡ digit_at w 1) × (x / 2 ^ 5 % 2 ≡ digit_at w 2) × (x / 2 ^ 4 % 2 ≡ digit_at w 3) ×
    (x / 2 ^ 3 % 2 ≡ digit_at w 4) × (x / 2 ^ 2 % 2 ≡ digit_at w 5) × (x / 2 ^ 1 % 2 ≡ digit_at w 6) × (x / 2 ^ 0 % 2 ≡ digit_at w 7)

one-digit : (a b c d e f g h x : ℕ) → a < 2 → b < 2 → c < 2 → d < 2 → e < 2 → f < 2 → g < 2 → h < 2 →
    x ≡ 128 * a + 64 * b + 32 * c + 16 * d + 8 * e + 4 * f + 2 * g + h → (x / 2 ^ 7 % 2 ≡ a) × (x / 2 ^ 6 % 2 ≡ b) × (x / 2 ^ 5 % 2 ≡ c) ×
    (x / 2 ^ 4 % 2 ≡ d) × (x / 2 ^ 3 % 2 ≡ e) × (x / 2 ^ 2 % 2 ≡ f) × (x / 2 ^ 1 % 2 ≡ g) × (x / 2 ^ 0 % 2 ≡ h)
one-digit a b c d e f g h x ha hb hc hd he hf hg hh is =
    (omega arith, omega arith, omega arith, omega arith, omega arith, omega arith, omega arith, omega arith)

eight-digits : (bits : Word) → EightDigits bits (first_byte bits)
unfolding first_byte
eight-digits bits = one-digit (digit_at bits 0) (digit_at bits 1) (digit_at bits 2) (digit_at bits 3) (digit_at bits 4) (digit_at bits 5) (digit_at bits 6)
    (digit_at bits 7) _ (small 0) (small 1) (small 2) (small 3) (small 4) (small 5) (small 6) (small 7) refl
  where
    small : (k : ℕ) → digit_at bits k < 2
    small k = digit-small (get_or bits k false)

byte-digit : (bits : Word) (r : ℕ) → r < 8 → first_byte bits / 2 ^ (7 - r) % 2 ≡ digit_at bits r
byte-digit bits zero h = (eight-digits bits).0
byte-digit bits (suc zero) h = (eight-digits bits).1
byte-digit bits (suc (suc zero)) h = (eight-digits bits).2
byte-digit bits (suc (suc (suc zero))) h = (eight-digits bits).3
byte-digit bits (suc (suc (suc (suc zero)))) h = (eight-digits bits).4
byte-digit bits (suc (suc (suc (suc (suc zero))))) h = (eight-digits bits).5
byte-digit bits (suc (suc (suc (suc (suc (suc zero)))))) h = (eight-digits bits).6
byte-digit bits (suc (suc (suc (suc (suc (suc (suc zero))))))) h = (eight-digits bits).7
byte-digit bits (suc (suc (suc (suc (suc (suc (suc (suc r)))))))) h = absurd (omega arith)

pub length-packed : (n : ℕ) (bits : Word) → length (packed n bits) ≡ n
unfolding packed
length-packed n bits = length-map-range_with_len (λ k. first_byte (drop (8 * k) bits)) 0 n

packed-at : (n : ℕ) (bits : Word) (q : ℕ) → q < n → get_or (packed n bits) q 0 ≡ first_byte (drop (8 * q) bits)
unfolding packed
packed-at n bits q h = get_or-map-range_with_len (λ k. first_byte (drop (8 * k) bits)) 0 n q q 0 h (omega arith)

packed-byte : (n : ℕ) (bits : Word) (q : ℕ) → q < n → slice_get (packed n bits) q ≡ Some (first_byte (drop (8 * q) bits))
packed-byte n bits q h = let l = length-packed n bits in slice_get-get_or (packed n bits) q 0 (omega arith) ∙ ap Some (packed-at n bits q h)

packed-bit : (n : ℕ) (bits : Word) (k : ℕ) → k < 8 * n → bit_of (packed n bits) k ≡ Some (get_or bits k false)
packed-bit n bits k h =
    let q : k / 8 < n = omega arith in
    let r : k % 8 < 8 = omega arith in
    let d = byte-digit (drop (8 * (k / 8)) bits) (k % 8) r in
    let g = get_or-drop (8 * (k / 8)) bits (k % 8) false in
    let e : 8 * (k / 8) + k % 8 ≡ k = omega arith in
    rw (packed-byte n bits (k / 8) q, d, g, e) (ap Some (digit-is (get_or bits k false)))

pub packed-stands : (n : ℕ) (bits : Word) → length bits ≤ 8 * n → StandsAt (packed n bits) 0 bits
packed-stands n bits h = stands-each (packed n bits) 0 bits (λ k few. let z : 0 + k ≡ k = omega arith in rw z (packed-bit n bits k (omega arith)))

-- zeros stand after the last bit
pub packed-zeros : (n : ℕ) (bits : Word) (k : ℕ) → length bits ≤ k → k < 8 * n → bit_of (packed n bits) k ≡ Some false
packed-zeros n bits k past h = rw (packed-bit n bits k h) (ap Some (get_or_past bits k false past))

pub packed-none : (bits : Word) → packed 0 bits ≡ []
unfolding packed
packed-none bits = refl

pub packed-more : (i : ℕ) (bits : Word) → packed (i + 1) bits ≡ packed i bits ++ first_byte (drop (8 * i) bits) ∷ []
unfolding packed
packed-more i bits = map-range_with_len_more (λ k. first_byte (drop (8 * k) bits)) 0 i i (omega arith)

pub rest-whole : (k : ℕ) (bits : Word) → take (length bits - k) (drop k bits) ≡ drop k bits
rest-whole k bits = ap (λ m. take m (drop k bits)) (sym (length-drop k bits)) ∙ take-length (drop k bits)
