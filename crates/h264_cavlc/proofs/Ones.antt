-- Trailing ones by three bits that were seen.
use Rattle.std.proofs.Common.{◌≡◌, ℕ, zero, suc, ◌+◌, ◌*◌, ◌-◌, ◌/◌, ◌%◌, ◌^◌, ◌<◌, ◌≤◌, List, [], ◌∷◌, ◌++◌, length, get_or, set, take, ℤ, pos, ap, ◌∙◌, arith}
use Rattle.h264_base.specs.Word.{Fixed, Reads}
use Rattle.h264_bits.specs.Peek.{peek_at}
use Rattle.h264_bits.proofs.Held.{held-fixed, peek-middle}

-- sign k
pub sign-reads : (bytes : List ℕ) (i signs k sign : ℕ) → signs ≡ peek_at 3 bytes i → k < 3 → sign ≡ signs / 2 ^ (2 - k) % 2 → i + 3 ≤ 8 * length bytes →
    Reads (Fixed 1) bytes (i + k) (pos sign) (i + k + 1)
sign-reads bytes i signs k sign e few is inside =
    let m = peek-middle k 1 3 bytes i (omega arith) in
    let p : 3 - (k + 1) ≡ 2 - k = omega arith in
    held-fixed 1 bytes (i + k) sign (is ∙ rw (e, ← p) m) (omega arith)

-- three levels that were put to the first places
pub put-each : (xs : List ℤ) (f : ℕ → ℤ) (a b d : ℤ) (k : ℕ) → 3 ≤ length xs → a ≡ f 0 → b ≡ f 1 → d ≡ f 2 → k < 3 →
    get_or (set (set (set xs 0 a) 1 b) 2 d) k (pos 0) ≡ f k
put-each [] f a b d k h p q r few = absurd (omega arith)
put-each (x ∷ []) f a b d k h p q r few = absurd (omega arith)
put-each (x ∷ y ∷ []) f a b d k h p q r few = absurd (omega arith)
put-each (x ∷ y ∷ z ∷ xs) f a b d zero h p q r few = p
put-each (x ∷ y ∷ z ∷ xs) f a b d (suc zero) h p q r few = q
put-each (x ∷ y ∷ z ∷ xs) f a b d (suc (suc zero)) h p q r few = r
put-each (x ∷ y ∷ z ∷ xs) f a b d (suc (suc (suc k))) h p q r few = absurd (omega arith)

-- the levels before the next one, and that one
pub take-one : (xs : List ℤ) (k : ℕ) (x : ℤ) → k < length xs → get_or xs k (pos 0) ≡ x → take (k + 1) xs ≡ take k xs ++ x ∷ []
take-one [] k x h e = absurd (omega arith)
take-one (y ∷ xs) zero x h e = ap (λ z. z ∷ []) e
take-one (y ∷ xs) (suc k) x h e = let n : suc k + 1 ≡ suc (k + 1) = omega arith in rw n (ap (λ l. y ∷ l) (take-one xs k x (omega arith) e))
