-- Units without start codes: what their bytes are, and the bits of start codes.
use Rattle.std.proofs.Common.{◌≡◌, ◌≢◌, ℕ, zero, suc, ◌+◌, ◌-◌, ◌<◌, ◌≤◌, min, List, [], ◌∷◌, ◌++◌, length, replicate, drop, get_or, refl, sym, ap}
use Rattle.std.proofs.Common.{◌∙◌, subst, arith}
use Rattle.std.proofs.Common.{append_assoc, add-one}
use Rattle.std.proofs.Math.Seq.{drop-cons}
use Rattle.std.proofs.lemmas.List.{drop_all}
use Rattle.h264_units.specs.Stream.{IsInner}
use Rattle.h264_units.proofs.Scans.{inner-append, inner-zeros}
use Rattle.h264_stream.specs.Sent.{code_bits_before}

-- ---- the bytes of a unit

-- Bytes were read up to this place, with some 00 bytes held back: no unit ends in all bytes where none ends in these and what follows.
pub record IsRead (bytes : List ℕ) (zeros place : ℕ) : Type 0 where
  pub few : zeros < 3
  pub forth : IsInner bytes → IsInner (replicate zeros 0 ++ drop place bytes)
  pub back : IsInner (replicate zeros 0 ++ drop place bytes) → IsInner bytes

after-byte : (zeros byte : ℕ) (rest : List ℕ) → zeros < 3 → IsInner (replicate zeros 0 ++ byte ∷ rest) → IsInner rest
after-byte zero byte rest few p = p.1
after-byte (suc zero) byte rest few p = p.1.1
after-byte (suc (suc zero)) byte rest few p = p.1.1.1
after-byte (suc (suc (suc n))) byte rest few p = absurd (omega arith)

more-zeros : (zeros : ℕ) (rest : List ℕ) → zeros < 2 → replicate zeros 0 ++ 0 ∷ rest ≡ replicate (zeros + 1) 0 ++ rest
more-zeros zero rest few = refl
more-zeros (suc zero) rest few = refl
more-zeros (suc (suc n)) rest few = absurd (omega arith)

module _ (bytes : List ℕ) (zeros place : ℕ) (more : place < length bytes) (r : IsRead bytes zeros place) where
  next : drop place bytes ≡ get_or bytes place 0 ∷ drop (place + 1) bytes
  next = rw (add-one, drop-cons bytes place 0) refl

  pub read-zero : get_or bytes place 0 ≡ 0 → zeros < 2 → IsRead bytes (zeros + 1) (place + 1)
  read-zero is few =
      let e : replicate zeros 0 ++ drop place bytes ≡ replicate (zeros + 1) 0 ++ drop (place + 1) bytes = ap (λ l. replicate zeros 0 ++ l) next ∙
      ap (λ b. replicate zeros 0 ++ b ∷ drop (place + 1) bytes) is ∙ more-zeros zeros (drop (place + 1) bytes) few in
      record { few = omega arith; forth = λ p. subst IsInner e (r.forth p); back = λ p. r.back (subst IsInner (sym e) p) }

  pub read-other : get_or bytes place 0 ≢ 0 → (get_or bytes place 0 < 2 → zeros ≢ 2) → IsRead bytes 0 (place + 1)
  read-other other loose =
      let byte = get_or bytes place 0 in
      let later = drop (place + 1) bytes in
      let e : replicate zeros 0 ++ drop place bytes ≡ replicate zeros 0 ++ byte ∷ later = ap (λ l. replicate zeros 0 ++ l) next in
      let one = replicate zeros 0 ++ byte ∷ [] in
      record {
        few = omega arith;
        forth = λ p. after-byte zeros byte later r.few (subst IsInner e (r.forth p));
        back = λ p. r.back (subst IsInner (append_assoc (replicate zeros 0) (byte ∷ []) later ∙ sym e)
            (inner-append one later (inner-zeros zeros byte r.few other loose) p));
      }

zeros-alone : (zeros : ℕ) → zeros < 3 → zeros ≢ 0 → IsInner (replicate zeros 0 ++ []) → ⊥
zeros-alone zero few some p = some refl
zeros-alone (suc zero) few some p = p.0 refl
zeros-alone (suc (suc zero)) few some p = p.0 (refl, refl)
zeros-alone (suc (suc (suc n))) few some p = absurd (omega arith)

-- 00 bytes at the end
pub read-zeros : {bytes : List ℕ} {zeros place : ℕ} → length bytes ≤ place → zeros ≢ 0 → IsRead bytes zeros place → IsInner bytes → ⊥
read-zeros {bytes} {zeros} {place} all some r p =
    zeros-alone zeros r.few some (subst (λ l. IsInner (replicate zeros 0 ++ l)) (drop_all place bytes all) (r.forth p))

-- ---- bits of start codes

pub code-bits-next : (codes : List ℕ) (bit i : ℕ) → i < length codes →
    code_bits_before (drop i codes) bit ≡ min 24 (bit - get_or codes i 0) + code_bits_before (drop (i + 1) codes) bit
unfolding code_bits_before
code-bits-next codes bit i more = rw (add-one, drop-cons codes i 0) refl

pub code-bits-none : (bit : ℕ) → code_bits_before [] bit ≡ 0
unfolding code_bits_before
code-bits-none bit = refl
