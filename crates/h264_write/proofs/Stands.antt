-- Words one after another.
use Rattle.std.proofs.Common.{◌≡◌, ℕ, suc, ◌+◌, ◌-◌, ◌%◌, ◌<◌, true, false, List, [], ◌∷◌, ◌++◌, length, replicate, get_or, Some, ℤ, pos, ap, ◌∙◌, subst}
use Rattle.std.proofs.Common.{arith, length-append, append_assoc}
use Rattle.std.proofs.lemmas.List.{length-replicate}
use Rattle.h264_base.specs.Word.{Code, Unsigned, Signed, Word, signed, IsWord, StandsAt, Reads, bit_of}
use Rattle.h264_bits.proofs.Readings.{signed-reads}
use Rattle.h264_write.specs.Written.{spelled, Writes, Closes}
use Rattle.h264_write.proofs.Spelled.{spelled-zero}

stands-after : (bytes : List ℕ) (i : ℕ) (u w : Word) → StandsAt bytes i (u ++ w) → StandsAt bytes (i + length u) w
stands-after bytes i [] w s = let e : i + 0 ≡ i = omega arith in rw e s
stands-after bytes i (b ∷ u) w s = let e : i + suc (length u) ≡ i + 1 + length u = omega arith in rw e (stands-after bytes (i + 1) u w s.1)

-- what stands after the old bits
following : (bytes : List ℕ) (old word new : Word) → new ≡ old ++ word → StandsAt bytes 0 new → StandsAt bytes (length old) word
following bytes old word new e s =
    let P : Word → Type 0 = λ w. StandsAt bytes 0 w in
    let z : 0 + length old ≡ length old = omega arith in
    rw (← z) (stands-after bytes 0 old word (subst P e s))

pub written : (code : Code) (value : ℤ) (old word new : Word) → IsWord code word value → new ≡ old ++ word → Writes code value old new
written code value old word new is e = record {
  word = word;
  whole = e;
  reads = λ bytes s. (word, is, following bytes old word new e s, rw e (length-append old word));
}

-- the trailing bits
pub closed : (old mid new : Word) (n zeros : ℕ) → n ≡ length old → zeros ≡ 7 - n % 8 → mid ≡ old ++ spelled 1 1 → new ≡ mid ++ spelled zeros 0 → Closes old new
unfolding spelled
closed old mid new n zeros is z e f =
    let word : Word = true ∷ replicate zeros false in
    let whole : new ≡ old ++ word = f ∙ ap (λ (m : Word). m ++ spelled zeros 0) e ∙ append_assoc old (true ∷ []) (spelled zeros 0) ∙
    ap (λ (w : Word). old ++ true ∷ w) (spelled-zero zeros) in
    let l : length new ≡ length old + (zeros + 1) = rw whole (length-append old word ∙ (let r = length-replicate zeros false in omega arith)) in
    record {
      word = word;
      whole = whole;
      full = omega arith;
      closed = λ bytes s h. (zeros, omega arith, (following bytes old word new whole s, omega arith));
    }

-- bits that stand one by one
pub stands-each : (bytes : List ℕ) (i : ℕ) (w : Word) → ((k : ℕ) → k < length w → bit_of bytes (i + k) ≡ Some (get_or w k false)) → StandsAt bytes i w
stands-each bytes i [] h = tt
stands-each bytes i (b ∷ w) h = (
  let z : i + 0 ≡ i = omega arith in rw z at (h 0 (omega arith)),
  stands-each bytes (i + 1) w (λ k few. let e : i + suc k ≡ i + 1 + k = omega arith in rw e at (h (suc k) (omega arith))),
)

-- se(v) by ue(v)
pub written-signed : (c : ℕ) (value : ℤ) (old new : Word) → signed c ≡ value → Writes Unsigned (pos c) old new → Writes Signed value old new
written-signed c value old new e w = record {
  word = w.word;
  whole = w.whole;
  reads = λ bytes s. subst (λ v. Reads Signed bytes (length old) v (length new)) e (signed-reads bytes (length old) c (length new) (w.reads bytes s));
}
