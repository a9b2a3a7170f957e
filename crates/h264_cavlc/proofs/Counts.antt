-- As many levels of a block are not 0 as its total says.
use Rattle.std.proofs.Common.{◌≡◌, ℕ, zero, suc, ◌+◌, ◌-◌, ◌/◌, ◌%◌, ◌<◌, ◌≤◌, Bool, true, false, IsTrue, ◌==◌, nat_lt, nat_le, if◌then◌else◌, cond, List, []}
use Rattle.std.proofs.Common.{◌∷◌, ◌++◌, length, get_or, set, replicate, ℤ, pos, negsuc, neg_ℤ, unsigned_abs, refl, ap, sym, ◌∙◌, subst, arith, lt-ltb}
use Rattle.std.proofs.Common.{length-set, length-append}
use Rattle.std.proofs.lemmas.List.{length-replicate}
use Rattle.std.proofs.lemmas.List.Sums.{sum_by-set}
use Rattle.std.proofs.lemmas.Bool.{leb-true}
use Rattle.std.proofs.lemmas.Bool.Decides.{nat_tests}
use Rattle.h264_base.specs.Grammar.{Done}
use Rattle.h264_bits.specs.Forms.{natural, repeated}
use Rattle.h264_cavlc.specs.declared.token.Token.{Token}
use Rattle.h264_cavlc.specs.Token.{trailing_one}
use Rattle.h264_cavlc.specs.Level.{level_value, level, more_levels, next_suffix_length, is_never_one}
use Rattle.h264_cavlc.specs.Zeros.{coded_total_zeros, total_zeros}
use Rattle.h264_cavlc.specs.Place.{place_of, by_place}
use Rattle.h264_cavlc.specs.Block.{Block, nonzero_count, all_levels, coefficients}
use Rattle.h264_base.proofs.Gives.{Gives, gives-done, gives-any, gives-bind, gives-check}
use Rattle.h264_cavlc.proofs.Places.{PlacedTo, placed-none, placed-more, all-placed, lower, inside}

-- ---- levels are not 0

abbrev IsOther : ℤ → Type 0
IsOther x = 0 < unsigned_abs x

abs-negative : (n : ℕ) → unsigned_abs (neg_ℤ (pos n)) ≡ n
abs-negative zero = refl
abs-negative (suc n) = refl

value-other : (code : ℕ) → IsOther (level_value code)
unfolding level_value
value-other code = go (code % 2 == 0) refl
  where
    go : (b : Bool) → (code % 2 == 0) ≡ b → IsOther (if b then pos ((code + 2) / 2) else neg_ℤ (pos ((code + 1) / 2)))
    go true e = omega arith
    go false e = let odd : 0 < code = grind (arith, nat_tests) in rw (abs-negative ((code + 1) / 2)) (omega arith)

one-other : (b : Bool) → IsOther (if b then pos 1 else negsuc 0)
one-other true = omega arith
one-other false = omega arith

gives-one : Gives trailing_one IsOther
unfolding trailing_one
gives-one = gives-bind (λ e. Unit {0}) IsOther _ _ (gives-any _) (λ e h. gives-done IsOther _ (one-other (natural e.value == 0)))

gives-level : (s : ℕ) (never_one : Bool) → Gives (level s never_one) IsOther
unfolding level
gives-level s never_one = gives-bind (λ e. Unit {0}) IsOther _ _ (gives-any _)
    (λ e h. gives-bind (λ n. Unit {0}) IsOther _ _ (gives-any _) (λ n h. gives-done IsOther _ (value-other _)))

-- n levels, none of them 0
abbrev AreOther : List ℤ → Type 0
AreOther [] = Unit {0}
AreOther (x ∷ xs) = IsOther x × AreOther xs

pub record Others (n : ℕ) (xs : List ℤ) : Type 0 where
  pub each : AreOther xs
  pub count : length xs ≡ n

other-push : (xs : List ℤ) (x : ℤ) → AreOther xs → IsOther x → AreOther (xs ++ x ∷ [])
other-push [] x h o = (o, tt)
other-push (y ∷ xs) x h o = (h.0, other-push xs x h.1 o)

other-at : (xs : List ℤ) (k : ℕ) → AreOther xs → k < length xs → IsOther (get_or xs k (pos 0))
other-at [] k h few = absurd (omega arith)
other-at (x ∷ xs) zero h few = h.0
other-at (x ∷ xs) (suc k) h few = other-at xs k h.1 (omega arith)

pushed : (n : ℕ) (xs : List ℤ) (x : ℤ) → Others n xs → IsOther x → Others (n + 1) (xs ++ x ∷ [])
pushed n xs x h o = record { each = other-push xs x h.each o; count = let l = length-append xs (x ∷ []) in let c = h.count in omega arith }

gives-ones : (n m k : ℕ) (before : List ℤ) → Others k before → k + n ≡ m → Gives (repeated trailing_one before n) (Others m)
unfolding repeated
gives-ones zero m k before h e = let s : k ≡ m = omega arith in gives-done (Others m) before (subst (λ k. Others k before) s h)
gives-ones (suc n) m k before h e = gives-bind IsOther (Others m) trailing_one (λ x. repeated trailing_one (before ++ x ∷ []) n) gives-one
    (λ x o. gives-ones n m (k + 1) (before ++ x ∷ []) (pushed k before x h o) (omega arith))

gives-more : (ones n m k s : ℕ) (before : List ℤ) → Others k before → k + n ≡ m → Gives (more_levels ones before s n) (Others m)
unfolding more_levels
gives-more ones zero m k s before h e = let t : k ≡ m = omega arith in gives-done (Others m) before (subst (λ k. Others k before) t h)
gives-more ones (suc n) m k s before h e =
    gives-bind IsOther (Others m) (level s (is_never_one ones (length before))) (λ x. more_levels ones (before ++ x ∷ []) (next_suffix_length s x) n)
    (gives-level s (is_never_one ones (length before)))
    (λ x o. gives-more ones n m (k + 1) (next_suffix_length s x) (before ++ x ∷ []) (pushed k before x h o) (omega arith))

gives-levels : (token : Token) → token.ones ≤ token.total → Gives (all_levels token) (Others token.total)
unfolding all_levels
gives-levels token within = gives-bind (Others token.ones) (Others token.total) _ _
    (gives-ones token.ones token.ones 0 [] (record { each = tt; count = refl }) (omega arith))
    (λ ones h. gives-bind (Others token.total) (Others token.total) _ _
    (gives-more token.ones (token.total - token.ones) token.total token.ones _ ones h (omega arith)) (λ levels o. gives-done (Others token.total) levels o))

-- ---- the zeros leave room for them

gives-coded : (size total : ℕ) → Gives (coded_total_zeros size total) (λ z. total + z ≤ size)
unfolding coded_total_zeros
gives-coded size total = gives-bind (λ e. Unit {0}) (λ z. total + z ≤ size) _ _ (gives-any _)
    (λ e h. gives-bind (λ u. IsTrue (nat_le (total + natural e.value) size)) (λ z. total + z ≤ size) _ _ (gives-check _ _ _)
    (λ u k. gives-done (λ z. total + z ≤ size) _ (leb-true _ _ k)))

gives-zeros : (size total : ℕ) → total ≤ size → Gives (total_zeros size total) (λ z. total + z ≤ size)
unfolding total_zeros
gives-zeros size total fits = go (nat_lt total size)
  where
    go : (b : Bool) → Gives (if b then coded_total_zeros size total else Done 0) (λ z. total + z ≤ size)
    go true = gives-coded size total
    go false = gives-done (λ z. total + z ≤ size) 0 (omega arith)

-- ---- each stands at a place of its own

abbrev is_other : ℤ → Bool
is_other x = nat_lt 0 (unsigned_abs x)

pub count-none : (n : ℕ) → nonzero_count (replicate n (pos 0)) ≡ 0
unfolding nonzero_count
count-none zero = refl
count-none (suc n) = count-none n

count-set : (xs : List ℤ) (i : ℕ) (y : ℤ) → i < length xs → get_or xs i (pos 0) ≡ pos 0 → IsOther y → nonzero_count (set xs i y) ≡ nonzero_count xs + 1
unfolding nonzero_count
count-set xs i y h z o =
    let s = sum_by-set (λ x. cond (is_other x) 1 0) xs i y (pos 0) h in
    let t : is_other y ≡ true = lt-ltb 0 (unsigned_abs y) o in
    let r = rw (z, t) at s in
    omega arith

pub record Standing (n size total gap : ℕ) (levels : List ℤ) (runs : List ℕ) : Type 0 where
  pub out : List ℤ
  pub sized : length out ≡ size
  pub placed : PlacedTo n total gap levels runs out
  pub count : nonzero_count out ≡ n

standing : (n size total gap : ℕ) (levels : List ℤ) (runs : List ℕ) → n ≤ total → total + gap ≤ size → Others total levels →
    Standing n size total gap levels runs
standing zero size total gap levels runs h room others =
    record { out = replicate size (pos 0); sized = length-replicate size (pos 0); placed = none; count = count-none size }
  where
    none : PlacedTo 0 total gap levels runs (replicate size (pos 0))
    none = let p = placed-none total gap size levels in
        record { stands = λ k q. absurd (omega arith); empty = λ p' q. p.empty p' (λ k f e. absurd (omega arith)) }
standing (suc n) size total gap levels runs h room others =
    let s = standing n size total gap levels runs (omega arith) room others in
    let p : ℕ = place_of total gap runs n in
    let x : ℤ = get_or levels n (pos 0) in
    let sized = s.sized in
    let c = others.count in
    let w = inside total gap runs n (omega arith) in
    let i : p < length s.out = omega arith in
    let z = s.placed.empty p (λ k f e. let l = lower total gap runs k n f (omega arith) in absurd (omega arith)) in
    let o = other-at levels n others.each (omega arith) in
    let m = count-set s.out p x i z o in
    let before = s.count in
    record {
      out = set s.out p x;
      sized = length-set s.out p x ∙ sized;
      placed = placed-more n (suc n) total gap p levels runs s.out x (omega arith) (omega arith) (omega arith) refl refl s.placed;
      count = omega arith;
    }

placed-count : (size gap total : ℕ) (levels : List ℤ) (runs : List ℕ) → Others total levels → total + gap ≤ size →
    nonzero_count (by_place size levels gap runs) ≡ total
placed-count size gap total levels runs others room =
    let s = standing total size total gap levels runs (omega arith) room others in
    ap (λ (xs : List ℤ). nonzero_count xs) (sym (all-placed total gap size levels runs s.out s.sized others.count s.placed)) ∙ s.count

abbrev pub HasCount : Block → Type 0
HasCount block = nonzero_count block.by_place ≡ block.total

pub gives-count : (size : ℕ) (token : Token) → token.total ≤ size → token.ones ≤ token.total → Gives (coefficients size token) HasCount
unfolding coefficients
gives-count size token fits within = gives-bind (Others token.total) HasCount _ _ (gives-levels token within)
    (λ levels o. gives-bind (λ z. token.total + z ≤ size) HasCount _ _ (gives-zeros size token.total fits)
    (λ z room. gives-bind (λ r. Unit {0}) HasCount _ _ (gives-any _) (λ runs h. gives-done HasCount _ (placed-count size z token.total levels runs o room))))
