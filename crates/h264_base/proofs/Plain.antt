-- Plain facts that several crates need.
use Rattle.std.proofs.Common.{◌≡◌, ◌≢◌, ℕ, ◌==◌, Bool, true, false, not, ◌||◌, Some, Result, Ok, Err, refl, if◌then◌else◌}
use Rattle.std.proofs.lemmas.Bool.{ne_eqb, or_parts}
use Rattle.std.specs.Result.{OnOk}
use Rattle.h264_base.specs.Word.{digit}

pub first-false : (a b : Bool) → (a || b) ≡ false → a ≡ false
first-false a b h = (or_parts a b h).0

pub not-true : (b : Bool) → not b ≡ true → b ≡ false
not-true true h = absurd (cc)
not-true false h = refl

pub choose-true : {X : Type 0} (c : Bool) (a b : X) → c ≡ true → (if c then a else b) ≡ a
choose-true true a b e = refl
choose-true false a b e = absurd (cc)

pub choose-false : {X : Type 0} (c : Bool) (a b : X) → c ≡ false → (if c then a else b) ≡ b
choose-false true a b e = absurd (cc)
choose-false false a b e = refl

pub differs : (a b : ℕ) → a ≢ b → (a == b) ≡ false
differs a b h = ne_eqb a b h

pub some-same : {X : Type 0} (a b : X) → Some a ≡ Some b → a ≡ b
some-same a b e = cc

-- a flag as a digit
pub digit-is : (b : Bool) → (digit b == 1) ≡ b
digit-is true = refl
digit-is false = refl

-- what is so whatever the answer is
pub on-ok : {X E P : Type 0} (r : Result X E) → P → OnOk r P
on-ok (Ok x) p = p
on-ok (Err e) p = tt
