-- Numbers whose bins are decoded one after another.
use Rattle.std.proofs.Common.{◌≡◌, ℕ, suc, ◌+◌, ◌*◌, ◌%◌, ◌^◌, ◌<◌, ◌≤◌, Bool, true, false, List, [], ◌∷◌, Option, Some, None, refl, sym, ap, ◌∙◌}
use Rattle.std.proofs.Common.{arith, Result, Ok, Err}
use Rattle.std.specs.Option.{option_and_then}
use Rattle.std.specs.Prelude.{nat_lt, if◌then◌else◌}
use Rattle.std.proofs.lemmas.Bool.{lt-ltb, le-ltb}
use mir.Val.{bool_byte}
use Rattle.std.proofs.Math.Nat.{mod-eq_of_lt, pow-succ'}
use Rattle.h264_bits.proofs.Peeks.{pow-few}
use Rattle.h264_base.specs.Word.{digit, signed}
use Rattle.h264_cabac.specs.Bins.{Bins, Value, NoValue, Regular, Bypass, Terminate, ◌>>=◌, DecoderState, Step, regular_step, bypass_step}
use Rattle.h264_cabac.specs.Bins.{terminate_step, decoded}
use Rattle.h264_bits.specs.declared.bits.NoWord.{NoWord}
use Rattle.h264_cabac.specs.Given.{Gives}
use Rattle.h264_cabac.specs.Elements.{index_of, unary_from, truncated_from, number_from, golomb_from, unary, truncated, with_suffix, with_sign}
use Rattle.h264_cabac.specs.Elements.{mb_qp_delta, mvd}

-- what follows a value
abbrev rest : {A B : Type 0} → (A → Bins B) → A × DecoderState → Option (B × DecoderState)
rest f r = decoded (f r.0) r.1

steps : {A B : Type 0} (f : A → Bins B) (g : Step → Option (A × DecoderState)) (h : Step → Option (B × DecoderState)) (o : Option Step) →
    ((s : Step) → h s ≡ option_and_then (rest f) (g s)) → option_and_then h o ≡ option_and_then (rest f) (option_and_then g o)
steps f g h None e = refl
steps f g h (Some s) e = e s

-- a tree and what follows it
pub decoded-then : {A B : Type 0} (t : Bins A) (f : A → Bins B) (d : DecoderState) → decoded (t >>= f) d ≡ option_and_then (rest f) (decoded t d)
decoded-then (Value x) f d = refl
decoded-then NoValue f d = refl
decoded-then (Regular index k) f d =
    steps f (λ s. decoded (k s.bin) s.decoder) (λ s. decoded (k s.bin >>= f) s.decoder) (regular_step index d) (λ s. decoded-then (k s.bin) f s.decoder)
decoded-then (Bypass k) f d =
    steps f (λ s. decoded (k s.bin) s.decoder) (λ s. decoded (k s.bin >>= f) s.decoder) (bypass_step d) (λ s. decoded-then (k s.bin) f s.decoder)
decoded-then (Terminate k) f d =
    steps f (λ s. decoded (k s.bin) s.decoder) (λ s. decoded (k s.bin >>= f) s.decoder) (terminate_step d) (λ s. decoded-then (k s.bin) f s.decoder)

pub then-some : {A B : Type 0} (t : Bins A) (f : A → Bins B) (d e : DecoderState) (v : A) → decoded t d ≡ Some (v, e) → decoded (t >>= f) d ≡ decoded (f v) e
then-some t f d e v is = decoded-then t f d ∙ ap (option_and_then (rest f)) is

pub then-none : {A B : Type 0} (t : Bins A) (f : A → Bins B) (d : DecoderState) → decoded t d ≡ None → decoded (t >>= f) d ≡ None
then-none t f d is = decoded-then t f d ∙ ap (option_and_then (rest f)) is

pub gives-on : {A : Type 0} (t : Bins A) (u : Bins A) (d e new : DecoderState) (r : Result A NoWord) → decoded t d ≡ decoded u e → Gives u e new r →
    Gives t d new r
gives-on t u d e new (Ok x) is h = is ∙ h
gives-on t u d e new (Err x) is h = is ∙ h

-- ---- U
pub unary-one : (indices : List ℕ) (left rest k index : ℕ) (b : Bool) (d e : DecoderState) → left ≡ suc rest → index ≡ index_of indices k → b ≡ true →
    regular_step index d ≡ Some (record { bin = b; decoder = e }) →
    decoded (unary_from indices left k) d ≡ decoded (unary_from indices rest (k + 1)) e
unfolding unary_from
unary-one indices left rest k index b d e more place one is =
    rw (more, ap (λ i. regular_step i d) (sym place) ∙ is, one) refl

pub unary-zero : (indices : List ℕ) (left rest k index : ℕ) (b : Bool) (d e : DecoderState) → left ≡ suc rest → index ≡ index_of indices k → b ≡ false →
    regular_step index d ≡ Some (record { bin = b; decoder = e }) → decoded (unary_from indices left k) d ≡ Some (k, e)
unfolding unary_from
unary-zero indices left rest k index b d e more place none is = rw (more, ap (λ i. regular_step i d) (sym place) ∙ is, none) refl

pub unary-none : (indices : List ℕ) (left rest k index : ℕ) (d : DecoderState) → left ≡ suc rest → index ≡ index_of indices k → regular_step index d ≡ None →
    decoded (unary_from indices left k) d ≡ None
unfolding unary_from
unary-none indices left rest k index d more place is = rw (more, ap (λ i. regular_step i d) (sym place) ∙ is) refl

pub unary-end : (indices : List ℕ) (left k : ℕ) (d : DecoderState) → left ≡ 0 → decoded (unary_from indices left k) d ≡ None
unfolding unary_from
unary-end indices left k d e = rw e refl

-- ---- TU
pub truncated-one : (indices : List ℕ) (left rest k index : ℕ) (b : Bool) (d e : DecoderState) → left ≡ suc rest → index ≡ index_of indices k → b ≡ true →
    regular_step index d ≡ Some (record { bin = b; decoder = e }) →
    decoded (truncated_from indices left k) d ≡ decoded (truncated_from indices rest (k + 1)) e
unfolding truncated_from
truncated-one indices left rest k index b d e more place one is =
    rw (more, ap (λ i. regular_step i d) (sym place) ∙ is, one) refl

pub truncated-zero : (indices : List ℕ) (left rest k index : ℕ) (b : Bool) (d e : DecoderState) → left ≡ suc rest → index ≡ index_of indices k → b ≡ false →
    regular_step index d ≡ Some (record { bin = b; decoder = e }) → decoded (truncated_from indices left k) d ≡ Some (k, e)
unfolding truncated_from
truncated-zero indices left rest k index b d e more place none is = rw (more, ap (λ i. regular_step i d) (sym place) ∙ is, none) refl

pub truncated-none : (indices : List ℕ) (left rest k index : ℕ) (d : DecoderState) → left ≡ suc rest → index ≡ index_of indices k →
    regular_step index d ≡ None →
    decoded (truncated_from indices left k) d ≡ None
unfolding truncated_from
truncated-none indices left rest k index d more place is = rw (more, ap (λ i. regular_step i d) (sym place) ∙ is) refl

pub truncated-end : (indices : List ℕ) (left k : ℕ) (d : DecoderState) → left ≡ 0 → decoded (truncated_from indices left k) d ≡ Some (k, d)
unfolding truncated_from
truncated-end indices left k d e = rw e refl

-- ---- numbers
pub number-more : (left rest number : ℕ) (b : Bool) (d e : DecoderState) → left ≡ suc rest → bypass_step d ≡ Some (record { bin = b; decoder = e }) →
    decoded (number_from left number) d ≡ decoded (number_from rest (2 * number + digit b)) e
unfolding number_from
number-more left rest number b d e more is = rw (more, is) refl

pub number-none : (left rest number : ℕ) (d : DecoderState) → left ≡ suc rest → bypass_step d ≡ None → decoded (number_from left number) d ≡ None
unfolding number_from
number-none left rest number d more is = rw (more, is) refl

pub number-end : (left number : ℕ) (d : DecoderState) → left ≡ 0 → decoded (number_from left number) d ≡ Some (number, d)
unfolding number_from
number-end left number d e = rw e refl

-- ---- the suffix of UEGk
pub golomb-one : (left rest k sum : ℕ) (b : Bool) (d e : DecoderState) → left ≡ suc rest → b ≡ true →
    bypass_step d ≡ Some (record { bin = b; decoder = e }) →
    decoded (golomb_from left k sum) d ≡ decoded (golomb_from rest (k + 1) (sum + 2 ^ k)) e
unfolding golomb_from
golomb-one left rest k sum b d e more one is = rw (more, is, one) refl

pub golomb-zero : (left rest k sum number : ℕ) (b : Bool) (d e f : DecoderState) → left ≡ suc rest → b ≡ false →
    bypass_step d ≡ Some (record { bin = b; decoder = e }) →
    decoded (number_from k 0) e ≡ Some (number, f) → decoded (golomb_from left k sum) d ≡ Some (sum + number, f)
unfolding golomb_from
golomb-zero left rest k sum number b d e f more none is read =
    rw (more, is, none) (then-some (number_from k 0) (λ number. Value (sum + number)) e f number read)

pub golomb-short : (left rest k sum : ℕ) (b : Bool) (d e : DecoderState) → left ≡ suc rest → b ≡ false →
    bypass_step d ≡ Some (record { bin = b; decoder = e }) → decoded (number_from k 0) e ≡ None → decoded (golomb_from left k sum) d ≡ None
unfolding golomb_from
golomb-short left rest k sum b d e more none is read = rw (more, is, none) (then-none (number_from k 0) (λ number. Value (sum + number)) e read)

pub golomb-none : (left rest k sum : ℕ) (d : DecoderState) → left ≡ suc rest → bypass_step d ≡ None → decoded (golomb_from left k sum) d ≡ None
unfolding golomb_from
golomb-none left rest k sum d more is = rw (more, is) refl

pub golomb-end : (left k sum : ℕ) (d : DecoderState) → left ≡ 0 → decoded (golomb_from left k sum) d ≡ None
unfolding golomb_from
golomb-end left k sum d e = rw e refl

-- ---- UEGk, and what is made of such numbers
pub suffix-none : (indices : List ℕ) (c_max k : ℕ) (d : DecoderState) → decoded (truncated indices c_max) d ≡ None →
    decoded (with_suffix indices c_max k) d ≡ None
suffix-none indices c_max k d is = then-none (truncated indices c_max) (λ n. if nat_lt n c_max then Value n else golomb_from 17 k c_max) d is

pub suffix-not : (indices : List ℕ) (c_max k prefix : ℕ) (d e : DecoderState) → decoded (truncated indices c_max) d ≡ Some (prefix, e) → prefix < c_max →
    decoded (with_suffix indices c_max k) d ≡ Some (prefix, e)
suffix-not indices c_max k prefix d e is few =
    then-some (truncated indices c_max) (λ n. if nat_lt n c_max then Value n else golomb_from 17 k c_max) d e prefix is ∙ rw (lt-ltb _ _ few) refl

pub suffix-there : (indices : List ℕ) (c_max k prefix : ℕ) (d e : DecoderState) → decoded (truncated indices c_max) d ≡ Some (prefix, e) → c_max ≤ prefix →
    decoded (with_suffix indices c_max k) d ≡ decoded (golomb_from 17 k c_max) e
suffix-there indices c_max k prefix d e is all =
    then-some (truncated indices c_max) (λ n. if nat_lt n c_max then Value n else golomb_from 17 k c_max) d e prefix is ∙ rw (le-ltb _ _ all) refl

abbrev pub delta_indices : ℕ → List ℕ
delta_indices increment = (60 + increment) ∷ 62 ∷ 63 ∷ 63 ∷ 63 ∷ []

pub delta-none : (increment : ℕ) (d : DecoderState) → decoded (unary (delta_indices increment)) d ≡ None → decoded (mb_qp_delta increment) d ≡ None
delta-none increment d is = then-none (unary (delta_indices increment)) (λ k. Value (signed k)) d is

pub delta-some : (increment k : ℕ) (d e : DecoderState) → decoded (unary (delta_indices increment)) d ≡ Some (k, e) →
    decoded (mb_qp_delta increment) d ≡ Some (signed k, e)
delta-some increment k d e is = then-some (unary (delta_indices increment)) (λ k. Value (signed k)) d e k is

abbrev pub mvd_indices : ℕ → ℕ → List ℕ
mvd_indices first increment = (first + increment) ∷ (first + 3) ∷ (first + 4) ∷ (first + 5) ∷ (first + 6) ∷ []

pub mvd-none : (first increment : ℕ) (d : DecoderState) → decoded (with_suffix (mvd_indices first increment) 9 3) d ≡ None →
    decoded (mvd first increment) d ≡ None
mvd-none first increment d is = then-none (with_suffix (mvd_indices first increment) 9 3) with_sign d is

pub mvd-then : (first increment size : ℕ) (d e : DecoderState) → decoded (with_suffix (mvd_indices first increment) 9 3) d ≡ Some (size, e) →
    decoded (mvd first increment) d ≡ decoded (with_sign size) e
mvd-then first increment size d e is = then-some (with_suffix (mvd_indices first increment) 9 3) with_sign d e size is

-- a 1 that is moved to a place of 32
pub one-moved : (z : ℕ) → z ≤ 19 → 1 * 2 ^ z % 4294967296 ≡ 2 ^ z
one-moved z h = let p = (pow-few z 19 h).1 in let one : 1 * 2 ^ z ≡ 2 ^ z = omega arith in rw one (mod-eq_of_lt (omega arith))

pub byte-digit : (b : Bool) → (bool_byte b ≡ digit b) × (bool_byte b < 2)
byte-digit true = (refl, omega arith)
byte-digit false = (refl, omega arith)

-- one place more
pub power-more : (n m : ℕ) → m ≡ suc n → 2 ^ m ≡ 2 * 2 ^ n
power-more n m e = ap (λ k. 2 ^ k) e ∙ pow-succ' 2 n
