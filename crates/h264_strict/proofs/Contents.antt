-- What the messages of a unit break, read from the front on.
use Rattle.std.proofs.Common.{◌≡◌, ℕ, suc, ◌*◌, ◌==◌, ◌&&◌, ◌||◌, Bool, true, false, not, if◌then◌else◌, List, [], ◌++◌, length, drop, Option, None, Some}
use Rattle.std.proofs.Common.{refl, sym, ap, ap₂, subst, ◌∙◌}
use Rattle.std.proofs.lemmas.Bool.{cond-true, cond-false, false≢true}
use Rattle.h264_base.specs.Body.{Body, place}
use Rattle.h264_rbsp.specs.Rbsp.{body_of, rbsp_bytes}
use Rattle.h264_strict.specs.SeiMessages.{is_sei}
use Rattle.h264_strict.specs.SeiPayload.{message_at}
use Rattle.h264_strict.specs.SeiTimes.{no_times}
use Rattle.h264_strict.specs.SeiTiming.{known_after}
use Rattle.h264_strict.specs.declared.sei.payload.Message.{Message}
use Rattle.h264_strict.specs.declared.sei.timing.KnownSet.{KnownSet}
use Rattle.h264_units.specs.Stream.{NalUnit}
use Rattle.h264_strict.specs.Strict.{bits_for, with_places}
use Rattle.h264_strict.specs.StrictBytes.{is_delimiter, is_filler, is_judged, kind_of, broken_unit}
use Rattle.h264_strict.specs.StrictContent.{bits_from, message_bits, content_bits, bits_by_bytes, set_after, times_told}
use Rattle.h264_strict.specs.StrictRules.{broken_if, listed}
use Rattle.h264_strict.specs.declared.strict.Places.{Places}
use Rattle.h264_strict.specs.declared.strict_rule.StrictRule.{StrictRule}
use Rattle.h264_strict.specs.declared.strict_rule.StrictRule.TheVariants as rules
use Rattle.h264_strict.proofs.Broken.{with-more}
use Rattle.h264_base.proofs.Plain.{first-false}

module _ (rule : StrictRule) (known : KnownSet) (n m : ℕ) (body : Body) (at : ℕ) (up : n ≡ suc m) where
  split : message_bits rule known n body at ≡ bits_from rule (message_at known body.bytes at) (place body (8 * at)) (message_bits rule known m body)
  unfolding message_bits
  split = ap (λ k. message_bits rule known k body at) up

  -- no whole message stands there
  pub messages-none : message_at known body.bytes at ≡ None → message_bits rule known n body at ≡ []
  messages-none e = split ∙ ap (λ o. bits_from rule o (place body (8 * at)) (message_bits rule known m body)) e

  -- one does, and was noted
  pub messages-some : (message : Message) (old new : Option Places) (bit : ℕ) (broken : Option StrictRule) → message_at known body.bytes at ≡ Some message →
      bit ≡ place body (8 * at) → broken ≡ broken_if (not message.holds) rules.SeiContent → new ≡ with_places old (bits_for rule bit (listed broken)) →
      with_places old (message_bits rule known n body at) ≡ with_places new (message_bits rule known m body message.end)
  messages-some message old new bit broken e is-bit is-broken notes =
      let here = bits_for rule (place body (8 * at)) (listed (broken_if (not message.holds) rules.SeiContent)) in
      ap (with_places old) (split ∙ ap (λ o. bits_from rule o (place body (8 * at)) (message_bits rule known m body)) e)
      ∙ with-more here (message_bits rule known m body message.end) old
      ∙ ap (λ p. with_places p (message_bits rule known m body message.end))
      (sym (notes ∙ ap (λ b. with_places old (bits_for rule b (listed broken))) is-bit ∙
      ap (λ b. with_places old (bits_for rule (place body (8 * at)) (listed b))) is-broken))

pub messages-out : (rule : StrictRule) (known : KnownSet) (n : ℕ) (body : Body) (at : ℕ) → n ≡ 0 → message_bits rule known n body at ≡ []
unfolding message_bits
messages-out rule known n body at none = ap (λ k. message_bits rule known k body at) none

-- where its messages are not looked at
pub content-not : (rule : StrictRule) (known : KnownSet) (kind : ℕ) (body : Body) → ((kind == 6) && is_sei body.bytes) ≡ false →
    content_bits rule known kind body ≡ []
content-not rule known kind body e = cond-false _ _ _ e

pub content-is : (rule : StrictRule) (known : KnownSet) (kind : ℕ) (body : Body) → ((kind == 6) && is_sei body.bytes) ≡ true →
    content_bits rule known kind body ≡ message_bits rule known (length body.bytes) body 0
content-is rule known kind body e = cond-true _ _ _ e

none-of : {A : Type 0} (a b c d : Bool) (x y z none : A) → (a || (b || (c || d))) ≡ false → (if a then x else (if c then y else (if d then z else none))) ≡ none
none-of true b c d x y z none h = absurd (false≢true (sym h))
none-of false true c d x y z none h = absurd (false≢true (sym h))
none-of false false true d x y z none h = absurd (false≢true (sym h))
none-of false false false true x y z none h = absurd (false≢true (sym h))
none-of false false false false x y z none h = refl

second-not : (a b c : Bool) → (a || (b || c)) ≡ false → b ≡ false
second-not true b c h = absurd (false≢true (sym h))
second-not false b c h = first-false b c h

-- a unit whose bytes are not looked at
pub unjudged : (rule : StrictRule) (known : KnownSet) (unit : NalUnit) (kind : ℕ) → kind ≡ kind_of unit → is_judged kind ≡ false →
    bits_by_bytes rule known unit ≡ []
unfolding bits_for
unjudged rule known unit kind is off =
    let here = subst (λ k. is_judged k ≡ false) is off in
    let k = kind_of unit in
    let bytes = rbsp_bytes (drop 1 unit.body) in
    let no : broken_unit unit ≡ None = none-of (k == 6) (k == 7) (k == 9) (k == 12) (broken_if (not (is_sei bytes)) rules.SeiSizes)
    (broken_if (not (is_delimiter bytes)) rules.DelimiterBits)
    (broken_if (not (is_filler bytes)) rules.FillerBytes) None here in
    ap₂ (λ r l. bits_for rule (8 * unit.from) (listed r) ++ l) no
    (content-not rule known k (body_of unit) (ap (λ t. t && is_sei (body_of unit).bytes) (first-false (k == 6) ((k == 7) || ((k == 9) || (k == 12))) here)))

pub unjudged-set : (known : KnownSet) (unit : NalUnit) (kind : ℕ) → kind ≡ kind_of unit → is_judged kind ≡ false → known ≡ set_after known unit
unjudged-set known unit kind is off =
    let here = subst (λ k. is_judged k ≡ false) is off in
    let k = kind_of unit in
    sym (cond-false (k == 7) (known_after known (body_of unit)) known (second-not (k == 6) (k == 7) ((k == 9) || (k == 12)) here))

pub unjudged-times : (known : KnownSet) (unit : NalUnit) (kind : ℕ) → kind ≡ kind_of unit → is_judged kind ≡ false → no_times ≡ times_told known unit
unjudged-times known unit kind is off =
    let here = subst (λ k. is_judged k ≡ false) is off in
    let k = kind_of unit in
    let bytes = (body_of unit).bytes in
    sym (cond-false ((k == 6) && is_sei bytes) _ _ (ap (λ t. t && is_sei bytes) (first-false (k == 6) ((k == 7) || ((k == 9) || (k == 12))) here)))

-- what a unit breaks, and then its messages
pub bytes-noted : (rule : StrictRule) (known : KnownSet) (unit : NalUnit) (old mid new : Option Places) (bit kind : ℕ) (broken : Option StrictRule)
    (body : Body) → bit ≡ 8 * unit.from → kind ≡ kind_of unit →
    broken ≡ broken_unit unit → body ≡ body_of unit → mid ≡ with_places old (bits_for rule bit (listed broken)) →
    new ≡ with_places mid (content_bits rule known kind body) →
    new ≡ with_places old (bits_by_bytes rule known unit)
bytes-noted rule known unit old mid new bit kind broken body at is-kind is-broken is-body first second =
    second
    ∙ ap₂ (λ k b. with_places mid (content_bits rule known k b)) is-kind is-body
    ∙ ap (λ p. with_places p (content_bits rule known (kind_of unit) (body_of unit)))
    (first ∙ ap₂ (λ n r. with_places old (bits_for rule n (listed r))) at is-broken)
    ∙ sym (with-more (bits_for rule (8 * unit.from) (listed (broken_unit unit))) (content_bits rule known (kind_of unit) (body_of unit)) old)

-- nothing is noted
pub none-noted : (p : Option Places) (bits : List ℕ) → bits ≡ [] → with_places p bits ≡ p
unfolding with_places
none-noted p bits e = ap (with_places p) e
