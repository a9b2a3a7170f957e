-- What the further rules find of some calls, and of one more.
use Rattle.std.proofs.Common.{◌≡◌, ◌≢◌, ◌<◌, ◌==◌, if◌then◌else◌, ℕ, ℤ, ◌∷◌, List, [], ◌++◌, length, get_or, slice_set, Option, None, Some, true, false, refl}
use Rattle.std.proofs.Common.{sym, ap, ap₂, ◌∙◌, ◌⊎◌, inl, inr, Result, Ok, Err, OnOk}
use Rattle.std.proofs.lemmas.Bool.{cond-true, cond-false}
use Rattle.std.proofs.lemmas.Bool.Decides.{eqb_tells}
use Rattle.std.proofs.lemmas.Grind.{get_or-set_at}
use Rattle.std.proofs.lemmas.List.{append_assoc, append-nil, get_or-set_other}
use Rattle.h264_base.specs.Call.{Call, Tells, OfUnit, OfSlice, OfElement, OfFrame}
use Rattle.h264_base.specs.declared.element_name.ElementName.{ElementName}
use Rattle.h264_base.specs.declared.mode.SliceType.{SliceType}
use Rattle.h264_strict.specs.Strict.{after, after_element, after_unit, broken_by_element, after_slice, by_order, by_numbers, by_time, by_beginning, by_bytes}
use Rattle.h264_strict.specs.Strict.{has_other_length, picture_in, first_bit}
use Rattle.h264_strict.specs.Strict.{standing_after, places, bits_for, bit_of, broken_by, with_place, with_places, start, found_of, Advances, TookStrict}
use Rattle.h264_strict.specs.StrictRules.{broken_if, listed, place_of}
use Rattle.h264_strict.specs.declared.strict_rule.StrictRule.{StrictRule}
use Rattle.h264_strict.specs.declared.strict_rule.StrictRule.TheVariants as rules
use Rattle.h264_strict.specs.declared.strict.Standing.{Standing}
use Rattle.h264_strict.specs.declared.strict.Places.{Places}
use Rattle.h264_strict.specs.declared.strict.Strict.{Strict}
use Rattle.h264_bits.specs.Forms.{natural}

standing-more : (s : Standing) (calls : List Call) (call : Call) → standing_after s (calls ++ call ∷ []) ≡ after (standing_after s calls) call
unfolding standing_after
standing-more s [] call = refl
standing-more s (c ∷ calls) call = standing-more (after s c) calls call

places-more : (rule : StrictRule) (s : Standing) (calls : List Call) (call : Call) → places rule s (calls ++ call ∷ []) ≡ places rule s calls ++
    bits_for rule (bit_of call) (broken_by (standing_after s calls) call)
unfolding places standing_after
places-more rule s [] call = append-nil (bits_for rule (bit_of call) (broken_by s call))
places-more rule s (c ∷ calls) call =
    ap (λ l. bits_for rule (bit_of c) (broken_by s c) ++ l) (places-more rule (after s c) calls call)
    ∙ sym (append_assoc (bits_for rule (bit_of c) (broken_by s c)) (places rule (after s c) calls)
    (bits_for rule (bit_of call) (broken_by (standing_after (after s c) calls) call)))

pub with-more : (xs ys : List ℕ) (p : Option Places) → with_places p (xs ++ ys) ≡ with_places (with_places p xs) ys
unfolding with_places
with-more [] ys p = refl
with-more (x ∷ xs) ys p = with-more xs ys (Some (with_place p x))

-- one call more
pub took-more : (call : Call) (old new : Strict) (calls : List Call) → Advances call old new → TookStrict old calls → TookStrict new (calls ++ call ∷ [])
took-more call old new calls step before =
    let standing = step.0 ∙ ap (λ s. after s call) before.0 ∙ sym (standing-more start calls call) in
    let bits : StrictRule → Standing → List ℕ = λ rule s. bits_for rule (bit_of call) (broken_by s call) in (
      standing,
      λ rule. step.1 rule
          ∙ ap₂ (λ p s. with_places p (bits rule s)) (before.1 rule) before.0
          ∙ sym (with-more (places rule start calls) (bits rule (standing_after start calls)) None)
          ∙ ap (λ l. with_places None l) (sym (places-more rule start calls call)),
    )

-- no rule is broken here
pub note-none : (p : Option Places) (r : StrictRule) (bit : ℕ) → p ≡ with_places p (bits_for r bit (listed None))
unfolding with_places bits_for
note-none p r bit = refl

-- one rule is broken here
module _ (found : List (Option Places)) (rule r : StrictRule) (bit : ℕ) (within : place_of rule < length found) where
  abbrev pub noted : Option Places
  noted = Some (with_place (get_or found (place_of rule) None) bit)

  here : place_of rule == place_of r ≡ true →
      Some (with_place (get_or found (place_of r) None) bit) ≡ with_places (get_or found (place_of r) None) (bits_for r bit (listed (Some rule)))
  unfolding with_places bits_for
  here t = sym (ap (λ l. with_places (get_or found (place_of r) None) (l ++ [])) (cond-true _ _ _ t))

  elsewhere : place_of rule == place_of r ≡ false →
      get_or found (place_of r) None ≡ with_places (get_or found (place_of r) None) (bits_for r bit (listed (Some rule)))
  unfolding with_places bits_for
  elsewhere f = sym (ap (λ l. with_places (get_or found (place_of r) None) (l ++ [])) (cond-false _ _ _ f))

  pub note-one : get_or (slice_set found (place_of rule) noted) (place_of r) None ≡
      with_places (get_or found (place_of r) None) (bits_for r bit (listed (Some rule)))
  note-one = go (eqb_tells (place_of rule) (place_of r)) where
    go : ((place_of rule == place_of r ≡ true) × (place_of rule ≡ place_of r)) ⊎ ((place_of rule == place_of r ≡ false) × (place_of rule ≢ place_of r)) →
        get_or (slice_set found (place_of rule) noted) (place_of r) None ≡ with_places (get_or found (place_of r) None) (bits_for r bit (listed (Some rule)))
    go (inl e) = get_or-set_at found (place_of rule) (place_of r) noted None (sym e.1) within ∙ ap (λ k. Some (with_place (get_or found k None) bit)) e.1 ∙
        here e.0
    go (inr e) = get_or-set_other found (place_of rule) (place_of r) noted None (λ q. e.1 (sym q)) ∙ elsewhere e.0

-- the places of no calls
pub none-found : (r : StrictRule) → get_or
    (None ∷ None ∷ None ∷ None ∷ None ∷ None ∷ None ∷ None ∷ None ∷ None ∷ None ∷ None ∷ None ∷ None ∷ None ∷ None ∷ None ∷ None ∷ None ∷ None ∷ None ∷ None ∷
    None ∷ None ∷ None ∷ None ∷ None ∷ None ∷ None ∷ None ∷ None ∷ None ∷ None ∷ None ∷ None ∷ None ∷ None ∷ None ∷ None ∷ None ∷ None ∷ None ∷ None ∷ [])
    (place_of r) None ≡ with_places None (places r start [])
unfolding with_places places place_of
none-found rules.ReservedBits = refl
none-found rules.AspectRatio = refl
none-found rules.VideoFormat = refl
none-found rules.ColourPrimaries = refl
none-found rules.TransferCharacteristics = refl
none-found rules.MatrixCoefficients = refl
none-found rules.ChromaLocation = refl
none-found rules.Timing = refl
none-found rules.Restriction = refl
none-found rules.OperationsExclude = refl
none-found rules.IdrCount = refl
none-found rules.SetRefIdc = refl
none-found rules.DelimiterFirst = refl
none-found rules.FillerFirst = refl
none-found rules.AfterEndOfStream = refl
none-found rules.Level1b = refl
none-found rules.ReservedConstraint = refl
none-found rules.DirectInference = refl
none-found rules.LowDelay = refl
none-found rules.UnitLength = refl
none-found rules.EndFirst = refl
none-found rules.LongTermReference = refl
none-found rules.Weights = refl
none-found rules.FrameNumRepeated = refl
none-found rules.CountRepeated = refl
none-found rules.Reorder = refl
none-found rules.VectorCount = refl
none-found rules.FrameRate = refl
none-found rules.ScheduleOrder = refl
none-found rules.ScheduleLimits = refl
none-found rules.CommonFactor = refl
none-found rules.PictureBytes = refl
none-found rules.SeiSizes = refl
none-found rules.DelimiterBits = refl
none-found rules.FillerBytes = refl
none-found rules.ZeroByte = refl
none-found rules.DelimiterType = refl
none-found rules.SeiContent = refl
none-found rules.BufferUnderflow = refl
none-found rules.InitialDelay = refl
none-found rules.BufferOverflow = refl
none-found rules.MinCompression = refl
none-found rules.RemovalRate = refl

pub none-stands : start ≡ standing_after start []
unfolding standing_after
none-stands = refl

-- ---- each kind of call

pub element-advances : (old new : Strict) (name : ElementName) (bit : ℕ) (v : ℤ) → new.standing ≡ after_element old.standing name (natural v) →
    ((r : StrictRule) → found_of new r ≡ with_places (found_of old r) (bits_for r bit (broken_by_element old.standing name (natural v)))) →
    Advances (OfElement name bit v) old new
unfolding after broken_by
element-advances old new name bit v stands found = (stands, found)

bits-more : (r : StrictRule) (bit : ℕ) (xs ys : List StrictRule) → bits_for r bit (xs ++ ys) ≡ bits_for r bit xs ++ bits_for r bit ys
unfolding bits_for
bits-more r bit [] ys = refl
bits-more r bit (x ∷ xs) ys =
    let first : List ℕ = if place_of x == place_of r then bit ∷ [] else [] in
    ap (λ l. first ++ l) (bits-more r bit xs ys) ∙ sym (append_assoc first (bits_for r bit xs) (bits_for r bit ys))

-- these rules are broken, and then those
pub noted-more : (r : StrictRule) (bit : ℕ) (old mid new : Option Places) (xs ys : List StrictRule) → mid ≡ with_places old (bits_for r bit xs) →
    new ≡ with_places mid (bits_for r bit ys) → new ≡ with_places old (bits_for r bit (xs ++ ys))
noted-more r bit old mid new xs ys first second =
    second
    ∙ ap (λ p. with_places p (bits_for r bit ys)) first
    ∙ sym (with-more (bits_for r bit xs) (bits_for r bit ys) old)
    ∙ ap (λ l. with_places old l) (sym (bits-more r bit xs ys))

-- From old to new these rules were noted as broken at this bit.
abbrev pub Notes : Strict → Strict → ℕ → List StrictRule → Type 0
Notes old new bit broken = (r : StrictRule) → found_of new r ≡ with_places (found_of old r) (bits_for r bit broken)

pub unit-advances : (old mid new : Strict) (byte kind ref_idc length : ℕ) → new.standing ≡ after_unit old.standing kind ref_idc length →
    Notes old mid (first_bit byte) (listed (by_order old.standing kind ref_idc) ++ listed (broken_if (has_other_length kind length) rules.UnitLength)) →
    Notes mid new (first_bit byte) (listed (broken_if old.standing.ended rules.AfterEndOfStream)) → Advances (OfUnit byte kind ref_idc length) old new
unfolding after broken_by
unit-advances old mid new byte kind ref_idc length stands first second =
    let form = listed (by_order old.standing kind ref_idc) ++ listed (broken_if (has_other_length kind length) rules.UnitLength) in
    let end = listed (broken_if old.standing.ended rules.AfterEndOfStream) in
    (stands, λ r. noted-more r (first_bit byte) (found_of old r) (found_of mid r) (found_of new r) form end (first r) (second r))

pub tells-zero : (n : ℕ) → n ≡ 0 → n == 0 ≡ true
tells-zero n e = go (eqb_tells n 0) where
  go : ((n == 0 ≡ true) × (n ≡ 0)) ⊎ ((n == 0 ≡ false) × (n ≢ 0)) → n == 0 ≡ true
  go (inl t) = t.0
  go (inr f) = absurd (f.1 e)

pub tells-other : (n : ℕ) → n ≢ 0 → n == 0 ≡ false
tells-other n e = go (eqb_tells n 0) where
  go : ((n == 0 ≡ true) × (n ≡ 0)) ⊎ ((n == 0 ≡ false) × (n ≢ 0)) → n == 0 ≡ false
  go (inl t) = absurd (e t.1)
  go (inr f) = f.0

-- a slice that begins a picture
pub picture-begins : (old mid new : Strict) (bit mb frame_num : ℕ) (count : ℤ) → mb == 0 ≡ true →
    Notes old mid bit (by_numbers old.standing (picture_in old.standing frame_num count)) →
    Notes mid new bit (by_time old.standing (picture_in old.standing frame_num count)) → Notes old new bit (by_beginning old.standing mb frame_num count)
picture-begins old mid new bit mb frame_num count begins first second r =
    let picture = picture_in old.standing frame_num count in
    noted-more r bit (found_of old r) (found_of mid r) (found_of new r) (by_numbers old.standing picture) (by_time old.standing picture) (first r) (second r)
    ∙ sym (ap (λ l. with_places (found_of old r) (bits_for r bit l)) (cond-true _ _ _ begins))

-- a later slice of a picture
pub none-begins : (s : Strict) (bit mb frame_num : ℕ) (count : ℤ) → mb == 0 ≡ false → Notes s s bit (by_beginning s.standing mb frame_num count)
unfolding bits_for with_places
none-begins s bit mb frame_num count later r = sym (ap (λ l. with_places (found_of s r) (bits_for r bit l)) (cond-false _ _ _ later))

pub slice-advances : (old mid new : Strict) (byte mb : ℕ) (kind : SliceType) (frame_num : ℕ) (count : ℤ) →
    new.standing ≡ after_slice old.standing mb frame_num count →
    Notes old mid (first_bit byte) (by_beginning old.standing mb frame_num count) →
    Notes mid new (first_bit byte) (listed (broken_if (by_bytes old.standing mb) rules.PictureBytes)) → Advances (OfSlice byte mb kind frame_num count) old new
unfolding after broken_by
slice-advances old mid new byte mb kind frame_num count stands first second =
    let beginning = by_beginning old.standing mb frame_num count in
    let bytes = listed (broken_if (by_bytes old.standing mb) rules.PictureBytes) in
    (stands, λ r. noted-more r (first_bit byte) (found_of old r) (found_of mid r) (found_of new r) beginning bytes (first r) (second r))

-- a frame
pub frame-advances : (s : Strict) (count : ℤ) (width height : ℕ) (bytes : List ℕ) → Advances (OfFrame count width height bytes) s s
unfolding after broken_by bits_for with_places
frame-advances s count width height bytes = (refl, λ r. refl)

-- a sink inside that took a call, and the further rules with it
pub both-more : {S : Type 0} (took : S → List Call → Type 0) (s s' : S) (call : Call) (x x' : Strict) → Tells took s s' (call ∷ []) → Advances call x x' →
    (before : List Call) → took s before × TookStrict x before → took s' (before ++ call ∷ []) × TookStrict x' (before ++ call ∷ [])
both-more took s s' call x x' inner step before h = (inner.told before h.0, took-more call x x' before step h.1)

pub on-ok : {X E A B : Type 0} (r : Result X E) → (A → B) → OnOk r A → OnOk r B
on-ok (Ok x) f a = f a
on-ok (Err e) f a = tt
