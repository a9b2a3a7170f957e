-- What a reader of units took of bytes, and of more.
use Rattle.std.proofs.Common.{◌≡◌, ℕ, ◌*◌, ◌==◌, Bool, true, false, List, [], ◌∷◌, ◌++◌, take, drop, Option, None, Result, Ok, Err, OnOk}
use Rattle.std.proofs.Common.{OnErr, IsFalse, inl, refl, sym, ap, ap₂, subst, ◌∙◌}
use Rattle.std.proofs.Math.Path.{subst₂}
use Rattle.std.proofs.lemmas.Bool.{false≢true}
use Rattle.std.proofs.lemmas.List.{append_assoc, append-nil, take-append-drop}
use Rattle.h264_base.specs.declared.stop.Stop.{Stop}
use Rattle.h264_base.specs.declared.stop.Stop.TheVariants.{No, Outside, Memory, Read, Write}
use Rattle.h264_units.specs.Stream.{NalUnit, Next, past, HasTail, Splits, Tail, Zeros, IsUndecided}
use Rattle.h264_units.specs.Splitting.{Splitting, at_start, Pushed, PushStops, Refused, Taken, Finished, FinishStops}
use Rattle.h264_strict.specs.BufferUnits.{ended_bits}
use Rattle.h264_strict.specs.declared.buffer.Lack.{Lack}
use Rattle.h264_strict.specs.declared.buffer_units.Ended.{Ended}
use Rattle.h264_strict.specs.Strict.{with_places, bits_for, places, start}
use Rattle.h264_strict.specs.StrictContent.{bits_by_bytes}
use Rattle.h264_strict.specs.StrictRules.{listed}
use Rattle.h264_strict.specs.StrictExtent.{is_whole, cut_off, extent_after, extent_of}
use Rattle.h264_strict.specs.StrictStarts.{no_units, after_unit, after_units, by_zero_byte, by_pic_type, broken_after, came_after, own_bits, unit_bits}
use Rattle.h264_strict.specs.StrictStarts.{places_in, told_of_units, told_to_end, ended_last, lack_so_far, lack_at_end, noted_in, NotesUnit}
use Rattle.h264_strict.specs.StrictUnits.{BeginWith, AreRefused, SplitsToStop, TookBytes, TellsOfBytes, told_by, lack_by}
use Rattle.h264_strict.specs.declared.strict.Places.{Places}
use Rattle.h264_strict.specs.declared.strict_extent.Extent.{Extent}
use Rattle.h264_strict.specs.declared.strict_extent.Extent.TheVariants as extents
use Rattle.h264_strict.specs.declared.strict_rule.StrictRule.{StrictRule}
use Rattle.h264_strict.specs.declared.strict_starts.UnitsBefore.{UnitsBefore}
use Rattle.h264_strict.specs.declared.strict_starts.UnitsNoted.{UnitsNoted}
use Rattle.h264_strict.proofs.Broken.{with-more, noted-more}

-- ---- one more unit

begin-more : (at : ℕ) (bytes : List ℕ) (units : List NalUnit) (after : ℕ) (left : List ℕ) (unit : NalUnit) (rest : List ℕ) →
    BeginWith at bytes units after left → Next after left unit rest → BeginWith at bytes (units ++ unit ∷ []) (past unit) rest
begin-more at bytes [] after left unit rest b next = (rest, subst₂ (λ (n : ℕ) (l : List ℕ). Next n l unit rest) b.0 b.1 next, (refl, refl))
begin-more at bytes (u ∷ us) after left unit rest b next = (b.0, b.1, begin-more (past u) b.0 us after left unit rest b.2 next)

splits-from : (tail : Tail) (at : ℕ) (bytes : List ℕ) (units : List NalUnit) (after : ℕ) (left : List ℕ) → BeginWith at bytes units after left →
    HasTail after left tail → Splits at bytes units tail
splits-from tail at bytes [] after left b h = subst₂ (λ (n : ℕ) (l : List ℕ). HasTail n l tail) b.0 b.1 h
splits-from tail at bytes (u ∷ us) after left b h = (b.0, b.1, splits-from tail (past u) b.0 us after left b.2 h)

after-more : (s : UnitsBefore) (units : List NalUnit) (unit : NalUnit) → after_units s (units ++ unit ∷ []) ≡ after_unit (after_units s units) unit
unfolding after_units
after-more s [] unit = refl
after-more s (u ∷ us) unit = after-more (after_unit s u) us unit

places-more : (rule : StrictRule) (s : UnitsBefore) (units : List NalUnit) (unit : NalUnit) →
    places_in rule s (units ++ unit ∷ []) ≡ places_in rule s units ++ unit_bits rule (after_units s units) unit
unfolding places_in after_units
places-more rule s [] unit = append-nil _
places-more rule s (u ∷ us) unit =
    let first = unit_bits rule s u in
    ap (λ l. first ++ l) (places-more rule (after_unit s u) us unit)
    ∙ sym (append_assoc first (places_in rule (after_unit s u) us) (unit_bits rule (after_units (after_unit s u) us) unit))

told-more : (rule : StrictRule) (units : List NalUnit) (unit : NalUnit) →
    told_of_units rule (units ++ unit ∷ []) ≡ with_places (told_of_units rule units) (unit_bits rule (after_units no_units units) unit)
told-more rule units unit =
    ap (λ l. with_places None l) (places-more rule no_units units unit)
    ∙ with-more (places_in rule no_units units) (unit_bits rule (after_units no_units units) unit) None

before-more : (old new : UnitsNoted) (units : List NalUnit) (unit : NalUnit) → old.before ≡ after_units no_units units → NotesUnit old unit new →
    new.before ≡ after_units no_units (units ++ unit ∷ [])
before-more old new units unit before notes = notes.0 ∙ ap (λ s. after_unit s unit) before ∙ sym (after-more no_units units unit)

tells-more : (old new : UnitsNoted) (units : List NalUnit) (unit : NalUnit) → old.before ≡ after_units no_units units →
    ((rule : StrictRule) → noted_in old.found rule ≡ told_of_units rule units) → NotesUnit old unit new →
    (rule : StrictRule) → noted_in new.found rule ≡ told_of_units rule (units ++ unit ∷ [])
tells-more old new units unit before tells notes rule =
    notes.1 rule
    ∙ ap₂ (λ p s. with_places p (unit_bits rule s unit)) (tells rule) before
    ∙ sym (told-more rule units unit)

-- ---- the rules of a unit

pub notes-all : (old first second third last : List (Option Places)) (s : UnitsBefore) (unit : NalUnit) (bit : ℕ) (b c : Option StrictRule)
    (e : Option Ended) → bit ≡ 8 * unit.from →
    b ≡ by_zero_byte s unit → c ≡ by_pic_type s unit → e ≡ (came_after s unit).ended →
    ((r : StrictRule) → noted_in first r ≡ with_places (noted_in old r) (bits_by_bytes r s.set unit)) →
    ((r : StrictRule) → noted_in second r ≡ with_places (noted_in first r) (bits_for r bit (listed b))) →
    ((r : StrictRule) → noted_in third r ≡ with_places (noted_in second r) (bits_for r bit (listed c))) →
    ((r : StrictRule) → noted_in last r ≡ with_places (noted_in third r) (ended_bits r e)) →
    (r : StrictRule) → noted_in last r ≡ with_places (noted_in old r) (unit_bits r s unit)
notes-all old first second third last s unit bit b c e at is-b is-c is-e one two three four r =
    let own : noted_in third r ≡ with_places (noted_in old r) (own_bits r s unit) =
    noted-more r bit (noted_in first r) (noted_in second r) (noted_in third r) (listed b) (listed c) (two r) (three r)
    ∙ ap₂ (λ n l. with_places (noted_in first r) (bits_for r n l)) at (ap₂ (λ x y. listed x ++ listed y) is-b is-c)
    ∙ ap (λ p. with_places p (bits_for r (8 * unit.from) (broken_after s unit))) (one r)
    ∙ sym (with-more (bits_by_bytes r s.set unit) (bits_for r (8 * unit.from) (broken_after s unit)) (noted_in old r)) in
    four r
    ∙ ap₂ (λ p x. with_places p (ended_bits r x)) own is-e
    ∙ sym (with-more (own_bits r s unit) (ended_bits r (came_after s unit).ended) (noted_in old r))

-- ---- how far a reader looks

pub whole-of : (r : Extent) → is_whole r ≡ true → r ≡ extents.Whole
whole-of extents.Whole h = refl
whole-of extents.NoByteStream h = absurd (false≢true h)
whole-of extents.NotToTheEnd h = absurd (false≢true h)
whole-of extents.Memory h = absurd (false≢true h)

not-whole : (r : Extent) → is_whole r ≡ false → r ≡ extents.Whole → ⊥
not-whole extents.Whole h e = absurd (false≢true (sym h))
not-whole extents.NoByteStream h e = cc
not-whole extents.NotToTheEnd h e = cc
not-whole extents.Memory h e = cc

memory-not-whole : extents.Memory ≡ extents.Whole → ⊥
memory-not-whole e = cc

memory-no-stream : extents.Memory ≡ extents.NoByteStream → ⊥
memory-no-stream e = cc

memory-not-cut : extents.Memory ≡ extents.NotToTheEnd → ⊥
memory-not-cut e = cc

whole-no-stream : extents.Whole ≡ extents.NoByteStream → ⊥
whole-no-stream e = cc

whole-not-cut : extents.Whole ≡ extents.NotToTheEnd → ⊥
whole-not-cut e = cc

stream-not-whole : extents.NoByteStream ≡ extents.Whole → ⊥
stream-not-whole e = cc

stream-not-cut : extents.NoByteStream ≡ extents.NotToTheEnd → ⊥
stream-not-cut e = cc

cut-not-whole : extents.NotToTheEnd ≡ extents.Whole → ⊥
cut-not-whole e = cc

cut-no-stream : extents.NotToTheEnd ≡ extents.NoByteStream → ⊥
cut-no-stream e = cc

-- ---- a reader and more bytes

pub took-nothing : (s : Splitting) (noted : UnitsNoted) → s ≡ at_start → noted.before ≡ no_units →
    ((rule : StrictRule) → noted_in noted.found rule ≡ with_places None (places rule start [])) →
    TookBytes s extents.Whole noted []
unfolding places places_in with_places after_units
took-nothing s noted same began none = record {
  front = [];
  rest = [];
  units = [];
  at = 0;
  left = [];
  whole = refl;
  begins = λ more. (refl, refl);
  before = began;
  tells = none;
  all = λ h. (refl, inl (0, refl));
  stands = λ h. (ap (λ (x : Splitting). x.at) same, ap (λ (x : Splitting). x.rest) same, ap (λ (x : Splitting). x.stop) same);
  refused = λ h. absurd (whole-no-stream h);
  not_cut = λ h. whole-not-cut h;
}

-- the first bytes and the others
pub parts-of : (n : ℕ) (bytes : List ℕ) → bytes ≡ take n bytes ++ drop n bytes
parts-of n bytes = sym (take-append-drop n bytes)

-- what is refused stays so with more bytes
refused-more : (at : ℕ) (left rest bytes : List ℕ) → AreRefused at (left ++ rest) → AreRefused at (left ++ (rest ++ bytes))
refused-more at left rest bytes r = (
  r.0,
  record {
    tail = r.1.tail;
    stop_is = r.1.stop_is;
    stands = λ more.
        subst (λ (l : List ℕ). HasTail at l r.1.tail)
        (sym (append_assoc (left ++ rest) bytes more) ∙ ap (λ l. l ++ more) (append_assoc left rest bytes))
        (r.1.stands (bytes ++ more));
  },
)

-- it looks at no more
pub took-stopped : (s : Splitting) (r : Extent) (noted : UnitsNoted) (before bytes : List ℕ) → is_whole r ≡ false → TookBytes s r noted before →
    TookBytes s r noted (before ++ bytes)
took-stopped s r noted before bytes off t = record {
  front = t.front;
  rest = t.rest ++ bytes;
  units = t.units;
  at = t.at;
  left = t.left;
  whole = ap (λ l. l ++ bytes) t.whole ∙ append_assoc t.front t.rest bytes;
  begins = t.begins;
  before = t.before;
  tells = t.tells;
  all = λ h. absurd (not-whole r off h);
  stands = λ h. absurd (not-whole r off h);
  refused = λ h. refused-more t.at t.left t.rest bytes (t.refused h);
  not_cut = t.not_cut;
}

-- memory is wanting
took-memory : (old new : Splitting) (noted : UnitsNoted) (before bytes : List ℕ) → TookBytes old extents.Whole noted before →
    TookBytes new extents.Memory noted (before ++ bytes)
took-memory old new noted before bytes t = record {
  front = t.front;
  rest = t.rest ++ bytes;
  units = t.units;
  at = t.at;
  left = t.left;
  whole = ap (λ l. l ++ bytes) t.whole ∙ append_assoc t.front t.rest bytes;
  begins = t.begins;
  before = t.before;
  tells = t.tells;
  all = λ h. absurd (memory-not-whole h);
  stands = λ h. absurd (memory-not-whole h);
  refused = λ h. absurd (memory-no-stream h);
  not_cut = λ h. memory-not-cut h;
}

-- the bytes are no byte stream
took-refused : (old new : Splitting) (noted : UnitsNoted) (before piece : List ℕ) (stop : Stop) → TookBytes old extents.Whole noted before →
    Refused old.at (old.rest ++ piece) stop →
    TookBytes new extents.NoByteStream noted (before ++ piece)
took-refused old new noted before piece stop t r = record {
  front = t.front;
  rest = t.rest ++ piece;
  units = t.units;
  at = t.at;
  left = t.left;
  whole = ap (λ l. l ++ piece) t.whole ∙ append_assoc t.front t.rest piece;
  begins = t.begins;
  before = t.before;
  tells = t.tells;
  all = λ h. absurd (stream-not-whole h);
  stands = λ h. absurd (stream-not-whole h);
  refused = λ h. (
    stop,
    subst₂ (λ (n : ℕ) (l : List ℕ). Refused n l stop) (t.stands refl).0
        (ap (λ l. l ++ piece) (t.stands refl).1 ∙ ap (λ l. t.left ++ (l ++ piece)) (sym (t.all refl).0)) r,
  );
  not_cut = λ h. stream-not-cut h;
}

-- a piece can't be cut into units
pub took-stop : (old new : Splitting) (noted : UnitsNoted) (before piece : List ℕ) (stop : Stop) → TookBytes old extents.Whole noted before →
    (old.stop ≡ None → PushStops old new piece stop) →
    TookBytes new (extent_after stop) noted (before ++ piece)
took-stop old new noted before piece Memory t stops = took-memory old new noted before piece t
took-stop old new noted before piece (No bit rule) t stops = took-refused old new noted before piece (No bit rule) t (stops (t.stands refl).2).0
took-stop old new noted before piece (Outside bit feature) t stops = took-refused old new noted before piece (Outside bit feature) t (stops (t.stands refl).2).0
took-stop old new noted before piece Read t stops = absurd (stops (t.stands refl).2)
took-stop old new noted before piece Write t stops = absurd (stops (t.stands refl).2)

module _ (old mid : Splitting) (noted : UnitsNoted) (before piece : List ℕ) (n : ℕ) (t : TookBytes old extents.Whole noted before)
    (pushed : Pushed old mid piece n) where
  abbrev pub taken-bytes : List ℕ
  taken-bytes = take n piece

  whole-more : before ++ taken-bytes ≡ (t.front ++ taken-bytes) ++ []
  whole-more = ap (λ l. l ++ taken-bytes) (t.whole ∙ ap (λ l. t.front ++ l) (t.all refl).0 ∙ append-nil t.front) ∙ sym (append-nil (t.front ++ taken-bytes))

  begins-more : (more : List ℕ) → BeginWith 0 ((t.front ++ taken-bytes) ++ more) t.units t.at ((t.left ++ taken-bytes) ++ more)
  begins-more more =
      subst₂ (λ (a b : List ℕ). BeginWith 0 a t.units t.at b) (sym (append_assoc t.front taken-bytes more)) (sym (append_assoc t.left taken-bytes more))
      (t.begins (taken-bytes ++ more))

  at-is : mid.at ≡ t.at
  at-is = pushed.at_is ∙ (t.stands refl).0

  left-is : mid.rest ≡ t.left ++ taken-bytes
  left-is = pushed.rest_is ∙ ap (λ l. l ++ taken-bytes) (t.stands refl).1

  -- and no unit ends in them
  pub took-some : (new : Splitting) → new ≡ mid → IsFalse mid.waiting → TookBytes new extents.Whole noted (before ++ take n piece)
  took-some new same idle = record {
    front = t.front ++ taken-bytes;
    rest = [];
    units = t.units;
    at = t.at;
    left = t.left ++ taken-bytes;
    whole = whole-more;
    begins = begins-more;
    before = t.before;
    tells = t.tells;
    all = λ h. (refl, subst IsUndecided left-is (pushed.undecided idle));
    stands = λ h. (
      ap (λ (s : Splitting). s.at) same ∙ at-is,
      ap (λ (s : Splitting). s.rest) same ∙ left-is,
      ap (λ (s : Splitting). s.stop) same ∙
          pushed.stop_is,
    );
    refused = λ h. absurd (whole-no-stream h);
    not_cut = λ h. whole-not-cut h;
  }

  module _ (new : Splitting) (unit : NalUnit) (taken : Taken mid new unit) (runs : IsFalse old.ended) where
    begins-unit : (more : List ℕ) → BeginWith 0 ((t.front ++ taken-bytes) ++ more) (t.units ++ unit ∷ []) (past unit) (new.rest ++ more)
    begins-unit more =
        begin-more 0 ((t.front ++ taken-bytes) ++ more) t.units t.at ((t.left ++ taken-bytes) ++ more) unit (new.rest ++ more) (begins-more more)
        (subst₂ (λ (m : ℕ) (l : List ℕ). Next m (l ++ more) unit (new.rest ++ more)) at-is left-is (taken.decided (pushed.ended_is ∙ runs) more))

    -- and a unit ends in them, which was noted where memory was there
    pub took-unit : (looked : Result (Unit {0}) Stop) (later : UnitsNoted) → OnOk looked (NotesUnit noted unit later) → OnErr looked (later ≡ noted) →
        TookBytes new (extent_of looked) later (before ++ take n piece)
    took-unit (Ok u) later notes same = record {
      front = t.front ++ taken-bytes;
      rest = [];
      units = t.units ++ unit ∷ [];
      at = past unit;
      left = new.rest;
      whole = whole-more;
      begins = begins-unit;
      before = before-more noted later t.units unit t.before notes;
      tells = tells-more noted later t.units unit t.before t.tells notes;
      all = λ h. (refl, taken.undecided);
      stands = λ h. (taken.at_is, refl, taken.stop_is);
      refused = λ h. absurd (whole-no-stream h);
      not_cut = λ h. whole-not-cut h;
    }
    took-unit (Err e) later notes same = subst (λ (f : UnitsNoted). TookBytes new extents.Memory f (before ++ take n piece)) (sym same)
        (took-memory old new noted before (take n piece) t)

-- ---- the end

-- the last access unit was noted too
abbrev pub NotesEnd : UnitsNoted → List (Option Places) → Type 0
NotesEnd noted found = (rule : StrictRule) → noted_in found rule ≡ with_places (noted_in noted.found rule) (ended_bits rule (ended_last noted.before))

told-lack : (r : Extent) (units : List NalUnit) → is_whole r ≡ false → lack_so_far (after_units no_units units) ≡ lack_by r units
told-lack extents.Whole units h = absurd (false≢true (sym h))
told-lack extents.NoByteStream units h = refl
told-lack extents.NotToTheEnd units h = refl
told-lack extents.Memory units h = refl

tells-end : (noted : UnitsNoted) (found : List (Option Places)) (units : List NalUnit) → noted.before ≡ after_units no_units units →
    ((rule : StrictRule) → noted_in noted.found rule ≡ told_of_units rule units) → NotesEnd noted found →
    (rule : StrictRule) → noted_in found rule ≡ told_to_end rule units
tells-end noted found units before tells ends rule = ends rule ∙ ap₂ (λ p s. with_places p (ended_bits rule (ended_last s))) (tells rule) before

told-stopped : (r : Extent) (rule : StrictRule) (units : List NalUnit) → is_whole r ≡ false → told_of_units rule units ≡ told_by r rule units
told-stopped extents.Whole rule units h = absurd (false≢true (sym h))
told-stopped extents.NoByteStream rule units h = refl
told-stopped extents.NotToTheEnd rule units h = refl
told-stopped extents.Memory rule units h = refl

begins-now : (front : List ℕ) (units : List NalUnit) (at : ℕ) (left : List ℕ) → BeginWith 0 (front ++ []) units at (left ++ []) →
    BeginWith 0 front units at left
begins-now front units at left b = subst₂ (λ (x y : List ℕ). BeginWith 0 x units at y) (append-nil front) (append-nil left) b

-- what begins with these units still does where nothing more comes
begins-end : (bytes : List ℕ) (units : List NalUnit) (at : ℕ) (left more : List ℕ) → more ≡ [] → BeginWith 0 bytes units at left →
    BeginWith 0 (bytes ++ more) units at (left ++ more)
begins-end bytes units at left more none b =
    subst (λ (m : List ℕ). BeginWith 0 (bytes ++ m) units at (left ++ m)) (sym none)
    (subst₂ (λ (x y : List ℕ). BeginWith 0 x units at y) (sym (append-nil bytes)) (sym (append-nil left)) b)

-- a reader that looks at no more
module _ (s : Splitting) (r : Extent) (noted : UnitsNoted) (bytes : List ℕ) (t : TookBytes s r noted bytes) where
  begins-all : (more : List ℕ) → BeginWith 0 (bytes ++ more) t.units t.at ((t.left ++ t.rest) ++ more)
  begins-all more =
      subst₂ (λ (a b : List ℕ). BeginWith 0 a t.units t.at b) (sym (ap (λ l. l ++ more) t.whole ∙ append_assoc t.front t.rest more))
      (sym (append_assoc t.left t.rest more))
      (t.begins (t.rest ++ more))

  splits-refused : AreRefused t.at (t.left ++ t.rest) → SplitsToStop bytes t.units
  splits-refused a = (
    a.1.tail,
    a.0,
    a.1.stop_is,
    splits-from a.1.tail 0 bytes t.units t.at (t.left ++ t.rest)
        (subst (λ (l : List ℕ). BeginWith 0 l t.units t.at (t.left ++ t.rest)) (sym t.whole) (t.begins t.rest))
        (subst (λ (l : List ℕ). HasTail t.at l a.1.tail) (append-nil (t.left ++ t.rest)) (a.1.stands [])),
  )

  pub tells-stopped : (ended : Bool) → is_whole r ≡ false → TellsOfBytes r ended noted.found (lack_so_far noted.before) bytes
  tells-stopped ended off = record {
    units = t.units;
    at = t.at;
    left = t.left ++ t.rest;
    begins = λ more ends. begins-all more;
    tells = λ rule. t.tells rule ∙ told-stopped r rule t.units off;
    lacks = ap lack_so_far t.before ∙ told-lack r t.units off;
    all = λ h. absurd (not-whole r off h);
    refused = λ h. (splits-refused (t.refused h), λ e. t.refused h);
    cut = λ h. absurd (t.not_cut h);
  }

-- the bytes may go on
pub tells-cut : (s : Splitting) (r : Extent) (noted : UnitsNoted) (bytes : List ℕ) → TookBytes s r noted bytes →
    TellsOfBytes (cut_off r) false noted.found (lack_so_far noted.before) bytes
tells-cut s extents.Whole noted bytes t = record {
  units = t.units;
  at = t.at;
  left = t.left ++ t.rest;
  begins = λ more ends. begins-all s extents.Whole noted bytes t more;
  tells = t.tells;
  lacks = ap lack_so_far t.before;
  all = λ h. absurd (cut-not-whole h);
  refused = λ h. absurd (cut-no-stream h);
  cut = λ h. (refl, subst IsUndecided (sym (ap (λ l. t.left ++ l) (t.all refl).0 ∙ append-nil t.left)) (t.all refl).1);
}
tells-cut s extents.NoByteStream noted bytes t = tells-stopped s extents.NoByteStream noted bytes t false refl
tells-cut s extents.NotToTheEnd noted bytes t = tells-stopped s extents.NotToTheEnd noted bytes t false refl
tells-cut s extents.Memory noted bytes t = tells-stopped s extents.Memory noted bytes t false refl

tells-memory : (s : Splitting) (noted : UnitsNoted) (bytes : List ℕ) → TookBytes s extents.Whole noted bytes →
    TellsOfBytes extents.Memory true noted.found (lack_so_far noted.before) bytes
tells-memory s noted bytes t = record {
  units = t.units;
  at = t.at;
  left = t.left ++ t.rest;
  begins = λ more ends. begins-all s extents.Whole noted bytes t more;
  tells = t.tells;
  lacks = ap lack_so_far t.before;
  all = λ h. absurd (memory-not-whole h);
  refused = λ h. absurd (memory-no-stream h);
  cut = λ h. absurd (memory-not-cut h);
}

-- the bytes up to their end are no byte stream
tells-refused : (old new : Splitting) (noted : UnitsNoted) (bytes : List ℕ) (stop : Stop) → TookBytes old extents.Whole noted bytes → FinishStops old new stop →
    TellsOfBytes extents.NoByteStream true noted.found (lack_so_far noted.before) bytes
tells-refused old new noted bytes stop t stops = record {
  units = t.units;
  at = t.at;
  left = t.left ++ t.rest;
  begins = λ more ends. begins-all old extents.Whole noted bytes t more;
  tells = t.tells;
  lacks = ap lack_so_far t.before;
  all = λ h. absurd (stream-not-whole h);
  refused = λ h. (
    (
      stops.tail,
      stop,
      stops.stop_is,
      splits-from stops.tail 0 bytes t.units t.at t.left
          (subst (λ (l : List ℕ). BeginWith 0 l t.units t.at t.left) (sym (t.whole ∙ ap (λ l. t.front ++ l) (t.all refl).0 ∙ append-nil t.front))
          (begins-now t.front t.units t.at t.left (t.begins [])))
          (subst₂ (λ (m : ℕ) (l : List ℕ). HasTail m l stops.tail) (t.stands refl).0 (t.stands refl).1 stops.stands),
    ),
    λ e. absurd (false≢true (sym e)),
  );
  cut = λ h. absurd (stream-not-cut h);
}

pub tells-stop : (old new : Splitting) (noted : UnitsNoted) (bytes : List ℕ) (stop : Stop) → TookBytes old extents.Whole noted bytes →
    (old.stop ≡ None → FinishStops old new stop) →
    TellsOfBytes (extent_after stop) true noted.found (lack_so_far noted.before) bytes
tells-stop old new noted bytes Memory t stops = tells-memory old noted bytes t
tells-stop old new noted bytes (No bit rule) t stops = tells-refused old new noted bytes (No bit rule) t (stops (t.stands refl).2)
tells-stop old new noted bytes (Outside bit feature) t stops = tells-refused old new noted bytes (Outside bit feature) t (stops (t.stands refl).2)
tells-stop old new noted bytes Read t stops = tells-refused old new noted bytes Read t (stops (t.stands refl).2)
tells-stop old new noted bytes Write t stops = tells-refused old new noted bytes Write t (stops (t.stands refl).2)

module _ (old mid : Splitting) (noted : UnitsNoted) (bytes : List ℕ) (t : TookBytes old extents.Whole noted bytes) (ends : Finished old mid) where
  front-is : t.front ≡ bytes
  front-is = sym (t.whole ∙ ap (λ l. t.front ++ l) (t.all refl).0 ∙ append-nil t.front)

  begun : BeginWith 0 bytes t.units t.at t.left
  begun = subst (λ (l : List ℕ). BeginWith 0 l t.units t.at t.left) front-is (begins-now t.front t.units t.at t.left (t.begins []))

  -- no unit is left
  pub tells-none : (found : List (Option Places)) (lack : Option Lack) → NotesEnd noted found → lack ≡ lack_at_end noted.before → IsFalse mid.waiting →
      TellsOfBytes extents.Whole true found lack bytes
  tells-none found lack notes-end lacks-end none = record {
    units = t.units;
    at = t.at;
    left = t.left;
    begins = λ more ends. begins-end bytes t.units t.at t.left more (ends refl) begun;
    tells = tells-end noted found t.units t.before t.tells notes-end;
    lacks = lacks-end ∙ ap lack_at_end t.before;
    all = λ h. (
      refl,
      splits-from Zeros 0 bytes t.units t.at t.left begun
          (subst₂ (λ (m : ℕ) (l : List ℕ). HasTail m l Zeros) (t.stands refl).0 (t.stands refl).1 (ends.zeros none)),
    );
    refused = λ h. absurd (whole-no-stream h);
    cut = λ h. absurd (whole-not-cut h);
  }

  module _ (new : Splitting) (unit : NalUnit) (taken : Taken mid new unit) where
    begun-unit : BeginWith 0 bytes (t.units ++ unit ∷ []) (past unit) new.rest
    begun-unit =
        begin-more 0 bytes t.units t.at t.left unit new.rest begun
        (subst₂ (λ (m : ℕ) (l : List ℕ). Next m l unit new.rest) (ends.at_is ∙ (t.stands refl).0) (ends.rest_is ∙ (t.stands refl).1) taken.next)

    -- a unit is left, which was noted
    pub tells-unit : (later : UnitsNoted) (found : List (Option Places)) (lack : Option Lack) → NotesUnit noted unit later → NotesEnd later found →
        lack ≡ lack_at_end later.before →
        TellsOfBytes extents.Whole true found lack bytes
    tells-unit later found lack notes notes-end lacks-end = record {
      units = t.units ++ unit ∷ [];
      at = past unit;
      left = new.rest;
      begins = λ more ends. begins-end bytes (t.units ++ unit ∷ []) (past unit) new.rest more (ends refl) begun-unit;
      tells = tells-end later found (t.units ++ unit ∷ []) (before-more noted later t.units unit t.before notes)
          (tells-more noted later t.units unit t.before t.tells notes) notes-end;
      lacks = lacks-end ∙ ap lack_at_end (before-more noted later t.units unit t.before notes);
      all = λ h. (
        refl,
        splits-from Zeros 0 bytes (t.units ++ unit ∷ []) (past unit) new.rest begun-unit
            (subst (λ (m : ℕ). HasTail m new.rest Zeros) taken.at_is (taken.last ends.ended_is)),
      );
      refused = λ h. absurd (whole-no-stream h);
      cut = λ h. absurd (whole-not-cut h);
    }

    -- and for which memory was wanting
    pub tells-unread : (later : UnitsNoted) → later ≡ noted → TellsOfBytes extents.Memory true later.found (lack_so_far noted.before) bytes
    tells-unread later same = subst (λ (f : UnitsNoted). TellsOfBytes extents.Memory true f.found (lack_so_far noted.before) bytes) (sym same)
        (tells-memory old noted bytes t)
