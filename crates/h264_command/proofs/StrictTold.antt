-- The order in which the further rules that are broken are told.
use Rattle.std.proofs.Common.{◌≡◌, ◌⊎◌, inl, inr, ⊎_elim, ℕ, ◌<◌, ◌+◌, List, [], ◌∷◌, ◌++◌, length, get_or, take, Option, Some, None, IfSome, IfNone, refl}
use Rattle.std.proofs.Common.{sym, ap, ◌∙◌, subst, arith}
use Rattle.std.specs.Prelude.{⊤, All, Contains, unwrap_or}
use Rattle.std.proofs.lemmas.Bool.{cases_order}
use Rattle.std.proofs.lemmas.List.{length_push}
use Rattle.std.proofs.lemmas.List.Elements.{All-push, All-more, All-weaker, Contains-append_left, Contains-push}
use Rattle.h264_strict.specs.StrictRules.{place_of}
use Rattle.h264_strict.specs.declared.strict.Places.{Places}
use Rattle.h264_strict.specs.declared.strict_rule.StrictRule.{StrictRule}
use Rattle.h264_strict.specs.declared.strict_rule.StrictRule.TheVariants as rules
use Rattle.h264_strict.specs.declared.strict_rule.TheConstants.{EVERY_STRICT_RULE}
use Rattle.h264_words.proofs.EachLabel.{each-further}
use Rattle.h264_command.specs.declared.strictly.Broken.{Broken}
use Rattle.h264_command.specs.declared.strictly.FurtherRules.{FurtherRules}
use Rattle.h264_command.specs.FurtherTold.{places_of, IsBrokenAt, IsBefore, IsBeforeNext, IsAfter, IsNext, AreInOrder, AreTold}

-- ---- the order

pub not-before-itself : (b : Broken) → IsBefore b b → ⊥
not-before-itself b (inl l) = omega (arith, l)
not-before-itself b (inr l) = let m = l.1 in omega arith

pub before-both : (a b c : Broken) → IsBefore a b → IsBefore b c → IsBefore a c
before-both a b c (inl l) (inl m) = inl (omega arith)
before-both a b c (inl l) (inr m) = let e = m.0 in inl (omega arith)
before-both a b c (inr l) (inl m) = let e = l.0 in inl (omega arith)
before-both a b c (inr l) (inr m) = let d = l.1 in let e = m.1 in inr (l.0 ∙ m.0, omega arith)

-- the rule of a place
at-its-place : (r : StrictRule) → get_or EVERY_STRICT_RULE (place_of r) rules.ReservedBits ≡ r
unfolding place_of
at-its-place rules.ReservedBits = refl
at-its-place rules.AspectRatio = refl
at-its-place rules.VideoFormat = refl
at-its-place rules.ColourPrimaries = refl
at-its-place rules.TransferCharacteristics = refl
at-its-place rules.MatrixCoefficients = refl
at-its-place rules.ChromaLocation = refl
at-its-place rules.Timing = refl
at-its-place rules.Restriction = refl
at-its-place rules.OperationsExclude = refl
at-its-place rules.IdrCount = refl
at-its-place rules.SetRefIdc = refl
at-its-place rules.DelimiterFirst = refl
at-its-place rules.FillerFirst = refl
at-its-place rules.AfterEndOfStream = refl
at-its-place rules.Level1b = refl
at-its-place rules.ReservedConstraint = refl
at-its-place rules.DirectInference = refl
at-its-place rules.LowDelay = refl
at-its-place rules.UnitLength = refl
at-its-place rules.EndFirst = refl
at-its-place rules.LongTermReference = refl
at-its-place rules.Weights = refl
at-its-place rules.FrameNumRepeated = refl
at-its-place rules.CountRepeated = refl
at-its-place rules.Reorder = refl
at-its-place rules.VectorCount = refl
at-its-place rules.FrameRate = refl
at-its-place rules.ScheduleOrder = refl
at-its-place rules.ScheduleLimits = refl
at-its-place rules.CommonFactor = refl
at-its-place rules.PictureBytes = refl
at-its-place rules.SeiSizes = refl
at-its-place rules.DelimiterBits = refl
at-its-place rules.FillerBytes = refl
at-its-place rules.ZeroByte = refl
at-its-place rules.DelimiterType = refl
at-its-place rules.SeiContent = refl
at-its-place rules.BufferUnderflow = refl
at-its-place rules.InitialDelay = refl
at-its-place rules.BufferOverflow = refl
at-its-place rules.MinCompression = refl
at-its-place rules.RemovalRate = refl

same-rule : (a b : StrictRule) → place_of a ≡ place_of b → a ≡ b
same-rule a b e = sym (at-its-place a) ∙ ap (λ k. get_or EVERY_STRICT_RULE k rules.ReservedBits) e ∙ at-its-place b

-- a rule is broken at one place
same-broken : (further : FurtherRules) (a b : Broken) → IsBrokenAt further a → IsBrokenAt further b → place_of a.rule ≡ place_of b.rule → a ≡ b
same-broken further a b at_a at_b e =
    let rule : a.rule ≡ b.rule = same-rule a.rule b.rule e in
    let places : a.places ≡ b.places = ap (λ o. unwrap_or o a.places) (sym at_a ∙ ap (places_of further) rule ∙ at_b) in
    ap (λ r. record { rule = r; places = a.places }) rule ∙ ap (λ p. record { rule = b.rule; places = p }) places

-- of two that are broken one is told before the other
pub one-before : (further : FurtherRules) (a b : Broken) → IsBrokenAt further a → IsBrokenAt further b → (a ≡ b) ⊎ (IsBefore a b ⊎ IsBefore b a)
one-before further a b at_a at_b = ⊎_elim
    (λ same. ⊎_elim
    (λ one. inl (same-broken further a b at_a at_b one))
    (λ two. inr (⊎_elim (λ l. inl (inr (same, l))) (λ l. inr (inr (sym same, l))) two))
    (cases_order (place_of a.rule) (place_of b.rule)))
    (λ other. inr (⊎_elim (λ l. inl (inl l)) (λ l. inr (inl l)) other))
    (cases_order a.places.first b.places.first)

-- ---- the next one

-- a rule is not broken between the last one and the next one
abbrev pub IsNotBetween : FurtherRules → (last next : Option Broken) → StrictRule → Type 0
IsNotBetween further last next rule = (b : Broken) → b.rule ≡ rule → IsBrokenAt further b → IsAfter last b → IsBeforeNext b next → ⊥

-- the next one among some rules
pub record IsNextAmong (further : FurtherRules) (last next : Option Broken) (some : List StrictRule) : Type 0 where
  pub found : IfSome next (λ b. IsBrokenAt further b × IsAfter last b)
  pub others : All (IsNotBetween further last next) some

-- with one rule more that is not between
pub next-kept : (further : FurtherRules) (last next : Option Broken) (all : List StrictRule) (i : ℕ) (d : StrictRule) → i < length all →
    IsNextAmong further last next (take i all) → IsNotBetween further last next (get_or all i d) → IsNextAmong further last next (take (i + 1) all)
next-kept further last next all i d within known not = record {
  found = known.found;
  others = All-more (IsNotBetween further last next) all i d within known.others not;
}

-- with one rule more that is
pub next-taken : (further : FurtherRules) (last next : Option Broken) (all : List StrictRule) (i : ℕ) (d : StrictRule) (b : Broken) → i < length all →
    IsNextAmong further last next (take i all) → b.rule ≡ get_or all i d → IsBrokenAt further b → IsAfter last b → IsBeforeNext b next →
    IsNextAmong further last (Some b) (take (i + 1) all)
next-taken further last next all i d b within known is at after before = record {
  found = (at, after);
  others = All-more (IsNotBetween further last (Some b)) all i d within
      (All-weaker (IsNotBetween further last next) (IsNotBetween further last (Some b)) (λ r. narrower r next before) (take i all) known.others)
      (λ other same at_other _ l. not-before-itself b (subst (λ o. IsBefore o b) (itself other same at_other) l));
} where
  narrower : (r : StrictRule) (n : Option Broken) → IsBeforeNext b n → IsNotBetween further last n r → IsNotBetween further last (Some b) r
  narrower r None t not other same at_other later l = not other same at_other later t
  narrower r (Some n) t not other same at_other later l = not other same at_other later (before-both other b n l t)

  itself : (other : Broken) → other.rule ≡ get_or all i d → IsBrokenAt further other → other ≡ b
  itself other same at_other = same-broken further other b at_other at (ap place_of (same ∙ sym is))

-- a rule that is broken there, and is not told in between
pub not-between : (further : FurtherRules) (last next : Option Broken) (b : Broken) → IsBrokenAt further b → (IsAfter last b → IsBeforeNext b next → ⊥) →
    IsNotBetween further last next b.rule
not-between further last next b at never other same at_other later before =
    let e : other ≡ b = same-broken further other b at_other at (ap place_of same) in
    never (subst (IsAfter last) e later) (subst (λ o. IsBeforeNext o next) e before)

-- a rule that is not broken
pub not-broken : (further : FurtherRules) (last next : Option Broken) (rule : StrictRule) → places_of further rule ≡ None →
    IsNotBetween further last next rule
not-broken further last next rule none b same at later before =
    subst (λ o. IfSome o (λ _. ⊥)) (sym none ∙ ap (places_of further) (sym same) ∙ at) tt

-- the next one among all of them
pub next-of-all : (further : FurtherRules) (last next : Option Broken) → IsNextAmong further last next EVERY_STRICT_RULE → IfSome next (IsNext further last)
next-of-all further last None known = tt
next-of-all further last (Some b) known = record {
  broken = known.found.0;
  after = known.found.1;
  first = λ other at later l. each-further (IsNotBetween further last (Some b)) known.others other.rule other refl at later l;
}

pub none-of-all : (further : FurtherRules) (last next : Option Broken) → IsNextAmong further last next EVERY_STRICT_RULE →
    IfNone next ((b : Broken) → IsBrokenAt further b → IsAfter last b → ⊥)
none-of-all further last None known = λ b at later. each-further (IsNotBetween further last None) known.others b.rule b refl at later tt
none-of-all further last (Some next) known = tt

-- ---- those that were told

-- the last of them, or the one before them
abbrev pub last_after : Option Broken → List Broken → Option Broken
last_after last [] = last
last_after last (b ∷ broken) = last_after (Some b) broken

-- these were told, the last of them last
pub record WereTold (further : FurtherRules) (last : Option Broken) (broken : List Broken) : Type 0 where
  pub each : All (IsBrokenAt further) broken
  pub order : AreInOrder None broken
  pub last_is : last_after None broken ≡ last
  pub others : (b : Broken) → IsBrokenAt further b → IsAfter last b ⊎ Contains broken b

pub none-told : (further : FurtherRules) → WereTold further None []
none-told further = record { each = λ k d lt. absurd (omega arith); order = tt; last_is = refl; others = λ b at. inl tt }

order-more : (last : Option Broken) (broken : List Broken) (b : Broken) → AreInOrder last broken → IsAfter (last_after last broken) b →
    AreInOrder last (broken ++ b ∷ [])
order-more last [] b t after = (after, tt)
order-more last (c ∷ broken) b t after = (t.0, order-more (Some c) broken b t.1 after)

last-more : (last : Option Broken) (broken : List Broken) (b : Broken) → last_after last (broken ++ b ∷ []) ≡ Some b
last-more last [] b = refl
last-more last (c ∷ broken) b = last-more (Some c) broken b

-- and the next one
pub one-told : (further : FurtherRules) (last : Option Broken) (broken : List Broken) (b : Broken) → WereTold further last broken → IsNext further last b →
    WereTold further (Some b) (broken ++ b ∷ [])
one-told further last broken b told next = record {
  each = All-push (IsBrokenAt further) broken b told.each next.broken;
  order = order-more None broken b told.order (subst (λ l. IsAfter l b) (sym told.last_is) next.after);
  last_is = last-more None broken b;
  others = λ other at. ⊎_elim (λ later. later-or-it other at later) (λ there. inr (Contains-append_left broken (b ∷ []) other there)) (told.others other at);
} where
  later-or-it : (other : Broken) → IsBrokenAt further other → IsAfter last other → IsBefore b other ⊎ Contains (broken ++ b ∷ []) other
  later-or-it other at later = ⊎_elim
      (λ same. inr (subst (Contains (broken ++ b ∷ [])) (sym same) (Contains-push broken b)))
      (λ order. ⊎_elim (λ first. absurd (next.first other at later first)) (λ l. inl l) order)
      (one-before further other b at next.broken)

-- none is left to be told
pub all-told : (further : FurtherRules) (last : Option Broken) (broken : List Broken) → WereTold further last broken →
    ((b : Broken) → IsBrokenAt further b → IsAfter last b → ⊥) → AreTold further broken
all-told further last broken told none = record {
  each = told.each;
  order = told.order;
  all = inl (λ b at. ⊎_elim (λ later. absurd (none b at later)) (λ there. there) (told.others b at));
}

-- as many were told as there are rules
pub as-many-told : (further : FurtherRules) (last : Option Broken) (broken : List Broken) → WereTold further last broken →
    length broken ≡ length EVERY_STRICT_RULE → AreTold further broken
as-many-told further last broken told many = record { each = told.each; order = told.order; all = inr many }
