-- What `check --strict` tells of the further rules, in lines or in objects. To be read beside docs/OUTPUT.md.
use Rattle.std.specs.Prelude.{◌≡◌, ℕ, ◌<◌, ⊤, ◌⊎◌, Bool, true, false, List, [], ◌∷◌, ◌++◌, length, flat_map, All, Contains, codes, Option, None, Some}
use Rattle.std.specs.Option.{option_or}
use Rattle.clap.specs.Words.{Text}
use Rattle.h264_pages.specs.Pages.{numbered, number_field, text_field}
use Rattle.h264_strict.specs.Strict.{found_of}
use Rattle.h264_strict.specs.StrictRules.{label_of, clause_of, place_of}
use Rattle.h264_strict.specs.StrictStarts.{noted_in}
use Rattle.h264_strict.specs.declared.buffer.Lack.{Lack}
use Rattle.h264_strict.specs.declared.buffer.Lack.TheVariants as lacks
use Rattle.h264_strict.specs.declared.strict.Places.{Places}
use Rattle.h264_strict.specs.declared.strict_extent.Extent.{Extent}
use Rattle.h264_strict.specs.declared.strict_extent.Extent.TheVariants as extents
use Rattle.h264_strict.specs.declared.strict_rule.StrictRule.{StrictRule}
use Rattle.h264_strict.specs.declared.strict_rule.TheConstants.{EVERY_STRICT_RULE}
use Rattle.h264_command.specs.Texts.{head_of}
use Rattle.h264_command.specs.declared.strictly.Broken.{Broken}
use Rattle.h264_command.specs.declared.strictly.FurtherRules.{FurtherRules}
use Rattle.h264_command.specs.declared.strictly.StrictForm.{StrictForm}
use Rattle.h264_command.specs.declared.strictly.StrictForm.TheVariants.{Lines, Objects}

-- ---- the rules that are broken

-- where a rule is broken: over the calls of a judgement, or else over the bytes of units
abbrev pub places_of : FurtherRules → StrictRule → Option Places
places_of further rule = option_or (found_of further.strict rule) (noted_in further.units.found rule)

-- A rule is broken, and there.
abbrev pub IsBrokenAt : FurtherRules → Broken → Type 0
IsBrokenAt further b = places_of further b.rule ≡ Some b.places

-- A rule is told before another: its first bit comes before, or it is the first of two at one bit.
abbrev pub IsBefore : (one other : Broken) → Type 0
IsBefore a b = (a.places.first < b.places.first) ⊎ ((a.places.first ≡ b.places.first) × (place_of a.rule < place_of b.rule))

-- It is told after the one that was told last, if one was.
abbrev pub IsAfter : (last : Option Broken) → Broken → Type 0
IsAfter None b = ⊤
IsAfter (Some last) b = IsBefore last b

-- It is told before the next one, if one is known.
abbrev pub IsBeforeNext : Broken → (next : Option Broken) → Type 0
IsBeforeNext b None = ⊤
IsBeforeNext b (Some next) = IsBefore b next

-- It is the first that is broken and told after that one.
pub record IsNext (further : FurtherRules) (last : Option Broken) (b : Broken) : Type 0 where
  pub broken : IsBrokenAt further b
  pub after : IsAfter last b
  pub first : (other : Broken) → IsBrokenAt further other → IsAfter last other → IsBefore other b → ⊥

-- Each of these is told after the one before it, and the first of them after that one.
abbrev pub AreInOrder : (last : Option Broken) → List Broken → Type 0
AreInOrder last [] = ⊤
AreInOrder last (b ∷ broken) = IsAfter last b × AreInOrder (Some b) broken

-- These are the rules that are broken, in the order in which they are told. All of them, or as many as there are rules.
pub record AreTold (further : FurtherRules) (broken : List Broken) : Type 0 where
  pub each : All (IsBrokenAt further) broken
  pub order : AreInOrder None broken
  pub all : ((b : Broken) → IsBrokenAt further b → Contains broken b) ⊎ (length broken ≡ length EVERY_STRICT_RULE)

-- ---- their lines and objects

-- strict: bit N: LABEL (clause C), N places
abbrev pub broken_line : Broken → List ℕ
broken_line b = numbered (codes "strict: bit ") b.places.first ++ (codes ": " ++ (label_of b.rule ++ (codes " (clause " ++ (clause_of b.rule
    ++ (numbered (codes "), ") b.places.count ++ codes " places\n")))))

-- the fields of its object
abbrev pub broken_fields : Broken → List ℕ
broken_fields b = text_field (codes "rule") (label_of b.rule) ++ (text_field (codes "clause") (clause_of b.rule)
    ++ (number_field (codes "bit") b.places.first ++ number_field (codes "places") b.places.count))

-- an object of a file of this name, with its kind before these fields
abbrev pub object_of : (name : Text) → (kind fields : List ℕ) → List ℕ
object_of name kind fields = (head_of name ++ text_field (codes "kind") kind) ++ (fields ++ codes "}\n")

abbrev pub broken_text : StrictForm → Broken → List ℕ
broken_text Lines b = broken_line b
broken_text (Objects name) b = object_of name.now (codes "strict") (broken_fields b)

-- ---- what is not judged

-- strict: not judged: NAME (WHY)
abbrev pub unjudged_line : (name why : List ℕ) → List ℕ
unjudged_line name why = codes "strict: not judged: " ++ (name ++ (codes " (" ++ (why ++ codes ")\n")))

abbrev pub unjudged_fields : (name why : List ℕ) → List ℕ
unjudged_fields name why = text_field (codes "rule") name ++ text_field (codes "why") why

abbrev pub unjudged_text : StrictForm → (name why : List ℕ) → List ℕ
unjudged_text Lines name why = unjudged_line name why
unjudged_text (Objects file) name why = object_of file.now (codes "not judged") (unjudged_fields name why)

-- where there is a reason for that
abbrev pub unjudged_where : StrictForm → (name : List ℕ) → (why : Option (List ℕ)) → List ℕ
unjudged_where form name None = []
unjudged_where form name (Some why) = unjudged_text form name why

-- what this version never judges, and why
abbrev pub never_judged : List (List ℕ × List ℕ)
never_judged =
    (codes "Sei", codes "messages of SEI of some types are not read, nor times of SEI where the sequence parameter set is not known")
    ∷ (codes "Rates", codes "of the schedules of HRD parameters those with SchedSelIdx 0 are followed, and no others")
    ∷ (codes "Promises", codes "what the VUI promises of vectors and of bits is not compared")
    ∷ (codes "Macroblocks", codes "the bits of a macroblock are not counted")
    ∷ (codes "Slices", codes "primary_pic_type is compared with a picture's slice of macroblock 0, and not with its other slices")
    ∷ []

abbrev pub never_judged_text : StrictForm → List ℕ
never_judged_text form = flat_map (λ (p : List ℕ × List ℕ). unjudged_text form p.0 p.1) never_judged

-- why not all sets are known, where sets of several ids came
abbrev pub sets_text : (is_alone : Bool) → Option (List ℕ)
sets_text true = None
sets_text false = Some (codes "sequence parameter sets of several ids came, and a sink is not told which one is active")

-- why the coded picture buffer is not followed, from some access unit on
abbrev pub lack_text : Option Lack → Option (List ℕ)
lack_text None = None
lack_text (Some lacks.NoParameters) = Some (codes "no HRD parameters are known with times beside them")
lack_text (Some lacks.NoPeriod) = Some (codes "the first access unit has no buffering_period() that is as its syntax says")
lack_text (Some lacks.NoTiming) = Some (codes "an access unit has no pic_timing() that is as its syntax says")
lack_text (Some lacks.OtherParameters) = Some (codes "the HRD parameters became others, or are no longer known")
lack_text (Some lacks.NoRise) = Some (codes "a cpb_removal_delay is not above the one before, so that its time is not known")
lack_text (Some lacks.OtherUnit) = Some (codes "a unit came of a type that hides where access units end, or is not known to arrive")
lack_text (Some lacks.OutOfRange) = Some (codes "times are more than 128 bits count")
lack_text (Some lacks.Late) = Some (codes "an access unit is removed late, as low_delay_hrd_flag 1 allows")
lack_text (Some lacks.Crowded) = Some (codes "more than 256 access units waited at once: whether the buffer holds too much is not judged")

-- why a unit was not looked at, if one was not
abbrev pub extent_text : Extent → Option (List ℕ)
extent_text extents.Whole = None
extent_text extents.NoByteStream = Some (codes "from some place on the bytes are no byte stream, or more than is judged")
extent_text extents.NotToTheEnd = Some (codes "the bytes were not read to their end")
extent_text extents.Memory = Some (codes "memory was wanting for the bytes of a unit")

-- what is not judged of these calls and bytes
abbrev pub sometimes_unjudged : StrictForm → FurtherRules → List ℕ
sometimes_unjudged form further = unjudged_where form (codes "Sets") (sets_text further.strict.standing.set.is_alone)
    ++ (unjudged_where form (codes "Buffer") (lack_text further.units.lack) ++ unjudged_where form (codes "Units") (extent_text further.units.extent))

-- ---- all of it

-- This tells of the further rules: a line or an object of each that is broken, and of what is not judged.
pub record IsStrictText (form : StrictForm) (further : FurtherRules) (text : List ℕ) : Type 0 where
  pub broken : List Broken
  pub are_told : AreTold further broken
  pub is : text ≡ flat_map (broken_text form) broken ++ (never_judged_text form ++ sometimes_unjudged form further)
