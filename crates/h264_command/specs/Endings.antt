-- What is written of a file at the end of its judgement: what explains the answer, what the further rules found, and the answer itself. To be read beside
-- docs/OUTPUT.md.
use Rattle.std.specs.Prelude.{◌≡◌, ◌≢◌, ℕ, ◌-◌, ◌&&◌, Bool, true, false, List, [], ◌++◌, codes, reverse, length, find, slice_get, string_bytes}
use Rattle.std.specs.Prelude.{Option, None, Some, IfSome, is_some, option_map, Result}
use Rattle.h264_base.specs.declared.stop.Stop.{Stop}
use Rattle.h264_base.specs.declared.summary.Summary.{Summary}
use Rattle.h264_lines.specs.declared.trail.Element.{Element}
use Rattle.h264_pages.specs.Explanations.{explanation}
use Rattle.h264_pages.specs.Findings.{rule_in, macroblock_in, frame_num_in, picture_in, slice_in}
use Rattle.h264_pages.specs.Pages.{is_cut, prefixed, text_on}
use Rattle.h264_pages.specs.Places.{bit_in, file_named, whole_fields}
use Rattle.h264_pages.specs.Starts.{IsOfSetRead, reason_of}
use Rattle.h264_pages.specs.Surveyed.{begins_at}
use Rattle.h264_pages.specs.declared.pages.finding.Finding.{Finding}
use Rattle.h264_pages.specs.declared.pages.finding.Guide.{Guide}
use Rattle.h264_pages.specs.declared.pages.glance.Declared.{Declared}
use Rattle.h264_pages.specs.declared.pages.page.Page.{Page}
use Rattle.h264_report.specs.Written.{last_line}
use Rattle.h264_words.specs.Words.{mode_of}
use Rattle.h264_words.specs.declared.command_line.Task.TheVariants as tasks
use Rattle.h264_command.specs.FurtherTold.{IsStrictText, object_of}
use Rattle.h264_command.specs.Texts.{AreBoth}
use Rattle.h264_command.specs.declared.job.Found.{Found}
use Rattle.h264_command.specs.declared.job.Job.{Job}
use Rattle.h264_command.specs.declared.strictly.FurtherRules.{FurtherRules}
use Rattle.h264_command.specs.declared.strictly.StrictForm.{StrictForm}
use Rattle.h264_command.specs.declared.strictly.StrictForm.TheVariants.{Lines, Objects}
use Rattle.clap.specs.Words.{Text}

-- A text of this kind was added to a page, unless memory was wanting.
abbrev pub AddsSome : Page → Page → (List ℕ → Type 0) → Type 0
AddsSome old new Is = is_cut new ≡ false → (is_cut old ≡ false) × ((text : List ℕ) × Is text × (text_on new ≡ text_on old ++ text))

-- ---- where an answer stands

-- the last of some elements
abbrev pub last_element : List Element → Option Element
last_element elements = slice_get elements (length elements - 1)

-- This is where the answer on a file stands, and what was found there, by what was surveyed and by the input's first bytes.
pub record IsFindingOf (found : Found) (finding : Option Finding) : Type 0 where
  pub bit : option_map (λ (f : Finding). f.bit) finding ≡ bit_in found.answer
  pub element : IfSome finding (λ f. f.element ≡ find (begins_at f.bit) (reverse found.survey.elements.items))
  pub last : IfSome finding (λ f. f.last ≡ last_element found.survey.elements.items)
  pub picture : IfSome finding (λ f. f.picture ≡ picture_in (rule_in found.answer) (length found.survey.pictures.list.items) found.survey.slice)
  pub slice : IfSome finding (λ f. f.slice ≡ slice_in found.survey.slice found.survey.pictures.list.items)
  pub frame_num : IfSome finding (λ f. f.frame_num ≡ frame_num_in found.survey.slice)
  pub macroblock : IfSome finding (λ f. f.macroblock ≡ macroblock_in found.survey)
  pub ends_in_unit : IfSome finding (λ f. f.ends_in_unit ≡ (found.seen.ended && is_some found.survey.unit))
  pub reason : rule_in found.answer ≡ None → IfSome finding (λ f. f.reason ≡ None)
  pub why : IfSome finding (λ f. (declared : Option Declared) × IsOfSetRead declared found.survey × (f.reason ≡
      reason_of found.seen.start.bytes (rule_in found.answer) declared (last_element found.survey.elements.items)))

-- This is what is said to a reader of an answer on a file of this name: of a no and of an outside, with the name.
pub record IsGuideOn (name : Text) (answer : Result Summary Stop) (guide : Option Guide) : Type 0 where
  pub said : is_some guide ≡ is_some (bit_in answer)
  pub file : IfSome guide (λ g. file_named (Some g) ≡ Some name)

-- This is what is made of where the answer on a file of this name stands, of what is said of it, and of some words on what a rule allows.
pub record IsSaid (name : Text) (found : Found) (made : Option Finding → Option Guide → (words : Option (List ℕ)) → List ℕ) (text : List ℕ) : Type 0 where
  pub finding : Option Finding
  pub is_finding : IsFindingOf found finding
  pub guide : Option Guide
  pub is_guide : IsGuideOn name found.answer guide
  pub words : Option (List ℕ)
  pub is : text ≡ made finding guide words

-- the lines that explain the answer
abbrev pub IsExplanation : (name : Text) → Found → List ℕ → Type 0
IsExplanation name found = IsSaid name found (λ finding guide words. explanation found.answer found.survey.unit finding guide words)

-- the object that tells the answer
abbrev pub IsVerdictObject : (name : Text) → Found → List ℕ → Type 0
IsVerdictObject name found =
    IsSaid name found (λ finding guide words. object_of name (codes "verdict") (whole_fields found.answer found.survey.unit finding guide words))

-- ---- what stands before the answer

-- a text of this kind where it is asked for, else none
abbrev pub IsIf : (is_asked : Bool) → (List ℕ → Type 0) → List ℕ → Type 0
IsIf true Is text = Is text
IsIf false Is text = text ≡ []

-- what the further rules found, where they are asked for
abbrev pub IsOfFurther : StrictForm → Option FurtherRules → List ℕ → Type 0
IsOfFurther form None text = text ≡ []
IsOfFurther form (Some further) text = IsStrictText form further text

-- what explains the answer, where that is asked, and what the further rules found
abbrev pub AreEarlierLines : Job → Found → List ℕ → Type 0
AreEarlierLines job found = AreBoth (IsIf job.options.explain (IsExplanation job.file.now found)) (IsOfFurther Lines found.strict)

-- the object of `info`, and no text of another task
pub record IsOfInfo (job : Job) (found : Found) (text : List ℕ) : Type 0 where
  pub info : job.task ≡ tasks.Info → text ≡ string_bytes found.before
  pub other : job.task ≢ tasks.Info → text ≡ []

-- what stands before the answer: with `--json` objects, else lines behind those of the last elements or of `info`
abbrev pub IsEarlierIn : (json : Bool) → Job → Found → List ℕ → Type 0
IsEarlierIn false job found = AreBoth (λ text. text ≡ string_bytes found.before) (AreEarlierLines job found)
IsEarlierIn true job found = AreBoth (IsOfInfo job found) (IsOfFurther (Objects job.file) found.strict)

abbrev pub IsEarlier : Job → Found → List ℕ → Type 0
IsEarlier job found = IsEarlierIn job.options.json job found

-- ---- the answer

-- the answer, as an object or as a line
abbrev pub IsAnswerIn : (json : Bool) → Job → Found → List ℕ → Type 0
IsAnswerIn false job found text = text ≡ job.prefix.now ++ last_line (mode_of job.task) found.answer
IsAnswerIn true job found text = IsVerdictObject job.file.now found text

abbrev pub IsAnswerText : Job → Found → List ℕ → Type 0
IsAnswerText job found = IsAnswerIn job.options.json job found

-- lines of this kind, with a prefix before each of them
pub record ArePrefixed (prefix : Text) (Are : List ℕ → Type 0) (text : List ℕ) : Type 0 where
  pub lines : List ℕ
  pub are : Are lines
  pub is : text ≡ prefixed prefix lines

-- all that is written at the end of a judgement
abbrev pub IsEndText : Job → Found → List ℕ → Type 0
IsEndText job found = AreBoth (ArePrefixed job.prefix.now (IsEarlier job found)) (IsAnswerText job found)
