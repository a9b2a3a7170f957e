-- Which options words give, and which of them are refused, with what text. To be read beside docs/OUTPUT.md.
use Rattle.std.specs.Prelude.{◌≡◌, ◌≢◌, ℕ, ◌<◌, ◌^◌, ◌||◌, Bool, true, false, List, length}
use Rattle.std.specs.Prelude.{Option, Some, None, IsSome, ◌⊎◌, option_map, option_and_then, codes, if◌then◌else◌}
use Rattle.std.specs.List.{count_by}
use Rattle.std.specs.Str.{bytes_eq}
use Rattle.std.specs.Str.Parse.{IsNumeral, digits_value, without_leading_plus}
use Rattle.clap.specs.Words.{Text, one_of}
use Rattle.h264_base.specs.declared.mode.Target.{Target}
use Rattle.h264_lines.specs.declared.choice.Choice.{Choice}
use Rattle.h264_words.specs.Words.{Given, value_in, values_in, is_judging, IsTarget}
use Rattle.h264_words.specs.declared.command_line.Task.{Task}
use Rattle.h264_words.specs.declared.command_line.Task.TheVariants as tasks
use Rattle.h264_words.specs.declared.options.Options.{Options}
use Rattle.h264_words.specs.declared.refusal.Clash.{Clash}
use Rattle.h264_words.specs.declared.refusal.Clash.TheVariants as clashes
use Rattle.h264_words.specs.declared.refusal.Misplaced.{Misplaced}
use Rattle.h264_words.specs.declared.refusal.Misplaced.TheVariants as misplaced
use Rattle.h264_words.specs.declared.refusal.Noise.{Noise}
use Rattle.h264_words.specs.declared.refusal.Noise.TheVariants as noises
use Rattle.h264_words.specs.declared.refusal.Refusal.{Refusal}
use Rattle.h264_words.specs.declared.refusal.Refusal.TheVariants as refusals
use Rattle.h264_words.specs.declared.refusal.Unreadable.{Unreadable}
use Rattle.h264_words.specs.declared.refusal.Unreadable.TheVariants as unreadables

-- the text of a flag: true where the words have it
abbrev pub flag_in : Given → Text → Option Text
flag_in given flag = option_and_then (λ p. one_of flag p.1) given

-- This is what the text of a flag says.
pub record IsFlag (text : Option Text) (flag : Bool) : Type 0 where
  pub absent : text ≡ None → flag ≡ false
  pub given : text ≡ Some (codes "true") → flag ≡ true
  pub not_given : text ≡ Some (codes "false") → flag ≡ false

-- the number of a text in decimal digits
abbrev pub number_of : Text → ℕ
number_of text = digits_value 10 (without_leading_plus text)

-- A text is a number below 2^64.
abbrev pub IsNumeric : Text → Type 0
IsNumeric text = IsNumeral 10 (without_leading_plus text) × (number_of text < 2 ^ 64)

-- This is the number that a value gives, where there is one.
abbrev pub IsNumber : Option Text → Option ℕ → Type 0
IsNumber None number = number ≡ None
IsNumber (Some text) number = IsNumeric text × (number ≡ Some (number_of text))

-- There is a value, and it is no number.
abbrev pub IsNoNumber : Option Text → Type 0
IsNoNumber None = ⊥
IsNoNumber (Some text) = IsNumeric text → ⊥

-- These are the options that words give.
pub record AreOptions (given : Given) (o : Options) : Type 0 where
  pub explain : IsFlag (flag_in given (codes "explain")) o.explain
  pub json : IsFlag (flag_in given (codes "json")) o.json
  pub quiet : IsFlag (flag_in given (codes "quiet")) o.quiet
  pub progress : IsFlag (flag_in given (codes "progress")) o.progress
  pub y4m : IsFlag (flag_in given (codes "y4m")) o.y4m
  pub strict : IsFlag (flag_in given (codes "strict")) o.strict
  pub brief : IsFlag (flag_in given (codes "brief")) o.brief
  pub output : option_map (λ s. s.now) o.output ≡ value_in given (codes "output")
  pub picture : IsNumber (value_in given (codes "picture")) o.choice.picture
  pub mb : IsNumber (value_in given (codes "mb")) o.choice.macroblock
  pub target : IsTarget (value_in given (codes "target")) o.target

-- The words have no option but `--target`.
pub record HasNoOption (given : Given) : Type 0 where
  pub explain : IsFlag (flag_in given (codes "explain")) false
  pub json : IsFlag (flag_in given (codes "json")) false
  pub quiet : IsFlag (flag_in given (codes "quiet")) false
  pub progress : IsFlag (flag_in given (codes "progress")) false
  pub y4m : IsFlag (flag_in given (codes "y4m")) false
  pub strict : IsFlag (flag_in given (codes "strict")) false
  pub brief : IsFlag (flag_in given (codes "brief")) false
  pub output : value_in given (codes "output") ≡ None
  pub picture : value_in given (codes "picture") ≡ None
  pub mb : value_in given (codes "mb") ≡ None

-- The words have an option beside `--target`.
pub data HasOption (given : Given) : Type 0 where
  Explain : IsFlag (flag_in given (codes "explain")) true → HasOption given
  Json : IsFlag (flag_in given (codes "json")) true → HasOption given
  Quiet : IsFlag (flag_in given (codes "quiet")) true → HasOption given
  Progress : IsFlag (flag_in given (codes "progress")) true → HasOption given
  Y4m : IsFlag (flag_in given (codes "y4m")) true → HasOption given
  Strict : IsFlag (flag_in given (codes "strict")) true → HasOption given
  Brief : IsFlag (flag_in given (codes "brief")) true → HasOption given
  Output : IsSome (value_in given (codes "output")) → HasOption given
  Picture : IsSome (value_in given (codes "picture")) → HasOption given
  Mb : IsSome (value_in given (codes "mb")) → HasOption given

-- The words name this FILE alone, which is not standard input, and have no option but `--target`.
pub record IsPlain (given : Given) (name : Text) : Type 0 where
  pub options : HasNoOption given
  pub files : length (values_in given (codes "FILE")) ≡ 1
  pub input : name ≢ codes "-"

-- The words ask for more than a judgement of this FILE: they have an option beside `--target`, or name other FILEs beside it, or it is standard input.
pub data AsksForMore (given : Given) (name : Text) : Type 0 where
  WithOption : HasOption given → AsksForMore given name
  WithFiles : length (values_in given (codes "FILE")) ≢ 1 → AsksForMore given name
  OfInput : name ≡ codes "-" → AsksForMore given name

-- ---- the output

-- a name of standard output
abbrev pub names_standard_output : Text → Bool
names_standard_output name = bytes_eq name (codes "-") || bytes_eq name (codes "/dev/stdout")

-- the file of an output with this name; none of standard output
abbrev pub output_file : Option Text → Option Text
output_file None = None
output_file (Some name) = if names_standard_output name then None else Some name

-- ---- values that can't be read

-- Why a value can't be read: it is no number, or names no target.
abbrev pub IsUnreadable : Given → Unreadable → Type 0
IsUnreadable given unreadables.Picture = IsNoNumber (value_in given (codes "picture"))
IsUnreadable given unreadables.Macroblock = IsNoNumber (value_in given (codes "mb"))
IsUnreadable given unreadables.Target = (target : Target) → IsTarget (value_in given (codes "target")) target → ⊥

-- ---- what options ask for beside the verdict

-- the further rules are asked for: by `check` and by `report`
abbrev pub asks_further : Task → (strict : Bool) → Bool
asks_further tasks.Check strict = strict
asks_further tasks.Units strict = false
asks_further tasks.Headers strict = false
asks_further tasks.Frames strict = false
asks_further tasks.Decode strict = false
asks_further tasks.Elements strict = false
asks_further tasks.Info strict = false
asks_further tasks.Report strict = strict
asks_further tasks.Explain strict = false

-- An option tells more of a judgement than its sink does.
abbrev pub asks_for_survey : Options → Bool
asks_for_survey o = o.explain || (o.json || o.progress)

-- ---- options that say nothing to a task

-- something of a stream is chosen
abbrev pub Chooses : Choice → Type 0
Chooses choice = IsSome choice.picture ⊎ IsSome choice.macroblock

-- `explain` takes no option but `--json`.
abbrev pub IsBesideExplain : Given → Options → Type 0
IsBesideExplain given o = (o.quiet ≡ true) ⊎ ((o.progress ≡ true) ⊎ IsSome (value_in given (codes "target")))

-- This option says nothing to the task.
abbrev pub IsMisplaced : Task → Given → Options → Misplaced → Type 0
IsMisplaced task given o misplaced.Y4m = (o.y4m ≡ true) × (task ≢ tasks.Decode)
IsMisplaced task given o misplaced.Strict = (o.strict ≡ true) × (asks_further task true ≡ false)
IsMisplaced task given o misplaced.Brief = (o.brief ≡ true) × (task ≢ tasks.Check)
IsMisplaced task given o misplaced.Output = IsSome o.output × (task ≢ tasks.Decode) × (task ≢ tasks.Report)
IsMisplaced task given o misplaced.Choice = Chooses o.choice × (task ≢ tasks.Elements)
IsMisplaced task given o misplaced.Explain = (o.explain ≡ true) × (is_judging task ≡ false)
IsMisplaced task given o misplaced.BesideExplain = (task ≡ tasks.Explain) × IsBesideExplain given o

-- ---- options that exclude one another

-- `--quiet` stands beside this option.
abbrev pub IsNoise : Options → Noise → Type 0
IsNoise o noises.Json = (o.quiet ≡ true) × (o.json ≡ true)
IsNoise o noises.Explain = (o.quiet ≡ true) × (o.explain ≡ true)
IsNoise o noises.Progress = (o.quiet ≡ true) × (o.progress ≡ true)

-- ---- files that do not go together with a task or with one another

-- how often a name stands among those of files
abbrev pub times : List Text → Text → ℕ
times files name = count_by (λ f. bytes_eq f name) files

-- the output has the name of one of these files
abbrev pub IsAlsoInput : Option Text → List Text → Type 0
IsAlsoInput None files = ⊥
IsAlsoInput (Some output) files = 0 < times files output

-- This is why the files do not go together.
abbrev pub IsClash : Task → Options → List Text → Clash → Type 0
IsClash task o files clashes.SeveralToDecode = (1 < length files) × (task ≡ tasks.Decode)
IsClash task o files clashes.SeveralToReport = (1 < length files) × (task ≡ tasks.Report)
IsClash task o files clashes.OutputIsInput = IsAlsoInput (output_file (option_map (λ s. s.now) o.output)) files
IsClash task o files clashes.InputTwice = 1 < times files (codes "-")

-- ---- words that are refused

-- This is why options that words give are misused.
abbrev pub IsMisused : Task → Given → Options → Refusal → Type 0
IsMisused task given o (refusals.Unreadable unreadable) = ⊥
IsMisused task given o (refusals.Misplaced which) = IsMisplaced task given o which
IsMisused task given o (refusals.Noise noise) = IsNoise o noise
IsMisused task given o (refusals.Clash clash) = IsClash task o (values_in given (codes "FILE")) clash

-- Nothing is misused.
abbrev pub AreWellUsed : Task → Given → Options → Type 0
AreWellUsed task given o = (refusal : Refusal) → IsMisused task given o refusal → ⊥

-- This is why words are refused for their options.
pub data IsRefused (task : Task) (given : Given) (refusal : Refusal) : Type 0 where
  Unclear : (unreadable : Unreadable) → refusal ≡ refusals.Unreadable unreadable → IsUnreadable given unreadable → IsRefused task given refusal
  Misused : (o : Options) → AreOptions given o → IsMisused task given o refusal → IsRefused task given refusal
  -- the system takes the output for the input
  Same : refusal ≡ refusals.Clash clashes.OutputIsInput → IsSome (value_in given (codes "output")) → IsRefused task given refusal

-- ---- what is said of them

-- the text of a value that can't be read
abbrev pub unreadable_text : Unreadable → Text
unreadable_text unreadables.Picture = codes "--picture wants the number of a picture, from 0"
unreadable_text unreadables.Macroblock = codes "--mb wants the address of a macroblock, from 0"
unreadable_text unreadables.Target = codes "--target is baseline or main-ip"

-- the text of an option that says nothing to a task
abbrev pub misplaced_text : Misplaced → Text
misplaced_text misplaced.Y4m = codes "--y4m belongs to decode"
misplaced_text misplaced.Strict = codes "--strict belongs to check and report"
misplaced_text misplaced.Brief = codes "--brief belongs to check"
misplaced_text misplaced.Output = codes "--output belongs to decode and report"
misplaced_text misplaced.Choice = codes "--picture and --mb belong to elements"
misplaced_text misplaced.Explain = codes "--explain belongs to check, units, headers, frames, decode and elements"
misplaced_text misplaced.BesideExplain = codes "explain takes no option but --json"

-- the text of an option that excludes `--quiet`
abbrev pub noise_text : Noise → Text
noise_text noises.Json = codes "--quiet and --json exclude one another"
noise_text noises.Explain = codes "--quiet and --explain exclude one another"
noise_text noises.Progress = codes "--quiet and --progress exclude one another"

-- the text of files that do not go together
abbrev pub clash_text : Clash → Text
clash_text clashes.SeveralToDecode = codes "decode takes one FILE"
clash_text clashes.SeveralToReport = codes "report takes one FILE"
clash_text clashes.OutputIsInput = codes "the output is the input"
clash_text clashes.InputTwice = codes "standard input is given more than once"

-- the text of a refusal
abbrev pub refusal_text : Refusal → Text
refusal_text (refusals.Unreadable unreadable) = unreadable_text unreadable
refusal_text (refusals.Misplaced which) = misplaced_text which
refusal_text (refusals.Noise noise) = noise_text noise
refusal_text (refusals.Clash clash) = clash_text clash
