-- To be read beside docs/OUTPUT.md. The command line: a simple command of clap with one level of subcommands, each of which takes one FILE or more, and
-- options.
use Rattle.std.specs.Prelude.{◌≡◌, ℕ, Bool, true, false, List, [], ◌∷◌, fold, Option, Some, None, option_map, option_and_then, unwrap_or, codes, if◌then◌else◌}
use Rattle.std.specs.Str.{bytes_eq}
use Rattle.clap.specs.Lexer.{usize_max}
use Rattle.clap.specs.Words.{App, Row, Rule, Shape, Text, fault_of, new_app, all_of, first_of, new_rule, subcommand_of, subcommand_rows_of, takes, with_rule}
use Rattle.clap.specs.Words.{with_subcommand}
use Rattle.clap.specs.declared.builder.action.ArgAction.TheVariants.{Set, SetTrue}
use Rattle.clap.specs.declared.parser.matches.ArgMatches.{ArgMatches}
use Rattle.h264_base.specs.declared.mode.Mode.{Mode}
use Rattle.h264_base.specs.declared.mode.Mode.TheVariants as modes
use Rattle.h264_base.specs.declared.mode.Target.{Target}
use Rattle.h264_base.specs.declared.mode.Target.TheVariants as targets
use Rattle.h264_words.specs.declared.command_line.Request.{Request}
use Rattle.h264_words.specs.declared.command_line.Task.{Task}
use Rattle.h264_words.specs.declared.command_line.Task.TheVariants as tasks

-- one FILE or more
abbrev pub files_rule : Rule
files_rule = record (new_rule (codes "FILE")) { required = true; range = Some (record { start_inclusive = 1; end_inclusive = usize_max }); value_names = 1 }

-- an option without a value, such as --json
abbrev pub flag_rule : Text → Rule
flag_rule option = record (new_rule option) { long = Some option; action = Some SetTrue }

-- an option with a value, such as --output NAME or -o NAME
abbrev pub value_rule : Text → ℕ → Rule
value_rule option letter = record (new_rule option) { long = Some option; short = Some letter; action = Some Set; value_names = 1 }

abbrev pub with_flag : App → Text → App
with_flag a option = with_rule a (flag_rule option)

-- the options without a value
abbrev pub flags : List Text
flags = codes "explain" ∷ codes "json" ∷ codes "quiet" ∷ codes "progress" ∷ codes "y4m" ∷ codes "strict" ∷ codes "brief" ∷ []

abbrev pub with_flags : App → App
with_flags a = fold with_flag a flags

-- the options with a value, and their letters
abbrev pub values : List (Text × ℕ)
values = (codes "output", 111) ∷ (codes "picture", 112) ∷ (codes "mb", 109) ∷ (codes "target", 116) ∷ []

abbrev pub with_value : App → Text × ℕ → App
with_value a option = with_rule a (value_rule option.0 option.1)

abbrev pub with_values : App → App
with_values a = fold with_value a values

-- a subcommand
abbrev pub file_app : Text → App
file_app name = with_values (with_flags (with_rule (new_app name) files_rule))

-- the program's own command: it wants a subcommand, has a version, and shows help where nothing is given
abbrev pub top : Shape
top = record (new_app (codes "h264v")).top { has_version = true; subcommand_required = true; arg_required_else_help = true }

abbrev pub bare : App
bare = record { top = top; subs = (new_app (codes "h264v")).subs }

abbrev pub with_file : App → Text → App
with_file a name = with_subcommand a (file_app name).top

-- the names of the subcommands
abbrev pub subcommands : List Text
subcommands =
    codes "check" ∷ codes "units" ∷ codes "headers" ∷ codes "frames" ∷ codes "decode" ∷ codes "elements" ∷ codes "info" ∷ codes "report" ∷ codes "explain" ∷ []

abbrev pub program : App
program = fold with_file bare subcommands

-- A command line takes these words: clap has no kind of error for them.
abbrev pub IsTakenBy : App → List Text → Type 0
IsTakenBy app words = fault_of app words ≡ []

-- A command line refuses these words: clap has a kind of error for them, and does not say that they pass.
pub record IsRefusedBy (app : App) (words : List Text) : Type 0 where
  pub fault : IsTakenBy app words → ⊥
  pub fails : takes app words ≡ false

-- the name of a task's subcommand
abbrev pub name_of : Task → Text
name_of tasks.Check = codes "check"
name_of tasks.Units = codes "units"
name_of tasks.Headers = codes "headers"
name_of tasks.Frames = codes "frames"
name_of tasks.Decode = codes "decode"
name_of tasks.Elements = codes "elements"
name_of tasks.Info = codes "info"
name_of tasks.Report = codes "report"
name_of tasks.Explain = codes "explain"

-- it judges a stream with lines or frames as its answer
abbrev pub is_judging : Task → Bool
is_judging tasks.Check = true
is_judging tasks.Units = true
is_judging tasks.Headers = true
is_judging tasks.Frames = true
is_judging tasks.Decode = true
is_judging tasks.Elements = true
is_judging tasks.Info = false
is_judging tasks.Report = false
is_judging tasks.Explain = false

-- the subcommand that words ask for, and the first FILE that they give it
abbrev pub asks : App → List Text → Option (Text × Option Text)
asks app words = option_map (λ p. (p.0, first_of (codes "FILE") p.1)) (subcommand_of app words)

-- the subcommand that matches of a command line name, and the first FILE that they give it
abbrev pub found_by : ArgMatches → Option (Text × Option Text)
found_by matches = option_map (λ p. (p.0, first_of (codes "FILE") p.1)) (subcommand_rows_of matches)

-- This is the request of a subcommand with this name and FILE: none where no task has the name, or there is no FILE.
abbrev pub IsRequest : Option (Text × Option Text) → Option Request → Type 0
IsRequest found None = (task : Task) (file : Text) → found ≡ Some (name_of task, Some file) → ⊥
IsRequest found (Some r) = found ≡ Some (name_of r.task, Some r.file.now)

-- these words name no task with a FILE
abbrev pub AsksNothing : List Text → Type 0
AsksNothing words = (task : Task) (file : Text) → asks program words ≡ Some (name_of task, Some file) → ⊥

-- this is what words ask for
abbrev pub AsksFor : List Text → Option Request → Type 0
AsksFor words None = AsksNothing words
AsksFor words (Some r) = asks program words ≡ Some (name_of r.task, Some r.file.now)

-- Words may be refused: the command line does not take them, or they name no task with a FILE.
abbrev pub IsRefusable : List Text → Type 0
IsRefusable words = takes program words ≡ true → AsksNothing words

-- ---- files and options

-- a subcommand with the rows of its arguments, where there is one: what words give it, or what was found of them
abbrev pub Given : Type 0
Given = Option (Text × List Row)

-- the values that an argument has, in the order of the words, where it is given
abbrev pub all_in : Given → Text → Option (List Text)
all_in given id = option_and_then (λ p. all_of id p.1) given

-- the values that it has; none where it is not given
abbrev pub values_in : Given → Text → List Text
values_in given id = unwrap_or (all_in given id) []

-- the first of them, where there is one
abbrev pub value_in : Given → Text → Option Text
value_in given id = option_and_then (λ p. first_of id p.1) given

-- the name by which the system knows a file: that of standard input for -
abbrev pub system_name : Text → Text
system_name name = if bytes_eq name (codes "-") then codes "/dev/stdin" else name

-- how far a task judges
abbrev pub mode_of : Task → Mode
mode_of tasks.Check = modes.Verdict
mode_of tasks.Units = modes.Units
mode_of tasks.Headers = modes.Headers
mode_of tasks.Frames = modes.Full
mode_of tasks.Decode = modes.Full
mode_of tasks.Elements = modes.Verdict
mode_of tasks.Info = modes.Verdict
mode_of tasks.Report = modes.Full
mode_of tasks.Explain = modes.Verdict

-- the name of a target
abbrev pub target_name : Target → Text
target_name targets.Baseline = codes "baseline"
target_name targets.MainIP = codes "main-ip"

-- This is the target that is named: Constrained Baseline where none is.
abbrev pub IsTarget : Option Text → Target → Type 0
IsTarget None target = target ≡ targets.Baseline
IsTarget (Some name) target = name ≡ target_name target
