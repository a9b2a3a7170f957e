-- The command line with lists: that of Words.antt, where no FILE is required and options name files by lists. To be read beside docs/OUTPUT.md.
use Rattle.std.specs.Prelude.{ℕ, Bool, false, not, List, [], ◌∷◌, fold, Some, codes, if◌then◌else◌}
use Rattle.std.specs.List.{list_any}
use Rattle.std.specs.Str.{bytes_eq}
use Rattle.clap.specs.Words.{App, Rule, Text, new_app, new_rule, with_rule, with_subcommand}
use Rattle.clap.specs.declared.builder.action.ArgAction.{ArgAction}
use Rattle.clap.specs.declared.builder.action.ArgAction.TheVariants.{Append, Set}
use Rattle.h264_words.specs.Words.{bare, files_rule, flag_rule, subcommands, with_flags, with_values}

-- the subcommands that take one file, or labels
abbrev pub without_lists : List Text
without_lists = codes "decode" ∷ codes "report" ∷ codes "explain" ∷ []

-- a subcommand takes several files, and so lists of them
abbrev pub takes_lists : Text → Bool
takes_lists name = not (list_any (bytes_eq name) without_lists)

-- an option with a value and no letter, such as --files0-from LIST
abbrev pub list_rule : Text → ArgAction → Rule
list_rule option action = record (new_rule option) { long = Some option; action = Some action; value_names = 1 }

-- such an option with a letter, as --recursive FOLDER or -r FOLDER, which may come several times
abbrev pub lettered_rule : Text → ℕ → Rule
lettered_rule option letter = record (new_rule option) { long = Some option; short = Some letter; action = Some Append; value_names = 1 }

-- The options that a subcommand has beside those of Words.antt: `explain` tells all labels, the others have a name for standard input, and those that take
-- several files have lists, folders and a pattern of names.
abbrev pub list_rules : Text → List Rule
list_rules name =
    if bytes_eq name (codes "explain") then flag_rule (codes "all") ∷ []
    else (list_rule (codes "name") Set ∷ (if takes_lists name
    then list_rule (codes "files0-from") Append ∷ lettered_rule (codes "recursive") 114 ∷ list_rule (codes "glob") Set ∷ []
    else []))

-- a subcommand with these options, for which no FILE is required
abbrev pub list_app : Text → App
list_app name = fold with_rule (with_values (with_flags (with_rule (new_app name) (record files_rule { required = false })))) (list_rules name)

abbrev pub with_list_file : App → Text → App
with_list_file a name = with_subcommand a (list_app name).top

abbrev pub list_program : App
list_program = fold with_list_file bare subcommands
