-- The plain words that stand for words which name files by lists. To be read beside docs/OUTPUT.md.
use Rattle.std.specs.Prelude.{◌≡◌, ◌≢◌, ◌⊎◌, ◌||◌, ◌&&◌, ℕ, ⊤, Bool, true, false, List, [], ◌∷◌, ◌++◌, map, flat_map, unwrap_or, codes, string_bytes}
use Rattle.std.specs.Prelude.{Option, None, Some, IfSome, String, is_some, if◌then◌else◌}
use Rattle.std.specs.Str.{bytes_eq}
use Rattle.clap.specs.Words.{Row, Text, all_of, first_of, one_of, subcommand_of}
use Rattle.h264_words.specs.ListWords.{list_program, takes_lists}
use Rattle.h264_words.specs.Options.{IsFlag}
use Rattle.h264_words.specs.Words.{Given, IsRefusedBy, IsTakenBy, flags, program, values}
use Rattle.h264_command.specs.declared.lists.Listed.{Listed}
use Rattle.h264_command.specs.declared.lists.Listed.TheVariants as lists
use Rattle.h264_command.specs.declared.lists.Unlisted.{Unlisted}
use Rattle.h264_command.specs.declared.lists.Unlisted.TheVariants as unlisted

-- the texts of words
abbrev pub texts_in : {A : Type 0} → List (String A) → List Text
texts_in words = map (λ w. string_bytes w) words

-- ---- the front: the subcommand and its options

-- --OPTION, where the words have it
abbrev pub flag_words : (option : Text) → (has : Bool) → List Text
flag_words option false = []
flag_words option true = (codes "--" ++ option) ∷ []

-- These are the words of those options without a value that the arguments in these rows have.
abbrev pub AreFlags : List Row → (options words : List Text) → Type 0
AreFlags rows [] words = words ≡ []
AreFlags rows (option ∷ options) words =
    (has : Bool) × IsFlag (one_of option rows) has × ((rest : List Text) × AreFlags rows options rest × (words ≡ flag_words option has ++ rest))

-- Such words stand behind others.
pub record HasFlags (rows : List Row) (options old new : List Text) : Type 0 where
  pub part : List Text
  pub are_flags : AreFlags rows options part
  pub is : new ≡ old ++ part

-- --OPTION=VALUE, where there is a value
abbrev pub value_words : (option : Text) → (value : Option Text) → List Text
value_words option None = []
value_words option (Some value) = (codes "--" ++ (option ++ (codes "=" ++ value))) ∷ []

-- the words of the options with a value
abbrev pub all_values : List Row → List Text
all_values rows = flat_map (λ (option : Text × ℕ). value_words option.0 (first_of option.0 rows)) values

-- This is the front of plain words: the program's name, a subcommand, the options of these rows, and -- before the files.
pub record IsFront (subcommand : Text) (rows : List Row) (words : List Text) : Type 0 where
  pub flag_part : List Text
  pub are_flags : AreFlags rows flags flag_part
  pub is : words ≡ codes "h264v" ∷ subcommand ∷ (flag_part ++ (all_values rows ++ codes "--" ∷ []))

-- ---- the files

-- the name of a file that words give: another one for standard input, where that has a name of its own
abbrev pub named_by : (input : Option Text) → (name : Text) → Text
named_by None name = name
named_by (Some input) name = if bytes_eq name (codes "-") then input else name

-- the names of the files that words give one by one
abbrev pub names_given : List Row → List Text
names_given rows = map (named_by (first_of (codes "name") rows)) (unwrap_or (all_of (codes "FILE") rows) [])

-- These words are others with more behind them.
abbrev pub HasMore : (old new : List Text) → Type 0
HasMore old new = (more : List Text) × (new ≡ old ++ more)

-- This is why a list or a folder of this name can't be read: it has the name; or there was no memory for it.
abbrev pub IsUnread : (name : Text) → Unlisted → Type 0
IsUnread name unlisted.Memory = ⊤
IsUnread name (unlisted.Unread told cause) = string_bytes told ≡ name
IsUnread name (unlisted.Refused text) = ⊥

-- ---- words that have a list

-- the arguments in these rows name files by lists or folders, or have a pattern of names
abbrev pub lists_files : List Row → Bool
lists_files rows = is_some (all_of (codes "files0-from") rows) || (is_some (all_of (codes "recursive") rows) || is_some (first_of (codes "glob") rows))

-- Whether a subcommand with the arguments in these rows has a list: `explain` all labels, another a name for standard input or, where it takes several files,
-- lists of them.
pub record HasList (subcommand : Text) (rows : List Row) (has : Bool) : Type 0 where
  pub labels : subcommand ≡ codes "explain" → IsFlag (one_of (codes "all") rows) has
  pub files : subcommand ≢ codes "explain" → has ≡ (is_some (first_of (codes "name") rows) || (takes_lists subcommand && lists_files rows))

-- The same of what words give a subcommand, where there is one.
abbrev pub HasListIn : Given → Bool → Type 0
HasListIn None has = has ≡ false
HasListIn (Some p) has = HasList p.0 p.1 has

-- The command line with lists takes words, and finds a list in them.
abbrev pub FindsList : List Text → Type 0
FindsList words = IsTakenBy list_program words × HasListIn (subcommand_of list_program words) true

-- It does not take them, or finds none in them.
abbrev pub FindsNoList : List Text → Type 0
FindsNoList words = IsTakenBy list_program words → HasListIn (subcommand_of list_program words) false

-- Words name files by lists: the plain command line refuses them, and that with lists finds one in them.
abbrev pub NameByLists : List Text → Type 0
NameByLists words = IsRefusedBy program words × FindsList words

-- They do not: the plain command line takes them, or that with lists finds none in them.
abbrev pub NameNoList : List Text → Type 0
NameNoList words = IsTakenBy program words ⊎ FindsNoList words

-- ---- all of them

-- These plain words stand for others: they have the front of plain words, with the subcommand and the options of the others, and then names of files or labels.
abbrev pub StandsFor : (plain words : List Text) → Type 0
StandsFor plain words = IfSome (subcommand_of list_program words) (λ p. (front : List Text) × IsFront p.0 p.1 front × HasMore front plain)

-- What comes of words stands for them, where it is words.
abbrev pub IsPlainForm : List Text → Listed → Type 0
IsPlainForm words (lists.Words plain) = StandsFor (texts_in plain.items) words
IsPlainForm words (lists.Fault status) = ⊤
