-- What a task writes of one file, by its options: the text of the calls, and after it the answer. To be read beside docs/OUTPUT.md.
use Rattle.std.specs.Prelude.{◌≡◌, ◌⊎◌, ◌||◌, ℕ, Bool, true, false, List, [], ◌++◌, codes, Option, None, Some, Result, Err, is_some, if◌then◌else◌}
use Rattle.std.specs.Fmt.{decimal}
use Rattle.h264_base.specs.Call.{Call}
use Rattle.h264_base.specs.declared.stop.Stop.{Stop}
use Rattle.h264_base.specs.declared.stop.Stop.TheVariants.{Write}
use Rattle.h264_lines.specs.Chosen.{left_in, left_by, choosing_after, at_first}
use Rattle.h264_pages.specs.Json.{escaped}
use Rattle.h264_lines.specs.Objects.{Opening, OfLine, OfObject}
use Rattle.h264_lines.specs.Names.{shown}
use Rattle.h264_pages.specs.Pages.{number_field, text_field, verdict_fields}
use Rattle.h264_lines.specs.Sent.{Sends}
use Rattle.h264_lines.specs.Told.{lines_of, bytes_of}
use Rattle.h264_report.specs.Written.{OfBytes, last_line}
use Rattle.h264_verify.specs.Account.{Account, calls_in}
use Rattle.h264_lines.specs.Y4m.{SuitsHead, y4m_of}
use Rattle.h264_lines.specs.declared.head.Head.{Head}
use Rattle.h264_lines.specs.declared.listing.Listing.{Listing}
use Rattle.h264_lines.specs.declared.listing.Listing.TheVariants as listings
use Rattle.h264_lines.specs.declared.choice.Choice.{Choice}
use Rattle.h264_verify.specs.Units.{terms_of}
use Rattle.h264_base.specs.declared.summary.Summary.{Summary}
use Rattle.h264_verify.specs.declared.state.Terms.{Terms}
use Rattle.h264_command.specs.Commands.{Output}
use Rattle.h264_command.specs.Further.{IsNoVerdict, IsToldOf}
use Rattle.h264_words.specs.Words.{mode_of}
use Rattle.h264_words.specs.declared.command_line.Task.{Task}
use Rattle.h264_words.specs.declared.command_line.Task.TheVariants as tasks
use Rattle.h264_words.specs.declared.options.Options.{Options}
use Rattle.clap.specs.Words.{Text}

-- ---- which calls have a line, and what it begins with

-- which calls have a line in a task
abbrev pub listing_in : Task → Listing
listing_in tasks.Check = listings.Nothing
listing_in tasks.Units = listings.Units
listing_in tasks.Headers = listings.Slices
listing_in tasks.Frames = listings.Frames
listing_in tasks.Decode = listings.Nothing
listing_in tasks.Elements = listings.Elements
listing_in tasks.Info = listings.Nothing
listing_in tasks.Report = listings.Nothing
listing_in tasks.Explain = listings.Nothing

-- none of them where `--quiet` is given
abbrev pub listing_of : Task → (quiet : Bool) → Listing
listing_of task true = listings.Nothing
listing_of task false = listing_in task

-- {"file":"NAME"
abbrev pub head_of : Text → List ℕ
head_of name = codes "{\"file\":\"" ++ (escaped name ++ codes "\"")

-- what each object of a file begins with, or each line, where this stands before it
abbrev pub opening_in : (json : Bool) → (name prefix : Text) → Opening
opening_in true name prefix = OfObject (head_of name)
opening_in false name prefix = OfLine prefix

-- what stands before each line of a file: its name as lines have it, where there are several
abbrev pub prefix_of : (several : Bool) → (name : Text) → Text
prefix_of true name = shown name ++ codes ": "
prefix_of false name = []

-- one picture or one macroblock is chosen
abbrev pub chooses : Choice → Bool
chooses choice = is_some choice.picture || is_some choice.macroblock

-- ---- the text of the calls

-- This is what the calls of a stream make that was judged with this answer.
pub record IsMade (make : List Call → List ℕ) (terms : Terms) (bytes : List ℕ) (answer : Result Summary Stop) (text : List ℕ) : Type 0 where
  pub account : Account terms bytes answer
  pub is : text ≡ make (calls_in account)

-- the calls that are left by a choice, where one is made; else all
abbrev pub left_calls : Choice → List Call → List Call
left_calls choice calls = if chooses choice then left_in choice at_first calls else calls

-- This is the front of what a choice leaves of one call more, after these.
pub record IsFrontOfNext (choice : Choice) (calls front : List Call) : Type 0 where
  pub call : Call
  pub rest : List Call
  pub whole : left_by choice (choosing_after choice at_first calls) call ≡ front ++ rest

-- This is what those calls make that are left by a choice; with, where one is made, the front of what is left of one call more, at which memory was wanting
-- or a write failed.
pub record IsListed (choice : Choice) (make : List Call → List ℕ) (terms : Terms) (bytes : List ℕ) (answer : Result Summary Stop) (text : List ℕ) : Type 0 where
  pub account : Account terms bytes answer
  pub more : List Call
  pub is_more : (more ≡ []) ⊎ ((chooses choice ≡ true) × IsFrontOfNext choice (calls_in account) more)
  pub is : text ≡ make (left_calls choice (calls_in account) ++ more)

-- These are the frames of a stream as YUV4MPEG2, all of the size that its header names.
pub record IsY4m (terms : Terms) (bytes : List ℕ) (answer : Result Summary Stop) (text : List ℕ) : Type 0 where
  pub head : Option Head
  pub account : Account terms bytes answer
  pub suits : SuitsHead head (calls_in account)
  pub is : text ≡ y4m_of head (calls_in account)

abbrev pub IsDecoded : (y4m : Bool) → Terms → List ℕ → Result Summary Stop → List ℕ → Type 0
IsDecoded false terms bytes answer text = IsMade bytes_of terms bytes answer text
IsDecoded true terms bytes answer text = IsY4m terms bytes answer text

-- This is the text of the calls of a stream in a task, with this at the beginning of each line or object. `check` and `info` have none, and `report` a page.
abbrev pub IsTextOf : Task → Options → Opening → (bytes : List ℕ) → Result Summary Stop → (text : List ℕ) → Type 0
IsTextOf tasks.Check o opening bytes answer text = text ≡ []
IsTextOf tasks.Units o opening bytes answer text =
    IsListed o.choice (lines_of opening (listing_of tasks.Units o.quiet) 0) (terms_of (mode_of tasks.Units) o.target) bytes answer text
IsTextOf tasks.Headers o opening bytes answer text =
    IsListed o.choice (lines_of opening (listing_of tasks.Headers o.quiet) 0) (terms_of (mode_of tasks.Headers) o.target) bytes answer text
IsTextOf tasks.Frames o opening bytes answer text =
    IsListed o.choice (lines_of opening (listing_of tasks.Frames o.quiet) 0) (terms_of (mode_of tasks.Frames) o.target) bytes answer text
IsTextOf tasks.Decode o opening bytes answer text = IsDecoded o.y4m (terms_of (mode_of tasks.Decode) o.target) bytes answer text
IsTextOf tasks.Elements o opening bytes answer text =
    IsListed o.choice (lines_of opening (listing_of tasks.Elements o.quiet) 0) (terms_of (mode_of tasks.Elements) o.target) bytes answer text
IsTextOf tasks.Info o opening bytes answer text = text ≡ []
IsTextOf tasks.Report o opening bytes answer text = Unit {0}
IsTextOf tasks.Explain o opening bytes answer text =
    IsListed o.choice (lines_of opening (listing_of tasks.Explain o.quiet) 0) (terms_of (mode_of tasks.Explain) o.target) bytes answer text

-- A device took such a text, unless it has failed.
pub record TakesText (Is : List ℕ → Type 0) (old : Option (List ℕ)) (new : Output) : Type 0 where
  pub text : List ℕ
  pub is_text : Is text
  pub sends : new.has_failed ≡ false → Sends old new.bytes text

-- ---- the text of a file

-- the answer of a task goes to standard error, since its output is something else
abbrev pub answers_aside : Task → Bool
answers_aside tasks.Check = false
answers_aside tasks.Units = false
answers_aside tasks.Headers = false
answers_aside tasks.Frames = false
answers_aside tasks.Decode = true
answers_aside tasks.Elements = false
answers_aside tasks.Info = false
answers_aside tasks.Report = true
answers_aside tasks.Explain = false

-- This object opens so, and has the fields of an answer, and maybe others after them.
abbrev pub verdict_object : (head : List ℕ) → Result Summary Stop → (more : List ℕ) → List ℕ
verdict_object head answer more = head ++ (verdict_fields answer ++ (more ++ codes "}\n"))

-- The last line of a text tells this answer, or its last object does.
abbrev pub EndsWith : Task → Opening → (told : Result Summary Stop) → (text : List ℕ) → Type 0
EndsWith task (OfLine prefix) told text = (before : List ℕ) × (text ≡ before ++ (prefix ++ last_line (mode_of task) told))
EndsWith task (OfObject head) told text = (before : List ℕ) × (more : List ℕ) × (text ≡ before ++ verdict_object head told more)

-- a frame of another size than those before it, which has no place in YUV4MPEG2: the file's name, the frame's number in the order of output, and headers
-- with both sizes
pub record SizeChange : Type 0 where
  pub name : Text
  pub frame : ℕ
  pub first : Head
  pub other : Head

abbrev pub size_text : Head → List ℕ
size_text head = decimal head.width ++ (codes "x" ++ decimal head.height)

-- the line that tells of it
abbrev pub change_line : SizeChange → List ℕ
change_line c =
    codes "h264v: " ++ (shown c.name ++ (codes ": frame " ++ (decimal c.frame ++ (codes " is " ++ (size_text c.other
    ++ (codes ", and those before it are " ++ (size_text c.first ++ codes ": YUV4MPEG2 has one size\n")))))))

-- its exit status, its frame and both sizes, as fields of an object
abbrev pub change_fields : (frame : ℕ) → (first other : Head) → List ℕ
change_fields frame first other =
    number_field (codes "status") 4 ++ (number_field (codes "frame") frame
    ++ (number_field (codes "width") other.width ++ (number_field (codes "height") other.height
    ++ (number_field (codes "width_before") first.width ++ number_field (codes "height_before") first.height))))

-- the object that opens so and tells of it
abbrev pub change_object : (head : List ℕ) → SizeChange → List ℕ
change_object head c =
    head ++ ((text_field (codes "kind") (codes "verdict") ++ text_field (codes "verdict") (codes "size changes"))
    ++ (change_fields c.frame c.first c.other ++ codes "}\n"))

-- The last line of a text tells of this change of size, or its last object does.
abbrev pub EndsWithChange : Opening → SizeChange → (text : List ℕ) → Type 0
EndsWithChange (OfLine prefix) change text = (before : List ℕ) × (text ≡ before ++ change_line change)
EndsWithChange (OfObject head) change text = (before : List ℕ) × (text ≡ before ++ change_object head change)

-- the change of size of a file: the frame after those that were written, and the headers of the first frame and of this one
abbrev pub change_of : (name : Text) → (frames : ℕ) → Option (Head × Head) → Option SizeChange
change_of name frames None = None
change_of name frames (Some heads) = Some (record { name = name; frame = frames; first = heads.0; other = heads.1 })

-- A text ends with this answer; or, where it is that the output of YUV4MPEG2 broke off, with a change of size.
abbrev pub EndsWithAnswer : Task → Options → Opening → (told : Result Summary Stop) → (text : List ℕ) → Type 0
EndsWithAnswer task o opening told text =
    EndsWith task opening told text ⊎ ((o.y4m ≡ true) × (told ≡ Err Write) × ((change : SizeChange) × EndsWithChange opening change text))

-- This tells an answer: a text that ends with it, or nothing with `--quiet`.
pub data TellsAnswer (task : Task) (o : Options) (opening : Opening) (told : Result Summary Stop) (text : List ℕ) : Type 0 where
  Quiet : o.quiet ≡ true → text ≡ [] → TellsAnswer task o opening told text
  Whole : o.quiet ≡ false → EndsWithAnswer task o opening told text → TellsAnswer task o opening told text
  -- there is no verdict, and may have been no memory for its object: a line tells so
  Short : o.quiet ≡ false → IsNoVerdict told → (prefix : List ℕ) → text ≡ prefix ++ last_line (mode_of task) told → TellsAnswer task o opening told text

-- This is what a task's output has after the text of the calls: what tells the answer, where it goes there.
pub record IsEnd (task : Task) (o : Options) (opening : Opening) (told : Result Summary Stop) (text : List ℕ) : Type 0 where
  pub aside : answers_aside task ≡ true → text ≡ []
  pub here : answers_aside task ≡ false → TellsAnswer task o opening told text

-- This is a text of one kind, and after it one of another.
pub record AreBoth (IsFirst IsLast : List ℕ → Type 0) (text : List ℕ) : Type 0 where
  pub first : List ℕ
  pub is_first : IsFirst first
  pub last : List ℕ
  pub is_last : IsLast last
  pub whole : text ≡ first ++ last

-- This is what a task writes to its output of a file that holds these bytes, as far as that is known, where its answer is told so: the text of the calls of
-- the stream, and after it what tells the answer.
pub data IsFileText (task : Task) (o : Options) (opening : Opening) (source : Option (List ℕ)) (told : Result Summary Stop) (text : List ℕ) : Type 0 where
  Judged : (answer : Result Summary Stop) → IsToldOf answer told →
      OfBytes source (λ bytes. AreBoth (IsTextOf task o opening bytes answer) (IsEnd task o opening told) text) →
      IsFileText task o opening source told text
  Unjudged : IsNoVerdict told → IsEnd task o opening told text → IsFileText task o opening source told text
