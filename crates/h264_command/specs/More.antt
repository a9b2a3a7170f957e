-- What the program comes to, whatever its words ask: the exit status, and what it writes to standard output. To be read beside docs/OUTPUT.md.
use Rattle.std.specs.Prelude.{◌≡◌, ◌≢◌, ◌⊎◌, ℕ, ◌≤◌, ◌==◌, ◌&&◌, max, not, Bool, true, false, List, [], ◌∷◌, ◌++◌}
use Rattle.std.specs.Prelude.{map, length, codes, Option, None, Some, IsSome, IfSome, Result, Ok, Err, IsErrOf, option_map, if◌then◌else◌}
use Rattle.std.specs.List.{All, count_by}
use Rattle.h264_base.specs.declared.mode.Mode.TheVariants as modes
use Rattle.h264_base.specs.declared.mode.Target.{Target}
use Rattle.h264_base.specs.declared.stop.Stop.{Stop}
use Rattle.h264_base.specs.declared.stop.Stop.TheVariants.{No, Outside, Memory, Read, Write}
use Rattle.h264_lines.specs.Names.{shown}
use Rattle.h264_lines.specs.Sent.{Sends, Takes}
use Rattle.h264_lines.specs.Told.{ended}
use Rattle.h264_report.specs.Written.{OfBytes, last_line, status_of}
use Rattle.h264_report.specs.declared.judging.Ending.{Ending}
use Rattle.h264_verify.specs.Telling.{Told as ToldOf}
use Rattle.h264_verify.specs.Units.{terms_of, extent_by}
use Rattle.h264_verify.specs.Verdict.{Holds, Breaks, MayStop}
use Rattle.h264_base.specs.declared.summary.Summary.{Summary}
use Rattle.h264_verify.specs.declared.state.Terms.{Terms}
use Rattle.h264_command.specs.declared.job.Done.{Done}
use Rattle.h264_command.specs.Texts.{IsFileText, opening_in, prefix_of}
use Rattle.h264_words.specs.Words.{program, asks, name_of, Given, values_in, system_name, mode_of}
use Rattle.h264_command.specs.Further.{TellsBroken}
use Rattle.h264_words.specs.Options.{asks_further, AreOptions, AreWellUsed, IsRefused, output_file, refusal_text}
use Rattle.h264_words.specs.declared.options.Options.{Options}
use Rattle.h264_words.specs.declared.refusal.Refusal.{Refusal}
use Rattle.h264_words.specs.declared.command_line.Task.{Task}
use Rattle.h264_words.specs.declared.command_line.Task.TheVariants as tasks
use Rattle.clap.specs.Words.{Text, subcommand_of}
use Rattle.h264_command.specs.Commands.{Output, OutputSpan, from_to, FilesRead, files_read, Comes, HasFailed, IsHandedOver}
use Rattle.h264_command.specs.Lists.{NameByLists, NameNoList, StandsFor}
use Rattle.h264_command.specs.Files.{Counts, HasReadAll, IsUnread, TellsFailure}

-- ---- one file

-- A yes, a no and an outside are the verdict on these bytes; memory, read and write say nothing of them.
abbrev pub IsAnswer : Terms → List ℕ → Result Summary Stop → Type 0
IsAnswer terms bytes (Ok summary) = (calls : List ToldOf) × Holds (extent_by terms) bytes calls summary
IsAnswer terms bytes (Err (No bit rule)) = (calls : List ToldOf) × Breaks (extent_by terms) bytes calls bit rule
IsAnswer terms bytes (Err (Outside bit feature)) = (calls : List ToldOf) × MayStop (extent_by terms) bytes calls bit feature
IsAnswer terms bytes (Err Memory) = Unit {0}
IsAnswer terms bytes (Err Read) = Unit {0}
IsAnswer terms bytes (Err Write) = Unit {0}

-- This is the answer of a task on the bytes that a source gives, for this target.
abbrev pub IsAnswerOf : Task → Target → Option (List ℕ) → Result Summary Stop → Type 0
IsAnswerOf task target source answer = OfBytes source (λ bytes. IsAnswer (terms_of (mode_of task) target) bytes answer)

-- The exit status of a file: that of its answer, and 1 at least where `--strict` found a further rule broken.
abbrev pub done_status : Done → ℕ
done_status d = if d.is_broken then max (status_of d.ending.written d.ending.answer) 1 else status_of d.ending.written d.ending.answer

-- ---- the devices

-- A line was written to one of two devices and handed over, or the device has failed; the other is as it was.
pub record IsPutAside (written : Bool) (out : OutputSpan) (err' : Output) : Type 0 where
  pub unwritten : written ≡ false → HasFailed out.new err'
  pub quiet : written ≡ true → (out.new.has_failed ≡ out.old.has_failed) × IsHandedOver out
  -- what has failed stays so
  pub kept : out.old.has_failed ≡ true → out.new.has_failed ≡ true

-- That a write failed is answered where standard output failed, or where frames of another size have no place in YUV4MPEG2; and the last line was not
-- written where a device failed. Else standard output has not failed since, and holds nothing back.
pub record TellsWrites (y4m : Bool) (ending : Ending) (out : OutputSpan) (err' : Output) : Type 0 where
  pub write : IsErrOf ending.answer Write → (out.new.has_failed ≡ true) ⊎ (y4m ≡ true)
  pub unwritten : ending.written ≡ false → HasFailed out.new err'
  pub told : ending.answer ≢ Err Write → ending.written ≡ true → (out.new.has_failed ≡ true → out.old.has_failed ≡ true) × IsHandedOver out

-- A device has failed, or may have: a file that the words name for the output is none that is seen here. And YUV4MPEG2 ends where the size changes.
abbrev pub MayHaveFailed : Options → (out' err' : Output) → Type 0
MayHaveFailed o out' err' = HasFailed out' err' ⊎ (IsSome o.output ⊎ (o.y4m ≡ true))

-- An answer that a write failed, and a last line that was not written, come where a device failed.
pub record AreExcused (o : Options) (out' err' : Output) (ending : Ending) : Type 0 where
  pub write : IsErrOf ending.answer Write → MayHaveFailed o out' err'
  pub unwritten : ending.written ≡ false → MayHaveFailed o out' err'

-- A line was written that says why a file or a device failed: `h264v: NAME`, and after it the system's cause, where there was memory for that.
pub record NamesCause (old new : Option (List ℕ)) (name : Text) : Type 0 where
  pub cause : List ℕ
  pub line : Sends old new ((codes "h264v: " ++ shown name) ++ ended cause)

-- Such a line was written; or one that says that there was no memory for the name.
abbrev pub TellsCause : (old new : Option (List ℕ)) (name : Text) → Type 0
TellsCause old new name = NamesCause old new name ⊎ Sends old new (codes "h264v: " ++ ended (codes "memory"))

-- An output to the file of this name was made, took this text, and then got its name.
abbrev pub HasTaken : {W : Type 0} → (goes_to : W → Text → Type 0) → (is_finished : W → Type 0) → (contents : W → Option (List ℕ)) →
    (name : Text) (text : List ℕ) → Type 0
HasTaken {W} goes_to is_finished contents name text =
    (made : W) × (written : W) × goes_to made name × Sends (contents made) (contents written) text × is_finished written

-- ---- a file of the words

-- a file's name, how its judgement ended, and what was written of it to the output
pub record FileDone : Type 0 where
  pub name : Text
  pub done : Done
  pub text : List ℕ

-- a task with its options
pub record Work : Type 0 where
  pub task : Task
  pub options : Options

abbrev pub work : Task → Options → Work
work task options = record { task = task; options = options }

-- It ended with the answer on the bytes that the file of this name holds, tells of the further rules where they are asked for, and of a failed write only
-- where one failed.
pub record IsJudged (w : Work) (held : Text → Option (List ℕ)) (out' err' : Output) (f : FileDone) : Type 0 where
  pub answer : IsAnswerOf w.task w.options.target (held (system_name f.name)) f.done.ending.answer
  pub broken : TellsBroken (asks_further w.task w.options.strict) (terms_of (mode_of w.task) w.options.target) (held (system_name f.name)) f.done
  pub excused : AreExcused w.options out' err' f.done.ending

-- ---- failed reads

-- the answer is that a read failed
abbrev pub says_read : Result Summary Stop → Bool
says_read (Ok summary) = false
says_read (Err (No bit rule)) = false
says_read (Err (Outside bit feature)) = false
says_read (Err Memory) = false
says_read (Err Read) = true
says_read (Err Write) = false

-- the answer is that a read or a write failed
abbrev pub says_failure : Result Summary Stop → Bool
says_failure (Ok summary) = false
says_failure (Err (No bit rule)) = false
says_failure (Err (Outside bit feature)) = false
says_failure (Err Memory) = false
says_failure (Err Read) = true
says_failure (Err Write) = true

-- the answer is a verdict
abbrev pub says_verdict : Result Summary Stop → Bool
says_verdict (Ok summary) = true
says_verdict (Err (No bit rule)) = true
says_verdict (Err (Outside bit feature)) = true
says_verdict (Err Memory) = false
says_verdict (Err Read) = false
says_verdict (Err Write) = false

-- An output is whole: all was written, and the answer is a verdict.
abbrev pub is_whole : Ending → Bool
is_whole ending = ending.written && says_verdict ending.answer

-- The file for the output took a text of this kind, where it is whole.
pub record IsToldAside (ending : Ending) (Is Took : List ℕ → Type 0) : Type 0 where
  pub text : List ℕ
  pub is_text : is_whole ending ≡ true → Is text
  pub took : is_whole ending ≡ true → Took text

-- That a read failed is told of a file only where one did since, or where it was read too often. One that failed is told, or that a write failed too.
pub record TellsRead (before after : Counts) (f : FileDone) : Type 0 where
  pub read : IsErrOf f.done.ending.answer Read → IsUnread before.failures before.reads after.failures after.reads
  pub told : TellsFailure before.failures after.failures f.done.ending.answer

-- Of files that were closed so many could not be opened or read, or were read too often: that a read failed is told of no more of them than these, and of no
-- fewer, but for those of which it is told that a write failed.
pub record TellUnread (unread : ℕ) (files : List FileDone) : Type 0 where
  pub read : count_by (λ f. says_read f.done.ending.answer) files ≤ unread
  pub told : unread ≤ count_by (λ f. says_failure f.done.ending.answer) files

-- What is told of failed reads, from these counts to those. Of several files those that are closed are counted anew.
abbrev pub TellReads : (several : Bool) (before after : Counts) → List FileDone → Type 0
TellReads false before after files = All (TellsRead before after) files
TellReads true before after files = TellUnread after.unread files

-- ---- the files of the words

-- there are several files, so that each line has its file's name before it
abbrev pub are_several : List Text → Bool
are_several names = not (length names == 1)

-- What was written of it to the output tells of the file of its name.
abbrev pub IsTextOfFile : (w : Work) (held : Text → Option (List ℕ)) (several : Bool) → FileDone → Type 0
IsTextOfFile w held several f =
    IsFileText w.task w.options (opening_in w.options.json f.name (prefix_of several f.name)) (held (system_name f.name)) f.done.ending.answer f.text

-- what was written of these files, one after another
unfoldable pub texts_of : List FileDone → List ℕ
texts_of [] = []
texts_of (f ∷ fs) = f.text ++ texts_of fs

-- Standard output took what tells of these files, in their order, and after it, of several, a last text; or it has failed.
pub record AreTold (w : Work) (held : Text → Option (List ℕ)) (several : Bool) (files : List FileDone) (out : OutputSpan) : Type 0 where
  pub texts : All (IsTextOfFile w held several) files
  pub last : List ℕ
  pub of_one : several ≡ false → last ≡ []
  pub sends : out.new.has_failed ≡ false → Sends out.old.bytes out.new.bytes (texts_of files ++ last)

-- the greatest exit status of these files
abbrev pub worst : List FileDone → ℕ
worst [] = 0
worst (f ∷ fs) = max (done_status f.done) (worst fs)

-- the exit status of a text that was written, or could not be
abbrev pub text_status : Bool → ℕ
text_status written = if written then 0 else 4

-- A text was written and handed over; or the device has failed.
pub record IsPut (written : Bool) (device' : Output) : Type 0 where
  pub whole : written ≡ true → device'.holds_back ≡ false
  pub failed : written ≡ false → device'.has_failed ≡ true

-- The exit status of `explain`.
pub data IsToldStatus (status : ℕ) (out' : Output) : Type 0 where
  -- no rule has a label that is asked for
  Unknown : status ≡ 64 → IsToldStatus status out'
  Told : (written : Bool) → status ≡ text_status written → IsPut written out' → IsToldStatus status out'
  -- there was no memory for the text
  Short : (written : Bool) → status ≡ status_of written (Err Memory) → IsPut written out' → IsToldStatus status out'

-- Where the status is none of a device's, standard output has not failed since, and all is handed over.
abbrev pub IsWhole : (status : ℕ) (out : OutputSpan) → Type 0
IsWhole status out = status ≢ 4 → (out.new.has_failed ≡ true → out.old.has_failed ≡ true) × IsHandedOver out

-- What the file of each name holds, as far as that is known, the counts of files before and after, and that the file of a name was made for the output and
-- took a text.
pub record FilesSpan : Type 1 where
  pub held : Text → Option (List ℕ)
  pub before : Counts
  pub after : Counts
  pub Took : Text → List ℕ → Type 0

abbrev pub files_span : (Text → Option (List ℕ)) → (before after : Counts) → (Took : Text → List ℕ → Type 0) → FilesSpan
files_span held before after Took = record { held = held; before = before; after = after; Took = Took }

-- the file that the words name for the output, if they do
abbrev pub file_of_output : Options → Option Text
file_of_output o = output_file (option_map (λ s. s.now) o.output)

-- no file is made for the output
abbrev pub NoneTook : Text → List ℕ → Type 0
NoneTook name text = ⊥

-- The file that the words name for the output took what tells of the one FILE.
pub record AreToldAside (w : Work) (files : FilesSpan) (done : List FileDone) (output : Text) : Type 0 where
  pub texts : All (IsTextOfFile w files.held false) done
  pub took : files.Took output (texts_of done)

-- Each file of these names was judged, in their order, and this is the status of all; or a device failed. Of failed reads this is told. Standard output was
-- told of each, where the words name no file for the output; else that file was told of the one FILE, where the status is that of a verdict.
pub data AreDone (w : Work) (files : FilesSpan) (names : List Text) (status : ℕ) (out : OutputSpan) (err' : Output) : Type 0 where
  Each : (done : List FileDone) → map (λ f. f.name) done ≡ names → All (IsJudged w files.held out.new err') done →
      TellReads (are_several names) files.before files.after done → status ≡ worst done → IsWhole status out →
      (file_of_output w.options ≡ None → AreTold w files.held (are_several names) done out) →
      (are_several names ≡ false → status ≢ 3 → status ≢ 4 → IfSome (file_of_output w.options) (AreToldAside w files done)) →
      AreDone w files names status out err'
  Broke : status ≡ 4 → HasFailed out.new err' → AreDone w files names status out err'

-- What comes of a task where the words ask for more than a judgement of one FILE: its exit status, and what is known of the devices.
pub data IsStatus (task : Task) (given : Given) (files : FilesSpan) (status : ℕ) (out err : OutputSpan) : Type 0 where
  -- A fault of the words. Standard error is told why, and nothing else is written.
  Refused : (refusal : Refusal) → status ≡ 64 → IsRefused task given refusal → out.new ≡ out.old →
      (err.new.has_failed ≡ false → Sends err.old.bytes err.new.bytes (codes "h264v: " ++ ended (refusal_text refusal))) →
      IsStatus task given files status out err
  Explained : task ≡ tasks.Explain → IsToldStatus status out.new → IsStatus task given files status out err
  -- each FILE was judged, in the order of the words and for their target
  Judged : (o : Options) → AreOptions given o → AreWellUsed task given o →
      AreDone (work task o) files (values_in given (codes "FILE")) status out err.new → IsStatus task given files status out err

-- what is known of files whose reads were counted so
abbrev pub reads_in : FilesSpan → FilesRead
reads_in files = files_read files.held (IsUnread files.before.failures files.before.reads files.after.failures files.after.reads)
    (HasReadAll files.before.failures files.after.failures)

-- What the words come to. Where a file or a device failed, standard error is then told why.
pub data Ends (words : List Text) (files : FilesSpan) (status : ℕ) (out : OutputSpan) (err : Output) : Type 0 where
  Plain : (err' : Output) → Comes words (reads_in files) status out (from_to err err') → Ends words files status out err
  More : (err' : Output) (task : Task) (name : Text) → asks program words ≡ Some (name_of task, Some name) →
      IsStatus task (subcommand_of program words) files status out (from_to err err') → Ends words files status out err

-- What the program comes to with these words.
pub data Runs (words : List Text) (files : FilesSpan) (status : ℕ) (out : OutputSpan) (err : Output) : Type 0 where
  -- the plain command line takes the words, or they name no files by lists
  Asked : NameNoList words → Ends words files status out err → Runs words files status out err
  -- they name files by lists, and what comes of others stands for them, which have their subcommand and their options
  Listed : NameByLists words → (plain : List Text) → StandsFor plain words → (err' : Output) → Ends plain files status out err' →
      Runs words files status out err
  -- nor can the lists be followed, and standard output is as it was
  Unlisted : NameByLists words → out.new ≡ out.old → Runs words files status out err
  -- there was no memory for the words
  NoWords : (written : Bool) → status ≡ status_of written (Err Memory) → (written ≡ true → out.new.holds_back ≡ false) →
      Takes written out.old.bytes out.new.bytes (last_line modes.Full (Err Memory)) → Runs words files status out err

-- What the program comes to with words that may not be known.
abbrev pub RunsOnSome : (files : FilesSpan) (status : ℕ) (out : OutputSpan) (err : Output) → Type 0
RunsOnSome files status out err = (words : List Text) × Runs words files status out err
