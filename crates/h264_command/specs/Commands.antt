-- What a command comes to: what it writes to standard output and to standard error, and its exit status. To be read beside docs/OUTPUT.md.
use Rattle.std.specs.Prelude.{◌≡◌, ◌≢◌, ◌==◌, ◌||◌, ℕ, Bool, true, false, List, Option, Some, Err, IsErrOf, ◌⊎◌, codes}
use Rattle.h264_base.specs.declared.mode.Mode.TheVariants as modes
use Rattle.h264_base.specs.declared.mode.Target.{Target}
use Rattle.h264_base.specs.declared.stop.Stop.TheVariants.{Memory, Read, Write}
use Rattle.h264_lines.specs.Sent.{Takes, WriterSpan, wrote}
use Rattle.h264_report.specs.Written.{OfBytes, Lists, Checks, Decodes, last_line, status_of}
use Rattle.h264_lines.specs.declared.device.WriteDevice.{WriteDevice}
use Rattle.h264_report.specs.declared.judging.Ending.{Ending}
use Rattle.h264_lines.specs.declared.listing.Listing.TheVariants as listings
use Rattle.h264_words.specs.Options.{IsPlain}
use Rattle.h264_words.specs.Words.{program, asks, name_of, value_in, IsRefusable, IsTarget}
use Rattle.h264_words.specs.declared.command_line.Task.{Task}
use Rattle.h264_words.specs.declared.command_line.Task.TheVariants as tasks
use Rattle.clap.specs.Words.{Text, subcommand_of, subcommand_rows_of}
use Rattle.h264_command.specs.declared.lists.Listed.{Listed}
use Rattle.h264_command.specs.declared.lists.Listed.TheVariants as lists
use Rattle.h264_command.specs.declared.outcome.Outcome.{Outcome}
use Rattle.h264_command.specs.declared.outcome.Outcome.TheVariants as outcomes

-- What a task writes of a stream, judged for this target, and how the judgement that it tells ended; standard error is written to by `decode` alone.
-- The tasks that do not judge a stream with lines or frames as their answer are none of these.
abbrev pub Performs : Task → Target → (bytes : List ℕ) → Ending → (out err : WriterSpan) → Type 0
Performs tasks.Check target bytes ending out err = Checks target bytes ending out × (err.new ≡ err.old)
Performs tasks.Units target bytes ending out err = Lists modes.Units target listings.Units bytes ending out × (err.new ≡ err.old)
Performs tasks.Headers target bytes ending out err = Lists modes.Headers target listings.Slices bytes ending out × (err.new ≡ err.old)
Performs tasks.Frames target bytes ending out err = Lists modes.Full target listings.Frames bytes ending out × (err.new ≡ err.old)
Performs tasks.Decode target bytes ending out err = Decodes target bytes ending out err
Performs tasks.Elements target bytes ending out err = Lists modes.Verdict target listings.Elements bytes ending out × (err.new ≡ err.old)
Performs tasks.Info target bytes ending out err = ⊥
Performs tasks.Report target bytes ending out err = ⊥
Performs tasks.Explain target bytes ending out err = ⊥

-- how a judgement ended where a read failed, with its last line written or not
abbrev pub failed_read : (written : Bool) → Ending
failed_read written = record { answer = Err Read; written = written }

-- A last line alone, where a task writes its last line.
abbrev pub SaysAlone : Task → Ending → (out err : WriterSpan) → Type 0
SaysAlone tasks.Check ending out err = Takes ending.written out.old out.new (last_line modes.Full ending.answer) × (err.new ≡ err.old)
SaysAlone tasks.Units ending out err = Takes ending.written out.old out.new (last_line modes.Full ending.answer) × (err.new ≡ err.old)
SaysAlone tasks.Headers ending out err = Takes ending.written out.old out.new (last_line modes.Full ending.answer) × (err.new ≡ err.old)
SaysAlone tasks.Frames ending out err = Takes ending.written out.old out.new (last_line modes.Full ending.answer) × (err.new ≡ err.old)
SaysAlone tasks.Decode ending out err = Takes ending.written err.old err.new (last_line modes.Full ending.answer) × (out.new ≡ out.old)
SaysAlone tasks.Elements ending out err = Takes ending.written out.old out.new (last_line modes.Full ending.answer) × (err.new ≡ err.old)
SaysAlone tasks.Info ending out err = ⊥
SaysAlone tasks.Report ending out err = ⊥
SaysAlone tasks.Explain ending out err = ⊥

-- ---- the devices

-- what is known of a device: the bytes that it took, where it tells them; whether it has failed; whether it may hold back some of what it took
pub record Output : Type 0 where
  pub bytes : Option (List ℕ)
  pub has_failed : Bool
  pub holds_back : Bool

abbrev pub output_of : {D : Type 0} → (D → Option (List ℕ)) → (has_failed holds_back : D → Bool) → D → Output
output_of contents has_failed holds_back d = record { bytes = contents d; has_failed = has_failed d; holds_back = holds_back d }

abbrev pub output_by : {W : Type 0} → (W → Option (List ℕ)) → WriteDevice W → Output
output_by contents d = record { bytes = contents d.writer; has_failed = d.failed; holds_back = d.held_back }

-- a device as it was and as it is
pub record OutputSpan : Type 0 where
  pub old : Output
  pub new : Output

abbrev pub from_to : (old new : Output) → OutputSpan
from_to old new = record { old = old; new = new }

abbrev pub span_of : {D : Type 0} → (D → Option (List ℕ)) → (has_failed holds_back : D → Bool) → (old new : D) → OutputSpan
span_of contents has_failed holds_back old new = from_to (output_of contents has_failed holds_back old) (output_of contents has_failed holds_back new)

abbrev pub span_by : {W : Type 0} → (W → Option (List ℕ)) → (old new : WriteDevice W) → OutputSpan
span_by contents old new = from_to (output_by contents old) (output_by contents new)

-- the bytes that it took
abbrev pub wrote_in : OutputSpan → WriterSpan
wrote_in device = wrote device.old.bytes device.new.bytes

-- Standard output or standard error has failed.
abbrev pub HasFailed : (out err : Output) → Type 0
HasFailed out err = (out.has_failed ≡ true) ⊎ (err.has_failed ≡ true)

-- The device holds nothing back, or nothing was written to it.
abbrev pub IsHandedOver : OutputSpan → Type 0
IsHandedOver device = (device.new.holds_back ≡ false) ⊎ (device.new ≡ device.old)

-- The device holds nothing back, or it has failed.
abbrev pub HoldsNothing : Output → Type 0
HoldsNothing device = (device.holds_back ≡ false) ⊎ (device.has_failed ≡ true)

-- A device has failed where not all was written, and where the answer is that a write failed. Else none has failed since, and all is handed over.
pub record TellsFailures (ending : Ending) (out err : OutputSpan) : Type 0 where
  pub unwritten : ending.written ≡ false → HasFailed out.new err.new
  pub write : IsErrOf ending.answer Write → HasFailed out.new err.new
  pub quiet : ending.answer ≢ Err Write → ending.written ≡ true →
      (out.new.has_failed ≡ out.old.has_failed) × (err.new.has_failed ≡ err.old.has_failed)
  pub handed_over : ending.answer ≢ Err Write → ending.written ≡ true → IsHandedOver out × IsHandedOver err

-- A failure is told exactly where a device failed, and a failed read only where a read did. A read that failed is told; or a write failed too, and that is.
pub record IsExcused (ReadFailed ReadAll : Type 0) (ending : Ending) (out err : OutputSpan) : Type 0 where
  pub failures : TellsFailures ending out err
  pub read : IsErrOf ending.answer Read → ReadFailed
  pub read_told : ReadAll ⊎ (IsErrOf ending.answer Read ⊎ IsErrOf ending.answer Write)

-- ---- what comes of the words

-- The words ask for nothing, and standard output is as it was; or there was no memory to find that out, or to say why.
pub data Faults (words : List Text) (status : ℕ) (out err : OutputSpan) : Type 0 where
  Refused : IsRefusable words → status ≡ 64 → out.new ≡ out.old → HoldsNothing err.new → Faults words status out err
  Short : (written : Bool) → status ≡ status_of written (Err Memory) → (written ≡ false → out.new.has_failed ≡ true) →
      (written ≡ true → out.new.holds_back ≡ false) →
      Takes written out.old.bytes out.new.bytes (last_line modes.Full (Err Memory)) → err.new ≡ err.old → Faults words status out err

-- The exit status of words whose lists can't be followed: 64 where the words are refused, 4 where a list or a folder can't be read.
abbrev pub has_fault_status : Listed → Bool
has_fault_status (lists.Words words) = true
has_fault_status (lists.Fault status) = (status == 64) || (status == 4)

-- What is known of files: the bytes that the file of a name holds, where that is known; that a read failed; and that none did.
pub record FilesRead : Type 1 where
  pub held : Text → Option (List ℕ)
  pub ReadFailed : Type 0
  pub ReadAll : Type 0

abbrev pub files_read : (Text → Option (List ℕ)) → (ReadFailed ReadAll : Type 0) → FilesRead
files_read held ReadFailed ReadAll = record { held = held; ReadFailed = ReadFailed; ReadAll = ReadAll }

-- What comes of these words.
pub data Comes (words : List Text) (files : FilesRead) (status : ℕ) (out err : OutputSpan) : Type 0 where
  -- they ask for nothing
  Faulted : Faults words status out err → Comes words files status out err
  -- they ask for a task with one file and no option but `--target`, and the file can't be opened
  Unopened : (task : Task) (name : Text) (written : Bool) → asks program words ≡ Some (name_of task, Some name) →
      IsPlain (subcommand_of program words) name → status ≡ status_of written (Err Read) → files.ReadFailed → TellsFailures (failed_read written) out err →
      SaysAlone task (failed_read written) (wrote_in out) (wrote_in err) → Comes words files status out err
  -- they ask for a task with one file and no option but `--target`, and it was done, for the target that they name
  Done : (task : Task) (name : Text) (target : Target) (ending : Ending) →
      asks program words ≡ Some (name_of task, Some name) → IsPlain (subcommand_of program words) name →
      IsTarget (value_in (subcommand_of program words) (codes "target")) target →
      status ≡ status_of ending.written ending.answer → IsExcused files.ReadFailed files.ReadAll ending out err →
      OfBytes (files.held name) (λ bytes. Performs task target bytes ending (wrote_in out) (wrote_in err)) → Comes words files status out err

-- What comes of these words: they ask for nothing; or it is done; or they ask for more than a judgement of one FILE, nothing is written, and what
-- they ask is handed on.
abbrev pub ComesTo : (words : List Text) → FilesRead → Outcome → (out err : OutputSpan) → Type 0
ComesTo words files (outcomes.Fault status) out err = Comes words files status out err
ComesTo words files (outcomes.Done name status) out err = Comes words files status out err
ComesTo words files (outcomes.More wanted) out err =
    (asks program words ≡ Some (name_of wanted.request.task, Some wanted.request.file.now))
    × (subcommand_rows_of wanted.matches ≡ subcommand_of program words) × (out.new ≡ out.old) × (err.new ≡ err.old)
