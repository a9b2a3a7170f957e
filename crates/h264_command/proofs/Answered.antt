-- The answer on the bytes that a source gives.
use Rattle.std.proofs.Common.{◌≡◌, ℕ, Bool, true, false, ◌⊎◌, ⊎_elim, List, [], Option, Some, Result, Ok, Err, sym, subst}
use Rattle.h264_base.specs.Call.{Call, span}
use Rattle.h264_base.specs.declared.mode.Mode.{Mode}
use Rattle.h264_base.specs.declared.mode.Target.{Target}
use Rattle.h264_base.specs.declared.stop.Stop.{Stop}
use Rattle.h264_base.specs.declared.stop.Stop.TheVariants.{No, Outside, Memory, Read, Write}
use Rattle.h264_lines.specs.Chosen.{TookChosen}
use Rattle.h264_report.specs.Written.{OfBytes}
use Rattle.h264_verify.specs.Account.{Account, calls_in}
use Rattle.h264_lines.specs.Answer.{told_of}
use Rattle.h264_lines.specs.declared.choice.Choice.{Choice}
use Rattle.h264_lines.specs.declared.reading.Reading.{Reading}
use Rattle.h264_pages.specs.Surveyed.{HasSurveyed, IsTold, nothing_told}
use Rattle.h264_pages.specs.declared.survey.notes.Survey.{Survey}
use Rattle.h264_pages.specs.declared.survey.surveyed.Surveyed.{Surveyed}
use Rattle.h264_verify.proofs.laws.AccountTaken.{accounts}
use Rattle.h264_report.proofs.Accounts.{of-bytes, of-map}
use Rattle.h264_pages.proofs.Surveying.{none-surveyed}
use Rattle.h264_verify.specs.Modes.{purpose_for}
use Rattle.h264_verify.specs.Telling.{Family, IsFamilyFor}
use Rattle.h264_verify.proofs.samples.FamiliesByPurpose.{with-family}
use Rattle.h264_verify.specs.Units.{terms_of}
use Rattle.h264_verify.specs.Verdict.{Judged}
use Rattle.h264_base.specs.declared.summary.Summary.{Summary}
use Rattle.h264_verify.specs.declared.state.Terms.{Terms}
use Rattle.h264_command.specs.More.{IsAnswer, IsAnswerOf}
use Rattle.h264_command.specs.Surveys.{IsSurveyed}
use Rattle.h264_command.specs.declared.job.Job.{Job}
use Rattle.h264_words.specs.Words.{mode_of}
use Rattle.h264_words.specs.declared.command_line.Task.{Task}

of-judged : {S : Type 0} {took : S → List Call → Type 0} {failures : S → ℕ} {terms : Terms} {bytes : List ℕ} {frames : Family} {s s' : S}
    (answer : Result Summary Stop) →
    Judged terms (span took failures s s') bytes frames [] answer → IsAnswer terms bytes answer
of-judged (Ok summary) j = (j.judged.0.more, j.judged.0.verdict)
of-judged (Err (No bit rule)) j = (j.judged.0.more, j.judged.0.verdict)
of-judged (Err (Outside bit feature)) j = (j.judged.0.more, j.judged.0.verdict)
of-judged (Err Memory) j = tt
of-judged (Err Read) j = tt
of-judged (Err Write) j = tt

-- a judgement of what a source gives, whether it tells it or not, as far as a task judges
pub answered : {S : Type 0} {took : S → List Call → Type 0} {failures : S → ℕ} {s s' : S} (task : Task) (target : Target) (mode : Mode)
    (left : Option (List ℕ)) (answer : Result Summary Stop) →
    mode ≡ mode_of task → ((bytes : List ℕ) → left ≡ Some bytes →
    (frames : Family) → IsFamilyFor (purpose_for mode) frames → Judged (terms_of mode target) (span took failures s s') bytes frames [] answer) →
    (some : List ℕ) → ((frames : Family) → IsFamilyFor (purpose_for mode) frames →
    Judged (terms_of mode target) (span took failures s s') some frames [] answer) →
    IsAnswerOf task target left answer
answered task target mode left answer is known some judged =
    subst (λ m. OfBytes left (λ bytes. IsAnswer (terms_of m target) bytes answer)) is
    (of-bytes left (λ bytes. IsAnswer (terms_of mode target) bytes answer) (λ bytes h. of-judged answer (with-family (purpose_for mode) (known bytes h)))
    (some, of-judged answer (with-family (purpose_for mode) judged)))

-- the calls that a sink took of what a source gives
pub took-calls : {S : Type 0} {took : S → List Call → Type 0} {failures : S → ℕ} {s s' : S} (task : Task) (target : Target) (mode : Mode)
    (left : Option (List ℕ)) (answer : Result Summary Stop) →
    mode ≡ mode_of task → ((bytes : List ℕ) → left ≡ Some bytes →
    (frames : Family) → IsFamilyFor (purpose_for mode) frames → Judged (terms_of mode target) (span took failures s s') bytes frames [] answer) →
    (some : List ℕ) → ((frames : Family) → IsFamilyFor (purpose_for mode) frames →
    Judged (terms_of mode target) (span took failures s s') some frames [] answer) → took s [] →
    OfBytes left (λ bytes. (a : Account (terms_of (mode_of task) target) bytes answer) × took s' (calls_in a))
took-calls {took = took} {s' = s'} task target mode left answer is known some judged none =
    subst (λ m. OfBytes left (λ bytes. (a : Account (terms_of m target) bytes answer) × took s' (calls_in a))) is
    (of-bytes left (λ bytes. (a : Account (terms_of mode target) bytes answer) × took s' (calls_in a))
    (λ bytes h. accounts (with-family (purpose_for mode) (known bytes h)) none) (some, accounts (with-family (purpose_for mode) judged) none))

-- and those that a sink took whose calls are surveyed, with its survey
pub surveyed-calls : {S M : Type 0} (took : S → List Call → Type 0) {failures : Surveyed S M → ℕ} {s s' : Surveyed S M} (task : Task) (target : Target)
    (mode : Mode) (left : Option (List ℕ)) (answer : Result Summary Stop) →
    mode ≡ mode_of task → ((bytes : List ℕ) → left ≡ Some bytes → (frames : Family) → IsFamilyFor (purpose_for mode) frames →
    Judged (terms_of mode target) (span (λ (x : Surveyed S M) calls. took x.sink calls × HasSurveyed x.survey calls) failures s s') bytes frames [] answer) →
    (some : List ℕ) → ((frames : Family) → IsFamilyFor (purpose_for mode) frames →
    Judged (terms_of mode target) (span (λ (x : Surveyed S M) calls. took x.sink calls × HasSurveyed x.survey calls) failures s s') some frames [] answer) →
    took s.sink [] → IsTold s.survey nothing_told → OfBytes left (λ bytes. (a : Account (terms_of (mode_of task) target) bytes answer)
    × took s'.sink (calls_in a))
    × OfBytes left (λ bytes. (a : Account (terms_of (mode_of task) target) bytes answer) × HasSurveyed s'.survey (calls_in a))
surveyed-calls took {s = s} {s' = s'} task target mode left answer is known some judged none fresh =
    let Both : List ℕ → Type 0 = λ bytes. (a : Account (terms_of (mode_of task) target) bytes answer) ×
    (took s'.sink (calls_in a) × HasSurveyed s'.survey (calls_in a)) in
    let both : OfBytes left Both = took-calls {s' = s'} task target mode left answer is known some judged (none, none-surveyed fresh) in (
      of-map left Both (λ bytes. (a : Account (terms_of (mode_of task) target) bytes answer) × took s'.sink (calls_in a)) (λ bytes t. (t.0, t.1.0)) both,
      of-map left Both (λ bytes. (a : Account (terms_of (mode_of task) target) bytes answer) × HasSurveyed s'.survey (calls_in a))
          (λ bytes t. (t.0, t.1.1)) both,
    )

-- a survey of nothing under another name
pub fresh-of : {survey survey' : Survey} → survey' ≡ survey → IsTold survey nothing_told → HasSurveyed survey' []
fresh-of same fresh = none-surveyed (subst (λ s. IsTold s nothing_told) (sym same) fresh)

-- the survey under other names
pub survey-of : (job : Job) (left : Option (List ℕ)) {answer answer' : Result Summary Stop} {survey survey' : Survey} → answer' ≡ answer → survey' ≡ survey →
    IsSurveyed job left answer survey → IsSurveyed job left answer' survey'
survey-of job left {answer} {answer'} {survey} {survey'} a s h =
    subst (λ x. IsSurveyed job left x survey') (sym a) (subst (λ x. IsSurveyed job left answer x) (sym s) h)

-- and those of which a choice leaves something, with their survey
pub chosen-calls : {S : Type 0} (took : S → List Call → Type 0) (terms : Terms) (answer : Result Summary Stop) (left : Option (List ℕ)) (choice k : Choice)
    (broke_off : Bool) (reading : Reading) (pending : Option Call) (sink : S) (survey : Survey) →
    OfBytes left (λ bytes. (a : Account terms bytes answer) ×
    ((choice ≡ k) × TookChosen took choice broke_off (record { reading = reading; pending = pending }) sink (calls_in a) × HasSurveyed survey (calls_in a))) →
    OfBytes left (λ bytes. (a : Account terms bytes answer) × TookChosen took k broke_off (record { reading = reading; pending = pending }) sink (calls_in a))
    × OfBytes left (λ bytes. (a : Account terms bytes answer) × HasSurveyed survey (calls_in a))
chosen-calls took terms answer left choice k broke_off reading pending sink survey h =
    let All : List ℕ → Type 0 = λ bytes. (a : Account terms bytes answer) ×
    ((choice ≡ k) × TookChosen took choice broke_off (record { reading = reading; pending = pending }) sink (calls_in a) × HasSurveyed survey (calls_in a)) in (
      of-map left All
          (λ bytes. (a : Account terms bytes answer) × TookChosen took k broke_off (record { reading = reading; pending = pending }) sink (calls_in a))
          (λ bytes t. (t.0, subst (λ c. TookChosen took c broke_off (record { reading = reading; pending = pending }) sink (calls_in t.0)) t.1.0 t.1.1)) h,
      of-map left All (λ bytes. (a : Account terms bytes answer) × HasSurveyed survey (calls_in a)) (λ bytes t. (t.0, t.1.2)) h,
    )

told-one : (terms : Terms) (bytes : List ℕ) (broke_off : Bool) (answer : Result Summary Stop) → IsAnswer terms bytes answer →
    IsAnswer terms bytes (told_of broke_off answer)
told-one terms bytes true answer h = tt
told-one terms bytes false (Ok summary) h = h
told-one terms bytes false (Err (No bit rule)) h = h
told-one terms bytes false (Err (Outside bit feature)) h = h
told-one terms bytes false (Err Memory) h = tt
told-one terms bytes false (Err Read) h = tt
told-one terms bytes false (Err Write) h = tt

-- the answer that is told of it
pub told : (task : Task) (target : Target) (left : Option (List ℕ)) (broke_off : Bool) (answer said : Result Summary Stop) → said ≡ told_of broke_off answer →
    IsAnswerOf task target left answer → IsAnswerOf task target left said
told task target left broke_off answer said is h =
    subst (IsAnswerOf task target left) (sym is)
    (of-map left (λ bytes. IsAnswer (terms_of (mode_of task) target) bytes answer)
    (λ bytes. IsAnswer (terms_of (mode_of task) target) bytes (told_of broke_off answer))
    (λ bytes. told-one (terms_of (mode_of task) target) bytes broke_off answer) h)

pub of-memory : (task : Task) (target : Target) (left : Option (List ℕ)) → IsAnswerOf task target left (Err Memory)
of-memory task target left = of-bytes left _ (λ bytes h. tt) ([], tt)

pub of-read : (task : Task) (target : Target) (left : Option (List ℕ)) → IsAnswerOf task target left (Err Read)
of-read task target left = of-bytes left _ (λ bytes h. tt) ([], tt)

pub of-write : (task : Task) (target : Target) (left : Option (List ℕ)) → IsAnswerOf task target left (Err Write)
of-write task target left = of-bytes left _ (λ bytes h. tt) ([], tt)

-- the answer, or that memory was wanting
pub or-memory : (task : Task) (target : Target) (left : Option (List ℕ)) (answer said : Result Summary Stop) → (said ≡ answer) ⊎ (said ≡ Err Memory) →
    IsAnswerOf task target left answer → IsAnswerOf task target left said
or-memory task target left answer said is h =
    ⊎_elim (λ e. subst (IsAnswerOf task target left) (sym e) h) (λ e. subst (IsAnswerOf task target left) (sym e) (of-memory task target left)) is
