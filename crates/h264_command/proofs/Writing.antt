-- What is said of a failed write.
use Rattle.std.proofs.Common.{◌≡◌, ◌≢◌, ℕ, max, Bool, true, false, ◌⊎◌, inl, inr, ⊎_elim, List, [], ◌∷◌, ◌++◌, Option, Some, None, IsSome, IfSome}
use Rattle.std.proofs.Common.{Bor, Result, Ok, Err, OnOk, OnErr}
use Rattle.std.proofs.Common.{IsErrOf, not, ◌==◌, refl, sym, ap, subst, ◌∙◌, map, length, option_map, arith, ◌&&◌, if◌then◌else◌}
use Rattle.std.specs.List.{All}
use Rattle.std.proofs.lemmas.Bool.{false≢true, ne_eqb, true≢false}
use Rattle.std.proofs.lemmas.List.{append-nil}
use Rattle.std.proofs.lemmas.List.Elements.{All-nil, All-push, All-weaker}
use Rattle.clap.specs.Words.{Text}
use Rattle.h264_base.specs.declared.stop.Stop.{Stop}
use Rattle.h264_base.specs.declared.stop.Stop.TheVariants.{No, Outside, Memory, Read, Write}
use Rattle.h264_lines.proofs.Known.{sends-is}
use Rattle.h264_lines.specs.Sent.{Sends}
use Rattle.h264_lines.specs.Answer.{told_of}
use Rattle.h264_report.specs.Written.{status_of}
use Rattle.h264_report.specs.declared.judging.Ending.{Ending}
use Rattle.h264_verify.specs.Units.{terms_of}
use Rattle.h264_base.specs.declared.summary.Summary.{Summary}
use Rattle.h264_lines.specs.declared.device.WriteDevice.{WriteDevice}
use Rattle.h264_command.specs.Commands.{Output, OutputSpan, IsHandedOver, from_to, output_by, span_by}
use Rattle.h264_command.specs.Further.{TellsBroken}
use Rattle.h264_words.specs.Options.{asks_further}
use Rattle.h264_command.specs.More.{AreDone, AreTold, AreToldAside, Broke, Each, FileDone, Work, HasTaken, IsAnswerOf, IsJudged, IsPutAside, IsTextOfFile}
use Rattle.h264_command.specs.More.{IsToldAside, NoneTook, TellReads, TellUnread, TellsRead, TellsWrites, are_several, done_status}
use Rattle.h264_command.specs.More.{file_of_output, files_span, is_whole, says_verdict}
use Rattle.h264_command.specs.More.{texts_of, work, worst}
use Rattle.h264_words.specs.Options.{output_file}
use Rattle.h264_command.specs.Files.{Counts, IsUnread, TellsFailure}
use Rattle.h264_command.specs.Texts.{IsFileText, TakesText, opening_in, prefix_of}
use Rattle.h264_words.specs.Words.{mode_of, system_name}
use Rattle.h264_command.proofs.Texts.{texts-one}
use Rattle.h264_words.specs.declared.command_line.Task.{Task}
use Rattle.h264_command.specs.declared.job.Done.{Done}
use Rattle.h264_words.specs.declared.options.Options.{Options}

-- an answer of a failed write is told where the device failed, and only there
failed-told : (failed : Bool) (answer said : Result Summary Stop) → said ≡ told_of failed answer → said ≡ Err Write → failed ≡ true
failed-told true answer said is e = refl
failed-told false (Ok summary) said is e = absurd (let d = sym is ∙ e in cc)
failed-told false (Err (No bit rule)) said is e = absurd (let d = sym is ∙ e in cc)
failed-told false (Err (Outside bit feature)) said is e = absurd (let d = sym is ∙ e in cc)
failed-told false (Err Memory) said is e = absurd (let d = sym is ∙ e in cc)
failed-told false (Err Read) said is e = absurd (let d = sym is ∙ e in cc)
failed-told false (Err Write) said is e = absurd (let d = sym is ∙ e in cc)

untold : (failed : Bool) (answer said : Result Summary Stop) → said ≡ told_of failed answer → (said ≡ Err Write → ⊥) → failed ≡ false
untold true answer said is never = absurd (never is)
untold false answer said is never = refl

-- a failed read is told of one
read-said : (failed : Bool) (raw said : Result Summary Stop) → said ≡ told_of failed raw → said ≡ Err Read → raw ≡ Err Read
read-said true raw said told e = absurd (let d = sym told ∙ e in cc)
read-said false (Ok summary) said told e = absurd (let d = sym told ∙ e in cc)
read-said false (Err (No bit rule)) said told e = absurd (let d = sym told ∙ e in cc)
read-said false (Err (Outside bit feature)) said told e = absurd (let d = sym told ∙ e in cc)
read-said false (Err Memory) said told e = absurd (let d = sym told ∙ e in cc)
read-said false (Err Read) said told e = refl
read-said false (Err Write) said told e = absurd (let d = sym told ∙ e in cc)

pub read-told : (failed : Bool) (raw said final : Result Summary Stop) → said ≡ told_of failed raw → (final ≡ said) ⊎ (final ≡ Err Memory) →
    final ≡ Err Read → raw ≡ Err Read
read-told failed raw said final told is e = ⊎_elim (λ same. read-said failed raw said told (sym same ∙ e)) (λ short. absurd (let d = sym short ∙ e in cc)) is

-- what a device holds back after it was asked for the rest, where it has not failed
pub rest-sent : {T E : Type 0} (r : Result T E) (holds failed : Bool) → OnOk r (holds ≡ false) → OnErr r (failed ≡ true) → failed ≡ false → holds ≡ false
rest-sent (Ok x) holds failed h f none = h
rest-sent (Err x) holds failed h f none = absurd (true≢false (sym f ∙ none))

kept-over : (before after : Output) → before.holds_back ≡ false → IsHandedOver (from_to before after) → after.holds_back ≡ false
kept-over before after none h = ⊎_elim (λ e. e) (λ same. rw same none) h

-- a device that has failed stays so
kept-failed : (written : Bool) {was is : Bool} → (written ≡ true → is ≡ was) → (written ≡ false → is ≡ true) → was ≡ true → is ≡ true
kept-failed true same failed e = same refl ∙ e
kept-failed false same failed e = failed refl

-- a line went to standard error
pub put-aside : (written : Bool) (out err' : Output) → (written ≡ false → err'.has_failed ≡ true) → IsPutAside written (from_to out out) err'
put-aside written out err' failed = record { unwritten = λ e. inr (failed e); quiet = λ e. (refl, inr refl); kept = λ e. e }

-- a line went to standard output
pub put-here : (written : Bool) (out out' err' : Output) → (written ≡ true → out'.holds_back ≡ false) → (written ≡ true → out'.has_failed ≡ out.has_failed) →
    (written ≡ false → out'.has_failed ≡ true) →
    IsPutAside written (from_to out out') err'
put-here written out out' err' over same failed =
    record { unwritten = λ e. inl (failed e); quiet = λ e. (same e, inl (over e)); kept = kept-failed written same failed }

-- what is told after a judgement that the device outlived or not
pub writes-told : (raw : Result Summary Stop) {y4m : Bool} {failed broke_off : Bool} {said : Result Summary Stop} {ending : Ending}
    {before out out' err' : Output} → (broke_off ≡ true → (failed ≡ true) ⊎ (y4m ≡ true)) →
    (broke_off ≡ false → failed ≡ false) → failed ≡ out.has_failed → said ≡ told_of broke_off raw → (ending.answer ≡ said) ⊎ (ending.answer ≡ Err Memory) →
    (said ≡ Err Write → ending.answer ≡ Err Write) →
    (out.has_failed ≡ false → out.holds_back ≡ false) → IsPutAside ending.written (from_to out out') err' → TellsWrites y4m ending (from_to before out') err'
writes-told raw {y4m} {failed} {broke_off} {said} {ending} {before} {out} {out'} {err'} cut whole-output is told answer write rest put = record {
  write = λ e. ⊎_elim (λ f. inl (put.kept (sym is ∙ f))) (λ y. inr y)
      (cut (failed-told broke_off raw said told (⊎_elim (λ same. sym same ∙ e) (λ short. absurd (let d = sym short ∙ e in cc)) answer)));
  unwritten = put.unwritten;
  told = λ never whole.
      let none = sym is ∙ whole-output (untold broke_off raw said told (λ e. never (write e))) in
      let q = put.quiet whole in
      (λ f. absurd (true≢false (sym f ∙ q.0 ∙ none)), inl (kept-over out out' (rest none) q.1));
}

-- and of a judgement beside which nothing was written
pub writes-untold : {y4m : Bool} {answer : Result Summary Stop} {ending : Ending} {out out' err' : Output} → (answer ≡ Err Write → ⊥) →
    (ending.answer ≡ answer) ⊎ (ending.answer ≡ Err Memory) → IsPutAside ending.written (from_to out out') err' →
    TellsWrites y4m ending (from_to out out') err'
writes-untold never answer put = record {
  write = λ e. absurd (⊎_elim (λ same. never (sym same ∙ e)) (λ short. let d = sym short ∙ e in cc) answer);
  unwritten = put.unwritten;
  told = λ other whole. let q = put.quiet whole in (λ f. sym q.0 ∙ f, q.1);
}

-- what is told of a file that was not judged, where no write failed
pub unjudged-told : (y4m : Bool) (ending : Ending) (out out' err' : Output) → (ending.answer ≡ Err Write → ⊥) →
    IsPutAside ending.written (from_to out out') err' → TellsWrites y4m ending (from_to out out') err'
unjudged-told y4m ending out out' err' never put =
    record { write = λ e. absurd (never e); unwritten = put.unwritten; told = λ other whole. let q = put.quiet whole in (λ f. sym q.0 ∙ f, q.1) }

-- and after more was said on standard error
pub blamed : {y4m : Bool} (ending : Ending) (out out' err err' : Output) → (err.has_failed ≡ true → err'.has_failed ≡ true) →
    TellsWrites y4m ending (from_to out out') err → TellsWrites y4m ending (from_to out out') err'
blamed ending out out' err err' kept t =
    record { write = t.write; unwritten = λ e. ⊎_elim (λ o. inl o) (λ f. inr (kept f)) (t.unwritten e); told = t.told }

-- ---- exit statuses

device-status : (broken written : Bool) (answer : Result Summary Stop) → (written ≡ false) ⊎ (answer ≡ Err Write) →
    (if broken then max (status_of written answer) 1 else status_of written answer) ≡ 4
device-status true false answer h = refl
device-status false false answer h = refl
device-status broken true answer (inl e) = absurd (true≢false e)
device-status true true answer (inr e) = rw e refl
device-status false true answer (inr e) = rw e refl

true-or-false : (b : Bool) → (b ≡ true) ⊎ (b ≡ false)
true-or-false true = inl refl
true-or-false false = inr refl

-- a status that is none of a device's comes of a file of which all was written
no-device : (d : Done) (status : ℕ) → status ≡ done_status d → status ≢ 4 → (d.ending.answer ≢ Err Write) × (d.ending.written ≡ true)
no-device d status is never =
    let four : (d.ending.written ≡ false) ⊎ (d.ending.answer ≡ Err Write) → status ≡ 4 = λ h. is ∙
    device-status d.is_broken d.ending.written d.ending.answer h in
    (λ e. never (four (inr e)), ⊎_elim (λ t. t) (λ f. absurd (never (four (inl f)))) (true-or-false d.ending.written))

-- a status that is that of a verdict comes of a whole output
whole-status : (broken written : Bool) (answer : Result Summary Stop) (status : ℕ) →
    status ≡ (if broken then max (status_of written answer) 1 else status_of written answer) → status ≢ 3 → status ≢ 4 → (written && says_verdict answer) ≡ true
whole-status broken false answer status is three four = absurd (four (is ∙ device-status broken false answer (inl refl)))
whole-status broken true (Ok summary) status is three four = refl
whole-status broken true (Err (No bit rule)) status is three four = refl
whole-status broken true (Err (Outside bit feature)) status is three four = refl
whole-status true true (Err Memory) status is three four = absurd (three is)
whole-status false true (Err Memory) status is three four = absurd (three is)
whole-status true true (Err Read) status is three four = absurd (four is)
whole-status false true (Err Read) status is three four = absurd (four is)
whole-status true true (Err Write) status is three four = absurd (four is)
whole-status false true (Err Write) status is three four = absurd (four is)

both : (a b : Bool) → (a && b) ≡ true → (a ≡ true) × (b ≡ true)
both true true e = (refl, refl)
both true false e = absurd (false≢true e)
both false b e = absurd (false≢true e)

one-worst : (f : FileDone) → worst (f ∷ []) ≡ done_status f.done
one-worst f = omega arith

-- what is told of failed reads where there is one file
one-read : (before after : Counts) (f : FileDone) (names : List Text) → f.name ∷ [] ≡ names → TellsRead before after f →
    TellReads (are_several names) before after (f ∷ [])
one-read before after f names name read =
    subst (λ ns. TellReads (are_several ns) before after (f ∷ [])) name (All-push (TellsRead before after) [] f (All-nil (TellsRead before after)) read)

-- one file alone
pub alone : {Took : Text → List ℕ → Type 0} (task : Task) (o : Options) (file : Text → Option (List ℕ)) (before after : Counts) (f : FileDone)
    (names : List Text) (status : ℕ) (out out' err' : Output) → file_of_output o ≡ None → f.name ∷ [] ≡ names →
    IsAnswerOf task o.target (file (system_name f.name)) f.done.ending.answer →
    TellsBroken (asks_further task o.strict) (terms_of (mode_of task) o.target) (file (system_name f.name)) f.done →
    TellsRead before after f → TellsWrites o.y4m f.done.ending (from_to out out') err' → IsTextOfFile (work task o) file false f →
    (out'.has_failed ≡ false → Sends out.bytes out'.bytes f.text) → status ≡ done_status f.done →
    AreDone (work task o) (files_span file before after Took) names status (from_to out out') err'
alone {Took} task o file before after f names status out out' err' no_output name answer broken read t text sends is =
    let Judged : FileDone → Type 0 = IsJudged (work task o) file out' err' in
    let judged : Judged f = record {
      answer = answer;
      broken = broken;
      excused = record { write = λ e. ⊎_elim (λ h. inl (inl h)) (λ y. inr (inr y)) (t.write e); unwritten = λ e. inl (t.unwritten e) };
    } in
    let told : AreTold (work task o) file (are_several (f.name ∷ [])) (f ∷ []) (from_to out out') =
    record {
      texts = All-push (IsTextOfFile (work task o) file false) [] f (All-nil (IsTextOfFile (work task o) file false)) text;
      last = [];
      of_one = λ one. refl;
      sends = λ none. sends-is (texts-one f) (sends none);
    } in
    Each (f ∷ []) name (All-push Judged [] f (All-nil Judged) judged) (one-read before after f names name read) (is ∙ sym (one-worst f))
    (λ never. let n = no-device f.done status is never in t.told n.0 n.1)
    (λ none. subst (λ ns. AreTold (work task o) file (are_several ns) (f ∷ []) (from_to out out')) name told)
    (λ one well never. subst (λ output. IfSome output (AreToldAside (work task o) (files_span file before after Took) (f ∷ []))) (sym no_output) tt)

-- what a device took that was made for the file of a name, and was finished where it is whole
pub told-aside : {W : Type 0} (goes_to : W → Text → Type 0) (is_finished : W → Type 0) (contents : W → Option (List ℕ)) (name : Text) {y4m : Bool}
    (ending ending' : Ending) {Is : List ℕ → Type 0} (made : W) (device device' : WriteDevice W) (err' : Output) → goes_to made name →
    device.writer ≡ made → device.failed ≡ false → TellsWrites y4m ending (span_by contents device device') err' →
    TakesText Is (contents device.writer) (output_by contents device') → (is_whole ending' ≡ true → is_whole ending ≡ true) →
    (is_whole ending' ≡ true → is_finished device'.writer) → IsToldAside ending' Is (HasTaken goes_to is_finished contents name)
told-aside goes_to is_finished contents name ending ending' made device device' err' its same new t takes whole finished =
    let none : is_whole ending' ≡ true → device'.failed ≡ false = λ w.
    let parts = both ending.written (says_verdict ending.answer) (whole w) in
    ⊎_elim (λ f. absurd (true≢false (sym ((t.told (λ e. true≢false (sym parts.1 ∙ ap says_verdict e)) parts.0).0 f) ∙ new))) (λ n. n)
    (true-or-false device'.failed) in
    record {
      text = takes.text;
      is_text = λ w. takes.is_text;
      took = λ w. (
        made,
        device'.writer,
        its,
        subst (λ v. Sends (contents v) (contents device'.writer) takes.text) same (takes.sends (none w)),
        finished w,
      );
    }

-- and where there is no verdict
pub untold-aside : {Is Took : List ℕ → Type 0} (ending : Ending) → says_verdict ending.answer ≡ false → IsToldAside ending Is Took
untold-aside ending none = record {
  text = [];
  is_text = λ w. absurd (true≢false (sym (both ending.written (says_verdict ending.answer) w).1 ∙ none));
  took = λ w. absurd (true≢false (sym (both ending.written (says_verdict ending.answer) w).1 ∙ none));
}

-- one file, whose output is a file that the words name
pub alone-elsewhere : {Took : Text → List ℕ → Type 0} (task : Task) (o : Options) (file : Text → Option (List ℕ)) (before after : Counts) (name : Text)
    (done : Done) (names : List Text) (status : ℕ) (out err' : Output) (output : Text) → IsSome o.output → file_of_output o ≡ Some output →
    name ∷ [] ≡ names →
    IsAnswerOf task o.target (file (system_name name)) done.ending.answer →
    TellsBroken (asks_further task o.strict) (terms_of (mode_of task) o.target) (file (system_name name)) done →
    (IsErrOf done.ending.answer Read → IsUnread before.failures before.reads after.failures after.reads) →
    TellsFailure before.failures after.failures done.ending.answer →
    IsToldAside done.ending (IsFileText task o (opening_in o.json name (prefix_of false name)) (file (system_name name)) done.ending.answer)
    (Took output) → status ≡ done_status done →
    AreDone (work task o) (files_span file before after Took) names status (from_to out out) err'
alone-elsewhere {Took} task o file before after name done names status out err' output some given same answer broken read_only read_told aside is =
    let f : FileDone = record { name = name; done = done; text = aside.text } in
    let Judged : FileDone → Type 0 = IsJudged (work task o) file out err' in
    let IsText : FileDone → Type 0 = IsTextOfFile (work task o) file false in
    let judged : Judged f = record { answer = answer; broken = broken; excused = record { write = λ e. inr (inl some); unwritten = λ e. inr (inl some) } } in
    let told : status ≢ 3 → status ≢ 4 → AreToldAside (work task o) (files_span file before after Took) (f ∷ []) output = λ well never.
    let whole = whole-status done.is_broken done.ending.written done.ending.answer status is well never in
    record {
      texts = All-push IsText [] f (All-nil IsText) (aside.is_text whole);
      took = subst (Took output) (texts-one f ∙ append-nil (texts_of (f ∷ []))) (aside.took whole);
    } in
    Each (f ∷ []) same (All-push Judged [] f (All-nil Judged) judged)
    (one-read before after f names same (record { read = read_only; told = read_told })) (is ∙ sym (one-worst f))
    (λ never. (λ h. h, inr refl)) (λ none. absurd (let d : None ≡ Some output = sym none ∙ given in cc))
    (λ one well never. subst (λ named. IfSome named (AreToldAside (work task o) (files_span file before after Took) (f ∷ []))) (sym given) (told well never))

-- an output with a file has a name
pub output-given : (output : Option (Bor (List ℕ))) {file : Text} → output_file (option_map (λ s. s.now) output) ≡ Some file → IsSome output
output-given None e = absurd (let d : None ≡ Some _ = e in cc)
output-given (Some name) e = refl

pub some-text : (output : Option (Bor (List ℕ))) {given : Option Text} → option_map (λ s. s.now) output ≡ given → IsSome output → IsSome given
some-text None same some = absurd (false≢true some)
some-text (Some name) same some = subst IsSome same refl

-- ---- several files

-- a file that was judged, where no write failed
pub record IsWritten (task : Task) (o : Options) (file : Text → Option (List ℕ)) (f : FileDone) : Type 0 where
  pub answer : IsAnswerOf task o.target (file (system_name f.name)) f.done.ending.answer
  pub broken : TellsBroken (asks_further task o.strict) (terms_of (mode_of task) o.target) (file (system_name f.name)) f.done
  pub no_write : IsErrOf f.done.ending.answer Write → o.y4m ≡ true
  pub written : f.done.ending.written ≡ true
  pub text : IsTextOfFile (work task o) file true f

-- it is so of whatever the file of its name holds
pub written-of : (task : Task) (o : Options) (file file' : Text → Option (List ℕ)) (f : FileDone) → file (system_name f.name) ≡ file' (system_name f.name) →
    IsWritten task o file f → IsWritten task o file' f
written-of task o file file' f e w = record {
  answer = subst (λ s. IsAnswerOf task o.target s f.done.ending.answer) e w.answer;
  broken = subst (λ s. TellsBroken (asks_further task o.strict) (terms_of (mode_of task) o.target) s f.done) e w.broken;
  no_write = w.no_write;
  written = w.written;
  text = subst (λ s. IsFileText task o (opening_in o.json f.name (prefix_of true f.name)) s f.done.ending.answer f.text) e w.text;
}

-- it is excused, wherever the devices stand
excused : (task : Task) (o : Options) (file : Text → Option (List ℕ)) (out' err' : Output) (f : FileDone) → IsWritten task o file f →
    IsJudged (work task o) file out' err' f
excused task o file out' err' f w = record {
  answer = w.answer;
  broken = w.broken;
  excused = record { write = λ e. inr (inr (w.no_write e)); unwritten = λ e. absurd (true≢false (sym w.written ∙ e)) };
}

several : (n : ℕ) → n ≢ 1 → not (n == 1) ≡ true
several n other = ap not (ne_eqb n 1 other)

-- files of which none failed to be written, and a last text
pub each-written : {Took : Text → List ℕ → Type 0} (task : Task) (o : Options) (file : Text → Option (List ℕ)) (before after : Counts)
    (files : List FileDone) (names : List Text)
    (status : ℕ) (out out' err' : Output) → map (λ f. f.name) files ≡ names →
    length names ≢ 1 → All (IsWritten task o file) files → TellUnread after.unread files → status ≡ worst files →
    (out'.has_failed ≡ true → out.has_failed ≡ true) → out'.holds_back ≡ false → (last : List ℕ) →
    (out'.has_failed ≡ false → Sends out.bytes out'.bytes (texts_of files ++ last)) →
    AreDone (work task o) (files_span file before after Took) names status (from_to out out') err'
each-written {Took} task o file before after files names status out out' err' name other written reads is kept over last sends =
    let many = several (length names) other in
    let told : AreTold (work task o) file true files (from_to out out') =
    record {
      texts = All-weaker (IsWritten task o file) (IsTextOfFile (work task o) file true) (λ f w. w.text) files written;
      last = last;
      of_one = λ one. absurd (true≢false one);
      sends = sends;
    } in
    Each files name (All-weaker (IsWritten task o file) (IsJudged (work task o) file out' err') (λ f. excused task o file out' err' f) files written)
    (subst (λ b. TellReads b before after files) (sym many) reads) is (λ never. (kept, inl over))
    (λ none. subst (λ b. AreTold (work task o) file b files (from_to out out')) (sym many) told) (λ one. absurd (true≢false (sym many ∙ one)))

-- No file was made, so this holds whatever one took.
none-made : (w : Work) (held : Text → Option (List ℕ)) (before after : Counts) (Took : Text → List ℕ → Type 0) (done : List FileDone)
    (output : Option Text) → IfSome output (AreToldAside w (files_span held before after NoneTook) done) →
    IfSome output (AreToldAside w (files_span held before after Took) done)
none-made w held before after Took done None h = h
none-made w held before after Took done (Some output) h = absurd h.took

whatever-made : (w : Work) (held : Text → Option (List ℕ)) (before after : Counts) (Took : Text → List ℕ → Type 0) {names : List Text} {status : ℕ}
    {out : OutputSpan} {err' : Output} → AreDone w (files_span held before after NoneTook) names status out err' →
    AreDone w (files_span held before after Took) names status out err'
whatever-made w held before after Took (Each done named judged reads is whole told aside) =
    Each done named judged reads is whole told (λ one well never. none-made w held before after Took done (file_of_output w.options) (aside one well never))
whatever-made w held before after Took (Broke is failed) = Broke is failed

-- these files are those of the words
pub of-words : (w : Work) (held : Text → Option (List ℕ)) (before after : Counts) (Took : Text → List ℕ → Type 0) {names names' : List Text} {status : ℕ}
    {out : OutputSpan} {err' : Output} → names ≡ names' → AreDone w (files_span held before after NoneTook) names status out err' →
    AreDone w (files_span held before after Took) names' status out err'
of-words w held before after Took {status = status} {out = out} {err' = err'} e d =
    subst (λ ns. AreDone w (files_span held before after Took) ns status out err') e (whatever-made w held before after Took d)
