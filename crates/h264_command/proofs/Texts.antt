-- What a device took of a file's text.
use Rattle.std.proofs.Common.{◌⊎◌, inl, inr, ⊎_elim, ◌≡◌, ◌≢◌, ℕ, Bool, true, false, List, [], ◌∷◌, ◌++◌, Option, Some, None, Result, Ok, Err, OnOk, OnErr}
use Rattle.std.proofs.Common.{IfSome, refl, sym, ap, ◌∙◌, subst}
use Rattle.std.specs.Io.KnownBytes.{Keeps}
use Rattle.std.proofs.lemmas.Bool.{true≢false}
use Rattle.std.proofs.lemmas.List.{append-nil, append_assoc}
use Rattle.h264_base.specs.Call.{Call}
use Rattle.h264_base.specs.declared.stop.Stop.{Stop}
use Rattle.h264_report.proofs.Accounts.{of-bytes, of-kept, of-listing, of-map}
use Rattle.h264_lines.proofs.Sinks.{lined}
use Rattle.h264_lines.proofs.Known.{keeps-appends, sends-keeps, sends-more, sends-none}
use Rattle.h264_lines.specs.Chosen.{TookChosen, left_in, at_first}
use Rattle.h264_lines.specs.Objects.{Opening, OfLine}
use Rattle.h264_lines.specs.Sent.{Sends, Takes, IsBlamed, lent}
use Rattle.h264_lines.specs.Told.{lines_of, bytes_of, HoldsCalls, TookLines, TookFrames}
use Rattle.h264_report.specs.Written.{OfBytes}
use Rattle.h264_verify.specs.Account.{Account, calls_in}
use Rattle.h264_lines.specs.Y4m.{TookY4m, SuitsHead, framed_of, y4m_of}
use Rattle.h264_lines.specs.declared.head.Head.{Head}
use Rattle.h264_lines.specs.declared.listing.Listing.{Listing}
use Rattle.h264_lines.specs.declared.choice.Choice.{Choice}
use Rattle.h264_lines.specs.declared.reading.Reading.{Reading}
use Rattle.h264_verify.specs.Units.{terms_of}
use Rattle.h264_base.specs.declared.summary.Summary.{Summary}
use Rattle.h264_verify.specs.declared.state.Terms.{Terms}
use Rattle.h264_command.specs.Commands.{Output, output_of}
use Rattle.h264_command.specs.Further.{IsNoVerdict, IsToldOf}
use Rattle.h264_command.specs.More.{FileDone, texts_of}
use Rattle.h264_command.specs.Texts.{IsFrontOfNext, IsMade, IsListed, chooses, IsDecoded, IsTextOf, TakesText, TellsAnswer, Quiet, Whole, Short, IsEnd, AreBoth}
use Rattle.h264_command.specs.Texts.{IsFileText, Judged, Unjudged, answers_aside, listing_of}
use Rattle.h264_words.specs.Words.{mode_of}
use Rattle.h264_words.specs.declared.command_line.Task.{Task}
use Rattle.h264_words.specs.declared.command_line.Task.TheVariants as tasks
use Rattle.h264_command.specs.declared.job.Found.{Found}
use Rattle.h264_words.specs.declared.options.Options.{Options}
use Rattle.h264_command.proofs.Told.{taken}

-- ---- what a sink's device took

-- all of it, or the device has failed
made : (broke_off : Bool) (make : List Call → List ℕ) (start : Option (List ℕ)) (was : Bool) (new : Output) (calls : List Call) →
    HoldsCalls broke_off make start new.bytes calls → IsBlamed broke_off was new.has_failed →
    new.has_failed ≡ false → Sends start new.bytes (make calls)
made true make start was new calls h b none = absurd (true≢false (sym b ∙ none))
made false make start was new calls h b none = h

-- the calls of which something is left, and some more
pub left-calls : {S : Type 0} (took : S → List Call → Type 0) (choice : Choice) (broke_off : Bool) (reading : Reading) (pending : Option Call) (sink : S)
    (calls : List Call) → TookChosen took choice broke_off (record { reading = reading; pending = pending }) sink calls →
    (more : List Call) × took sink (left_in choice at_first calls ++ more) × ((more ≡ []) ⊎ IsFrontOfNext choice calls more)
left-calls took choice false reading pending sink calls h = ([], subst (took sink) (sym (append-nil (left_in choice at_first calls))) h.tells, inl refl)
left-calls took choice true reading pending sink calls h = (h.front, h.tells, inr (record { call = h.refused; rest = h.rest; whole = h.whole }))

-- what a sink took of which a choice leaves something
pub left-some : {S : Type 0} (took : S → List Call → Type 0) (choice : Choice) (broke_off : Bool) (reading : Reading) (pending : Option Call) (sink : S)
    (calls : List Call) → TookChosen took choice broke_off (record { reading = reading; pending = pending }) sink calls →
    (left : List Call) × took sink left
left-some took choice broke_off reading pending sink calls h = let l = left-calls took choice broke_off reading pending sink calls h in
    (left_in choice at_first calls ++ l.0, l.1)

-- the lines of a listing
pub takes-lines : {name reference : ℕ} {head begins : Opening} {listing l : Listing} {start : Option (List ℕ)} {was : Bool} {frames : ℕ} {terms : Terms}
    {bytes : List ℕ} {answer : Result Summary Stop} (broke_off : Bool) (new : Output) →
    (a : Account terms bytes answer) × TookLines (lent name start was) head listing
    (lined begins l (lent reference new.bytes new.has_failed) frames broke_off) (calls_in a) →
    TakesText (IsMade (lines_of head listing 0) terms bytes answer) start new
takes-lines {head = head} {listing = listing} {start = start} {was = was} broke_off new t = record {
  text = lines_of head listing 0 (calls_in t.0);
  is_text = record { account = t.0; is = refl };
  sends = made broke_off (lines_of head listing 0) start was new (calls_in t.0) (of-listing t.1) t.1.lines.blamed;
}

-- the bytes of frames
pub takes-frames : {name reference : ℕ} {start : Option (List ℕ)} {was : Bool} {terms : Terms} {bytes : List ℕ} {answer : Result Summary Stop}
    (broke_off : Bool) (new : Output) →
    (a : Account terms bytes answer) × TookFrames (lent name start was) broke_off (lent reference new.bytes new.has_failed) (calls_in a) →
    TakesText (IsDecoded false terms bytes answer) start new
takes-frames {start = start} {was = was} broke_off new t = record {
  text = bytes_of (calls_in t.0);
  is_text = record { account = t.0; is = refl };
  sends = made broke_off bytes_of start was new (calls_in t.0) t.1.holds t.1.blamed;
}

-- frames with lines, after a header
pub takes-y4m : {name reference : ℕ} {start : Option (List ℕ)} {was : Bool} {head : Option Head} {terms : Terms} {bytes : List ℕ}
    {answer : Result Summary Stop} (broke_off : Bool) (new : Output) →
    (a : Account terms bytes answer) × TookY4m (lent name start was) head broke_off (lent reference new.bytes new.has_failed) (calls_in a) →
    TakesText (IsDecoded true terms bytes answer) start new
takes-y4m {start = start} {was = was} {head = head} broke_off new t = record {
  text = y4m_of head (calls_in t.0);
  is_text = record { head = head; account = t.0; suits = t.1.suits; is = refl };
  sends = made broke_off (y4m_of head) start was new (calls_in t.0) t.1.holds t.1.blamed;
}

-- a sink of frames with lines that was told nothing
pub none-y4m : {name reference : ℕ} {start known : Option (List ℕ)} {head : Option Head} {was broke_off broken : Bool} → reference ≡ name → head ≡ None →
    known ≡ start → broken ≡ was → broke_off ≡ false →
    TookY4m (lent name start was) head broke_off (lent reference known broken) []
unfolding framed_of
none-y4m {name} {reference} {start} {known} {head} {was} {broke_off} {broken} same headless unwritten quiet whole = record {
  same_reference = same;
  suits = subst (λ h. SuitsHead h []) (sym headless) refl;
  holds = subst (λ b. HoldsCalls b (y4m_of head) start known []) (sym whole)
      (subst (λ h. Sends start known (y4m_of h [])) (sym headless) (subst (λ k. Sends start k []) (sym unwritten) (sends-none start)));
  blamed = subst (λ b. IsBlamed b was broken) (sym whole) quiet;
}

-- the lines of what is left
pub takes-left : {name reference : ℕ} {head begins : Opening} {listing l : Listing} {start : Option (List ℕ)} {was : Bool} {frames : ℕ} {terms : Terms}
    {bytes : List ℕ} {answer : Result Summary Stop} (choice : Choice) (broke_off : Bool) (new : Output) → chooses choice ≡ true →
    (a : Account terms bytes answer) (more : List Call) → (more ≡ []) ⊎ IsFrontOfNext choice (calls_in a) more →
    TookLines (lent name start was) head listing (lined begins l (lent reference new.bytes new.has_failed) frames broke_off)
    (left_in choice at_first (calls_in a) ++ more) →
    TakesText (IsListed choice (lines_of head listing 0) terms bytes answer) start new
takes-left {head = head} {listing = listing} {start = start} {was = was} choice broke_off new chosen a more next t = record {
  text = lines_of head listing 0 (left_in choice at_first (calls_in a) ++ more);
  is_text = record { account = a; more = more; is_more = ⊎_elim (λ e. inl e) (λ f. inr (chosen, f)) next; is = rw chosen refl };
  sends = made broke_off (lines_of head listing 0) start was new (left_in choice at_first (calls_in a) ++ more) (of-listing t) t.lines.blamed;
}

pub takes-chosen : {name reference : ℕ} {head begins : Opening} {listing l : Listing} {start : Option (List ℕ)} {was : Bool} {frames : ℕ} {terms : Terms}
    {bytes : List ℕ} {answer : Result Summary Stop} {S : Type 0} (took : S → List Call → Type 0)
    (choice : Choice) (is_broken : Bool) (reading : Reading) (pending : Option Call) (sink : S) (broke_off : Bool) (new : Output) → chooses choice ≡ true →
    (a : Account terms bytes answer) × TookChosen took choice is_broken (record { reading = reading; pending = pending }) sink (calls_in a) →
    ((calls : List Call) → took sink calls →
    TookLines (lent name start was) head listing (lined begins l (lent reference new.bytes new.has_failed) frames broke_off) calls) →
    TakesText (IsListed choice (lines_of head listing 0) terms bytes answer) start new
takes-chosen took choice is_broken reading pending sink broke_off new chosen t of =
    let l = left-calls took choice is_broken reading pending sink (calls_in t.0) t.1 in takes-left choice broke_off new chosen t.0 l.0 l.2 (of _ l.1)

-- all lines, where nothing is chosen
pub takes-all : (choice : Choice) (make : List Call → List ℕ) (terms : Terms) (bytes : List ℕ) (answer : Result Summary Stop) (start : Option (List ℕ))
    (new : Output) → chooses choice ≡ false →
    TakesText (IsMade make terms bytes answer) start new → TakesText (IsListed choice make terms bytes answer) start new
takes-all choice make terms bytes answer start new none t = record {
  text = t.text;
  is_text = record {
    account = t.is_text.account;
    more = [];
    is_more = inl refl;
    is = rw none (t.is_text.is ∙ ap make (sym (append-nil (calls_in t.is_text.account))));
  };
  sends = t.sends;
}

-- ---- what a task's device took

-- nothing was written
pub none-taken : (out : Output) → TakesText (λ text. text ≡ []) out.bytes out
none-taken out = record { text = []; is_text = refl; sends = λ none. sends-none out.bytes }

pub some-all : {X : Type 0} (P : X → Type 0) (found : Option X) → ((x : X) → P x) → IfSome found P
some-all P None h = tt
some-all P (Some x) h = h x

pub some-map : {X : Type 0} (P Q : X → Type 0) (found : Option X) → ((x : X) → P x → Q x) → IfSome found P → IfSome found Q
some-map P Q None f h = tt
some-map P Q (Some x) f h = f x h

-- what was found, and the text that a device took meanwhile
abbrev Found-text : (found : Option Found) (source : Option (List ℕ)) (old : Option (List ℕ)) (new : Output) →
    (List ℕ → Result Summary Stop → List ℕ → Type 0) → Type 0
Found-text found source old new Is = IfSome found (λ f. OfBytes source (λ bytes. TakesText (Is bytes f.answer) old new))

module _ (found : Option Found) (source : Option (List ℕ)) (o : Options) (opening : Opening) where
  -- nothing was written by a task that writes nothing meanwhile
  pub no-text : {task task' : Task} (out : Output) → task ≡ task' →
      ((bytes : List ℕ) (answer : Result Summary Stop) → IsTextOf task' o opening bytes answer ≡ (λ text. text ≡ [])) →
      Found-text found source out.bytes out (IsTextOf task o opening)
  no-text {task} {task'} out is none = subst (λ t. Found-text found source out.bytes out (IsTextOf t o opening)) (sym is)
      (some-all _ found (λ f. of-bytes source _ (λ bytes h. subst (λ Is. TakesText Is out.bytes out) (sym (none bytes f.answer)) (none-taken out))
      ([], subst (λ Is. TakesText Is out.bytes out) (sym (none [] f.answer)) (none-taken out))))

  module _ (old : Option (List ℕ)) (new : Output) where
    -- the frames
    pub decode-text : (task : Task) → task ≡ tasks.Decode → Found-text found source old new (IsDecoded o.y4m (terms_of (mode_of task) o.target)) →
        Found-text found source old new (IsTextOf task o opening)
    decode-text task is h = subst (λ t. Found-text found source old new (IsTextOf t o opening)) (sym is)
        (subst (λ t. Found-text found source old new (IsDecoded o.y4m (terms_of (mode_of t) o.target))) is h)

    -- a page
    pub report-text : (task : Task) → task ≡ tasks.Report → IfSome found (λ f. TakesText (λ text. Unit {0}) old new) →
        Found-text found source old new (IsTextOf task o opening)
    report-text task is h = subst (λ t. Found-text found source old new (IsTextOf t o opening)) (sym is)
        (some-map _ _ found (λ f t. of-bytes source _ (λ bytes known. t) ([], t)) h)

    -- the lines of a listing
    pub list-text : (task : Task) → task ≢ tasks.Check → task ≢ tasks.Decode → task ≢ tasks.Info → task ≢ tasks.Report →
        Found-text found source old new (IsListed o.choice (lines_of opening (listing_of task o.quiet) 0) (terms_of (mode_of task) o.target)) →
        Found-text found source old new (IsTextOf task o opening)
    list-text tasks.Check c d i r h = absurd (c refl)
    list-text tasks.Units c d i r h = h
    list-text tasks.Headers c d i r h = h
    list-text tasks.Frames c d i r h = h
    list-text tasks.Decode c d i r h = absurd (d refl)
    list-text tasks.Elements c d i r h = h
    list-text tasks.Info c d i r h = absurd (i refl)
    list-text tasks.Report c d i r h = absurd (r refl)
    list-text tasks.Explain c d i r h = h

-- what an end takes, written to the output or aside
module _ {task : Task} {o : Options} {opening : Opening} {said : Result Summary Stop} where
  pub end-here : (written : Bool) (old : Option (List ℕ)) (new : Output) (end : List ℕ) → answers_aside task ≡ false → Takes written old new.bytes end →
      TellsAnswer task o opening said end → (written ≡ false → new.has_failed ≡ true) →
      TakesText (IsEnd task o opening said) old new
  end-here written old new end here t tells failed = record {
    text = end;
    is_text = record { aside = λ aside. absurd (true≢false (sym aside ∙ here)); here = λ h. tells };
    sends = λ none. taken written new.has_failed t failed none;
  }

  pub end-aside : (out : Output) → answers_aside task ≡ true → TakesText (IsEnd task o opening said) out.bytes out
  end-aside out aside = record {
    text = [];
    is_text = record { aside = λ a. refl; here = λ here. absurd (true≢false (sym aside ∙ here)) };
    sends = λ none. sends-none out.bytes;
  }

-- a line that tells that there is no verdict, whatever stands before other lines
renamed : {task : Task} {o : Options} {said : Result Summary Stop} {text : List ℕ} (p q : List ℕ) → IsNoVerdict said →
    TellsAnswer task o (OfLine p) said text → TellsAnswer task o (OfLine q) said text
renamed p q none (Quiet e t) = Quiet e t
renamed p q none (Whole e (inl w)) = Short e none (w.0 ++ p) (w.1 ∙ sym (append_assoc w.0 p _))
renamed p q none (Whole e (inr change)) = Whole e (inr change)
renamed p q none (Short e n before t) = Short e n before t

pub end-renamed : {task : Task} {o : Options} {said : Result Summary Stop} {old : Option (List ℕ)} {new : Output} (p q : List ℕ) → IsNoVerdict said →
    TakesText (IsEnd task o (OfLine p) said) old new → TakesText (IsEnd task o (OfLine q) said) old new
end-renamed p q none t = record {
  text = t.text;
  is_text = record { aside = t.is_text.aside; here = λ h. renamed p q none (t.is_text.here h) };
  sends = t.sends;
}

-- an object that was opened, has its fields, and was closed
pub object-closed : (old head kind fields more end opened filled closed : List ℕ) → opened ≡ old ++ (head ++ kind) → filled ≡ opened ++ (fields ++ more) →
    closed ≡ filled ++ end →
    closed ≡ old ++ (head ++ ((kind ++ fields) ++ (more ++ end)))
object-closed old head kind fields more end opened filled closed a b c =
    c ∙ ap (λ l. l ++ end) b ∙ append_assoc opened (fields ++ more) end ∙ ap (λ l. l ++ ((fields ++ more) ++ end)) a ∙
    append_assoc old (head ++ kind) ((fields ++ more) ++ end)
    ∙ ap (λ l. old ++ l) (append_assoc head kind ((fields ++ more) ++ end) ∙
    ap (λ l. head ++ l) (ap (λ l. kind ++ l) (append_assoc fields more end) ∙ sym (append_assoc kind fields (more ++ end))))

-- ---- what was written of a file

-- a device that has not failed after it was asked for the rest had not before
rest-kept : {T E : Type 0} (r : Result T E) (before after : Bool) → OnOk r (after ≡ before) → OnErr r (after ≡ true) → after ≡ false → before ≡ false
rest-kept (Ok x) before after same failed none = sym same ∙ none
rest-kept (Err x) before after same failed none = absurd (true≢false (sym failed ∙ none))

not-failed : (was is : Bool) → (was ≡ true → is ≡ true) → is ≡ false → was ≡ false
not-failed true is kept none = absurd (true≢false (sym (kept refl) ∙ none))
not-failed false is kept none = refl

file-kept : (task : Task) (o : Options) (opening : Opening) (held left : Option (List ℕ)) (told : Result Summary Stop) (text : List ℕ) → Keeps held left →
    IsFileText task o opening left told text → IsFileText task o opening held told text
file-kept task o opening held left told text k (Judged answer is h) =
    Judged answer is (of-kept held left (λ bytes. AreBoth (IsTextOf task o opening bytes answer) (IsEnd task o opening told) text) k h)
file-kept task o opening held left told text k (Unjudged is end) = Unjudged is end

keeps-sends : {a b c : Option (List ℕ)} {bs : List ℕ} → Keeps a b → Sends b c bs → Sends a c bs
keeps-sends {a} {b} {c} {bs} k s = record { appends = keeps-appends a b c bs k s.appends }

module _ {task : Task} {o : Options} {opening : Opening} {old : Option (List ℕ)} where
  -- the text of the calls, and after it the end
  whole : {T E : Type 0} (bytes : List ℕ) (answer : Result Summary Stop) {said : Result Summary Stop} (rest : Result T E) (found sent told : Output) →
      TakesText (IsTextOf task o opening bytes answer) old found → Keeps found.bytes sent.bytes →
      OnOk rest (sent.has_failed ≡ found.has_failed) → OnErr rest (sent.has_failed ≡ true) → (sent.has_failed ≡ true → told.has_failed ≡ true) →
      TakesText (IsEnd task o opening said) sent.bytes told →
      TakesText (AreBoth (IsTextOf task o opening bytes answer) (IsEnd task o opening said)) old told
  whole bytes answer rest found sent told calls kept same failed stays end = record {
    text = calls.text ++ end.text;
    is_text = record { first = calls.text; is_first = calls.is_text; last = end.text; is_last = end.is_text; whole = refl };
    sends = λ none.
        let sound = not-failed sent.has_failed told.has_failed stays none in
        sends-more (sends-keeps (calls.sends (rest-kept rest found.has_failed sent.has_failed same failed sound)) kept) (end.sends none);
  }

  -- what is told of the bytes of a source
  told-of : (source : Option (List ℕ)) {answer told : Result Summary Stop} (new : Output) → IsToldOf answer told →
      OfBytes source (λ bytes. TakesText (AreBoth (IsTextOf task o opening bytes answer) (IsEnd task o opening told)) old new) →
      TakesText (IsFileText task o opening source told) old new
  told-of None {answer} {told} new is h = record { text = h.1.text; is_text = Judged answer is (h.0, h.1.is_text); sends = h.1.sends }
  told-of (Some bytes) {answer} {told} new is h = record { text = h.text; is_text = Judged answer is h.is_text; sends = h.sends }

  -- what is told of a file that was judged
  pub judged-text : {T E : Type 0} (source : Option (List ℕ)) {answer told : Result Summary Stop} (rest : Result T E) (found sent new : Output) →
      IsToldOf answer told →
      OfBytes source (λ bytes. TakesText (IsTextOf task o opening bytes answer) old found) → Keeps found.bytes sent.bytes →
      OnOk rest (sent.has_failed ≡ found.has_failed) → OnErr rest (sent.has_failed ≡ true) →
      (sent.has_failed ≡ true → new.has_failed ≡ true) → TakesText (IsEnd task o opening told) sent.bytes new →
      TakesText (IsFileText task o opening source told) old new
  judged-text source {answer} {told} rest found sent new is calls kept same failed stays end =
      told-of source new is (of-map source _ _ (λ bytes c. whole bytes answer rest found sent new c kept same failed stays end) calls)

  -- and of one that was not
  pub unjudged-text : (source : Option (List ℕ)) {told : Result Summary Stop} (mid : Option (List ℕ)) (new : Output) → IsNoVerdict told → Keeps old mid →
      TakesText (IsEnd task o opening told) mid new → TakesText (IsFileText task o opening source told) old new
  unjudged-text source {told} mid new is kept end =
      record { text = end.text; is_text = Unjudged is end.is_text; sends = λ none. keeps-sends kept (end.sends none) }

  -- and of one beside whose judgement nothing was written
  pub text-alone : (source : Option (List ℕ)) (answer : Result Summary Stop) {told : Result Summary Stop} (new : Output) →
      ((bytes : List ℕ) → IsTextOf task o opening bytes answer []) → IsToldOf answer told → TakesText (IsEnd task o opening told) old new →
      TakesText (IsFileText task o opening source told) old new
  text-alone source answer {told} new none is end =
      let both : (bytes : List ℕ) → AreBoth (IsTextOf task o opening bytes answer) (IsEnd task o opening told) end.text = λ bytes.
      record { first = []; is_first = none bytes; last = end.text; is_last = end.is_text; whole = refl } in
      record { text = end.text; is_text = Judged answer is (of-bytes source _ (λ bytes h. both bytes) ([], both [])); sends = end.sends }

  -- what is told of an open file is told of what the file of its name holds
  pub text-kept : (held left : Option (List ℕ)) {told : Result Summary Stop} (new : Output) → Keeps held left →
      TakesText (IsFileText task o opening left told) old new → TakesText (IsFileText task o opening held told) old new
  text-kept held left {told} new k t = record { text = t.text; is_text = file-kept task o opening held left told t.text k t.is_text; sends = t.sends }

-- ---- several files

pub texts-more : (files : List FileDone) (f : FileDone) → texts_of (files ++ f ∷ []) ≡ texts_of files ++ f.text
unfolding texts_of
texts-more [] f = append-nil f.text
texts-more (e ∷ files) f = ap (λ l. e.text ++ l) (texts-more files f) ∙ sym (append_assoc e.text (texts_of files) f.text)

pub texts-one : (f : FileDone) → f.text ≡ texts_of (f ∷ []) ++ []
unfolding texts_of
texts-one f = sym (append-nil (f.text ++ []) ∙ append-nil f.text)

pub none-texts : [] ≡ texts_of []
unfolding texts_of
none-texts = refl

-- what a device took that stands under another name
pub carried : {W : Type 0} (contents : W → Option (List ℕ)) (has_failed holds_back : W → Bool) (old source : Option (List ℕ)) (Is : List ℕ → List ℕ → Type 0)
    (now given : W) →
    OfBytes source (λ bytes. TakesText (Is bytes) old (output_of contents has_failed holds_back now)) → now ≡ given →
    OfBytes source (λ bytes. TakesText (Is bytes) old (output_of contents has_failed holds_back given))
carried contents has_failed holds_back old source Is now given told is =
    subst (λ d. OfBytes source (λ bytes. TakesText (Is bytes) old (output_of contents has_failed holds_back d))) is told

-- a page
pub page-taken : (written : Bool) (old : Option (List ℕ)) (new : Output) (page : List ℕ) → Takes written old new.bytes page →
    (written ≡ false → new.has_failed ≡ true) → TakesText (λ text. Unit {0}) old new
page-taken written old new page t failed = record { text = page; is_text = tt; sends = λ none. taken written new.has_failed t failed none }
