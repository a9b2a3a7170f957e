-- What a sink took of a stream that was judged, and what its writer holds of it.
use Rattle.std.proofs.Common.{⊎_elim, ◌≡◌, ℕ, Bool, true, false, List, [], ◌++◌, Option, None, Some, Result, Ok, Err, ◌⊎◌, inl, inr, refl, sym, ap, ◌∙◌, subst}
use Rattle.std.specs.Io.KnownBytes.{Keeps}
use Rattle.circular_buffer.specs.Buffer.{keep_last}
use Rattle.h264_base.specs.Call.{Call, span}
use Rattle.h264_base.specs.declared.mode.Target.{Target}
use Rattle.h264_base.specs.declared.mode.Mode.{Mode}
use Rattle.h264_base.specs.declared.mode.Mode.TheVariants as modes
use Rattle.h264_base.specs.declared.stop.Stop.{Stop}
use Rattle.h264_base.specs.declared.stop.Stop.TheVariants.{No, Outside, Memory, Read, Write}
use Rattle.h264_lines.specs.Objects.{Opening, bare}
use Rattle.h264_lines.specs.Sent.{Sends, Takes, IsBlamed, LentWriter, lent, wrote}
use Rattle.h264_lines.specs.Told.{lines_of, bytes_of, elements_of, HoldsCalls, LineSinkState, TookLines, TookFrames}
use Rattle.h264_report.specs.Written.{OfBytes, Writes, last_line, Lists, is_no, trail_text, Checks, Decodes}
use Rattle.h264_verify.specs.Account.{Account, calls_in}
use Rattle.h264_lines.specs.Answer.{told_of}
use Rattle.h264_lines.specs.Trail.{element_lines}
use Rattle.h264_report.specs.declared.judging.Ending.{Ending}
use Rattle.h264_lines.specs.declared.listing.Listing.{Listing}
use Rattle.h264_lines.specs.declared.trail.Element.{Element}
use Rattle.h264_lines.proofs.Known.{sends-more, sends-none, sends-keeps, some-after}
use Rattle.h264_lines.proofs.Sinks.{lined}
use Rattle.h264_verify.specs.Verdict.{Judged}
use Rattle.h264_base.specs.declared.summary.Summary.{Summary}
use Rattle.h264_verify.specs.declared.state.Terms.{Terms}
use Rattle.h264_verify.specs.Units.{terms_of, extent_by}
use Rattle.h264_verify.specs.Telling.{Family}
use Rattle.h264_verify.proofs.laws.OneVerdict.{none-judged}
use Rattle.h264_verify.proofs.laws.AccountTaken.{accounts, front-of}

-- ---- with another answer

module _ {terms : Terms} {bytes : List ℕ} where
  -- the same calls, up to a want of memory
  abbrev up-to-memory : (answer : Result Summary Stop) → Account terms bytes answer → Account terms bytes (Err Memory)
  up-to-memory answer a = record {
    frames = a.frames;
    family = a.family;
    told = a.told;
    decoded = a.decoded;
    answers = front-of (extent_by terms) bytes
        a.told answer a.answers;
  }

  -- and up to a write that failed
  abbrev up-to-write : (answer : Result Summary Stop) → Account terms bytes answer → Account terms bytes (Err Write)
  up-to-write answer a = record {
    frames = a.frames;
    family = a.family;
    told = a.told;
    decoded = a.decoded;
    answers = front-of (extent_by terms) bytes
        a.told answer a.answers;
  }

  module _ {make : List Call → List ℕ} {start known : Option (List ℕ)} where
    -- What is told of a stream of which a writer took this.
    took-writes : (broke_off : Bool) (answer : Result Summary Stop) (a : Account terms bytes answer) → HoldsCalls broke_off make start known (calls_in a) →
        Writes make terms bytes (told_of broke_off answer) start known
    took-writes true answer a h = record { account = up-to-write answer a; text = h.bytes; is_written = inr h.breaks_off; sends = h.sends }
    took-writes false (Ok summary) a h = record { account = a; text = make (calls_in a); is_written = refl; sends = h }
    took-writes false (Err (No bit rule)) a h = record { account = a; text = make (calls_in a); is_written = refl; sends = h }
    took-writes false (Err (Outside bit feature)) a h = record { account = a; text = make (calls_in a); is_written = refl; sends = h }
    took-writes false (Err Memory) a h = record { account = a; text = make (calls_in a); is_written = refl; sends = h }
    took-writes false (Err Read) a h = record { account = a; text = make (calls_in a); is_written = refl; sends = h }
    took-writes false (Err Write) a h = record { account = up-to-memory (Err Write) a; text = make (calls_in a); is_written = refl; sends = h }

    -- With memory wanting for what was to come.
    short : (answer : Result Summary Stop) → (answer ≡ Err Write → ⊥) → Writes make terms bytes answer start known →
        Writes make terms bytes (Err Memory) start known
    short (Ok summary) never w = record { account = up-to-memory (Ok summary) w.account; text = w.text; is_written = w.is_written; sends = w.sends }
    short (Err (No bit rule)) never w = record {
      account = up-to-memory (Err (No bit rule)) w.account;
      text = w.text;
      is_written = w.is_written;
      sends = w.sends;
    }
    short (Err (Outside bit feature)) never w =
        record { account = up-to-memory (Err (Outside bit feature)) w.account; text = w.text; is_written = w.is_written; sends = w.sends }
    short (Err Memory) never w = w
    short (Err Read) never w = record { account = up-to-memory (Err Read) w.account; text = w.text; is_written = w.is_written; sends = w.sends }
    short (Err Write) never w = absurd (never refl)

    -- And where the writer failed as it handed over what it had held back.
    pub failed : (answer : Result Summary Stop) → Writes make terms bytes answer start known → Writes make terms bytes (Err Write) start known
    failed (Ok summary) w = record { account = up-to-write (Ok summary) w.account; text = w.text; is_written = inl w.is_written; sends = w.sends }
    failed (Err (No bit rule)) w = record { account = up-to-write (Err (No bit rule)) w.account; text = w.text; is_written = inl w.is_written; sends = w.sends }
    failed (Err (Outside bit feature)) w = record {
      account = up-to-write (Err (Outside bit feature)) w.account;
      text = w.text;
      is_written = inl w.is_written;
      sends = w.sends;
    }
    failed (Err Memory) w = record { account = up-to-write (Err Memory) w.account; text = w.text; is_written = inl w.is_written; sends = w.sends }
    failed (Err Read) w = record { account = up-to-write (Err Read) w.account; text = w.text; is_written = inl w.is_written; sends = w.sends }
    failed (Err Write) w = w

    -- the answer that is said, where there was no memory for the last line of a verdict
    pub said-answer : (answer said : Result Summary Stop) → (said ≡ answer) ⊎ (said ≡ Err Memory) → (answer ≡ Err Write → said ≡ Err Write) →
        Writes make terms bytes answer start known → Writes make terms bytes said start known
    said-answer answer said (inl e) stays w = subst (λ a. Writes make terms bytes a start known) (sym e) w
    said-answer answer said (inr e) stays w = subst (λ a. Writes make terms bytes a start known) (sym e) (short answer (λ is. let d = sym e ∙ stays is in cc) w)

-- What the writer after a sink took that had taken nothing.
pub writes : {S : Type 0} {took : S → List Call → Type 0} {failures : S → ℕ} {terms : Terms} {bytes : List ℕ} {frames : Family} {s s' : S}
    {answer said : Result Summary Stop} (make : List Call → List ℕ) (start known : Option (List ℕ)) (broke_off : Bool) →
    said ≡ told_of broke_off answer → Judged terms (span took failures s s') bytes frames [] answer → took s [] →
    ((calls : List Call) → took s' calls → HoldsCalls broke_off make start known calls) → Writes make terms bytes said start known
writes {terms = terms} {bytes = bytes} {answer = answer} make start known broke_off is j none holds =
    let a = accounts j none in
    subst (λ x. Writes make terms bytes x start known) (sym is)
    (took-writes {make = make} {start = start} {known = known} broke_off answer a.0 (holds (calls_in a.0) a.1))

-- ---- which devices have failed

-- Where a write is told to have failed, the device has.
pub write-failed : (broke_off was failed : Bool) (answer : Result Summary Stop) {said : Result Summary Stop} → said ≡ told_of broke_off answer →
    IsBlamed broke_off was failed → said ≡ Err Write → failed ≡ true
write-failed true was failed answer is b w = b
write-failed false was failed (Ok summary) is b w = absurd (let d = sym is ∙ w in cc)
write-failed false was failed (Err (No bit rule)) is b w = absurd (let d = sym is ∙ w in cc)
write-failed false was failed (Err (Outside bit feature)) is b w = absurd (let d = sym is ∙ w in cc)
write-failed false was failed (Err Memory) is b w = absurd (let d = sym is ∙ w in cc)
write-failed false was failed (Err Read) is b w = absurd (let d = sym is ∙ w in cc)
write-failed false was failed (Err Write) is b w = absurd (let d = sym is ∙ w in cc)

-- Where none is, the device is as it was.
pub none-failed : (broke_off was failed : Bool) (answer : Result Summary Stop) {said : Result Summary Stop} → said ≡ told_of broke_off answer →
    IsBlamed broke_off was failed → (said ≡ Err Write → ⊥) → failed ≡ was
none-failed true was failed answer is b never = absurd (never is)
none-failed false was failed answer is b never = b

-- a read that is told to have failed did
pub read-told : (broke_off : Bool) (answer : Result Summary Stop) {said : Result Summary Stop} → said ≡ told_of broke_off answer → said ≡ Err Read →
    answer ≡ Err Read
read-told true answer is r = absurd (let d = sym is ∙ r in cc)
read-told false (Ok summary) is r = absurd (let d = sym is ∙ r in cc)
read-told false (Err (No bit rule)) is r = absurd (let d = sym is ∙ r in cc)
read-told false (Err (Outside bit feature)) is r = absurd (let d = sym is ∙ r in cc)
read-told false (Err Memory) is r = absurd (let d = sym is ∙ r in cc)
read-told false (Err Read) is r = refl
read-told false (Err Write) is r = absurd (let d = sym is ∙ r in cc)

-- an answer that is said is that a write failed only where the answer was
pub never-write : {answer said : Result Summary Stop} → (answer ≡ Err Write → said ≡ Err Write) → (said ≡ Err Write → ⊥) → answer ≡ Err Write → ⊥
never-write stays never is = never (stays is)

-- a read that failed is told, or that a write did
pub still-told : {Quiet : Type 0} (broke_off : Bool) (answer : Result Summary Stop) {said : Result Summary Stop} → said ≡ told_of broke_off answer → Quiet ⊎
    (answer ≡ Err Read) → Quiet ⊎ ((said ≡ Err Read) ⊎ (said ≡ Err Write))
still-told true answer is (inl q) = inl q
still-told true answer is (inr r) = inr (inr is)
still-told false answer is (inl q) = inl q
still-told false answer is (inr r) = inr (inl (is ∙ ap (told_of false) r))

-- and stays so in the last line
pub said-told : {Quiet : Type 0} (answer said : Result Summary Stop) → (answer ≡ Err Read → said ≡ Err Read) → (answer ≡ Err Write → said ≡ Err Write) →
    Quiet ⊎ ((answer ≡ Err Read) ⊎ (answer ≡ Err Write)) → Quiet ⊎ ((said ≡ Err Read) ⊎ (said ≡ Err Write))
said-told answer said read write (inl q) = inl q
said-told answer said read write (inr (inl r)) = inr (inl (read r))
said-told answer said read write (inr (inr w)) = inr (inr (write w))

-- ---- one text after another

pub takes-after : (written : Bool) {a b : Option (List ℕ)} (c : Option (List ℕ)) {bs : List ℕ} (cs : List ℕ) → Sends a b bs → Takes written b c cs →
    Takes written a c (bs ++ cs)
takes-after true c cs p q = sends-more p q
takes-after false {a} {b} c {bs} cs p q = some-after p q

-- ---- sinks that were told nothing

pub none-lines : {name reference : ℕ} {head begins : Opening} {listing l : Listing} {start known : Option (List ℕ)} {was : Bool} {frames : ℕ}
    {broke_off broken : Bool} → reference ≡ name → begins ≡ head → l ≡ listing → known ≡ start → broken ≡ was → frames ≡ 0 → broke_off ≡ false →
    TookLines (lent name start was) head listing (lined begins l (lent reference known broken) frames broke_off) []
unfolding lines_of
none-lines {name} {reference} {head} {begins} {listing} {l} {start} {known} {was} {frames} {broke_off} {broken} same heads lists unwritten quiet zero whole =
    record {
      same_reference = same;
      same_opening = heads;
      same_listing = lists;
      lines = record {
        counts = zero;
        holds = subst (λ b. HoldsCalls b (lines_of begins l 0) start known []) (sym whole) (subst (λ k. Sends start k []) (sym unwritten) (sends-none start));
        blamed = subst (λ b. IsBlamed b was broken) (sym whole) quiet;
      };
    }

pub none-frames : {name reference : ℕ} {start known : Option (List ℕ)} {was broke_off broken : Bool} → reference ≡ name → known ≡ start → broken ≡ was →
    broke_off ≡ false → TookFrames (lent name start was) broke_off (lent reference known broken) []
unfolding bytes_of
none-frames {name} {reference} {start} {known} {was} {broke_off} {broken} same unwritten quiet whole = record {
  same_reference = same;
  holds = subst (λ b. HoldsCalls b bytes_of start known []) (sym whole) (subst (λ k. Sends start k []) (sym unwritten) (sends-none start));
  blamed = subst (λ b. IsBlamed b was broken) (sym whole) quiet;
}

-- what a sink holds is that of the listing for which it was made
pub of-listing : {start : LentWriter} {head : Opening} {listing : Listing} {s : LineSinkState} {calls : List Call} → TookLines start head listing s calls →
    HoldsCalls s.broke_off (lines_of head listing 0) start.bytes s.writer.bytes calls
of-listing {start} {head} {listing} {s} {calls} h =
    subst (λ b. HoldsCalls s.broke_off (lines_of b listing 0) start.bytes s.writer.bytes calls) h.same_opening
    (subst (λ x. HoldsCalls s.broke_off (lines_of s.opening x 0) start.bytes s.writer.bytes calls) h.same_listing h.lines.holds)

-- what has failed stays so
pub still-failed : (written mid new : Bool) → (written ≡ true → new ≡ mid) → (written ≡ false → new ≡ true) → mid ≡ true → new ≡ true
still-failed true mid new same broke e = same refl ∙ e
still-failed false mid new same broke e = broke refl

-- a write that is said to have failed did
pub is-write : {answer said : Result Summary Stop} → said ≡ Err Write → (said ≡ answer) ⊎ (said ≡ Err Memory) → answer ≡ Err Write
is-write w t = ⊎_elim (λ e. sym e ∙ w) (λ e. absurd (let d = sym e ∙ w in cc)) t

-- a read that is said to have failed did
pub was-read : (answer said : Result Summary Stop) → (said ≡ answer) ⊎ (said ≡ Err Memory) → said ≡ Err Read → answer ≡ Err Read
was-read answer said t r = ⊎_elim (λ e. sym e ∙ r) (λ e. absurd (let d = sym e ∙ r in cc)) t

-- what was told up to the answer in whose place another is told
pub told-account : {terms : Terms} {bytes : List ℕ} (answer said : Result Summary Stop) → (said ≡ answer) ⊎ (said ≡ Err Memory) →
    (a : Account terms bytes answer) → (b : Account terms bytes said) × (calls_in b ≡ calls_in a)
told-account {terms} {bytes} answer said (inl e) a = subst (λ x. (b : Account terms bytes x) × (calls_in b ≡ calls_in a)) (sym e) (a, refl)
told-account {terms} {bytes} answer said (inr e) a =
    subst (λ x. (b : Account terms bytes x) × (calls_in b ≡ calls_in a)) (sym e) (
      record {
        frames = a.frames;
        family = a.family;
        told = a.told;
        decoded = a.decoded;
        answers = front-of (extent_by terms) bytes a.told answer a.answers;
      },
      refl,
    )

-- and then what was held back was written
pub kept : {make : List Call → List ℕ} {terms : Terms} {bytes : List ℕ} {answer : Result Summary Stop} {old mid new : Option (List ℕ)} →
    Writes make terms bytes answer old mid → Keeps mid new → Writes make terms bytes answer old new
kept w k = record { account = w.account; text = w.text; is_written = w.is_written; sends = sends-keeps w.sends k }

-- ---- the last elements after a no

module _ (es : List Element) where
  pub bare-answer : (answer : Result Summary Stop) → is_no answer ≡ false → trail_text es answer ≡ []
  bare-answer (Ok summary) e = refl
  bare-answer (Err (No bit rule)) e = absurd (let d : true ≡ false = e in cc)
  bare-answer (Err (Outside bit feature)) e = refl
  bare-answer (Err Memory) e = refl
  bare-answer (Err Read) e = refl
  bare-answer (Err Write) e = refl

  pub trail-of-no : (answer : Result Summary Stop) → is_no answer ≡ true → trail_text es answer ≡ element_lines es
  trail-of-no (Ok summary) e = absurd (let d : false ≡ true = e in cc)
  trail-of-no (Err (No bit rule)) e = refl
  trail-of-no (Err (Outside bit feature)) e = absurd (let d : false ≡ true = e in cc)
  trail-of-no (Err Memory) e = absurd (let d : false ≡ true = e in cc)
  trail-of-no (Err Read) e = absurd (let d : false ≡ true = e in cc)
  trail-of-no (Err Write) e = absurd (let d : false ≡ true = e in cc)

  -- without them the last line stands alone
  pub takes-bare : (answer said : Result Summary Stop) (written : Bool) (old new : Option (List ℕ)) → is_no answer ≡ false → (said ≡ answer) ⊎
      (said ≡ Err Memory) → Takes written old new (last_line modes.Full said) → Takes written old new (trail_text es said ++ last_line modes.Full said)
  takes-bare answer said written old new e t takes =
      let none : trail_text es said ≡ [] = ⊎_elim (λ same. ap (trail_text es) same ∙ bare-answer answer e) (λ memory. ap (trail_text es) memory) t in
      subst (λ l. Takes written old new (l ++ last_line modes.Full said)) (sym none) takes

pub none-elements : (s : List Element) → s ≡ [] → s ≡ keep_last 16 (elements_of [])
unfolding elements_of
none-elements s e = e

-- ---- the commands

-- the lines and the last line
pub listed : {mode : Mode} {target : Target} {listing : Listing} {bytes : List ℕ} (answer : Result Summary Stop) (ending : Ending)
    (old mid new : Option (List ℕ)) →
    (ending.answer ≡ answer) ⊎ (ending.answer ≡ Err Memory) → (answer ≡ Err Write → ending.answer ≡ Err Write) →
    Writes (lines_of bare listing 0) (terms_of mode target) bytes answer old mid → Takes ending.written mid new (last_line mode ending.answer) →
    Lists mode target listing bytes ending (wrote old new)
listed {mode} answer ending old mid new e stays w t =
    let v = said-answer answer ending.answer e stays w in
    record {
      account = v.account;
      lines = v.text;
      are_lines = v.is_written;
      text = takes-after ending.written new (last_line mode ending.answer) v.sends t;
    }

-- the last elements of what a sink took, and the last line
pub checked : {S : Type 0} {target : Target} {took : S → List Call → Type 0} {failures : S → ℕ} {bytes : List ℕ} {frames : Family} {s s' : S}
    {answer : Result Summary Stop} {ending : Ending} (trail : S → List Element) (old new : Option (List ℕ)) →
    Judged (terms_of modes.Verdict target) (span took failures s s') bytes frames [] answer → took s [] →
    ((calls : List Call) → took s' calls → trail s' ≡ keep_last 16 (elements_of calls)) → (ending.answer ≡ answer) ⊎ (ending.answer ≡ Err Memory) →
    Takes ending.written old new (trail_text (trail s') ending.answer ++ last_line modes.Full ending.answer) → Checks target bytes ending (wrote old new)
checked {s' = s'} {answer = answer} {ending = ending} trail old new j none holds e t =
    let a = accounts j none in
    let b = told-account answer ending.answer e a.0 in
    let is : trail s' ≡ keep_last 16 (elements_of (calls_in b.0)) = holds (calls_in a.0) a.1 ∙ ap (λ calls. keep_last 16 (elements_of calls)) (sym b.1) in
    record { account = b.0; text = subst (λ es. Takes ending.written old new (trail_text es ending.answer ++ last_line modes.Full ending.answer)) is t }

-- the last line alone, of an answer that is no no
pub checked-bare : {target : Target} {bytes : List ℕ} {answer : Result Summary Stop} {ending : Ending} (old new : Option (List ℕ)) →
    is_no answer ≡ false → (ending.answer ≡ answer) ⊎ (ending.answer ≡ Err Memory) → Takes ending.written old new (last_line modes.Full ending.answer) →
    Account (terms_of modes.Verdict target) bytes answer → Checks target bytes ending (wrote old new)
checked-bare {answer = answer} {ending = ending} old new bare e t a =
    let b = told-account answer ending.answer e a in
    let es = keep_last 16 (elements_of (calls_in b.0)) in
    record { account = b.0; text = takes-bare es answer ending.answer ending.written old new bare e t }

-- there was no memory for a sink
pub none-checked : (target : Target) (bytes : List ℕ) (ending : Ending) (old new : Option (List ℕ)) → ending.answer ≡ Err Memory →
    Takes ending.written old new (last_line modes.Full (Err Memory)) → Checks target bytes ending (wrote old new)
none-checked target bytes ending old new e t =
    let none : ℕ = 0 in
    let took : Unit {0} → List Call → Type 0 = λ s calls. Unit {0} in
    let a = (accounts (none-judged (terms_of modes.Verdict target) took (λ s. none) bytes None tt tt) tt).0 in
    let c : Checks target bytes (record { answer = Err Memory; written = ending.written }) (wrote old new) = record { account = a; text = t } in
    subst (λ x. Checks target bytes (record { answer = x; written = ending.written }) (wrote old new)) (sym e) c

-- the frames, and the last line elsewhere
pub decoded : {target : Target} {bytes : List ℕ} (answer : Result Summary Stop) (ending : Ending) (old mid new err_old err_new : Option (List ℕ)) →
    (ending.answer ≡ answer) ⊎ (ending.answer ≡ Err Memory) → (answer ≡ Err Write → ending.answer ≡ Err Write) →
    Writes bytes_of (terms_of modes.Full target) bytes answer old mid → Keeps mid new →
    Takes ending.written err_old err_new (last_line modes.Full ending.answer) →
    Decodes target bytes ending (wrote old new) (wrote err_old err_new)
decoded answer ending old mid new err_old err_new e stays w k t = record { frames = kept (said-answer answer ending.answer e stays w) k; text = t }

-- ---- what is known of a source

pub of-bytes : (known : Option (List ℕ)) (Is : List ℕ → Type 0) → ((bytes : List ℕ) → known ≡ Some bytes → Is bytes) → (bytes : List ℕ) × Is bytes →
    OfBytes known Is
of-bytes None Is p q = q
of-bytes (Some bytes) Is p q = p bytes refl

pub of-kept : (a b : Option (List ℕ)) (Is : List ℕ → Type 0) → Keeps a b → OfBytes b Is → OfBytes a Is
of-kept None None Is k p = p
of-kept None (Some bytes) Is k p = (bytes, p)
of-kept (Some bytes) None Is k p = absurd k
of-kept (Some bytes) (Some others) Is k p = subst Is k p

pub of-map : (known : Option (List ℕ)) (Is Has : List ℕ → Type 0) → ((bytes : List ℕ) → Is bytes → Has bytes) → OfBytes known Is → OfBytes known Has
of-map None Is Has f p = (p.0, f p.0 p.1)
of-map (Some bytes) Is Has f p = f bytes p
