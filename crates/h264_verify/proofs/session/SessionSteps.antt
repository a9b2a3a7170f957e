-- A session, one step after another.
use Rattle.std.proofs.Common.{◌≡◌, ℕ, ◌+◌, ◌≤◌, ◌↔◌, ◌⊎◌, inl, inr, Bool, true, false, IsFalse, List, [], ◌++◌}
use Rattle.std.proofs.Common.{Option, None, Result, Ok, Err, refl, ap, sym, ◌∙◌, subst, arith, append_assoc}
use Rattle.std.proofs.lemmas.List.{append-nil}
use Rattle.h264_base.specs.declared.stop.Stop.{Stop}
use Rattle.h264_base.specs.declared.stop.Stop.TheVariants.{No, Outside, Memory, Read, Write}
use Rattle.h264_base.specs.declared.summary.Summary.{Summary}
use Rattle.h264_base.specs.Call.{Call, span}
use Rattle.h264_units.specs.Stream.{NalUnit, IsUndecided}
use Rattle.h264_units.specs.Splitting.{Splitting, Pushed, Taken}
use Rattle.h264_verify.specs.declared.state.Extent.{Extent}
use Rattle.h264_verify.specs.declared.state.State.{State}
use Rattle.h264_verify.specs.declared.state.Terms.{Terms}
use Rattle.h264_verify.specs.Keeping.{ended_in}
use Rattle.h264_verify.specs.KeepingUnits.{KeepsSome}
use Rattle.h264_verify.specs.Telling.{Told, Tells, Family, IsFamilyFor, took_with, Agree, AreOf}
use Rattle.h264_verify.specs.Units.{extent_by}
use Rattle.h264_verify.specs.Verdict.{in_order, AreLegal, Verdict, Whole, Front, WantsAt, Wanting, JudgedBy, Judged, SameTold}
use Rattle.h264_verify.specs.Progress.{Progress, going, IsFresh}
use Rattle.h264_verify.specs.Feeding.{ShowsUnits, WasFed, WasFedSome, IsReady, IsSession, IsFed, GoesOn, ComesTo}
use Rattle.h264_verify.proofs.laws.AfterLegal.{Joined}
use Rattle.h264_verify.proofs.laws.ToldInOrder.{unit-grows}
use Rattle.h264_verify.specs.History.{History}
use Rattle.h264_verify.proofs.samples.FamiliesAgree.{agree-none, agree-less, agree-then, of-last, calls-agree, decoded-told-agree, tells-agree}
use Rattle.h264_verify.proofs.samples.FamiliesByPurpose.{family-on}
use Rattle.h264_verify.proofs.language.ToldTogether.{tells-none, tells-both}

-- ---- what was fed

-- the same bytes, and the same told
unfoldable pub fed-as : {terms : Terms} {session : Progress} {bytes bytes' : List ℕ} {frames : Family} {told told' : List Told} → bytes ≡ bytes' →
    told ≡ told' → WasFed terms session bytes frames told → WasFed terms session bytes' frames told'
fed-as {terms} {session} e d f = record {
  terms_is = f.terms_is;
  family = f.family;
  runs = f.runs;
  before = f.before;
  keeps = f.keeps;
  shown = subst (λ l. ShowsUnits 0 l (in_order f.before []) session.split.at session.split.rest) e f.shown;
  undecided = f.undecided;
  legal = subst (AreLegal (extent_by terms) f.before) d f.legal;
  of = subst (AreOf (ended_in f.before)) d f.of;
}

pub fed-first : (terms : Terms) (session : Progress) (frames : Family) → IsFresh terms session → IsFamilyFor terms.purpose frames →
    WasFed terms session [] frames []
fed-first terms session frames f h = record {
  terms_is = f.terms_is;
  family = h;
  runs = f.stop;
  before = [];
  keeps = f.keeps frames (subst (λ (t : Terms). IsFamilyFor t.purpose frames) (sym f.terms_is) h);
  shown = subst (λ (split : Splitting). ShowsUnits 0 [] [] split.at split.rest) (sym f.split) (refl, refl);
  undecided = subst (λ (split : Splitting). IsUndecided split.rest) (sym f.split) (inl (0, refl));
  legal = refl;
  of = tt;
}

-- there are units and frames of which is kept what a session keeps
pub fed-keeps : {terms : Terms} {split : Splitting} {state : State} → WasFedSome terms (going terms split state) → KeepsSome terms.depth false state
fed-keeps s = record { frames = s.frames; before = s.fed.before; keeps = s.fed.keeps }

-- a session that has not stopped, by its parts
pub as-going : (p : Progress) → p.stop ≡ None → p ≡ going p.terms p.split p.state
as-going p e = ap (λ (s : Option Stop). let q : Progress = record { terms = p.terms; split = p.split; state = p.state; stop = s } in q) e

pub not-less : (n : ℕ) → n ≤ n
not-less n = omega arith

less-both : (a b c : ℕ) → a ≤ b → b ≤ c → a ≤ c
less-both a b c h k = omega (arith, h, k)

pub agree-both : (n m : ℕ) (f g h : Family) → Agree n f g → n ≤ m → Agree m g h → Agree n f h
agree-both n m f g h a l b = agree-then n f g h a (agree-less n m g h l b)

-- two families with the same first frames tell the same of the first pictures
told-agree : (n : ℕ) (frames others : Family) (told : List Told) → Agree n frames others → AreOf n told → SameTold frames others told
told-agree n frames others told a h = record {
  calls = sym (calls-agree n frames others told a h);
  decoded = decoded-told-agree n frames others told a h;
}

-- no fewer pictures have ended after a unit that joined, and what it told is of those
pub grows-after : (extent : Extent) (before : History) (unit : NalUnit) (calls : List Told) (after : History) → Joined extent before unit calls after →
    (ended_in before ≤ ended_in after) × AreOf (ended_in after) calls
grows-after extent before unit calls after j =
    subst (λ (h : History). (ended_in before ≤ ended_in h) × AreOf (ended_in h) calls) (sym j.after_is)
    (unit-grows extent before (record { unit = unit; content = j.content }) calls j.legal)

-- ---- an answer after some calls

module _ {S : Type 0} (extent : Extent) (took : S → List Told → Type 0) (failures : S → ℕ) (bytes : List ℕ) (told more : List Told) (s0 s1 s2 : S)
    (t : Tells took s0 s1 more) where
  whole-after : (answer : Result Summary Stop) → Whole extent (span took failures s1 s2) bytes (told ++ more) answer →
      Whole extent (span took failures s0 s2) bytes told answer
  whole-after answer w = record {
    more = more ++ w.more;
    tells = tells-both t w.tells;
    verdict = subst (λ l. Verdict extent bytes l answer) (append_assoc told more w.more) w.verdict;
  }

  front-after : Front extent (span took failures s1 s2) bytes (told ++ more) → Front extent (span took failures s0 s2) bytes told
  front-after f = record {
    more = more ++ f.more;
    tells = tells-both t f.tells;
    rest = f.rest;
    answer = f.answer;
    verdict = subst (λ l. Verdict extent bytes (l ++ f.rest) f.answer) (append_assoc told more f.more) f.verdict;
  }

  wanting-after : Wanting extent (span took failures s1 s2) bytes (told ++ more) → Wanting extent (span took failures s0 s2) bytes told
  wanting-after w = record {
    more = more ++ w.more;
    tells = tells-both t w.tells;
    wants = subst (WantsAt extent bytes) (append_assoc told more w.more) w.wants;
  }

  pub judged-after : (r : Result Summary Stop) → failures s1 ≡ failures s0 → JudgedBy extent (span took failures s1 s2) bytes (told ++ more) r →
      JudgedBy extent (span took failures s0 s2) bytes told r
  judged-after (Ok x) k j = (whole-after (Ok x) j.0, j.1 ∙ k)
  judged-after (Err (No bit rule)) k j = (whole-after (Err (No bit rule)) j.0, j.1 ∙ k)
  judged-after (Err (Outside bit feature)) k j = (whole-after (Err (Outside bit feature)) j.0, j.1 ∙ k)
  judged-after (Err Memory) k j = (front-after j.0, j.1 ∙ k, wanting-after j.2)
  judged-after (Err Read) k j = (front-after j.0, j.1 ∙ k)
  judged-after (Err Write) k j = (front-after j.0, j.1 ∙ ap (λ n. n + 1) k)

-- Where a sink failed, that is the answer.
pub judged-told : {S : Type 0} (extent : Extent) (took : S → List Told → Type 0) (failures : S → ℕ) (bytes : List ℕ) (told : List Told) (s s' : S)
    (r : Result Summary Stop) → JudgedBy extent (span took failures s s') bytes told r → (failures s' ≡ failures s) ⊎ (r ≡ Err Write)
judged-told extent took failures bytes told s s' (Ok x) j = inl j.1
judged-told extent took failures bytes told s s' (Err (No bit rule)) j = inl j.1
judged-told extent took failures bytes told s s' (Err (Outside bit feature)) j = inl j.1
judged-told extent took failures bytes told s s' (Err Memory) j = inl j.1
judged-told extent took failures bytes told s s' (Err Read) j = inl j.1
judged-told extent took failures bytes told s s' (Err Write) j = inr refl

pub judged-write : {S : Type 0} (extent : Extent) (took : S → List Told → Type 0) (failures : S → ℕ) (bytes : List ℕ) (told : List Told) (s s' : S)
    (r : Result Summary Stop) → r ≡ Err Write → JudgedBy extent (span took failures s s') bytes told r → failures s' ≡ failures s + 1
judged-write extent took failures bytes told s s' r e j = let w = subst (JudgedBy extent (span took failures s s') bytes told) e j in w.1

-- ---- one step after another

module _ {S : Type 0} {took : S → List Call → Type 0} {failures : S → ℕ} {terms : Terms} {old : Progress} {bytes : List ℕ} {frames : Family} {told : List Told}
    (f : WasFed terms old bytes frames told) where
  -- no step yet
  pub goes-none : (s : S) → GoesOn f (span took failures s s) old []
  unfolding fed-as
  goes-none s = record {
    made = frames;
    same = agree-none (ended_in f.before) frames;
    more = [];
    tells = tells-none (took_with frames took) s;
    fed = fed-as (sym (append-nil bytes)) (sym (append-nil told)) f;
    grows = not-less (ended_in f.before);
    kept = refl;
  }

  -- as what a call answers
  pub goes-fed : {new : Progress} {piece : List ℕ} {s s' : S} → GoesOn f (span took failures s s') new piece →
      IsFed terms (span took failures s s') new (bytes ++ piece) frames told
  goes-fed g = record {
    made = g.made;
    same = told-agree (ended_in f.before) frames g.made told g.same f.of;
    more = g.more;
    tells = g.tells;
    fed = g.fed;
    kept = g.kept;
  }

  pub comes-judged : {whole : List ℕ} {answer : Result Summary Stop} {s s' : S} → ComesTo f (span took failures s s') whole answer →
      Judged terms (span took failures s s') whole frames told answer
  comes-judged c = record {
    made = c.made;
    family = family-on terms.purpose (ended_in f.before) frames c.made c.same f.family;
    same = told-agree (ended_in f.before) frames c.made told c.same f.of;
    judged = c.judged;
  }

  pub comes-as : {whole whole' : List ℕ} {answer : Result Summary Stop} {s s' : S} → whole ≡ whole' → ComesTo f (span took failures s s') whole answer →
      ComesTo f (span took failures s s') whole' answer
  comes-as {answer} {s} {s'} e c = subst (λ l. ComesTo f (span took failures s s') l answer) e c

  module _ {mid : Progress} {p : List ℕ} {s0 s1 : S} (a : GoesOn f (span took failures s0 s1) mid p) where
    -- what was told with the frames of then is told with more
    then-told : (made : Family) → Agree (ended_in a.fed.before) a.made made → Tells (took_with made took) s0 s1 a.more
    then-told made same = tells-agree took (ended_in a.fed.before) a.made made s0 s1 a.more same
        (of-last (ended_in a.fed.before) told a.more a.fed.of) a.tells

    pub goes-both : {new : Progress} {q : List ℕ} {s2 : S} → GoesOn a.fed (span took failures s1 s2) new q → GoesOn f (span took failures s0 s2) new (p ++ q)
    unfolding fed-as
    goes-both {q} b = record {
      made = b.made;
      same = agree-both (ended_in f.before) (ended_in a.fed.before) frames a.made b.made a.same a.grows b.same;
      more = a.more ++ b.more;
      tells = tells-both (then-told b.made b.same) b.tells;
      fed = fed-as (append_assoc bytes p q) (append_assoc told a.more b.more) b.fed;
      grows = less-both (ended_in f.before) (ended_in a.fed.before) (ended_in b.fed.before) a.grows b.grows;
      kept = b.kept ∙ a.kept;
    }

    pub comes-after : {whole : List ℕ} {answer : Result Summary Stop} {s2 : S} → ComesTo a.fed (span took failures s1 s2) whole answer →
        ComesTo f (span took failures s0 s2) whole answer
    comes-after {whole} {answer} {s2} b = record {
      made = b.made;
      same = agree-both (ended_in f.before) (ended_in a.fed.before) frames a.made b.made a.same a.grows b.same;
      judged = judged-after (extent_by terms) (took_with b.made took) failures whole told a.more s0 s1 s2 (then-told b.made b.same) answer a.kept b.judged;
    }

-- ---- a session by its parts, as they are seen

as-seen : (old seen : Progress) → seen ≡ old → old.stop ≡ None → going seen.terms seen.split seen.state ≡ old
as-seen old seen same runs = sym (as-going seen (ap (λ (p : Progress). p.stop) same ∙ runs)) ∙ same

module _ {S : Type 0} {took : S → List Call → Type 0} {failures : S → ℕ} {s s' : S} (old seen : Progress) (same : seen ≡ old) (runs : old.stop ≡ None) where
  pub goes-any : (new : Progress) (piece : List ℕ) → new.stop ≡ None → new.terms ≡ seen.terms →
      ((bytes : List ℕ) (frames : Family) (told : List Told) (f : WasFed seen.terms (going seen.terms seen.split seen.state) bytes frames told) →
      GoesOn f (span took failures s s') (going seen.terms new.split new.state) piece) →
      (terms : Terms) (bytes : List ℕ) (frames : Family) (told : List Told) (f : WasFed terms old bytes frames told) →
      GoesOn f (span took failures s s') new piece
  goes-any new piece none m h terms bytes frames told f =
      subst (λ t. (w : WasFed t old bytes frames told) → GoesOn w (span took failures s s') new piece) f.terms_is
      (subst (λ (p : Progress). (w : WasFed p.terms p bytes frames told) → GoesOn w (span took failures s s') new piece) (as-seen old seen same runs)
      (subst (λ n. (w : WasFed seen.terms (going seen.terms seen.split seen.state) bytes frames told) → GoesOn w (span took failures s s') n piece)
      (sym (as-going new none ∙ ap (λ t. going t new.split new.state) m)) (h bytes frames told))) f

  pub comes-any : (whole : List ℕ → List ℕ) (answer : Result Summary Stop) →
      ((bytes : List ℕ) (frames : Family) (told : List Told) (f : WasFed seen.terms (going seen.terms seen.split seen.state) bytes frames told) →
      ComesTo f (span took failures s s') (whole bytes) answer) →
      (terms : Terms) (bytes : List ℕ) (frames : Family) (told : List Told) (f : WasFed terms old bytes frames told) →
      ComesTo f (span took failures s s') (whole bytes) answer
  comes-any whole answer h terms bytes frames told f =
      subst (λ t. (w : WasFed t old bytes frames told) → ComesTo w (span took failures s s') (whole bytes) answer) f.terms_is
      (subst (λ (p : Progress). (w : WasFed p.terms p bytes frames told) → ComesTo w (span took failures s s') (whole bytes) answer)
      (as-seen old seen same runs)
      (h bytes frames told)) f

-- ---- between two calls

-- It was fed some bytes, with those of a step.
pub went-on : {S : Type 0} {took : S → List Call → Type 0} {failures : S → ℕ} {terms : Terms} {old new : Progress} {piece : List ℕ} {s s' : S}
    (some : WasFedSome terms old) → GoesOn some.fed (span took failures s s') new piece → WasFedSome terms new
went-on {piece} some g = record { bytes = some.bytes ++ piece; frames = g.made; told = some.told ++ g.more; fed = g.fed }

module _ {terms : Terms} {split mid new : Splitting} {state : State} {piece : List ℕ} {n : ℕ} (pushed : Pushed split mid piece n)
    (ready : IsReady terms split state) where
  pub ready-push : new ≡ mid → IsFalse mid.waiting → WasFedSome terms (going terms new state) → IsReady terms new state
  ready-push e w fed = (
    (
      ap (λ (m : Splitting). m.stop) e ∙ pushed.stop_is,
      ap (λ (m : Splitting). m.waiting) e ∙ w,
      ap (λ (m : Splitting). m.ended) e ∙ pushed.ended_is ∙ ready.0.2,
    ),
    (let a = ap (λ (m : Splitting). m.at) e ∙ pushed.at_is in omega (arith, a, ready.1)),
    ready.2,
    fed,
  )

  pub ready-unit : {unit : NalUnit} {later : State} → Taken mid new unit → later.units ≡ state.units + 1 → later.slices.pictures ≤ later.units →
      WasFedSome terms (going terms new later) → IsReady terms new later
  ready-unit {unit} {later} taken units pictures fed = (
    (taken.stop_is, taken.waits_no_more, taken.ended_is ∙ pushed.ended_is ∙ ready.0.2),
    (let a = taken.at_is in let b = taken.next.first.from in let c = pushed.at_is in omega (arith, a, b, c, units, ready.1)),
    pictures,
    fed,
  )

-- a session that has not stopped
pub ready-of : (terms : Terms) (stop : Option Stop) (split : Splitting) (state : State) → stop ≡ None → IsSession terms stop split state →
    IsReady terms split state
ready-of terms stop split state e k = subst (λ s. IsSession terms s split state) e k

pub session-of : (terms : Terms) (stop : Option Stop) (split : Splitting) (state : State) → stop ≡ None → IsReady terms split state →
    IsSession terms stop split state
session-of terms stop split state e k = subst (λ s. IsSession terms s split state) (sym e) k

pub not-waiting : (b : Bool) → ((false ≡ true) ↔ (b ≡ true)) → b ≡ false
not-waiting true h = let e : false ≡ true = h.1 refl in cc
not-waiting false h = refl
