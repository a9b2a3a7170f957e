-- What a sink of frames took of a stream, from one piece of it to the next.
use Rattle.std.proofs.Common.{◌≡◌, ℕ, ◌+◌, false, List, [], ◌∷◌, ◌++◌, Option, None, Some, Result, Ok, Err, refl, sym, ap, ◌∙◌, subst}
use Rattle.std.specs.Prelude.{IfNone, IfSome}
use Rattle.h264_base.specs.Call.{Call, span}
use Rattle.h264_base.specs.declared.stop.Stop.{Stop}
use Rattle.h264_base.specs.declared.stop.Stop.TheVariants.{No, Outside, Memory, Read, Write}
use Rattle.h264_stream.specs.Decoding.{IsDecoding, HasDecoded, HasGrown}
use Rattle.h264_stream.specs.Queue.{Waits, IsFilled, frames_of, told_of_frames}
use Rattle.h264_verify.specs.Account.{Answers, Account, calls_in}
use Rattle.h264_lines.specs.Answer.{told_of}
use Rattle.h264_stream.specs.declared.queue.ShownFrame.{ShownFrame}
use Rattle.h264_stream.proofs.Queued.{waits-begun, waits-taken, waits-filled}
use Rattle.h264_verify.proofs.samples.FamiliesAgree.{calls-both, decoded-both}
use Rattle.h264_verify.specs.Feeding.{WasFed, IsFed}
use Rattle.h264_verify.specs.Progress.{Progress}
use Rattle.h264_verify.specs.Telling.{Told, Tells, Family, IsFamilyFor, took_with, calls_of, AreDecoded}
use Rattle.h264_verify.specs.Verdict.{Judged, JudgedBy}
use Rattle.h264_base.specs.declared.summary.Summary.{Summary}
use Rattle.h264_verify.specs.declared.state.Terms.{Terms}
use Rattle.h264_verify.specs.Units.{extent_by}
use Rattle.h264_verify.proofs.laws.AccountTaken.{taken}
use Rattle.h264_verify.proofs.samples.FamiliesByPurpose.{some-family, with-family}

-- A sink that had taken nothing took some more of a stream.
record Took {S : Type 0} (took : S → List Call → Type 0) (frames : Family) (s' : S) (more : List Told) : Type 0 where
  pub decoded : AreDecoded frames more
  pub calls : took s' (calls_of frames more)

-- ---- and of a stream whose verdict has fallen

record Answered {S : Type 0} (took : S → List Call → Type 0) (terms : Terms) (bytes : List ℕ) (frames : Family) (told : List Told) (s' : S)
    (answer : Result Summary Stop) : Type 0 where
  pub more : List Told
  pub took_more : Took took frames s' more
  pub answers : Answers (extent_by terms) bytes (told ++ more) answer

module _ {S : Type 0} (took : S → List Call → Type 0) (failures : S → ℕ) (terms : Terms) (bytes : List ℕ) (frames : Family) (told : List Told) (s s' : S)
    (none : took s []) where
  tells-took : (more : List Told) → Tells (took_with frames took) s s' more → Took took frames s' more
  tells-took more t = let a = taken frames took s s' more none t in record { decoded = a.0; calls = a.1 }

  judged-answered : (answer : Result Summary Stop) → JudgedBy (extent_by terms) (span (took_with frames took) failures s s') bytes told answer →
      Answered took terms bytes frames told s' answer
  judged-answered (Ok summary) j = record { more = j.0.more; took_more = tells-took j.0.more j.0.tells; answers = j.0.verdict }
  judged-answered (Err (No bit rule)) j = record { more = j.0.more; took_more = tells-took j.0.more j.0.tells; answers = j.0.verdict }
  judged-answered (Err (Outside bit feature)) j = record { more = j.0.more; took_more = tells-took j.0.more j.0.tells; answers = j.0.verdict }
  judged-answered (Err Memory) j = record {
    more = j.0.more;
    took_more = tells-took j.0.more j.0.tells;
    answers = record { rest = j.0.rest; answer = j.0.answer; verdict = j.0.verdict };
  }
  judged-answered (Err Read) j = record {
    more = j.0.more;
    took_more = tells-took j.0.more j.0.tells;
    answers = record { rest = j.0.rest; answer = j.0.answer; verdict = j.0.verdict };
  }
  judged-answered (Err Write) j = record {
    more = j.0.more;
    took_more = tells-took j.0.more j.0.tells;
    answers = record { rest = j.0.rest; answer = j.0.answer; verdict = j.0.verdict };
  }

-- the account of what was told before and of what was told then
pub accounted : {S : Type 0} {took : S → List Call → Type 0} {failures : S → ℕ} {terms : Terms} {bytes : List ℕ} {frames : Family} {told : List Told}
    {s s' : S} {answer : Result Summary Stop} → Judged terms (span took failures s s') bytes frames told answer → AreDecoded frames told → took s [] →
    Account terms bytes answer
accounted {S} {took} {failures} {terms} {bytes} {frames} {told} {s} {s'} {answer} j d none =
    let a = judged-answered took failures terms bytes j.made told s s' none answer j.judged in
    record {
      frames = j.made;
      family = j.family;
      told = told ++ a.more;
      decoded = decoded-both j.made told a.more (j.same.decoded d) a.took_more.decoded;
      answers = a.answers;
    }

-- ---- the answer that is told, where no device can fail

abbrev stop_in : Result Summary Stop → Stop
stop_in (Ok summary) = Memory
stop_in (Err stop) = stop

pub same-stop : {stop other : Stop} → (let x : Result Summary Stop = Err stop in let y : Result Summary Stop = Err other in x ≡ y) → stop ≡ other
same-stop e = ap stop_in e

pub told-account : {terms : Terms} {bytes : List ℕ} (answer : Result Summary Stop) → Account terms bytes answer → Account terms bytes (told_of false answer)
told-account (Ok summary) a = a
told-account (Err (No bit rule)) a = a
told-account (Err (Outside bit feature)) a = a
told-account (Err Memory) a = a
told-account (Err Read) a = a
told-account (Err Write) a = record { frames = a.frames; family = a.family; told = a.told; decoded = a.decoded; answers = a.answers }

pub never-read : (answer : Result Summary Stop) → (answer ≡ Err Read → ⊥) → told_of false answer ≡ Err Read → ⊥
never-read (Ok summary) never e = cc
never-read (Err (No bit rule)) never e = let f = same-stop e in cc
never-read (Err (Outside bit feature)) never e = let f = same-stop e in cc
never-read (Err Memory) never e = let f = same-stop e in cc
never-read (Err Read) never e = never refl
never-read (Err Write) never e = let f = same-stop e in cc

pub never-write : (answer : Result Summary Stop) → told_of false answer ≡ Err Write → ⊥
never-write (Ok summary) e = cc
never-write (Err (No bit rule)) e = let f = same-stop e in cc
never-write (Err (Outside bit feature)) e = let f = same-stop e in cc
never-write (Err Memory) e = let f = same-stop e in cc
never-write (Err Read) e = let f = same-stop e in cc
never-write (Err Write) e = let f = same-stop e in cc

-- ---- with a queue

-- what waits of what was told with these frames, and of what was told then
waits-then : {n m : ℕ} {waiting later : List ShownFrame} (frames made : Family) (told more : List Told) → calls_of made told ≡ calls_of frames told →
    Waits n waiting (calls_of frames told) → IsFilled n (told_of_frames waiting) m later (calls_of made more) → Waits m later (calls_of made (told ++ more))
waits-then {n} {m} {waiting} {later} frames made told more same w f =
    subst (Waits m later) (sym (calls-both made told more))
    (waits-filled (calls_of made told) (calls_of made more) (subst (Waits n waiting) (sym same) w) f)

answered-told : {terms : Terms} {bytes : List ℕ} {n : ℕ} {waiting : List ShownFrame} (answer : Result Summary Stop) → (answer ≡ Err Read → ⊥) →
    (a : Account terms bytes answer) → Waits n waiting (calls_in a) → HasDecoded terms bytes (told_of false answer) n waiting
answered-told (Ok summary) never a w = record { account = a; waits = w; no_read = never-read (Ok summary) never; no_write = never-write (Ok summary) }
answered-told (Err (No bit rule)) never a w =
    record { account = a; waits = w; no_read = never-read (Err (No bit rule)) never; no_write = never-write (Err (No bit rule)) }
answered-told (Err (Outside bit feature)) never a w =
    record { account = a; waits = w; no_read = never-read (Err (Outside bit feature)) never; no_write = never-write (Err (Outside bit feature)) }
answered-told (Err Memory) never a w = record { account = a; waits = w; no_read = never-read (Err Memory) never; no_write = never-write (Err Memory) }
answered-told (Err Read) never a w = absurd (never refl)
answered-told (Err Write) never a w = record {
  account = record { frames = a.frames; family = a.family; told = a.told; decoded = a.decoded; answers = a.answers };
  waits = w;
  no_read = never-read (Err Write) never;
  no_write = never-write (Err Write);
}

-- A sink fills a queue, in which these waited and from which so many were handed out.
module _ {S : Type 0} (out : S → ℕ) (items : S → List ShownFrame) (n : ℕ) (waiting : List ShownFrame) (k : ℕ) (before : List Call) (same_out : n ≡ k)
    (same : told_of_frames waiting ≡ before) where
  abbrev filled : S → List Call → Type 0
  filled s calls = IsFilled k before (out s) (items s) calls

  filled-there : {s : S} {calls : List Call} → filled s calls → IsFilled n (told_of_frames waiting) (out s) (items s) calls
  filled-there {s} {calls} f = record { none_out = f.none_out ∙ sym same_out; added = f.added ∙ ap (λ l. l ++ frames_of calls) (sym same) }

  module _ {failures : S → ℕ} {terms : Terms} {bytes : List ℕ} {session : Progress} (d : IsDecoding terms session bytes n waiting) {s s' : S}
      (begun : filled s []) where
    -- the verdict has fallen
    pub falls : {whole : List ℕ} (answer said : Result Summary Stop) → said ≡ told_of false answer → (answer ≡ Err Read → ⊥) →
        Judged terms (span filled failures s s') whole d.frames d.told answer → HasDecoded terms whole said (out s') (items s')
    falls {whole} answer said is never j =
        let a = judged-answered filled failures terms whole j.made d.told s s' begun answer j.judged in
        let account : Account terms whole answer =
        record {
          frames = j.made;
          family = j.family;
          told = d.told ++ a.more;
          decoded = decoded-both j.made d.told a.more (j.same.decoded d.decoded) a.took_more.decoded;
          answers = a.answers;
        } in
        subst (λ x. HasDecoded terms whole x (out s') (items s')) (sym is)
        (answered-told answer never account (waits-then d.frames j.made d.told a.more j.same.calls d.waits (filled-there {s = s'} a.took_more.calls)))

    pub falls-grown : {whole : List ℕ} (answer : Result Summary Stop) → Judged terms (span filled failures s s') whole d.frames d.told answer →
        HasGrown n waiting (out s') (items s')
    falls-grown {whole} answer j =
        let a = judged-answered filled failures terms whole j.made d.told s s' begun answer j.judged in
        record { calls = calls_of j.made a.more; filled = filled-there {s = s'} a.took_more.calls }

    -- the stream goes on
    pub goes : {whole : List ℕ} {later : Progress} → IsFed terms (span filled failures s s') later whole d.frames d.told →
        IsDecoding terms later whole (out s') (items s')
    goes f =
        let t = taken f.made filled s s' f.more begun f.tells in
        record {
          frames = f.made;
          told = d.told ++ f.more;
          fed = f.fed;
          decoded = decoded-both f.made d.told f.more (f.same.decoded d.decoded) t.0;
          waits = waits-then d.frames f.made d.told f.more f.same.calls d.waits (filled-there {s = s'} t.1);
        }

    pub goes-grown : {whole : List ℕ} {later : Progress} → IsFed terms (span filled failures s s') later whole d.frames d.told →
        HasGrown n waiting (out s') (items s')
    goes-grown f =
        let t = taken f.made filled s s' f.more begun f.tells in record { calls = calls_of f.made f.more; filled = filled-there {s = s'} t.1 }

-- before the first byte
pub begins : {terms : Terms} {session : Progress} {n : ℕ} {waiting : List ShownFrame} →
    ((frames : Family) → IsFamilyFor terms.purpose frames → WasFed terms session [] frames []) → n ≡ 0 →
    waiting ≡ [] → IsDecoding terms session [] n waiting
begins {terms} fed none empty = record {
  frames = some-family terms.purpose;
  told = [];
  fed = with-family terms.purpose fed;
  decoded = tt;
  waits = waits-begun none empty;
}

-- a frame is handed out, or none
pub waits-after : {n m : ℕ} {waiting later : List ShownFrame} (calls : List Call) (r : Option ShownFrame) → IfSome r (λ f. waiting ≡ f ∷ later) →
    IfSome r (λ f. m ≡ n + 1) → IfNone r ((later ≡ waiting) × (m ≡ n)) → Waits n waiting calls → Waits m later calls
waits-after calls (Some f) first counted kept h = waits-taken calls f first counted h
waits-after calls None first counted kept h =
    record { out = h.out; counted = h.counted ∙ sym kept.1; whole = h.whole ∙ ap (λ l. h.out ++ told_of_frames l) (sym kept.0) }
