-- What a sink took of a stream that was judged.
use Rattle.std.proofs.Common.{ℕ, List, [], Result, Ok, Err, sym, subst}
use Rattle.std.proofs.lemmas.List.{append-nil}
use Rattle.h264_base.specs.Call.{Call, span}
use Rattle.h264_base.specs.declared.stop.Stop.{Stop}
use Rattle.h264_base.specs.declared.stop.Stop.TheVariants.{No, Outside, Memory, Read, Write}
use Rattle.h264_verify.specs.Account.{IsFront, Answers, Account, calls_in}
use Rattle.h264_verify.specs.Telling.{Told, Tells, took_with, calls_of, AreDecoded, Family, IsFamilyFor}
use Rattle.h264_verify.specs.Verdict.{Verdict, Front, JudgedBy, Judged}
use Rattle.h264_base.specs.declared.summary.Summary.{Summary}
use Rattle.h264_verify.specs.declared.state.Extent.{Extent}
use Rattle.h264_verify.specs.declared.state.Terms.{Terms}
use Rattle.h264_verify.specs.Units.{extent_by}

-- A sink that had taken nothing took this.
pub taken : {S : Type 0} (frames : Family) (took : S → List Call → Type 0) (s s' : S) (more : List Told) → took s [] →
    Tells (took_with frames took) s s' more → AreDecoded frames more × took s' (calls_of frames more)
unfolding took_with
taken frames took s s' more h t = t.told [] (tt, h)

module _ {S : Type 0} (took : S → List Call → Type 0) (failures : S → ℕ) (terms : Terms) (bytes : List ℕ) (s s' : S) where
  module _ (none : took s []) (frames : Family) (family : IsFamilyFor terms.purpose frames) where
    given : (answer : Result Summary Stop) (told : List Told) → Tells (took_with frames took) s s' told → Answers (extent_by terms) bytes told answer →
        (a : Account terms bytes answer) × took s' (calls_in a)
    given answer told t v =
        let k = taken frames took s s' told none t in (record { frames = frames; family = family; told = told; decoded = k.0; answers = v }, k.1)

    front : Front (extent_by terms) (span (took_with frames took) failures s s') bytes [] → (stop : Stop) →
        ((told : List Told) → IsFront (extent_by terms) bytes told → Answers (extent_by terms) bytes told (Err stop)) →
        (a : Account terms bytes (Err stop)) × took s' (calls_in a)
    front f stop is = given (Err stop) f.more f.tells (is f.more (record { rest = f.rest; answer = f.answer; verdict = f.verdict }))

    account : (answer : Result Summary Stop) → JudgedBy (extent_by terms) (span (took_with frames took) failures s s') bytes [] answer →
        (a : Account terms bytes answer) × took s' (calls_in a)
    account (Ok summary) j = given (Ok summary) j.0.more j.0.tells j.0.verdict
    account (Err (No bit rule)) j = given (Err (No bit rule)) j.0.more j.0.tells j.0.verdict
    account (Err (Outside bit feature)) j = given (Err (Outside bit feature)) j.0.more j.0.tells j.0.verdict
    account (Err Memory) j = front j.0 Memory (λ told k. k)
    account (Err Read) j = front j.0 Read (λ told k. k)
    account (Err Write) j = front j.0 Write (λ told k. k)

-- what the sink took
pub accounts : {S : Type 0} {took : S → List Call → Type 0} {failures : S → ℕ} {terms : Terms} {bytes : List ℕ} {frames : Family} {s s' : S}
    {answer : Result Summary Stop} → Judged terms (span took failures s s') bytes frames [] answer → took s [] → (a : Account terms bytes answer) ×
    took s' (calls_in a)
accounts {S} {took} {failures} {terms} {bytes} {frames} {s} {s'} {answer} j none = account took failures terms bytes s s' none j.made j.family answer j.judged

-- what was told up to any answer is the first of the stream's
pub front-of : (extent : Extent) (bytes : List ℕ) (told : List Told) (answer : Result Summary Stop) → Answers extent bytes told answer →
    IsFront extent bytes told
front-of extent bytes told answer a = by answer a
  where
    whole : (answer : Result Summary Stop) → Verdict extent bytes told answer → IsFront extent bytes told
    whole answer v = record { rest = []; answer = answer; verdict = subst (λ l. Verdict extent bytes l answer) (sym (append-nil told)) v }

    by : (answer : Result Summary Stop) → Answers extent bytes told answer → IsFront extent bytes told
    by (Ok summary) v = whole (Ok summary) v
    by (Err (No bit rule)) v = whole (Err (No bit rule)) v
    by (Err (Outside bit feature)) v = whole (Err (Outside bit feature)) v
    by (Err Memory) v = v
    by (Err Read) v = v
    by (Err Write) v = v
