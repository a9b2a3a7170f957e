-- The account of a stream of which only the verdict is asked.
use Rattle.std.proofs.Common.{ℕ, List, [], ◌++◌, Result, Err, subst}
use Rattle.std.proofs.lemmas.List.{append-nil}
use Rattle.h264_base.specs.Call.{Call, span}
use Rattle.h264_base.specs.declared.stop.Stop.{Stop}
use Rattle.h264_base.specs.declared.stop.Stop.TheVariants.{Memory}
use Rattle.h264_verify.specs.Account.{Account}
use Rattle.h264_stream.proofs.Decoded.{accounted}
use Rattle.h264_verify.specs.Feeding.{WasFed, IsFed}
use Rattle.h264_verify.specs.Progress.{Progress}
use Rattle.h264_verify.specs.Telling.{Told, Family, AreDecoded, took_with}
use Rattle.h264_verify.specs.Verdict.{Judged}
use Rattle.h264_base.specs.declared.summary.Summary.{Summary}
use Rattle.h264_verify.specs.declared.state.Terms.{Terms}
use Rattle.h264_verify.proofs.samples.FamiliesByPurpose.{some-family, some-family-for}
use Rattle.h264_verify.proofs.laws.OneVerdict.{none-judged}

pub none-account : (terms : Terms) (bytes : List ℕ) → Account terms bytes (Err Memory)
none-account terms bytes =
    let none : ℕ = 0 in
    let took : Unit {0} → List Call → Type 0 = λ s calls. Unit {0} in
    accounted (none-judged terms took (λ s. none) bytes (some-family terms.purpose) tt (some-family-for terms.purpose)) tt tt

-- the stream stops within its bytes
pub stopped-account : {S : Type 0} {failures : S → ℕ} {terms : Terms} {bytes : List ℕ} {frames : Family} {s s' : S} {answer : Result Summary Stop} →
    ((later : List ℕ) → Judged terms (span (λ (x : S) (calls : List Call). Unit {0}) failures s s') (bytes ++ later) frames [] answer) →
    Account terms bytes answer
stopped-account {terms = terms} {bytes = bytes} {answer = answer} j = subst (λ b. Account terms b answer) (append-nil bytes) (accounted (j []) tt tt)

fed-decoded : {S : Type 0} {failures : S → ℕ} {terms : Terms} {session : Progress} {bytes : List ℕ} {frames : Family} {s s' : S}
    (f : IsFed terms (span (λ (x : S) (calls : List Call). Unit {0}) failures s s') session bytes frames []) → AreDecoded f.made f.more
unfolding took_with
fed-decoded f = (f.tells.told [] (tt, tt)).0

-- and goes on to its end
pub fed-account : {S : Type 0} {failures : S → ℕ} {terms : Terms} {session : Progress} {bytes : List ℕ} {frames : Family} {s s' s'' : S}
    {answer : Result Summary Stop} → IsFed terms (span (λ (x : S) (calls : List Call). Unit {0}) failures s s') session bytes frames [] →
    ((made : Family) (told : List Told) → WasFed terms session bytes made told →
    Judged terms (span (λ (x : S) (calls : List Call). Unit {0}) failures s' s'') bytes made told answer) → Account terms bytes answer
fed-account f j = accounted (j f.made f.more f.fed) (fed-decoded f) tt
