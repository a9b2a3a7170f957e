-- The further rules of a file, and what is told of them.
use Rattle.std.proofs.Common.{◌≡◌, ℕ, Bool, true, false, ◌⊎◌, inl, inr, ⊎_elim, List, [], Option, Some, None, Result, Ok, Err}
use Rattle.std.proofs.Common.{OnOk, refl, sym, ap, ◌∙◌, subst}
use Rattle.std.specs.Io.KnownBytes.{Keeps}
use Rattle.h264_base.specs.Call.{Call, span}
use Rattle.h264_base.specs.declared.mode.Mode.{Mode}
use Rattle.h264_base.specs.declared.mode.Target.{Target}
use Rattle.h264_base.specs.declared.stop.Stop.{Stop}
use Rattle.h264_base.specs.declared.stop.Stop.TheVariants.{No, Outside, Memory, Read, Write}
use Rattle.h264_verify.proofs.laws.AccountTaken.{accounts}
use Rattle.h264_strict.specs.Strict.{TookStrict}
use Rattle.h264_strict.specs.StrictUnits.{TellsOfBytes}
use Rattle.h264_lines.specs.Answer.{told_of}
use Rattle.h264_strict.specs.declared.strict_rule.StrictRule.{StrictRule}
use Rattle.h264_verify.specs.Giving.{AreFirst}
use Rattle.h264_verify.specs.Telling.{Family}
use Rattle.h264_verify.specs.Units.{terms_of}
use Rattle.h264_verify.specs.Verdict.{Judged as JudgedOf}
use Rattle.h264_base.specs.declared.summary.Summary.{Summary}
use Rattle.h264_verify.specs.declared.state.Terms.{Terms}
use Rattle.h264_command.specs.Further.{AreJudged, BreakOne, IsFound, IsNoVerdict, IsToldOf, TellsBroken, Judged, Unjudged}
use Rattle.h264_command.specs.declared.job.Done.{Done}
use Rattle.h264_command.specs.declared.strictly.FurtherRules.{FurtherRules}

-- a judgement with the further rules
pub judged : {S : Type 0} {took : S → List Call → Type 0} {failures : S → ℕ} {frames : Family} {s s' : S} (mode whole : Mode) (target : Target)
    (left : Option (List ℕ))
    (answer : Result Summary Stop) (further : FurtherRules) →
    mode ≡ whole → (bytes : List ℕ) (ended : Bool) → AreFirst left bytes ended → OnOk answer (ended ≡ true) →
    JudgedOf (terms_of mode target) (span took failures s s') bytes frames [] answer → took s [] →
    ((calls : List Call) → took s' calls → TookStrict further.strict calls) →
    TellsOfBytes further.units.extent ended further.units.found further.units.lack bytes → AreJudged (terms_of whole target) left answer further
judged mode whole target left answer further is bytes ended first all j none strict units =
    let a = accounts j none in
    subst (λ m. AreJudged (terms_of m target) left answer further) is
    (record { bytes = bytes; ended = ended; first = first; all = all; account = a.0; calls = strict _ a.1; units = units })

-- what is told of an answer, where a device has failed or not
pub told-as : (failed : Bool) (raw said : Result Summary Stop) → said ≡ told_of failed raw → IsToldOf raw said
told-as true raw said is = inr (inr (inr is))
told-as false (Ok summary) said is = inl is
told-as false (Err (No bit rule)) said is = inl is
told-as false (Err (Outside bit feature)) said is = inl is
told-as false (Err Memory) said is = inl is
told-as false (Err Read) said is = inl is
told-as false (Err Write) said is = inr (inl is)

-- an answer that no write failed is told as it is
pub told-plainly : (answer : Result Summary Stop) → (answer ≡ Err Write → ⊥) → answer ≡ told_of false answer
told-plainly (Ok summary) never = refl
told-plainly (Err (No bit rule)) never = refl
told-plainly (Err (Outside bit feature)) never = refl
told-plainly (Err Memory) never = refl
told-plainly (Err Read) never = refl
told-plainly (Err Write) never = absurd (never refl)

-- what is told in the end, where there may have been no memory for it
pub told-answer : (failed : Bool) (raw said told : Result Summary Stop) → said ≡ told_of failed raw → (told ≡ said) ⊎ (told ≡ Err Memory) → IsToldOf raw told
told-answer failed raw said told is answer = ⊎_elim (λ e. subst (IsToldOf raw) (sym e) (told-as failed raw said is)) (λ short. inr (inl short)) answer

pub no-verdict : (failed : Bool) (said : Result Summary Stop) → said ≡ told_of failed (Err Memory) → IsNoVerdict said
no-verdict true said is = inr (inr is)
no-verdict false said is = inl is

-- what is told of the further rules of a file that was judged
pub broken-told : (found : Option FurtherRules) (is_asked : Bool) (terms : Terms) (left : Option (List ℕ)) (failed : Bool) (raw said : Result Summary Stop)
    (done : Done) → IsFound is_asked terms left raw found →
    said ≡ told_of failed raw → (done.ending.answer ≡ said) ⊎ (done.ending.answer ≡ Err Memory) → (done.is_broken ≡ true → BreakOne found) →
    (done.is_broken ≡ false → BreakOne found → ⊥) →
    TellsBroken is_asked terms left done
broken-told found is_asked terms left failed raw said done h told is broken unbroken =
    Judged raw found (told-answer failed raw said done.ending.answer told is) h broken unbroken

known-kept : (held left : Option (List ℕ)) → Keeps held left → (known : List ℕ) → held ≡ Some known → left ≡ Some known
known-kept None left k known e = absurd (let d = e in cc)
known-kept (Some bytes) None k known e = absurd k
known-kept (Some bytes) (Some others) k known e = ap Some k ∙ e

found-kept : (is_asked : Bool) (terms : Terms) (held left : Option (List ℕ)) (answer : Result Summary Stop) (found : Option FurtherRules) → Keeps held left →
    IsFound is_asked terms left answer found → IsFound is_asked terms held answer found
found-kept false terms held left answer found k h = h
found-kept true terms held left answer found k h =
    let j = h.2 in (
      h.0,
      h.1,
      record {
        bytes = j.bytes;
        ended = j.ended;
        first = λ known e. j.first known (known-kept held left k known e);
        all = j.all;
        account = j.account;
        calls = j.calls;
        units = j.units;
      },
    )

-- what is told of an open file is told of what the file of its name holds
pub broken-kept : (is_asked : Bool) (terms : Terms) (held left : Option (List ℕ)) (done : Done) → Keeps held left → TellsBroken is_asked terms left done →
    TellsBroken is_asked terms held done
broken-kept is_asked terms held left done k (Judged answer found said h told untold) =
    Judged answer found said (found-kept is_asked terms held left answer found k h) told untold
broken-kept is_asked terms held left done k (Unjudged none unbroken) = Unjudged none unbroken

-- it is told so of another ending with the same answer
pub broken-same : {is_asked : Bool} {terms : Terms} {left : Option (List ℕ)} (d d' : Done) → d'.ending.answer ≡ d.ending.answer →
    d'.is_broken ≡ d.is_broken → TellsBroken is_asked terms left d → TellsBroken is_asked terms left d'
broken-same d d' same broken (Judged answer found told is one never) =
    Judged answer found (subst (IsToldOf answer) (sym same) told) is (λ e. one (sym broken ∙ e)) (λ e. never (sym broken ∙ e))
broken-same d d' same broken (Unjudged none e) = Unjudged (subst IsNoVerdict (sym same) none) (broken ∙ e)
