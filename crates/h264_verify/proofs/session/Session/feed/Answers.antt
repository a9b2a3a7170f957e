use Rattle.std.proofs.Common.{Result, Ok, Err, OnOk, IfErr, List, ℕ, ◌++◌}
use Rattle.h264_base.specs.Call.{Call, SinkSpan}
use Rattle.h264_base.specs.declared.stop.Stop.{Stop}
use Rattle.h264_verify.specs.declared.state.Terms.{Terms}
use Rattle.h264_verify.specs.Telling.{Told, Family}
use Rattle.h264_verify.specs.Progress.{Progress}
use Rattle.h264_verify.specs.Verdict.{Judged}
use Rattle.h264_verify.specs.Feeding.{WasFed, IsFed, GoesOn, ComesTo}
use Rattle.h264_verify.proofs.session.SessionSteps.{goes-fed, comes-judged}
use Rattle.h264_verify.proofs.session.Session.feed.Goals as goal

module _ {S : Type 0} (w : SinkSpan S Call) {terms : Terms} {old : Progress} {bytes : List ℕ} {frames : Family} {told : List Told} (piece : List ℕ)
    (f : WasFed terms old bytes frames told) where
  if-fed : (new : Progress) (r : Result (Unit {0}) Stop) → OnOk r (GoesOn f w new piece) → OnOk r (IsFed terms w new (bytes ++ piece) frames told)
  if-fed new (Ok x) g = goes-fed f g
  if-fed new (Err stop) g = tt

  if-judged : (r : Result (Unit {0}) Stop) → IfErr r (λ stop. (later : List ℕ) → ComesTo f w ((bytes ++ piece) ++ later) (Err stop)) →
      IfErr r (λ stop. (later : List ℕ) → Judged terms w ((bytes ++ piece) ++ later) frames told (Err stop))
  if-judged (Ok x) h = tt
  if-judged (Err stop) h = λ later. comes-judged f (h later)

pub returns-in-None-clause-fed : goal.returns-in-None-clause-fed
returns-in-None-clause-fed g c = λ terms bytes frames told f. if-fed _ _ f _ _ (c.advance.ensures.goes terms bytes frames told f)

pub returns-in-None-clause-stops : goal.returns-in-None-clause-stops
returns-in-None-clause-stops g c = λ terms bytes frames told f. if-judged _ _ f _ (c.advance.ensures.stops terms bytes frames told f)
