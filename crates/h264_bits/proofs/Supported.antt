-- A test of a feature is a step of a grammar.
use Rattle.std.proofs.Common.{◌≡◌, ℕ, Bool, true, false, List, Result, Ok, Err, refl, sym, subst}
use Rattle.h264_base.specs.declared.stop.Feature.{Feature}
use Rattle.h264_base.specs.declared.stop.Stop.{Stop}
use Rattle.h264_base.specs.Call.{Call, span}
use Rattle.h264_base.specs.Grammar.{Support, Done, support}
use Rattle.h264_base.specs.Run.{run}
use Rattle.h264_base.specs.Meets.{Reader, MeetsBy, Meets, Is}
use Rattle.h264_base.proofs.Steps.{tells-none}
use Rattle.h264_bits.specs.Supports.{SupportsBy, Supports}

support_met : {S : Type 0} (took : S → List Call → Type 0) (failures : S → ℕ) (feature : Feature) (bit : ℕ) (holds : Bool) (old : Reader) (s : S)
    (r : Result (Unit {0}) Stop) → SupportsBy feature bit holds r →
    MeetsBy (span took failures s s) (Is (λ (u : Unit {0}). u)) (support feature bit holds) (record { body = old.body; at = old.at }) old.at r
unfolding support run
support_met took failures feature bit true old s (Ok u) c = (tt, refl, refl, tells-none took s, refl)
support_met took failures feature bit false old s (Ok u) c = absurd (cc)
support_met took failures feature bit true old s (Err e) c = absurd (let f : true ≡ false = c.0 in cc)
support_met took failures feature bit false old s (Err e) c = let P : Stop →
    Type 0 = λ e. MeetsBy (span took failures s s) (Is (λ (u : Unit {0}). u)) (Support feature bit false (Done tt)) (record { body = old.body; at = old.at })
    old.at (Err e) in subst P (sym c.1) (refl, tells-none took s, refl)

-- a test that was made
pub supported : {S : Type 0} (took : S → List Call → Type 0) (failures : S → ℕ) {feature : Feature} {bit : ℕ} {holds : Bool} (old : Reader) (s : S)
    {r : Result (Unit {0}) Stop} → Supports feature bit holds r →
    Meets (span took failures s s) (Is (λ (u : Unit {0}). u)) (support feature bit holds) old old r
supported took failures {feature} {bit} {holds} old s {r} c = record { meets = support_met took failures feature bit holds old s r c.supports; same = refl }
