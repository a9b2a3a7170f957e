use Rattle.std.proofs.Common.{arith, ◌≡◌, ◌∙◌, ap, sym, subst, refl, ◌++◌, ◌∷◌, [], ◌+◌, length, vec_len, replicate, List, ℕ}
use Rattle.h264_units.specs.Stream.{NalUnit}
use Rattle.h264_units.specs.Scanned.{third, IsKept, IsLive}
use Rattle.h264_units.proofs.Taking.{splitting, taken-along, taken-waiting, taken-last}
use Rattle.h264_units.proofs.splitter.Splitter.take_unit.Goals as goal
use Rattle.h264_units.proofs.splitter.Splitter.take_unit.Goals.{then-code, else-code}

made : ℕ → List ℕ → NalUnit
made from body = record { from = from; body = body }

made-is : (from : ℕ) (body body' : List ℕ) (unit : NalUnit) → unit ≡ record { from = from; body = body } → body ≡ body' →
    unit ≡ record { from = from; body = body' }
unfolding made
made-is from body body' unit e b = e ∙ ap (made from) b

pub returns-after-code-clause-some : goal.returns-after-code-clause-some
returns-after-code-clause-some c =
    let i = c.self.inside in
    let old = ap (λ p. splitting p i.at i.lead i.body.items i.stop) (sym c.in-Waiting.is) ∙ c.self.view_is in
    let kept = subst (λ p. IsKept p i.at i.lead i.body.items) c.in-Waiting.is c.self.invariant.0 in
    let live = subst (IsLive i.stop) c.in-Waiting.is c.self.invariant.1 in
    let body : c.replace-body.result.items ≡ i.body.items = ap (λ v. v.items) c.replace-body.ensures.value in
    let none : c.replace-body.new.dest.items ≡ [] = ap (λ v. v.items) c.replace-body.ensures.after ∙ c.new.ensures.items in
    let size : vec_len c.replace-body.result ≡ vec_len i.body = ap vec_len c.replace-body.ensures.value in
    let len : c.len.result ≡ length i.body.items = omega (arith, i.body.ok) in
    let unit = made-is _ _ _ _ c.new-in-Waiting.ensures body in
    elim c.if-code.branch [
      | then-code w ↦ taken-along _ _ _ _ _ old (sym w.self-is)
          (taken-waiting i.at i.lead i.body.items i.stop c.in-Waiting.code _ _ kept live unit (ap (λ n. i.at + i.lead + 3 + n) len)
          (ap (λ l. 0 ∷ 0 ∷ 1 ∷ (l ++ [])) none ∙ ap (λ b. 0 ∷ 0 ∷ third b ∷ []) (sym w.if-code.true)) refl refl refl)
      | else-code w ↦ taken-along _ _ _ _ _ old (sym w.self-is)
          (taken-waiting i.at i.lead i.body.items i.stop c.in-Waiting.code _ _ kept live unit (ap (λ n. i.at + i.lead + 3 + n) len)
          (ap (λ b. 0 ∷ 0 ∷ third b ∷ []) (sym w.if-code.false)) refl refl refl)
    ]

pub returns-in-Last-clause-some : goal.returns-in-Last-clause-some
returns-in-Last-clause-some c =
    let i = c.self.inside in
    let old = ap (λ p. splitting p i.at i.lead i.body.items i.stop) (sym c.in-Last.is) ∙ c.self.view_is in
    let kept = subst (λ p. IsKept p i.at i.lead i.body.items) c.in-Last.is c.self.invariant.0 in
    let live = subst (IsLive i.stop) c.in-Last.is c.self.invariant.1 in
    let body : c.replace-body-in-Last.result.items ≡ i.body.items = ap (λ v. v.items) c.replace-body-in-Last.ensures.value in
    let size : vec_len c.replace-body-in-Last.result ≡ vec_len i.body = ap vec_len c.replace-body-in-Last.ensures.value in
    let len : c.len-in-Last.result ≡ length i.body.items = omega (arith, i.body.ok) in
    let unit = made-is _ _ _ _ c.new-in-Last-2.ensures body in
    taken-along _ _ _ _ _ old refl
    (taken-last i.at i.lead i.body.items i.stop c.in-Last.zeros _ _ kept live unit (ap (λ n. i.at + i.lead + 3 + n) len)
    (ap (λ n. replicate n 0) c.from-self-inside.ensures) refl refl refl)
