use Rattle.std.proofs.Common.{arith, ◌≡◌, ◌∙◌, ◌+◌, ◌*◌, ap, sym, subst, length, vec_len, Some}
use Rattle.std.proofs.lemmas.Bool.{eqb-true}
use Rattle.h264_base.specs.declared.rule.Rule.TheVariants.{EmptyUnit}
use Rattle.h264_base.specs.declared.stop.Stop.TheVariants.{No}
use Rattle.h264_units.specs.declared.scan.Phase.TheVariants.{Inside}
use Rattle.h264_units.specs.Scanned.{IsKept}
use Rattle.h264_units.proofs.Taking.{splitting, bare-finish, finish-along}
use Rattle.h264_units.proofs.splitter.Splitter.finish.Goals as goal

pub returns-then-is_empty-clause-err : goal.returns-then-is_empty-clause-err
returns-then-is_empty-clause-err c = λ none.
    let i = c.self.inside in
    let old = ap (λ s. splitting (Inside c.in-Inside.zeros) i.at i.lead i.body.items s) (sym c.in_default.is) ∙
    ap (λ p. splitting p i.at i.lead i.body.items i.stop) (sym c.in-Inside.is) ∙ c.self.view_is in
    let kept = subst (λ p. IsKept p i.at i.lead i.body.items) c.in-Inside.is c.self.invariant.0 in
    let empty : vec_len i.body ≡ 0 = eqb-true (vec_len i.body) 0 (sym c.if-is_empty.ensures) in
    let short : length i.body.items ≡ 0 = omega (arith, i.body.ok) in
    finish-along _ _ _ _ old
    (bare-finish i.at i.lead i.body.items c.in-Inside.zeros _ kept short
    (ap (λ p. splitting p i.at i.lead i.body.items (Some (No (8 * (i.at + i.lead + 3)) EmptyUnit))) c.in-Inside.is))
