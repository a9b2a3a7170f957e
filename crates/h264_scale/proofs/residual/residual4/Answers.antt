use Rattle.std.proofs.Common.{◌≡◌, ◌*◌, ◌/◌, ◌^◌, ap, refl, ◌∙◌, arith, rules, get_or, slice_index, pos, ◌*ℤ◌, FitsSigned, w16, w32, to_z, of_z, Ok}
use Rattle.std.proofs.lemmas.Int.{ints}
use Rattle.h264_scale.specs.Residual.{coefficient, d_of, v0}
use Rattle.h264_scale.specs.Fours.{scaled_block, block_of, dc_only, factor_at}
use Rattle.h264_scale.proofs.Blocks.{answers, scaled_block_is, dc_only_is, none_after}
use Rattle.h264_scale.proofs.residual.residual4.Goals as goal

pub returns-in-None-clause-range : goal.returns-in-None-clause-range
returns-in-None-clause-range c =
    let a = c.args in
    let block = c.scaled.ensures ∙ ap (scaled_block a.qp) c.coefficients.ensures.value ∙ scaled_block_is a.qp (coefficient a.levels.now) in
    (answers c.tested_residual.result c.scaled.result (d_of a.levels.now a.qp) block c.tested_residual.ensures.value).0

pub returns-in-None-clause-residual : goal.returns-in-None-clause-residual
returns-in-None-clause-residual c =
    let a = c.args in
    let block = c.scaled.ensures ∙ ap (scaled_block a.qp) c.coefficients.ensures.value ∙ scaled_block_is a.qp (coefficient a.levels.now) in
    (answers c.tested_residual.result c.scaled.result (d_of a.levels.now a.qp) block c.tested_residual.ensures.value).1

pub returns-then-are_zero-clause-range : goal.returns-then-are_zero-clause-range
returns-then-are_zero-clause-range c =
    let a = c.args in
    let level = get_or a.levels.now 0 (pos 0) in
    let fits : FitsSigned w16 level = search rules in
    let same : to_z w32 (of_z w32 c.from.result) ≡ level = omega (arith, ints) in
    let kept : to_z w32 (of_z w32 c.scaled_entry-dc.result) ≡ c.scaled_entry-dc.result = omega (arith, ints) in
    let factor : c.factor.result ≡ factor_at a.qp 0 0 = c.factor.ensures.value ∙ ap (λ k. slice_index v0 k * 2 ^ (a.qp / 6)) c.from-then-are_zero.ensures in
    let scaled = kept ∙ c.scaled_entry-dc.ensures ∙ ap (λ z. z *ℤ pos c.factor.result) same ∙ ap (λ n. level *ℤ pos n) factor in
    let none = none_after a.levels.now (search rules) (c.if-are_zero.ensures refl) in
    (answers c.flat.result (dc_only _) (d_of a.levels.now a.qp) (dc_only_is a.levels.now a.qp _ none scaled) c.flat.ensures.value).0

pub returns-then-are_zero-clause-residual : goal.returns-then-are_zero-clause-residual
returns-then-are_zero-clause-residual c =
    let a = c.args in
    let level = get_or a.levels.now 0 (pos 0) in
    let fits : FitsSigned w16 level = search rules in
    let same : to_z w32 (of_z w32 c.from.result) ≡ level = omega (arith, ints) in
    let kept : to_z w32 (of_z w32 c.scaled_entry-dc.result) ≡ c.scaled_entry-dc.result = omega (arith, ints) in
    let factor : c.factor.result ≡ factor_at a.qp 0 0 = c.factor.ensures.value ∙ ap (λ k. slice_index v0 k * 2 ^ (a.qp / 6)) c.from-then-are_zero.ensures in
    let scaled = kept ∙ c.scaled_entry-dc.ensures ∙ ap (λ z. z *ℤ pos c.factor.result) same ∙ ap (λ n. level *ℤ pos n) factor in
    let none = none_after a.levels.now (search rules) (c.if-are_zero.ensures refl) in
    (answers c.flat.result (dc_only _) (d_of a.levels.now a.qp) (dc_only_is a.levels.now a.qp _ none scaled) c.flat.ensures.value).1

pub returns-in-Some-clause-range : goal.returns-in-Some-clause-range
returns-in-Some-clause-range c =
    let a = c.args in
    (answers (Ok c.in-Some.residual) (scaled_block a.qp (block_of (coefficient a.levels.now))) (d_of a.levels.now a.qp)
    (scaled_block_is a.qp (coefficient a.levels.now)) c.in-Some.ensures.value).0

pub returns-in-Some-clause-residual : goal.returns-in-Some-clause-residual
returns-in-Some-clause-residual c =
    let a = c.args in
    (answers (Ok c.in-Some.residual) (scaled_block a.qp (block_of (coefficient a.levels.now))) (d_of a.levels.now a.qp)
    (scaled_block_is a.qp (coefficient a.levels.now)) c.in-Some.ensures.value).1
