use Rattle.std.proofs.Common.{◌≡◌, ◌<◌, ℕ, arith, refl, to_z, of_z, w16, w32, Ok, ◌∷◌, get_or, pos}
use Rattle.std.proofs.lemmas.Int.{ints}
use Rattle.h264_scale.specs.Residual.{d_with_dc, coefficient}
use Rattle.h264_scale.proofs.Blocks.{answers, with_dc_is, dc_only_with}
use Rattle.h264_scale.specs.Fours.{with_dc, dc_only, block_of, scaled_block}
use Rattle.h264_scale.proofs.residual.residual4_with_dc.Goals as goal

pub returns-clause-range : goal.returns-clause-range
returns-clause-range c =
    let a = c.args in
    let same : to_z w32 (of_z w32 c.from-d.result) ≡ a.dc = omega (arith, ints) in
    let block = with_dc_is _ a.dc a.levels.now a.qp c.scaled-d.result c.coefficients_after_dc.result c.coefficients_after_dc.ensures.value c.scaled-d.ensures
    same in
    (answers c.tested_residual.result (with_dc _ c.scaled-d.result) (d_with_dc a.dc a.levels.now a.qp) block c.tested_residual.ensures.value).0

pub returns-clause-residual : goal.returns-clause-residual
returns-clause-residual c =
    let a = c.args in
    let same : to_z w32 (of_z w32 c.from-d.result) ≡ a.dc = omega (arith, ints) in
    let block = with_dc_is _ a.dc a.levels.now a.qp c.scaled-d.result c.coefficients_after_dc.result c.coefficients_after_dc.ensures.value c.scaled-d.ensures
    same in
    (answers c.tested_residual.result (with_dc _ c.scaled-d.result) (d_with_dc a.dc a.levels.now a.qp) block c.tested_residual.ensures.value).1

pub returns-then-are_zero-clause-range : goal.returns-then-are_zero-clause-range
returns-then-are_zero-clause-range c =
    let a = c.args in
    let same : to_z w32 (of_z w32 c.from.result) ≡ a.dc = omega (arith, ints) in
    let none = λ (k : ℕ) (p : k < 15). c.if-are_zero.ensures refl k (omega arith) in
    (answers c.flat.result (dc_only _) (d_with_dc a.dc a.levels.now a.qp) (dc_only_with _ a.dc a.levels.now a.qp none same) c.flat.ensures.value).0

pub returns-then-are_zero-clause-residual : goal.returns-then-are_zero-clause-residual
returns-then-are_zero-clause-residual c =
    let a = c.args in
    let same : to_z w32 (of_z w32 c.from.result) ≡ a.dc = omega (arith, ints) in
    let none = λ (k : ℕ) (p : k < 15). c.if-are_zero.ensures refl k (omega arith) in
    (answers c.flat.result (dc_only _) (d_with_dc a.dc a.levels.now a.qp) (dc_only_with _ a.dc a.levels.now a.qp none same) c.flat.ensures.value).1

pub returns-in-Some-clause-range : goal.returns-in-Some-clause-range
returns-in-Some-clause-range c =
    let a = c.args in
    let b = block_of (coefficient (get_or a.levels.now 0 (pos 0) ∷ a.levels.now)) in
    let same : to_z w16 (of_z w16 a.dc) ≡ a.dc = omega (arith, ints) in
    let block = with_dc_is _ a.dc a.levels.now a.qp (scaled_block a.qp b) b refl refl same in
    (answers (Ok c.in-Some.residual) (with_dc _ (scaled_block a.qp b)) (d_with_dc a.dc a.levels.now a.qp) block c.in-Some.ensures.value).0

pub returns-in-Some-clause-residual : goal.returns-in-Some-clause-residual
returns-in-Some-clause-residual c =
    let a = c.args in
    let b = block_of (coefficient (get_or a.levels.now 0 (pos 0) ∷ a.levels.now)) in
    let same : to_z w16 (of_z w16 a.dc) ≡ a.dc = omega (arith, ints) in
    let block = with_dc_is _ a.dc a.levels.now a.qp (scaled_block a.qp b) b refl refl same in
    (answers (Ok c.in-Some.residual) (with_dc _ (scaled_block a.qp b)) (d_with_dc a.dc a.levels.now a.qp) block c.in-Some.ensures.value).1
