use Rattle.std.proofs.Common.{rules, FitsSigned, w16, ℕ, ℤ, pos, get_or, ◌∷◌, ◌*ℤ◌}
use Rattle.std.proofs.lemmas.Bool.{false≢true}
use Rattle.h264_scale.specs.Residual.{coefficient}
use Rattle.h264_scale.specs.Fours.{factor_at, scaled_block, block_of, with_dc}
use Rattle.h264_scale.specs.Lanes.{with_first}
use Rattle.h264_scale.proofs.Small.{small_fits}
use Rattle.h264_scale.proofs.Vectors.{short_of, kept, passed_places, passed_products, passed_wide, products_wide, first_wide}
use Rattle.h264_scale.proofs.lanes.small_residual_with_dc.Goals as goal

pub returns-in_err-columns-clause-answers : goal.returns-in_err-columns-clause-answers
returns-in_err-columns-clause-answers c small =
    let m = coefficient (get_or c.args.levels.now 0 (pos 0) ∷ c.args.levels.now) in
    let n : ℕ → ℕ → ℤ = λ i j. m i j *ℤ pos (factor_at c.args.qp i j) in
    let range = c.sixteen_after_dc.ensures.range in
    let d = c.products-d.ensures m (passed_places m c.sixteen_after_dc.result c.sixteen_after_dc.ensures.value range) range in
    let dc = c.args.dc in
    let fits : FitsSigned w16 dc = search rules in
    let short = short_of dc fits in
    let wide = products_wide c.args.qp m c.requires range in
    let first = rw (kept dc short) at (c.with_first.ensures n (passed_products c.args.qp m c.products-d.result d c.requires range) wide) in
    let all = first_wide dc n short wide in
    let passed = passed_wide (with_first dc n) c.with_first.result first all in
    absurd (false≢true (c.in_err-columns.ensures.answers (with_first dc n) passed all small))

pub returns-clause-value : goal.returns-clause-value
returns-clause-value c =
    let m = coefficient (get_or c.args.levels.now 0 (pos 0) ∷ c.args.levels.now) in
    let n : ℕ → ℕ → ℤ = λ i j. m i j *ℤ pos (factor_at c.args.qp i j) in
    let range = c.sixteen_after_dc.ensures.range in
    let d = c.products-d.ensures m (passed_places m c.sixteen_after_dc.result c.sixteen_after_dc.ensures.value range) range in
    let dc = c.args.dc in
    let fits : FitsSigned w16 dc = search rules in
    let short = short_of dc fits in
    let wide = products_wide c.args.qp m c.requires range in
    let first = rw (kept dc short) at (c.with_first.ensures n (passed_products c.args.qp m c.products-d.result d c.requires range) wide) in
    let all = first_wide dc n short wide in
    let passed = passed_wide (with_first dc n) c.with_first.result first all in
    let s = c.in_ok-columns.ensures.columns (with_first dc n) passed all in
    let e = with_dc dc (scaled_block c.args.qp (block_of m)) in
    (small_fits e s.1, c.transform.ensures.value e s.0 s.1)

pub returns-clause-bound : goal.returns-clause-bound
returns-clause-bound c =
    let m = coefficient (get_or c.args.levels.now 0 (pos 0) ∷ c.args.levels.now) in
    let n : ℕ → ℕ → ℤ = λ i j. m i j *ℤ pos (factor_at c.args.qp i j) in
    let range = c.sixteen_after_dc.ensures.range in
    let d = c.products-d.ensures m (passed_places m c.sixteen_after_dc.result c.sixteen_after_dc.ensures.value range) range in
    let dc = c.args.dc in
    let fits : FitsSigned w16 dc = search rules in
    let short = short_of dc fits in
    let wide = products_wide c.args.qp m c.requires range in
    let first = rw (kept dc short) at (c.with_first.ensures n (passed_products c.args.qp m c.products-d.result d c.requires range) wide) in
    let all = first_wide dc n short wide in
    let passed = passed_wide (with_first dc n) c.with_first.result first all in
    let s = c.in_ok-columns.ensures.columns (with_first dc n) passed all in
    c.transform.ensures.bound (with_dc dc (scaled_block c.args.qp (block_of m))) s.0 s.1
