use Rattle.std.proofs.Common.{ℕ, ℤ, pos, ◌*ℤ◌}
use Rattle.std.proofs.lemmas.Bool.{false≢true}
use Rattle.h264_scale.specs.Residual.{coefficient}
use Rattle.h264_scale.specs.Fours.{factor_at, scaled_block, block_of}
use Rattle.h264_scale.proofs.Small.{small_fits}
use Rattle.h264_scale.proofs.Vectors.{passed_places, passed_products, products_wide}
use Rattle.h264_scale.proofs.lanes.small_residual.Goals as goal

pub returns-in_err-columns-clause-answers : goal.returns-in_err-columns-clause-answers
returns-in_err-columns-clause-answers c small =
    let m = coefficient c.args.levels.now in
    let n : ℕ → ℕ → ℤ = λ i j. m i j *ℤ pos (factor_at c.args.qp i j) in
    let range = c.sixteen.ensures.range in
    let d = c.products.ensures m (passed_places m c.sixteen.result c.sixteen.ensures.value range) range in
    let passed = passed_products c.args.qp m c.products.result d c.requires range in
    let wide = products_wide c.args.qp m c.requires range in
    absurd (false≢true (c.in_err-columns.ensures.answers n passed wide small))

pub returns-clause-value : goal.returns-clause-value
returns-clause-value c =
    let m = coefficient c.args.levels.now in
    let n : ℕ → ℕ → ℤ = λ i j. m i j *ℤ pos (factor_at c.args.qp i j) in
    let range = c.sixteen.ensures.range in
    let d = c.products.ensures m (passed_places m c.sixteen.result c.sixteen.ensures.value range) range in
    let passed = passed_products c.args.qp m c.products.result d c.requires range in
    let wide = products_wide c.args.qp m c.requires range in
    let s = c.in_ok-columns.ensures.columns n passed wide in
    (small_fits (scaled_block c.args.qp (block_of m)) s.1, c.transform.ensures.value (scaled_block c.args.qp (block_of m)) s.0 s.1)

pub returns-clause-bound : goal.returns-clause-bound
returns-clause-bound c =
    let m = coefficient c.args.levels.now in
    let n : ℕ → ℕ → ℤ = λ i j. m i j *ℤ pos (factor_at c.args.qp i j) in
    let range = c.sixteen.ensures.range in
    let d = c.products.ensures m (passed_places m c.sixteen.result c.sixteen.ensures.value range) range in
    let passed = passed_products c.args.qp m c.products.result d c.requires range in
    let wide = products_wide c.args.qp m c.requires range in
    let s = c.in_ok-columns.ensures.columns n passed wide in
    c.transform.ensures.bound (scaled_block c.args.qp (block_of m)) s.0 s.1
