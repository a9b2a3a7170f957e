use Rattle.std.proofs.Common.{◌≡◌, ℕ, ◌+◌, ◌-◌, ◌*◌, ◌<◌, slice_index, arith, ap, ◌∙◌, true, ⊎_elim}
use Rattle.std.proofs.lemmas.Bool.{cases_lt}
use Rattle.h264_plane.specs.Samples.{at, look}
use Rattle.h264_deblock.specs.Edge.{taps}
use Rattle.h264_deblock.proofs.Beside.{same_line}
use Rattle.h264_deblock.proofs.columns.read_columns.Goals as goal

pub returns : goal.returns
returns c n i =
    let p = c.args.plane.now in
    let x = c.args.x in
    let y = c.args.y in
    let xs = c.columns_of-samples.result in
    let tap : (k z : ℕ) → k < 8 → x - 4 + k ≡ z → slice_index xs (16 * k + n) ≡ at p z (y + n) =
    λ k z b e. ⊎_elim
    (λ above. c.columns_of-samples.ensures.first k b n above ∙ ap (λ m. at p m (y + n)) e)
    (λ below.
    let place : 16 * k + n ≡ 16 * k + (8 + (n - 8)) = omega (arith, below) in
    let row : y + 8 + (n - 8) ≡ y + n = omega (arith, below) in
    ap (slice_index xs) place ∙ c.columns_of-samples.ensures.second k b (n - 8) (omega (arith, below)) ∙ ap (λ m. at p m (y + 8 + (n - 8))) e ∙ ap (at p z) row)
    (cases_lt n 8) in
    same_line (taps (look true p (y + n)) x) _ _ _ _ _ _ _ _
    (c.sixteen.ensures n i ∙ tap 0 (x - 4) (omega arith) (omega arith))
    (c.sixteen-2.ensures n i ∙ tap 1 (x - 3) (omega arith) (omega arith))
    (c.sixteen-3.ensures n i ∙ tap 2 (x - 2) (omega arith) (omega arith))
    (c.sixteen-4.ensures n i ∙ tap 3 (x - 1) (omega arith) (omega arith))
    (c.sixteen-5.ensures n i ∙ tap 4 x (omega arith) (omega arith))
    (c.sixteen-6.ensures n i ∙ tap 5 (x + 1) (omega arith) (omega arith))
    (c.sixteen-7.ensures n i ∙ tap 6 (x + 2) (omega arith) (omega arith))
    (c.sixteen-8.ensures n i ∙ tap 7 (x + 3) (omega arith) (omega arith))
