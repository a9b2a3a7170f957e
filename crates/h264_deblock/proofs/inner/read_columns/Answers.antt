use Rattle.std.proofs.Common.{◌≡◌, ℕ, ◌+◌, ◌-◌, ◌*◌, ◌<◌, slice_index, arith, ap, ◌∙◌}
use Rattle.h264_plane.specs.Samples.{at}
use Rattle.h264_deblock.proofs.inner.read_columns.Goals as goal

pub returns-clause-cb : goal.returns-clause-cb
returns-clause-cb c n i =
    let a = c.args in
    let xs = c.columns_of-samples.result in
    let tap : (k z : ℕ) → k < 8 → a.x - 4 + k ≡ z → slice_index xs (16 * k + n) ≡ at a.cb.now z (a.y + n) =
    λ k z b e. c.columns_of-samples.ensures.first k b n i ∙ ap (λ m. at a.cb.now m (a.y + n)) e in
    record {
      p1 = c.sixteen.ensures n (omega arith) ∙ tap 2 (a.x - 2) (omega arith) (omega arith);
      p0 = c.sixteen-2.ensures n (omega arith) ∙ tap 3 (a.x - 1) (omega arith) (omega arith);
      q0 = c.sixteen-3.ensures n (omega arith) ∙ tap 4 a.x (omega arith) (omega arith);
      q1 = c.sixteen-4.ensures n (omega arith) ∙ tap 5 (a.x + 1) (omega arith) (omega arith);
    }

pub returns-clause-cr : goal.returns-clause-cr
returns-clause-cr c n i =
    let a = c.args in
    let xs = c.columns_of-samples.result in
    let tap : (k z : ℕ) → k < 8 → a.x - 4 + k ≡ z → slice_index xs (16 * k + (8 + n)) ≡ at a.cr.now z (a.y + n) =
    λ k z b e. c.columns_of-samples.ensures.second k b n i ∙ ap (λ m. at a.cr.now m (a.y + n)) e in
    record {
      p1 = c.sixteen.ensures (8 + n) (omega arith) ∙ tap 2 (a.x - 2) (omega arith) (omega arith);
      p0 = c.sixteen-2.ensures (8 + n) (omega arith) ∙ tap 3 (a.x - 1) (omega arith) (omega arith);
      q0 = c.sixteen-3.ensures (8 + n) (omega arith) ∙ tap 4 a.x (omega arith) (omega arith);
      q1 = c.sixteen-4.ensures (8 + n) (omega arith) ∙ tap 5 (a.x + 1) (omega arith) (omega arith);
    }
