use Rattle.std.proofs.Common.{◌≡◌, ◌<◌, ℕ, arith, to_z, of_z, w32, replicate, pos}
use Rattle.std.proofs.lemmas.Int.{ints}
use Rattle.std.proofs.lemmas.List.{get_or-replicate}
use Rattle.h264_scale.specs.Residual.{d_with_dc}
use Rattle.h264_scale.proofs.Blocks.{answers, dc_only_with}
use Rattle.h264_scale.specs.Fours.{dc_only}
use Rattle.h264_scale.proofs.residual.residual4_of_dc.Goals as goal

pub returns-clause-range : goal.returns-clause-range
returns-clause-range c qp =
    let dc = c.args.dc in
    let same : to_z w32 (of_z w32 c.from.result) ≡ dc = omega (arith, ints) in
    let none = λ (k : ℕ) (p : k < 15). get_or-replicate 15 k (pos 0) (pos 0) p in
    (answers c.flat.result (dc_only _) (d_with_dc dc (replicate 15 (pos 0)) qp) (dc_only_with _ dc (replicate 15 (pos 0)) qp none same) c.flat.ensures.value).0

pub returns-clause-residual : goal.returns-clause-residual
returns-clause-residual c qp =
    let dc = c.args.dc in
    let same : to_z w32 (of_z w32 c.from.result) ≡ dc = omega (arith, ints) in
    let none = λ (k : ℕ) (p : k < 15). get_or-replicate 15 k (pos 0) (pos 0) p in
    (answers c.flat.result (dc_only _) (d_with_dc dc (replicate 15 (pos 0)) qp) (dc_only_with _ dc (replicate 15 (pos 0)) qp none same) c.flat.ensures.value).1
