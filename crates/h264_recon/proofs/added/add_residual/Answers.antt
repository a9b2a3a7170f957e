use Rattle.std.proofs.Common.{refl}
use Rattle.std.proofs.lemmas.Result.{err_from_is_err_and}
use Rattle.h264_scale.specs.Macroblock.{levels_fit}
use Rattle.h264_scale.proofs.Whole.{never, refused, levels_luma}
use Rattle.h264_recon.specs.ReadLevels.{levels_in}
use Rattle.h264_recon.proofs.FromLevels.{two_more}
use Rattle.h264_recon.proofs.added.add_residual.Goals as goal

pub returns-in_err-add_luma-clause-range : goal.returns-in_err-add_luma-clause-range
returns-in_err-add_luma-clause-range c =
    let l = levels_in c.args.levels.now in
    let p = err_from_is_err_and c.from_residual.result c.from_residual.ensures.1 in
    rw p.1 (never _ (levels_luma l (refused _ c.in_err-add_luma.ensures.range.1)))

pub returns-clause-range : goal.returns-clause-range
unfolding levels_fit
returns-clause-range c = two_more _ _ _ _ (c.in_ok-add_luma.ensures.range.0 refl) c.add_chroma.ensures.range
