use Rattle.std.proofs.Common.{true, false, refl}
use Rattle.std.proofs.lemmas.Result.{err_from_is_err_and}
use Rattle.h264_scale.specs.Macroblock.{levels_fit}
use Rattle.h264_scale.proofs.Whole.{never, refused, levels_luma}
use Rattle.h264_recon.specs.ReadLevels.{levels_in}
use Rattle.h264_recon.proofs.FromLevels.{both_so, two_more}
use Rattle.h264_recon.proofs.Kernels.{intra_all, same_above, mode_made}
use Rattle.h264_recon.proofs.in_place.make_intra.Goals as goal

pub returns-in_err-luma_intra-clause-range : goal.returns-in_err-luma_intra-clause-range
returns-in_err-luma_intra-clause-range c =
    let p = err_from_is_err_and c.from_residual.result c.from_residual.ensures.1 in
    rw p.1 (never _ (levels_luma (levels_in c.args.levels.now) (refused _ c.in_err-luma_intra.ensures.range.1)))

pub returns-clause-range : goal.returns-clause-range
unfolding levels_fit
returns-clause-range c = two_more _ _ _ _ (c.in_ok-luma_intra.ensures.range.0 refl) c.add_chroma.ensures.range

pub returns-clause-made : goal.returns-clause-made
returns-clause-made c =
    let own = c.add_chroma.new in
    both_so c.add_chroma.result (λ cb cr k r m e a ok levels.
    let possible = rw (e, a) at ok in
    let left = c.bring_left.ensures in
    let luma = rw left.y at (c.in_ok-luma_intra.ensures.made possible.0) in
    let first = rw left.cb at (c.chroma_intra-own.ensures own.cb possible.1) in
    let second = rw left.cr at (c.chroma_intra-own-2.ensures own.cr possible.1) in
    intra_all k c.args.column r m c.args.lines.now _ c.args.modes.now c.args.available (levels_in c.args.levels.now) e a levels luma
    (mode_made false c.args.modes.now.chroma c.args.available (levels_in c.args.levels.now) c.args.column _ c.chroma_intra-own.result own.cb first cb)
    (mode_made true c.args.modes.now.chroma c.args.available (levels_in c.args.levels.now) c.args.column _ c.chroma_intra-own-2.result own.cr second cr))
    c.add_chroma.ensures.cb c.add_chroma.ensures.cr

pub returns-in_err-luma_intra-clause-above : goal.returns-in_err-luma_intra-clause-above
returns-in_err-luma_intra-clause-above c = same_above c.args.lines.now _ c.bring_left.ensures.y c.bring_left.ensures.cb c.bring_left.ensures.cr

pub returns-clause-above : goal.returns-clause-above
returns-clause-above c = same_above c.args.lines.now _ c.bring_left.ensures.y c.bring_left.ensures.cb c.bring_left.ensures.cr
