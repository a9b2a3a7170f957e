use Rattle.std.proofs.Common.{◌≡◌, ◌+◌, ◌*◌, pos, ◌+ℤ◌, get_or, slice_index, arith, refl, sym, ap, ◌∙◌}
use Rattle.std.proofs.lemmas.List.{get_or_default}
use Rattle.std.proofs.lemmas.Result.{err_from_is_err_and}
use Rattle.h264_intra.specs.declared.luma4.Intra4x4PredMode.TheVariants.{Dc}
use Rattle.h264_plane.specs.Clip.{clip1}
use Rattle.h264_plane.specs.Blocks.{column_of, row_of}
use Rattle.h264_plane.proofs.Raster.{index_back}
use Rattle.h264_scale.specs.Residual.{residual_at}
use Rattle.h264_scale.specs.Macroblock.{luma_d}
use Rattle.h264_scale.proofs.Whole.{all_none, all_more, always, never, refused, luma_dc_unfit, luma_unfit, luma_whole}
use Rattle.h264_recon.specs.Blocks.{sides4_of}
use Rattle.h264_recon.specs.Constructed.{mode_at}
use Rattle.h264_recon.specs.ReadLevels.{levels_in}
use Rattle.h264_recon.proofs.Beside.{has4}
use Rattle.h264_recon.proofs.Blocks4.{block_next, put_added}
use Rattle.h264_recon.proofs.blocks.luma4.Goals as goal

pub returns-in_err-blocks-clause-range : goal.returns-in_err-blocks-clause-range
unfolding levels_in
returns-in_err-blocks-clause-range c =
    let l = levels_in c.args.levels.now in
    let p = err_from_is_err_and c.from_residual.result c.from_residual.ensures.1 in
    rw p.1 (never _ (luma_dc_unfit l.qp l.luma (refused _ c.in_err-blocks.ensures.range.1)))

pub loop-b-init : goal.loop-b-init
loop-b-init c = record { size = c.told-own; fit = all_none _; made = λ ok. record { each = λ x y i j p q d e less. absurd (omega arith) } }

pub loop-b-preserved : goal.loop-b-preserved
unfolding levels_in column_of row_of
loop-b-preserved c =
    let a = c.args in
    let l = levels_in a.levels.now in
    let h = c.in_ok-blocks.ensures.blocks in
    let b = c.loop-b.b in
    let x = column_of b in
    let y = row_of b in
    let residual = residual_at (luma_d l.qp l.luma x y) in
    let block = c.predict4-predicted.result in
    let column = c.column-x.ensures.here in
    let row = c.row-y.ensures.here in
    record {
      size = c.add_luma_block.array_long;
      fit = all_more b _ c.loop-b.invariant.fit ((c.in_ok-add_luma_block.ensures.range l.luma h).0 refl);
      made = λ ok. block_next b a.modes.now a.a (λ x y. residual_at (luma_d l.qp l.luma x y)) a.store.now a.column c.loop-b.own c.add_luma_block.new.samples
          (λ i j. clip1 (pos (slice_index block (4 * j + i)) +ℤ residual j i))
          (omega arith) ok (c.loop-b.invariant.made ok)
          (put_added x y c.loop-b.own c.put_block4.new.own c.add_luma_block.new.samples (λ i j. slice_index block (4 * j + i)) residual
          (rw (column, row) at c.put_block4.ensures)
          (c.in_ok-add_luma_block.ensures.added l.luma h))
          (λ i j d e. ap (λ n. clip1 (pos n +ℤ residual j i))
          (has4 _ (mode_at a.modes.now x y) _ (sides4_of a.a x y) _ _ block i j d e
          (get_or_default a.modes.now b _ Dc (omega arith) ∙ ap (λ n. get_or a.modes.now n Dc) (sym (index_back b (omega arith))))
          (rw (column, row) at c.neighbours4-neighbours.ensures.sides) (ok x y (omega arith) (omega arith))
          (rw (column, row) at c.neighbours4-neighbours.ensures.samples) c.predict4-predicted.ensures));
    }

pub returns-in_err-add_luma_block-clause-range : goal.returns-in_err-add_luma_block-clause-range
unfolding levels_in
returns-in_err-add_luma_block-clause-range c =
    let l = levels_in c.args.levels.now in
    let h = c.in_ok-blocks.ensures.blocks in
    let p = err_from_is_err_and c.from_residual-in_err-add_luma_block.result c.from_residual-in_err-add_luma_block.ensures.1 in
    rw p.1 (never _ (luma_unfit l.qp l.luma c.loop-b.b (omega arith) (refused _ (c.in_err-add_luma_block.ensures.range l.luma h).1)))

pub returns-clause-range : goal.returns-clause-range
unfolding levels_in
returns-clause-range c =
    let l = levels_in c.args.levels.now in
    let end : c.loop-b.b ≡ 16 = omega arith in
    always _ (luma_whole l.qp l.luma c.in_ok-blocks.ensures.blocks.dc (rw end at c.loop-b.invariant.fit))
