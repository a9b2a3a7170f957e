use Rattle.std.proofs.Common.{◌≡◌, ◌+◌, ◌*◌, ◌/◌, ◌%◌, slice_index, arith, sym, ap, ◌∙◌}
use Rattle.h264_deblock.proofs.Turns.{at_first, at_second}
use Rattle.h264_deblock.proofs.InBlocks.{pairs_written}
use Rattle.h264_deblock.proofs.inner.write_columns.Goals as goal

pub returns : goal.returns
returns c =
    let r = c.args.r.now in
    pairs_written c.args.plane.now c.put_block.new.self c.args.x c.args.y c.pair_in_turn.result r c.requires.before
    (λ n i.
    let half : 0 + (2 * n + 0) / 2 ≡ n = omega arith in
    let even : (2 * n + 0) % 2 ≡ 0 = omega arith in
    c.pair_in_turn.ensures (2 * n + 0) (omega arith) ∙ sym (at_first _ _ (2 * n + 0) even) ∙ ap (slice_index r.p0) half)
    (λ n i.
    let half : 0 + (2 * n + 1) / 2 ≡ n = omega arith in
    let odd : (2 * n + 1) % 2 ≡ 1 = omega arith in
    c.pair_in_turn.ensures (2 * n + 1) (omega arith) ∙ sym (at_second _ _ (2 * n + 1) odd) ∙ ap (slice_index r.q0) half)
    c.put_block.ensures
