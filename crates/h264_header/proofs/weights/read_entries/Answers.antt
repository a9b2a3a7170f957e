use Rattle.std.proofs.Common.{◌+◌, length, refl, ap, ◌∙◌}
use Rattle.std.proofs.lemmas.Result.{err_from_is_err_and}
use Rattle.h264_base.proofs.Steps.{kept}
use Rattle.h264_bits.proofs.Repeated.{repeated-starts, repeated-next, repeated-stop, repeated-over}
use Rattle.h264_header.specs.PredWeightTable.{index_weights}
use Rattle.h264_header.proofs.weights.read_entries.Goals as goal

pub loop-index-init : goal.loop-index-init
loop-index-init g c = record {
  rest = repeated-starts (index_weights c.args.luma_denom c.args.chroma_denom) c.args.active c.args.entries.now.items _ _
      c.requires.empty;
  sized = ap length c.requires.empty;
  room = c.requires.room;
}

pub returns-in_err-next : goal.returns-in_err-next
returns-in_err-next g c = let p = err_from_is_err_and c.from_residual.result c.from_residual.ensures.1 in
    rw (p.1, p.2) (repeated-stop (index_weights c.args.luma_denom c.args.chroma_denom) c.args.active c.loop-index._index c.loop-index.entries.items
    c.loop-index-test.true c.loop-index.invariant.rest c.in_err-next.ensures)

pub loop-index-preserved : goal.loop-index-preserved
loop-index-preserved g c = record {
  rest = repeated-next (index_weights c.args.luma_denom c.args.chroma_denom) c.args.active c.loop-index._index c.loop-index.entries.items _
      c.loop-index-test.true c.push.ensures.items c.loop-index.invariant.rest c.in_ok-next.ensures;
  sized = c.push.ensures.len ∙ ap (λ n. n + 1) c.loop-index.invariant.sized;
  room = let k = kept c.in_ok-next.ensures in let r = c.loop-index.invariant.room in rw k r;
}

pub returns : goal.returns
returns g c = repeated-over (index_weights c.args.luma_denom c.args.chroma_denom) c.args.active c.loop-index._index c.loop-index.entries.items _
    c.loop-index-test.false refl c.loop-index.invariant.rest
