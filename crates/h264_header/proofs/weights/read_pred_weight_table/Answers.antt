use Rattle.std.proofs.Common.{refl}
use Rattle.std.proofs.lemmas.Result.{err_from_is_err_and}
use Rattle.h264_base.proofs.Steps.{bind, stop, done}
use Rattle.h264_header.specs.PredWeightTable.{pred_weight_table}
use Rattle.h264_header.proofs.weights.read_pred_weight_table.Goals as goal

pub returns-in_err-luma_denom : goal.returns-in_err-luma_denom
unfolding pred_weight_table
returns-in_err-luma_denom g c = let p = err_from_is_err_and c.from_residual.result c.from_residual.ensures.1 in
    rw (p.1, p.2) (stop _ c.in_err-luma_denom.ensures.meets)

pub returns-in_err-chroma_denom : goal.returns-in_err-chroma_denom
unfolding pred_weight_table
returns-in_err-chroma_denom g c = let p = err_from_is_err_and c.from_residual-in_err-chroma_denom.result c.from_residual-in_err-chroma_denom.ensures.1 in
    rw (p.1, p.2) (bind _ c.in_ok-luma_denom.ensures.meets (stop _ c.in_err-chroma_denom.ensures.meets))

pub returns-in_err-read_entries : goal.returns-in_err-read_entries
unfolding pred_weight_table
returns-in_err-read_entries g c = let p = err_from_is_err_and c.from_residual-in_err-read_entries.result c.from_residual-in_err-read_entries.ensures.1 in
    rw (p.1, p.2) (bind _ c.in_ok-luma_denom.ensures.meets (bind _ c.in_ok-chroma_denom.ensures.meets (stop _ c.in_err-read_entries.ensures)))

pub returns : goal.returns
unfolding pred_weight_table
returns g c = bind _ c.in_ok-luma_denom.ensures.meets
    (bind _ c.in_ok-chroma_denom.ensures.meets (bind _ c.in_ok-read_entries.ensures (done _ _ _ _ _ _ _ refl)))
