use Rattle.std.proofs.Common.{Some, refl, sym}
use Rattle.h264_base.proofs.Steps.{done, seen-last}
use Rattle.h264_bits.specs.Forms.{optional}
use Rattle.h264_header.proofs.ref_list.read_weights.Goals as goal

pub returns-then-not-present : goal.returns-then-not-present
unfolding optional
returns-then-not-present g c = rw c.if-not-present.true (done _ _ _ _ _ _ _ refl)

pub returns : goal.returns
unfolding optional
returns g c = rw c.if-not-present.false (seen-last Some _ (λ _ t e. sym e) c.read_pred_weight_table.ensures)
