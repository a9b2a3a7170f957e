use Rattle.std.proofs.Common.{Some, refl, sym}
use Rattle.h264_base.proofs.Steps.{done, seen-last}
use Rattle.h264_bits.specs.Forms.{optional}
use Rattle.h264_header.specs.Marking.{dec_ref_pic_marking}
use Rattle.h264_header.proofs.marking.read_marking.Goals as goal

pub returns-then-not-reference : goal.returns-then-not-reference
unfolding optional
returns-then-not-reference g c = rw c.if-not-reference.true (done _ _ _ _ _ _ _ refl)

pub returns-then-idr : goal.returns-then-idr
unfolding optional dec_ref_pic_marking
returns-then-idr g c = rw (c.if-not-reference.false, c.if-idr.true) (seen-last Some _ (λ _ m e. sym e) c.read_idr_marking.ensures)

pub returns : goal.returns
unfolding optional dec_ref_pic_marking
returns g c = rw (c.if-not-reference.false, c.if-idr.false) (seen-last Some _ (λ _ m e. sym e) c.read_other_marking.ensures)
