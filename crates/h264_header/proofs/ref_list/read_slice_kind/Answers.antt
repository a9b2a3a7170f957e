use Rattle.std.proofs.Common.{refl, sym}
use Rattle.h264_base.proofs.Steps.{done, seen-last}
use Rattle.h264_header.specs.declared.header.SliceKind.TheVariants.{P}
use Rattle.h264_header.specs.RefList.{slice_kind}
use Rattle.h264_header.proofs.ref_list.read_slice_kind.Goals as goal

pub returns-in-P : goal.returns-in-P
unfolding slice_kind
returns-in-P g c = rw c.in-P.is (seen-last P _ (λ _ l e. sym e) c.read_ref_pic_list0.ensures)

pub returns-in-I : goal.returns-in-I
unfolding slice_kind
returns-in-I g c = rw c.in-I.is (done _ _ _ _ _ _ _ refl)
