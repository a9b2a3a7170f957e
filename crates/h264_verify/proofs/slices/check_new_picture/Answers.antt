use Rattle.std.proofs.Common.{◌*◌, List, [], ◌∷◌}
use Rattle.std.proofs.lemmas.Result.{err_from_is_err_and}
use Rattle.h264_poc.specs.OfSlice.{picture_of}
use Rattle.h264_poc.specs.declared.picture.Picture.{Picture}
use Rattle.h264_marking.specs.Ended.{numbering_of}
use Rattle.h264_verify.specs.Demands.{Demand}
use Rattle.h264_verify.specs.declared.head.SliceHead.{SliceHead}
use Rattle.h264_verify.specs.declared.slices.PicturesSoFar.{PicturesSoFar}
use Rattle.h264_verify.specs.Slices.{id_demand, count_demand, qp_demand, list_demand}
use Rattle.h264_verify.specs.Lists.{list_of}
use Rattle.h264_verify.proofs.language.SliceSteps.{stops-at, answers-last}
use Rattle.h264_verify.proofs.slices.check_new_picture.Goals as goal

abbrev new_rules : PicturesSoFar → SliceHead → List Picture → List Demand
new_rules slices head pictures =
    id_demand slices.newest_idr head.header.now
    ∷ count_demand (picture_of head.place.sps.now head.header.now ∷ pictures) (8 * head.place.unit.now.from)
    ∷ qp_demand head.place.pps.now head.header.now
    ∷ list_demand (list_of head.header.now.kind.value (numbering_of head.place.sps.now head.header.now) slices.held)
    ∷ []

pub returns-in_err-check_id-clause-judged : goal.returns-in_err-check_id-clause-judged
returns-in_err-check_id-clause-judged c =
    let p = err_from_is_err_and c.from_residual.result c.from_residual.ensures.1 in
    rw (p.1, p.2) (λ pictures kept. stops-at 0 (new_rules c.args.slices.now c.args.head.now pictures) _ c.in_err-check_id.ensures)

pub returns-in_err-count_picture-clause-judged : goal.returns-in_err-count_picture-clause-judged
returns-in_err-count_picture-clause-judged c =
    let p = err_from_is_err_and c.from_residual-in_err-count_picture.result c.from_residual-in_err-count_picture.ensures.1 in
    rw (p.1, p.2) (λ pictures kept. stops-at 1 (new_rules c.args.slices.now c.args.head.now pictures) _
    (_, c.in_ok-check_id.ensures, (rw c.from-bit.ensures.value at (c.in_err-count_picture.ensures.judged pictures kept))))

pub returns-in_err-check_qp-clause-judged : goal.returns-in_err-check_qp-clause-judged
returns-in_err-check_qp-clause-judged c =
    let p = err_from_is_err_and c.from_residual-in_err-check_qp.result c.from_residual-in_err-check_qp.ensures.1 in
    rw (p.1, p.2) (λ pictures kept. stops-at 2 (new_rules c.args.slices.now c.args.head.now pictures) _
    (_, c.in_ok-check_id.ensures, (_, (rw c.from-bit.ensures.value at (c.in_ok-count_picture.ensures.judged pictures kept)), c.in_err-check_qp.ensures)))

pub returns-clause-judged : goal.returns-clause-judged
returns-clause-judged c = λ pictures kept. answers-last (new_rules c.args.slices.now c.args.head.now pictures) _ (
  _,
  c.in_ok-check_id.ensures,
  (
    _,
    (rw c.from-bit.ensures.value at (c.in_ok-count_picture.ensures.judged pictures kept)),
    (_, c.in_ok-check_qp.ensures, (rw c.requires.numbered at c.build_list.ensures.judged)),
  ),
)
