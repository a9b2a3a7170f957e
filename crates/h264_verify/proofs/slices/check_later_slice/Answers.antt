use Rattle.std.proofs.Common.{[]}
use Rattle.std.proofs.lemmas.Result.{err_from_is_err_and}
use Rattle.h264_verify.specs.Keeping.{slices_by, slice_at}
use Rattle.h264_verify.specs.Order.{later_slice_rules}
use Rattle.h264_verify.proofs.language.SliceSteps.{stops-at, answers-last}
use Rattle.h264_verify.proofs.judged.SliceRules.{type-met}
use Rattle.h264_verify.proofs.slices.check_later_slice.Goals as goal
use Rattle.h264_base.proofs.Plain.{on-ok}

pub returns-in_err-check_type-clause-judged : goal.returns-in_err-check_type-clause-judged
returns-in_err-check_type-clause-judged c =
    let p = err_from_is_err_and c.from_residual.result c.from_residual.ensures.1 in
    rw (p.1, p.2) (stops-at 0 (later_slice_rules (slices_by c.args.slices.now) (slice_at c.args.head.now.place c.args.head.now.header.now [])) _
    c.in_err-check_type.ensures)

pub returns-in_err-check_same_type-clause-judged : goal.returns-in_err-check_same_type-clause-judged
returns-in_err-check_same_type-clause-judged c =
    let p = err_from_is_err_and c.from_residual-in_err-check_same_type.result c.from_residual-in_err-check_same_type.ensures.1 in
    rw (p.1, p.2) (stops-at 1 (later_slice_rules (slices_by c.args.slices.now) (slice_at c.args.head.now.place c.args.head.now.header.now [])) _
    (_, c.in_ok-check_type.ensures, c.in_err-check_same_type.ensures))

pub returns-in_err-check_idr_num-clause-judged : goal.returns-in_err-check_idr_num-clause-judged
returns-in_err-check_idr_num-clause-judged c =
    let p = err_from_is_err_and c.from_residual-in_err-check_idr_num.result c.from_residual-in_err-check_idr_num.ensures.1 in
    rw (p.1, p.2) (stops-at 2 (later_slice_rules (slices_by c.args.slices.now) (slice_at c.args.head.now.place c.args.head.now.header.now [])) _
    (_, c.in_ok-check_type.ensures, (_, c.in_ok-check_same_type.ensures, c.in_err-check_idr_num.ensures)))

pub returns-in_err-check_qp-clause-judged : goal.returns-in_err-check_qp-clause-judged
returns-in_err-check_qp-clause-judged c =
    let p = err_from_is_err_and c.from_residual-in_err-check_qp.result c.from_residual-in_err-check_qp.ensures.1 in
    rw (p.1, p.2) (stops-at 3 (later_slice_rules (slices_by c.args.slices.now) (slice_at c.args.head.now.place c.args.head.now.header.now [])) _
    (_, c.in_ok-check_type.ensures, (_, c.in_ok-check_same_type.ensures, (_, c.in_ok-check_idr_num.ensures, c.in_err-check_qp.ensures))))

pub returns-in_err-build_list-clause-judged : goal.returns-in_err-build_list-clause-judged
returns-in_err-build_list-clause-judged c =
    let p = err_from_is_err_and c.from_residual-in_err-build_list.result c.from_residual-in_err-build_list.ensures.1 in
    rw (p.1, p.2) (stops-at 4 (later_slice_rules (slices_by c.args.slices.now) (slice_at c.args.head.now.place c.args.head.now.header.now [])) _ (
      _,
      c.in_ok-check_type.ensures,
      (
        _,
        c.in_ok-check_same_type.ensures,
        (_, c.in_ok-check_idr_num.ensures, (_, c.in_ok-check_qp.ensures, (rw c.requires.numbered at c.in_err-build_list.ensures.judged))),
      ),
    ))

pub returns-clause-judged : goal.returns-clause-judged
returns-clause-judged c = answers-last (later_slice_rules (slices_by c.args.slices.now) (slice_at c.args.head.now.place c.args.head.now.header.now [])) _ (
  _,
  c.in_ok-check_type.ensures,
  (
    _,
    c.in_ok-check_same_type.ensures,
    (
      _,
      c.in_ok-check_idr_num.ensures,
      (
        _,
        c.in_ok-check_qp.ensures,
        (_, (rw c.requires.numbered at c.in_ok-build_list.ensures.judged), c.check_marking.ensures),
      ),
    ),
  ),
)

pub returns-clause-typed : goal.returns-clause-typed
returns-clause-typed c = on-ok c.check_marking.result (type-met c.args.head.now.place.sps.now c.args.head.now.header.now _ c.in_ok-check_type.ensures)
