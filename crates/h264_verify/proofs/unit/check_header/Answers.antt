use Rattle.std.proofs.Common.{◌*◌}
use Rattle.std.proofs.lemmas.Result.{err_from_is_err_and}
use Rattle.h264_units.specs.UnitHeader.{header_of}
use Rattle.h264_verify.specs.Order.{header_demands}
use Rattle.h264_verify.proofs.language.SliceSteps.{stops-at, answers-last}
use Rattle.h264_verify.proofs.unit.check_header.Goals as goal

pub returns-in_err-check : goal.returns-in_err-check
returns-in_err-check c =
    let p = err_from_is_err_and c.from_residual.result c.from_residual.ensures.1 in
    rw (p.1, p.2) (stops-at 0 (header_demands (8 * c.args.unit.now.from) (header_of c.args.unit.now)) _
    (rw (c.forbidden_zero_bit.ensures, c.of-header.ensures, c.from-bit.ensures.value) at c.in_err-check.ensures))

pub returns-in_err-check-2 : goal.returns-in_err-check-2
returns-in_err-check-2 c =
    let p = err_from_is_err_and c.from_residual-in_err-check-2.result c.from_residual-in_err-check-2.ensures.1 in
    let kind = rw c.of-header.ensures at c.nal_unit_type-kind.ensures in
    rw (p.1, p.2) (stops-at 1 (header_demands (8 * c.args.unit.now.from) (header_of c.args.unit.now)) _ (
      _,
      (rw (c.forbidden_zero_bit.ensures, c.of-header.ensures, c.from-bit.ensures.value) at c.in_ok-check.ensures),
      (rw (c.fits.ensures, kind, c.nal_ref_idc.ensures, c.of-header.ensures, c.from-bit.ensures.value) at c.in_err-check-2.ensures),
    ))

pub returns : goal.returns
returns c =
    let kind = rw c.of-header.ensures at c.nal_unit_type-kind.ensures in
    answers-last (header_demands (8 * c.args.unit.now.from) (header_of c.args.unit.now)) _ (
      _,
      (rw (c.forbidden_zero_bit.ensures, c.of-header.ensures, c.from-bit.ensures.value) at c.in_ok-check.ensures),
      (
        _,
        (rw (c.fits.ensures, kind, c.nal_ref_idc.ensures, c.of-header.ensures, c.from-bit.ensures.value) at c.in_ok-check-2.ensures),
        (rw (c.is_partition.ensures, kind, c.from-bit.ensures.value) at c.check-3.ensures),
      ),
    )
