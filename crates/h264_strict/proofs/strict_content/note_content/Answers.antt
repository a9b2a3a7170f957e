use Rattle.std.proofs.Common.{◌≡◌, ◌==◌, ◌&&◌, false, sym, ap, ◌∙◌}
use Rattle.h264_units.specs.UnitTypes.{type_number}
use Rattle.h264_units.specs.declared.nal_unit_type.NalUnitType.TheVariants as types
use Rattle.h264_strict.specs.SeiMessages.{is_sei}
use Rattle.h264_strict.proofs.Contents.{content-not, none-noted}
use Rattle.h264_strict.proofs.strict_content.note_content.Goals as goal
use Rattle.h264_base.proofs.Plain.{differs}
use Rattle.h264_units.proofs.UnitNumbers.{other-number}

-- a unit of another type
pub returns-else-is_sei : goal.returns-else-is_sei
returns-else-is_sei c r =
    sym (none-noted _ _ (content-not r c.args.known.now (type_number c.args.kind) c.args.rbsp.now
    (rw c.in-Sei.is (ap is_sei (sym c.bytes.ensures.bytes) ∙ sym c.is_sei.ensures.value ∙ c.if-is_sei.false))))

pub returns-in_default : goal.returns-in_default
returns-in_default c r =
    let body = c.args.rbsp.now in
    sym (none-noted _ _ (content-not r c.args.known.now (type_number c.args.kind) body
    (ap (λ t. t && is_sei body.bytes) (differs (type_number c.args.kind) 6 (other-number c.args.kind types.Sei c.in_default.not-Sei)))))
