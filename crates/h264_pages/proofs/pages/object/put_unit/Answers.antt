use Rattle.std.proofs.Common.{◌≡◌, codes, sym, subst}
use Rattle.h264_units.specs.UnitTypes.{type_number}
use Rattle.h264_pages.specs.Pages.{Adds, number_field}
use Rattle.h264_pages.specs.Places.{unit_fields}
use Rattle.h264_pages.proofs.Growing.{adds-both}
use Rattle.h264_pages.proofs.pages.object.put_unit.Goals as goal

pub returns-in-Some : goal.returns-in-Some
returns-in-Some c =
    let m = c.number_field.new.self in
    let n = c.number_field-in-Some.new.self in
    let kind : c.from.result ≡ type_number c.in-Some.unit.nal_unit_type = cc in
    subst (λ u. Adds c.args.page.now n (unit_fields u)) (sym c.in-Some.is)
    (adds-both c.args.page.now m n _ _ c.number_field.ensures
    (subst (λ k. Adds m n (number_field (codes "nal_unit_type") k)) kind c.number_field-in-Some.ensures))
