use Rattle.h264_pages.proofs.Growing.{four-added}
use Rattle.h264_command.proofs.strictly.put_broken_fields.Goals as goal

pub returns : goal.returns
returns c =
    let all = four-added c.args.page.now c.text_field.new.self c.text_field-2.new.self c.number_field.new.self c.number_field-2.new.self _ _ _ _
    c.text_field.ensures c.text_field-2.ensures c.number_field.ensures c.number_field-2.ensures in
    rw (c.label.ensures, c.clause.ensures) at all
