use Rattle.h264_pages.proofs.Growing.{four-added, five-added}
use Rattle.h264_command.proofs.more.Totals.put_object.Goals as goal

pub returns : goal.returns
returns c =
    let last = c.close_object.new.self in
    five-added c.args.page.now c.put.new.self c.number_field.new.self c.number_field-2.new.self c.number_field-3.new.self last _ _ _ _ _ c.put.ensures
    c.number_field.ensures c.number_field-2.ensures c.number_field-3.ensures
    (four-added c.number_field-3.new.self c.number_field-4.new.self c.number_field-5.new.self c.number_field-6.new.self last _ _ _ _
    c.number_field-4.ensures c.number_field-5.ensures c.number_field-6.ensures c.close_object.ensures)
