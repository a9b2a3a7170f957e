use Rattle.h264_pages.proofs.Growing.{adds-both, three-added}
use Rattle.h264_command.proofs.strictly.put_unjudged_object.Goals as goal

pub returns : goal.returns
returns c =
    let fields = adds-both c.open_object.new.self c.text_field.new.self c.text_field-2.new.self _ _ c.text_field.ensures c.text_field-2.ensures in
    three-added c.args.page.now c.open_object.new.self c.text_field-2.new.self c.close_object.new.self _ _ _ c.open_object.ensures fields
    c.close_object.ensures
