use Rattle.h264_pages.proofs.Growing.{three-added}
use Rattle.h264_command.proofs.strictly.put_broken_object.Goals as goal

pub returns : goal.returns
returns c =
    three-added c.args.page.now c.open_object.new.self c.put_broken_fields.new.page c.close_object.new.self _ _ _ c.open_object.ensures
    c.put_broken_fields.ensures c.close_object.ensures
