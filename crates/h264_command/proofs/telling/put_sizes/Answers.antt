use Rattle.h264_pages.proofs.Growing.{adds-both}
use Rattle.h264_command.proofs.telling.put_sizes.Goals as goal

pub returns : goal.returns
returns c =
    let last = c.number_field-6.new.self in
    adds-both c.args.page.now c.number_field.new.self last _ _ c.number_field.ensures
    (adds-both c.number_field.new.self c.number_field-2.new.self last _ _ c.number_field-2.ensures
    (adds-both c.number_field-2.new.self c.number_field-3.new.self last _ _ c.number_field-3.ensures
    (adds-both c.number_field-3.new.self c.number_field-4.new.self last _ _ c.number_field-4.ensures
    (adds-both c.number_field-4.new.self c.number_field-5.new.self last _ _ c.number_field-5.ensures c.number_field-6.ensures))))
