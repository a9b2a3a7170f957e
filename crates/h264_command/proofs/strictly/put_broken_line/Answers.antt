use Rattle.h264_pages.proofs.Growing.{three-added, five-added}
use Rattle.h264_command.proofs.strictly.put_broken_line.Goals as goal

pub returns : goal.returns
returns c =
    let last = c.put-5.new.self in
    let rest = three-added c.put-3.new.self c.put-4.new.self c.numbered-2.new.self last _ _ _ c.put-4.ensures c.numbered-2.ensures c.put-5.ensures in
    let all = five-added c.args.page.now c.numbered.new.self c.put.new.self c.put-2.new.self c.put-3.new.self last _ _ _ _ _
    c.numbered.ensures c.put.ensures c.put-2.ensures c.put-3.ensures rest in
    rw (c.label.ensures, c.clause.ensures) at all
