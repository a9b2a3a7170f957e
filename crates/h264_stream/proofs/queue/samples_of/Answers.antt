use Rattle.std.proofs.Common.{◌≡◌, ◌++◌, ap, ap₂, ◌∙◌, arith}
use Rattle.h264_dpb.specs.Shown.{width_in, height_in, cropped}
use Rattle.h264_lines.specs.Rows.{shows_all_columns, part_count, part_at, parts_before}
use Rattle.h264_lines.proofs.Counted.{next-part, whole}
use Rattle.h264_stream.proofs.queue.samples_of.Goals as goal

pub loop-k-preserved : goal.loop-k-preserved
loop-k-preserved c =
    let b = shows_all_columns c.args.rectangle in
    let w = width_in c.args.rectangle c.args.frame.now in
    let h = height_in c.args.rectangle c.args.frame.now in
    let s = cropped c.args.rectangle c.args.frame.now in
    c.in_ok-extend_from_slice.ensures.items ∙ ap₂ (λ l m. l ++ m) c.loop-k.invariant c.part_at.ensures ∙ next-part (part_at b w h s) c.loop-k.k

pub returns : goal.returns
returns c =
    let b = shows_all_columns c.args.rectangle in
    let w = width_in c.args.rectangle c.args.frame.now in
    let h = height_in c.args.rectangle c.args.frame.now in
    let s = cropped c.args.rectangle c.args.frame.now in
    let at : c.loop-k.k ≡ part_count b h = let t = c.loop-k-test.false in let a = c.loop-k.auto.k-end in let e = c.part_count-k-end.ensures in omega arith in
    c.loop-k.invariant ∙ ap (λ n. parts_before b w h s n) at ∙ whole w h s b
