use Rattle.std.proofs.Common.{◌≡◌, ◌++◌, ap, subst, ◌∙◌, arith}
use Rattle.md5.specs.Md5.{md5, Holds}
use Rattle.h264_dpb.specs.Shown.{width_in, height_in, cropped}
use Rattle.h264_lines.specs.Rows.{shows_all_columns, part_count, part_at, parts_before}
use Rattle.h264_lines.proofs.Counted.{next-part, whole}
use Rattle.h264_lines.proofs.frames.digest.Goals as goal

pub loop-k-init : goal.loop-k-init
loop-k-init c = c.new-hasher.ensures

pub loop-k-preserved : goal.loop-k-preserved
loop-k-preserved c =
    let b = shows_all_columns c.args.rectangle in
    let w = width_in c.args.rectangle c.args.frame.now in
    let h = height_in c.args.rectangle c.args.frame.now in
    let s = cropped c.args.rectangle c.args.frame.now in
    subst (λ l. Holds c.update.new.self l) (ap (λ l. parts_before b w h s c.loop-k.k ++ l) c.part_at.ensures ∙ next-part (part_at b w h s) c.loop-k.k)
    (c.update.ensures _ c.loop-k.invariant)

pub returns : goal.returns
returns c =
    let b = shows_all_columns c.args.rectangle in
    let w = width_in c.args.rectangle c.args.frame.now in
    let h = height_in c.args.rectangle c.args.frame.now in
    let s = cropped c.args.rectangle c.args.frame.now in
    let at : c.loop-k.k ≡ part_count b h = let t = c.loop-k-test.false in let a = c.loop-k.auto.k-end in let e = c.part_count-k-end.ensures in omega arith in
    c.finalize.ensures _ c.loop-k.invariant ∙ ap (λ n. md5 (parts_before b w h s n)) at ∙ ap md5 (whole w h s b)
