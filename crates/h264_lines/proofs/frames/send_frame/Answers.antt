use Rattle.std.proofs.Common.{refl, ◌≡◌, ◌+◌, ◌-◌, ap, sym, ◌∙◌, ◌<◌, arith}
use Rattle.std.specs.List.{range_with_len, flat_map}
use Rattle.h264_dpb.specs.Shown.{width_in, height_in, cropped}
use Rattle.h264_lines.specs.Rows.{shows_all_columns, part_at, part_count, parts_before}
use Rattle.h264_lines.proofs.Known.{sends-none, sends-more, sends-is, front-is, front-after, front-longer}
use Rattle.h264_lines.proofs.Counted.{next-part, part-between, whole}
use Rattle.h264_lines.proofs.frames.send_frame.Goals as goal

pub loop-k-init : goal.loop-k-init
loop-k-init g c = (sends-none (g.W.Device.contents c.args.out.now), refl)

pub returns-in-Err-clause-front : goal.returns-in-Err-clause-front
returns-in-Err-clause-front g c =
    let b = shows_all_columns c.args.rectangle in
    let w = width_in c.args.rectangle c.args.frame.now in
    let h = height_in c.args.rectangle c.args.frame.now in
    let s = cropped c.args.rectangle c.args.frame.now in
    let within : c.loop-k.k < part_count b h = let t = c.loop-k-test.true in let e = c.part_count-k-end.ensures in omega arith in
    let later = flat_map (part_at b w h s) (range_with_len (c.loop-k.k + 1) (part_count b h - (c.loop-k.k + 1))) in
    front-is (sym (part-between (part_at b w h s) c.loop-k.k (part_count b h) within) ∙ whole w h s b)
    (front-after c.loop-k.invariant.0 (front-longer later (front-is c.part_at.ensures c.in-Err.ensures.front)))

pub loop-k-preserved : goal.loop-k-preserved
loop-k-preserved g c =
    let b = shows_all_columns c.args.rectangle in
    let w = width_in c.args.rectangle c.args.frame.now in
    let h = height_in c.args.rectangle c.args.frame.now in
    let s = cropped c.args.rectangle c.args.frame.now in (
      sends-is (next-part (part_at b w h s) c.loop-k.k) (sends-more c.loop-k.invariant.0 (sends-is c.part_at.ensures c.in-Ok.ensures.ok)),
      c.in-Ok.ensures.quiet ∙ c.loop-k.invariant.1,
    )

pub returns-clause-ok : goal.returns-clause-ok
returns-clause-ok g c =
    let b = shows_all_columns c.args.rectangle in
    let w = width_in c.args.rectangle c.args.frame.now in
    let h = height_in c.args.rectangle c.args.frame.now in
    let s = cropped c.args.rectangle c.args.frame.now in
    let at : c.loop-k.k ≡ part_count b h = let t = c.loop-k-test.false in let a = c.loop-k.auto.k-end in let e = c.part_count-k-end.ensures in omega arith in
    sends-is (ap (λ n. parts_before b w h s n) at ∙ whole w h s b) c.loop-k.invariant.0

pub returns-clause-quiet : goal.returns-clause-quiet
returns-clause-quiet g c = c.loop-k.invariant.1
