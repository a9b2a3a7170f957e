use Rattle.std.proofs.Common.{◌≡◌, ◌+◌, ◌-◌, ◌<◌, length, refl, sym, ap, ◌∙◌, arith}
use Rattle.std.specs.List.{range_with_len, flat_map}
use Rattle.std.proofs.lemmas.List.{length-append}
use Rattle.h264_dpb.specs.Shown.{width_in, height_in, cropped}
use Rattle.h264_lines.specs.Rows.{shows_all_columns, part_at, part_count, parts_before}
use Rattle.h264_lines.proofs.Counted.{next-part, part-between, whole}
use Rattle.h264_compare.proofs.Matching.{compares-none, compares-more, compares-is, compares-lack, compares-longer}
use Rattle.h264_compare.proofs.Sizes.{part-room}
use Rattle.h264_compare.proofs.comparing.Comparison.compare_shown.Goals as goal

pub loop-k-init : goal.loop-k-init
loop-k-init g c = (compares-none c.know_range.ensures, refl)

pub compare_part-run-requires : goal.compare_part-run-requires
compare_part-run-requires g c =
    let r = c.args.rectangle in
    let f = c.args.frame.now in
    part-room (width_in r f) (height_in r f) (cropped r f) (shows_all_columns r) c.loop-k.k _ _ _ c.loop-k-test.true c.part_count-k-end.ensures
    c.loop-k.invariant.1 c.part_at-part.ensures _ _ _ c.requires.width c.requires.height c.luma-luma.ensures.value c.luma-luma.ensures.small

pub overflow_add-byte : goal.overflow_add-byte
overflow_add-byte g c =
    let r = c.args.rectangle in
    let f = c.args.frame.now in
    let room = part-room (width_in r f) (height_in r f) (cropped r f) (shows_all_columns r) c.loop-k.k _ _ _ c.loop-k-test.true c.part_count-k-end.ensures
    c.loop-k.invariant.1 c.part_at-part.ensures _ _ _ c.requires.width c.requires.height c.luma-luma.ensures.value c.luma-luma.ensures.small in
    omega (arith, room)

pub returns-in-Some : goal.returns-in-Some
returns-in-Some g c =
    let b = shows_all_columns c.args.rectangle in
    let w = width_in c.args.rectangle c.args.frame.now in
    let h = height_in c.args.rectangle c.args.frame.now in
    let s = cropped c.args.rectangle c.args.frame.now in
    let within : c.loop-k.k < part_count b h = let t = c.loop-k-test.true in let e = c.part_count-k-end.ensures in omega arith in
    let later = flat_map (part_at b w h s) (range_with_len (c.loop-k.k + 1) (part_count b h - (c.loop-k.k + 1))) in
    let place = c.loop-k.invariant.1 in
    compares-is (sym (part-between (part_at b w h s) c.loop-k.k (part_count b h) within) ∙ whole w h s b)
    (compares-more c.loop-k.byte (omega (arith, place)) c.loop-k.invariant.0
    (compares-longer later c.in-Some.lack (compares-is c.part_at-part.ensures (compares-lack c.in-Some.is c.compare_part-run.ensures))))

pub loop-k-preserved : goal.loop-k-preserved
loop-k-preserved g c =
    let b = shows_all_columns c.args.rectangle in
    let w = width_in c.args.rectangle c.args.frame.now in
    let h = height_in c.args.rectangle c.args.frame.now in
    let s = cropped c.args.rectangle c.args.frame.now in
    let next = next-part (part_at b w h s) c.loop-k.k in
    let place = c.loop-k.invariant.1 in
    let part = ap length c.part_at-part.ensures in
    let long = length-append (parts_before b w h s c.loop-k.k) (part_at b w h s c.loop-k.k) in
    let all = ap length next in (
      compares-is next (compares-more c.loop-k.byte (omega (arith, place)) c.loop-k.invariant.0
          (compares-is c.part_at-part.ensures (compares-lack c.in-None.is c.compare_part-run.ensures))),
      omega (arith, place, part, long, all),
    )

pub returns : goal.returns
returns g c =
    let b = shows_all_columns c.args.rectangle in
    let w = width_in c.args.rectangle c.args.frame.now in
    let h = height_in c.args.rectangle c.args.frame.now in
    let s = cropped c.args.rectangle c.args.frame.now in
    let at : c.loop-k.k ≡ part_count b h = let t = c.loop-k-test.false in let a = c.loop-k.auto.k-end in let e = c.part_count-k-end.ensures in omega arith in
    compares-is (ap (λ n. parts_before b w h s n) at ∙ whole w h s b) c.loop-k.invariant.0
