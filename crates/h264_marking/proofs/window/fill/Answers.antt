use Rattle.std.proofs.Common.{length, ap, arith, rules}
use Rattle.std.specs.Int.{w64}
use Rattle.std.proofs.lemmas.Int.{to_z-of_z}
use mir.Val.{SFits}
use Rattle.h264_marking.proofs.Kept.{slid-fewer}
use Rattle.h264_marking.proofs.window.fill.Goals as goal

pub push-requires-2 : goal.push-requires-2
push-requires-2 c =
    let few = slid-fewer c.args.missing.now c.in-Some.least c.args.places.now.items cc in
    let fits : SFits w64 c.in-Some.least = search rules in
    let left = simp to_z-of_z at c.remove_pic_num.ensures in
    let same = ap length left in
    let len = ap length c.as_slice-2.ensures.value in
    omega arith
