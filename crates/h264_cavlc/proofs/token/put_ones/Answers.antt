use Rattle.std.proofs.Common.{rules, arith, ◌/◌, ◌%◌, ◌-◌, ◌^◌, ◌∙◌, ap}
use Rattle.std.proofs.lemmas.Int.{to_z-of_z}
use Rattle.std.specs.Int.{w16}
use mir.Val.{SFits}
use Rattle.h264_cavlc.specs.Token.{one_of}
use Rattle.h264_cavlc.proofs.Ones.{put-each}
use Rattle.h264_cavlc.proofs.token.put_ones.Goals as goal

pub returns : goal.returns
returns c k few =
    let a : SFits w16 c.one_of.result = search rules in
    let b : SFits w16 c.one_of-2.result = search rules in
    let d : SFits w16 c.one_of-3.result = search rules in
    let sixteen = c.told-levels in
    rw (to_z-of_z w16 c.one_of.result a, to_z-of_z w16 c.one_of-2.result b, to_z-of_z w16 c.one_of-3.result d)
    (put-each c.args.levels.now (λ k. one_of (c.args.signs / 2 ^ (2 - k) % 2)) c.one_of.result c.one_of-2.result c.one_of-3.result k (omega arith)
    (c.one_of.ensures ∙ ap one_of c.sign_of.ensures)
    (c.one_of-2.ensures ∙ ap one_of c.sign_of-2.ensures)
    (c.one_of-3.ensures ∙ ap one_of c.sign_of-3.ensures)
    few)
