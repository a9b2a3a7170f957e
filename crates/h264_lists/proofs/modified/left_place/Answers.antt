use Rattle.std.proofs.Common.{sym, rules}
use Rattle.std.proofs.lemmas.Int.{to_z-of_z}
use Rattle.std.proofs.lemmas.List.{take_rest}
use Rattle.std.specs.Int.{w64}
use mir.Val.{SFits}
use Rattle.h264_lists.proofs.Turns.{leaves-its, leaves-last}
use Rattle.h264_lists.proofs.modified.left_place.Goals as goal

pub returns-in-Some-clause-others : goal.returns-in-Some-clause-others
returns-in-Some-clause-others c =
    let fits : SFits w64 c.args.no_wrap = search rules in
    let found = simp (to_z-of_z, take_rest) at c.in-Some.ensures in
    (leaves-its _ c.args.slots.now c.args.k c.in-Some.following c.requires.in_list (sym found)).1

pub returns-in-None-clause-others : goal.returns-in-None-clause-others
returns-in-None-clause-others c =
    let fits : SFits w64 c.args.no_wrap = search rules in
    let found = simp (to_z-of_z, take_rest) at c.in-None.ensures in
    leaves-last _ c.args.slots.now c.args.k c.requires.in_list (sym found)
