use Rattle.std.proofs.Common.{◌≡◌, ◌-◌, ◌<◌, refl, arith, None, ◌∙◌}
use Rattle.std.proofs.lemmas.List.{get_or_default}
use Rattle.h264_plane.specs.Blocks.{column_of, row_of}
use Rattle.h264_near.proofs.Lookups.{within-column, within-row, upper-earlier, total-own, total-upper}
use Rattle.h264_near.proofs.near.Near.upper_total.Goals as goal

pub returns-in-Some : goal.returns-in-Some
returns-in-Some c width picture k =
    let some : 0 < width = let w = c.args.self.now.within in let s = k.sized in omega arith in
    let p = c.in-Some.ensures.some in
    rw c.in-Some.ensures.here (total-own width picture c.args.slice some c.args.totals.now c.args.b (column_of c.args.b) (row_of c.args.b - 1) _ _ refl
    (omega arith) (within-column c.args.b) (let h = within-row c.args.b c.requires in omega arith) (upper-earlier c.args.b c.requires p) (omega arith))

pub returns-in-None : goal.returns-in-None
returns-in-None c width picture k =
    let some : 0 < width = let w = c.args.self.now.within in let s = k.sized in omega arith in
    let z : row_of c.args.b ≡ 0 = c.in-None.ensures.none refl in
    let e = c.index.ensures ∙ get_or_default c.args.self.now.above.items c.args.self.now.column _ None
    (let n = c.args.self.now.above.ok.0 in let w = c.args.self.now.within in omega arith) in
    rw (c.total_along.ensures, c.column.ensures.here, e)
    (total-upper width picture c.args.slice some c.args.self.now _ (column_of c.args.b) _ k z (within-column c.args.b))
