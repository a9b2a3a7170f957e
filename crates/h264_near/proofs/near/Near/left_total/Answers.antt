use Rattle.std.proofs.Common.{◌≡◌, ◌-◌, ◌<◌, refl, arith}
use Rattle.h264_plane.specs.Blocks.{column_of, row_of}
use Rattle.h264_near.proofs.Lookups.{within-column, within-row, left-earlier, total-own, total-left}
use Rattle.h264_near.proofs.near.Near.left_total.Goals as goal

pub returns-in-Some : goal.returns-in-Some
returns-in-Some c width picture k =
    let some : 0 < width = let w = c.args.self.now.within in let s = k.sized in omega arith in
    let p = c.in-Some.ensures.some in
    rw c.in-Some.ensures.here (total-own width picture c.args.slice some c.args.totals.now c.args.b (column_of c.args.b - 1) (row_of c.args.b) _ _
    (omega arith) refl (let h = within-column c.args.b in omega arith) (within-row c.args.b c.requires) (left-earlier c.args.b c.requires p)
    (omega arith))

pub returns-in-None : goal.returns-in-None
returns-in-None c width picture k =
    let some : 0 < width = let w = c.args.self.now.within in let s = k.sized in omega arith in
    let z : column_of c.args.b ≡ 0 = c.in-None.ensures.none refl in
    rw (c.total_along.ensures, c.row.ensures.here)
    (total-left width picture c.args.slice some c.args.self.now _ _ (row_of c.args.b) k z (within-row c.args.b c.requires))
