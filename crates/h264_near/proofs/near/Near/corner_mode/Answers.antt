use Rattle.std.proofs.Common.{◌≡◌, ◌-◌, ◌<◌, arith, None, ◌∙◌}
use Rattle.std.proofs.lemmas.List.{get_or_default}
use Rattle.h264_plane.specs.Blocks.{column_of, row_of}
use Rattle.h264_near.proofs.Lookups.{within-column, within-row, corner-earlier, mode-own, mode-left, mode-upper, mode-corner}
use Rattle.h264_near.proofs.near.Near.corner_mode.Goals as goal

pub returns-then-y-gt0 : goal.returns-then-y-gt0
returns-then-y-gt0 c width picture k =
    let some : 0 < width = let w = c.args.self.now.within in let s = k.sized in omega arith in
    let p : 0 < column_of c.args.b = let t = c.if-x-gt0.true in let e = c.column-x.ensures.here in omega arith in
    let q : 0 < row_of c.args.b = let t = c.if-y-gt0.true in let e = c.row-y.ensures.here in omega arith in
    rw (c.number.ensures.here, c.column-x.ensures.here, c.row-y.ensures.here)
    (mode-own width picture c.args.slice some c.args.constrained c.args.modes.now c.args.b (column_of c.args.b - 1) (row_of c.args.b - 1) _ _
    (omega arith) (omega arith) (let h = within-column c.args.b in omega arith) (let h = within-row c.args.b c.requires in omega arith)
    (corner-earlier c.args.b c.requires p q) (omega arith))

pub returns-then-x-gt0 : goal.returns-then-x-gt0
returns-then-x-gt0 c width picture k =
    let some : 0 < width = let w = c.args.self.now.within in let s = k.sized in omega arith in
    let p : 0 < column_of c.args.b = let t = c.if-x-gt0.true in let e = c.column-x.ensures.here in omega arith in
    let z : row_of c.args.b ≡ 0 = let f = c.if-y-gt0.false in let e = c.row-y.ensures.here in omega arith in
    let e = c.index.ensures ∙ get_or_default c.args.self.now.above.items c.args.self.now.column _ None
    (let n = c.args.self.now.above.ok.0 in let w = c.args.self.now.within in omega arith) in
    rw (c.mode_along.ensures, c.column-x.ensures.here, e)
    (mode-upper width picture c.args.slice some c.args.constrained c.args.self.now _ (column_of c.args.b - 1) _ _ k (omega arith) z
    (let h = within-column c.args.b in omega arith))

pub returns-then-y-gt0-2 : goal.returns-then-y-gt0-2
returns-then-y-gt0-2 c width picture k =
    let some : 0 < width = let w = c.args.self.now.within in let s = k.sized in omega arith in
    let z : column_of c.args.b ≡ 0 = let f = c.if-x-gt0.false in let e = c.column-x.ensures.here in omega arith in
    let q : 0 < row_of c.args.b = let t = c.if-y-gt0-2.true in let e = c.row-y.ensures.here in omega arith in
    rw (c.mode_along-then-y-gt0-2.ensures, c.row-y.ensures.here)
    (mode-left width picture c.args.slice some c.args.constrained c.args.self.now _ _ (row_of c.args.b - 1) _ k z (omega arith)
    (let h = within-row c.args.b c.requires in omega arith))

pub returns : goal.returns
returns c width picture k =
    let some : 0 < width = let w = c.args.self.now.within in let s = k.sized in omega arith in
    let z : column_of c.args.b ≡ 0 = let f = c.if-x-gt0.false in let e = c.column-x.ensures.here in omega arith in
    let y : row_of c.args.b ≡ 0 = let f = c.if-y-gt0-2.false in let e = c.row-y.ensures.here in omega arith in
    rw c.mode_along-2.ensures (mode-corner width picture c.args.slice some c.args.constrained c.args.self.now _ _ _ k z y)
