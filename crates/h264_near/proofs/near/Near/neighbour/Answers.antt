use Rattle.std.proofs.Common.{◌-◌, ◌<◌, arith}
use Rattle.h264_near.proofs.Lookups.{motion-own, motion-left, motion-right}
use Rattle.h264_near.specs.Motions.{neighbour}
use Rattle.h264_near.proofs.near.Near.neighbour.Goals as goal

pub returns-then-y-eq0 : goal.returns-then-y-eq0
unfolding neighbour
returns-then-y-eq0 c width picture k = rw c.if-y-eq0.true (c.upper_motion.ensures width picture _ k)

pub returns-then-x-eq0 : goal.returns-then-x-eq0
returns-then-x-eq0 c width picture k =
    let some : 0 < width = let w = c.args.self.now.within in let s = k.sized in omega arith in
    let f = c.if-y-eq0.false in let r = c.requires.row in
    rw c.motion_along.ensures (motion-left width picture c.args.slice some c.args.self.now c.args.motions.now _ (c.args.y - 1) _ k c.if-x-eq0.true
    (omega arith) (omega arith))

pub returns-then-x-lt5 : goal.returns-then-x-lt5
returns-then-x-lt5 c width picture k =
    let some : 0 < width = let w = c.args.self.now.within in let s = k.sized in omega arith in
    let f = c.if-y-eq0.false in let g = c.if-x-eq0.false in let t = c.if-x-lt5.true in let r = c.requires.row in
    rw (c.derived.ensures, c.number.ensures.here)
    (motion-own width picture c.args.slice some c.args.motions.now (c.args.x - 1) (c.args.y - 1) _ _ (omega arith) (omega arith) (omega arith)
    (omega arith))

pub returns : goal.returns
returns c width picture k =
    let some : 0 < width = let w = c.args.self.now.within in let s = k.sized in omega arith in
    let f = c.if-y-eq0.false in let r = c.requires.row in let q = c.requires.column in let t = c.if-x-lt5.false in
    motion-right width picture c.args.slice some c.args.motions.now _ (c.args.y - 1) _ (omega arith) (omega arith) (omega arith)
