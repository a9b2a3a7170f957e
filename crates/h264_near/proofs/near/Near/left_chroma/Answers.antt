use Rattle.std.proofs.Common.{◌-◌, ◌/◌, ◌%◌, ◌<◌, refl, arith}
use Rattle.h264_near.specs.Coded.{chroma_number_of}
use Rattle.h264_near.proofs.Lookups.{chroma-own, chroma-left}
use Rattle.h264_near.proofs.near.Near.left_chroma.Goals as goal

pub returns-then-b-gt0 : goal.returns-then-b-gt0
unfolding chroma_number_of
returns-then-b-gt0 c width picture k =
    let some : 0 < width = let w = c.args.self.now.within in let s = k.sized in omega arith in
    let b = c.args.b in let r = c.requires in let t = c.if-b-gt0.true in
    chroma-own width picture c.args.slice some c.args.totals.now b (b / 4) (b % 2 - 1) (b / 2 % 2) _ _ (b - 1) (omega arith) refl (omega arith) (omega arith)
    (omega arith) (omega arith) (omega arith)

pub returns : goal.returns
returns c width picture k =
    let some : 0 < width = let w = c.args.self.now.within in let s = k.sized in omega arith in
    let b = c.args.b in let r = c.requires in let f = c.if-b-gt0.false in
    rw c.chroma_along.ensures (chroma-left width picture c.args.slice some c.args.self.now _ (b / 4) _ (b / 2 % 2) k (omega arith) (omega arith) (omega arith))
