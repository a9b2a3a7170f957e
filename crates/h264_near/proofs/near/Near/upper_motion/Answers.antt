use Rattle.std.proofs.Common.{◌≡◌, ◌+◌, ◌-◌, ◌<◌, arith, None, ◌∙◌}
use Rattle.std.proofs.lemmas.List.{get_or_default}
use Rattle.h264_near.proofs.Lookups.{motion-corner, motion-upper, motion-next, motion-past}
use Rattle.h264_near.proofs.near.Near.upper_motion.Goals as goal

pub returns-then-x-eq0 : goal.returns-then-x-eq0
returns-then-x-eq0 c width picture current k =
    let some : 0 < width = let w = c.args.self.now.within in let s = k.sized in omega arith in
    rw c.motion_along.ensures (motion-corner width picture c.args.slice some c.args.self.now current _ k c.if-x-eq0.true)

pub returns-then-x-lt5 : goal.returns-then-x-lt5
returns-then-x-lt5 c width picture current k =
    let some : 0 < width = let w = c.args.self.now.within in let s = k.sized in omega arith in
    let f = c.if-x-eq0.false in let t = c.if-x-lt5.true in
    let e = c.index.ensures ∙ get_or_default c.args.self.now.above.items c.args.self.now.column _ None
    (let n = c.args.self.now.above.ok.0 in let w = c.args.self.now.within in omega arith) in
    rw (c.motion_along-then-x-lt5.ensures, e)
    (motion-upper width picture c.args.slice some c.args.self.now current (c.args.x - 1) _ k (omega arith) (omega arith))

pub returns-then-self-len : goal.returns-then-self-len
returns-then-self-len c width picture current k =
    let some : 0 < width = let w = c.args.self.now.within in let s = k.sized in omega arith in
    let n = c.args.self.now.above.ok.0 in let t = c.if-self-len.true in let l = c.len.ensures in let r = c.requires in
    let five : c.args.x ≡ 5 = let f = c.if-x-lt5.false in omega arith in
    let e = c.index-then-self-len.ensures ∙ get_or_default c.args.self.now.above.items (c.args.self.now.column + 1) _ None (omega arith) in
    rw (c.motion_along-then-self-len.ensures, e) (motion-next width picture c.args.slice some c.args.self.now current _ k five (let s = k.sized in omega arith))

pub returns : goal.returns
returns c width picture current k =
    let some : 0 < width = let w = c.args.self.now.within in let s = k.sized in omega arith in
    let r = c.requires in
    let five : c.args.x ≡ 5 = let f = c.if-x-lt5.false in omega arith in
    motion-past width picture c.args.slice some c.args.self.now current _ k five (let s = k.sized in let w = c.args.self.now.within in omega arith)
    (let t = c.if-self-len.false in let e = c.len.ensures in let s = k.sized in omega arith)
