use Rattle.std.proofs.Common.{◌+◌, ◌<◌, [], is_some, arith, None, ◌∙◌, ap}
use Rattle.std.proofs.lemmas.List.{get_or_default}
use Rattle.h264_near.specs.Intra.{with_modes}
use Rattle.h264_near.proofs.Lookups.{mode-next, mode-past}
use Rattle.h264_near.proofs.near.Near.above_right.Goals as goal

pub returns-then-self-len : goal.returns-then-self-len
returns-then-self-len c width picture k =
    let some : 0 < width = let w = c.args.self.now.within in let s = k.sized in omega arith in
    let n = c.args.self.now.above.ok.0 in let t = c.if-self-len.true in let l = c.len.ensures in
    let e = c.index.ensures ∙ get_or_default c.args.self.now.above.items (c.args.self.now.column + 1) _ None (omega arith) in
    rw (c.is_some.ensures, c.mode_along.ensures, e)
    (ap is_some (mode-next width picture c.args.slice some c.args.constrained c.args.self.now (with_modes c.args.slice []) k
    (let s = k.sized in omega arith)))

pub returns : goal.returns
returns c width picture k =
    let some : 0 < width = let w = c.args.self.now.within in let s = k.sized in omega arith in
    ap is_some (mode-past width picture c.args.slice some c.args.constrained c.args.self.now (with_modes c.args.slice []) k
    (let s = k.sized in let w = c.args.self.now.within in omega arith)
    (let t = c.if-self-len.false in let e = c.len.ensures in let s = k.sized in omega arith))
