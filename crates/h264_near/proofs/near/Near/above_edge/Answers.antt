use Rattle.std.proofs.Common.{◌<◌, arith, None, ◌∙◌}
use Rattle.std.proofs.lemmas.List.{get_or_default}
use Rattle.h264_near.proofs.Lookups.{above-edge}
use Rattle.h264_near.proofs.near.Near.above_edge.Goals as goal

pub returns : goal.returns
returns c width picture k =
    let some : 0 < width = let w = c.args.self.now.within in let s = k.sized in omega arith in
    let e = c.index.ensures ∙ get_or_default c.args.self.now.above.items c.args.self.now.column _ None
    (let n = c.args.self.now.above.ok.0 in let w = c.args.self.now.within in omega arith) in
    rw e (above-edge width picture 0 some c.args.self.now k)
