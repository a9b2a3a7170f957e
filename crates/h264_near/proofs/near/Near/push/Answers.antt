use Rattle.std.proofs.Common.{◌<◌, Option, refl, arith, ap, sym, None, ◌∙◌}
use Rattle.std.specs.Prelude.{slice_set}
use Rattle.std.proofs.lemmas.List.{get_or_default}
use Rattle.h264_near.specs.declared.context.Edge.{Edge}
use Rattle.h264_near.specs.Keeps.{Lower, Right}
use Rattle.h264_near.proofs.Edges.{edge-there}
use Rattle.h264_near.proofs.Next.{goes-on, goes-round}
use Rattle.h264_near.proofs.near.Near.push.Goals as goal

pub returns-then-self-len : goal.returns-then-self-len
returns-then-self-len c width picture coded k s =
    let some : 0 < width = let w = c.args.self.now.within in let s = k.sized in omega arith in
    let t = c.if-self-len.true in
    let e = c.len.ensures in
    let n = sym c.args.self.now.above.ok.0 in
    let lower = edge-there Lower c.put_lower.new.place coded (c.put_lower.ensures coded s) in
    let right = edge-there Right c.put_right.new.place coded (c.put_right.ensures coded s) in
    goes-on width picture coded some c.args.self.now _ lower.0 right.0 k (omega arith)
    (ap (λ (o : Option Edge). slice_set c.args.self.now.above.items c.args.self.now.column o) lower.1) refl right.1
    (c.index.ensures ∙ get_or_default c.args.self.now.above.items c.args.self.now.column _ None (let w = c.args.self.now.within in omega arith)) refl n
    lower.2 right.2

pub returns-else-self-len : goal.returns-else-self-len
returns-else-self-len c width picture coded k s =
    let some : 0 < width = let w = c.args.self.now.within in let s = k.sized in omega arith in
    let t = c.if-self-len.false in
    let e = c.len.ensures in
    let n = sym c.args.self.now.above.ok.0 in
    let lower = edge-there Lower c.put_lower-else-self-len.new.place coded (c.put_lower-else-self-len.ensures coded s) in
    goes-round width picture coded some c.args.self.now _ lower.0 k c.args.self.now.within (omega arith)
    (rw c.begin_row.ensures.above (ap (λ (o : Option Edge). slice_set c.args.self.now.above.items c.args.self.now.column o) lower.1))
    (rw c.begin_row.ensures.above refl)
    c.begin_row.ensures.left c.begin_row.ensures.corner c.begin_row.ensures.column n lower.2
