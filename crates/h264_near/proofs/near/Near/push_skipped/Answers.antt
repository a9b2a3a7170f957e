use Rattle.std.proofs.Common.{◌<◌, Option, refl, arith, ap, sym, None, ◌∙◌}
use Rattle.std.specs.Prelude.{slice_set}
use Rattle.std.proofs.lemmas.List.{get_or_default}
use Rattle.h264_near.specs.declared.context.Edge.{Edge}
use Rattle.h264_near.specs.Beside.{edge_of}
use Rattle.h264_near.proofs.Next.{goes-on, goes-round}
use Rattle.h264_near.proofs.Skips.{skipped-lower, skipped-right}
use Rattle.h264_near.proofs.near.Near.push_skipped.Goals as goal

pub returns-then-self-len : goal.returns-then-self-len
returns-then-self-len c width picture coded k s =
    let some : 0 < width = let w = c.args.self.now.within in let s = k.sized in omega arith in
    let t = c.if-self-len.true in
    let e = c.len.ensures in
    let n = sym c.args.self.now.above.ok.0 in
    let edge = edge_of c.args.m.now in
    goes-on width picture coded some c.args.self.now _ edge edge k (omega arith)
    (ap (λ (o : Option Edge). slice_set c.args.self.now.above.items c.args.self.now.column o) c.put_skipped.ensures) refl
    c.put_skipped-then-self-len.ensures
    (c.index.ensures ∙ get_or_default c.args.self.now.above.items c.args.self.now.column _ None (let w = c.args.self.now.within in omega arith)) refl n
    (skipped-lower c.args.m.now coded s) (skipped-right c.args.m.now coded s)

pub returns-else-self-len : goal.returns-else-self-len
returns-else-self-len c width picture coded k s =
    let some : 0 < width = let w = c.args.self.now.within in let s = k.sized in omega arith in
    let t = c.if-self-len.false in
    let e = c.len.ensures in
    let n = sym c.args.self.now.above.ok.0 in
    goes-round width picture coded some c.args.self.now _ (edge_of c.args.m.now) k c.args.self.now.within (omega arith)
    (rw c.begin_row.ensures.above (ap (λ (o : Option Edge). slice_set c.args.self.now.above.items c.args.self.now.column o)
    c.put_skipped-else-self-len.ensures)) (rw c.begin_row.ensures.above refl)
    c.begin_row.ensures.left c.begin_row.ensures.corner c.begin_row.ensures.column n (skipped-lower c.args.m.now coded s)
