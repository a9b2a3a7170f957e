use Rattle.std.proofs.Common.{◌<◌, Option, refl, arith, ap, sym, None, ◌∙◌}
use Rattle.std.specs.Prelude.{slice_set}
use Rattle.std.proofs.lemmas.List.{get_or_default}
use Rattle.h264_near.specs.declared.context.Edge.{Edge}
use Rattle.h264_near.specs.Beside.{edge_of}
use Rattle.h264_near.proofs.Next.{goes-on}
use Rattle.h264_near.proofs.Skips.{skipped-lower, skipped-right}
use Rattle.h264_near.proofs.near.Near.repeat.Goals as goal

pub returns-clause-keeps : goal.returns-clause-keeps
returns-clause-keeps c width picture s coded k i is room =
    let near = c.args.self.now in
    let some : 0 < width = omega arith in
    let f = c.if-self-len.false in
    let e = c.len.ensures in
    goes-on width picture coded some near _ (edge_of s) (edge_of s) k (omega arith)
    (ap (λ (o : Option Edge). slice_set near.above.items near.column o) (near.beside s i)) refl (near.beside s i)
    (c.index.ensures ∙ get_or_default near.above.items near.column _ None (let w = near.within in let n = near.above.ok.0 in omega arith)) refl
    (sym near.above.ok.0) (skipped-lower s coded is) (skipped-right s coded is)
