use Rattle.std.proofs.Common.{◌≡◌, refl, rules, None, Option, replicate}
use Rattle.std.proofs.lemmas.List.{get_or-replicate}
use Rattle.h264_near.specs.declared.context.Edge.{Edge}
use Rattle.h264_near.proofs.Next.{starts}
use Rattle.h264_near.proofs.near.Near.new.Goals as goal

pub returns : goal.returns
returns c =
    let e = c.in_ok-above.ensures {u = tt} in
    let none : Option Edge = None in
    let all : c.in_ok-above.above.items ≡ replicate c.args.width none = e.items_if_clones_equal (search rules) in
    starts c.args.width _ c.requires.some e.len refl refl refl (λ k h. rw all (get_or-replicate c.args.width k None None h))
