use Rattle.std.proofs.Common.{◌≡◌, arith, rules, None, Option, replicate, vec_len}
use Rattle.std.proofs.lemmas.List.{get_or-replicate}
use Rattle.h264_near.specs.declared.context.Edge.{Edge}
use Rattle.h264_near.proofs.Next.{starts}
use Rattle.h264_near.proofs.near.Near.clear.Goals as goal

pub returns : goal.returns
returns c =
    let none : Option Edge = None in
    let w = c.args.self.now.within in
    let all : c.fill.new.self.items ≡ replicate (vec_len c.args.self.now.above) none = c.fill.ensures.items (search rules) in
    let row = c.begin_row.ensures in
    starts (vec_len c.args.self.now.above) c.begin_row.new.self (omega arith) (rw row.above c.fill.ensures.len) row.column row.left row.corner
    (λ k h. rw (row.above, all) (get_or-replicate (vec_len c.args.self.now.above) k None None h))
