use Rattle.std.proofs.Common.{◌∙◌, sym, arith, rules}
use Rattle.std.proofs.lemmas.Int.{to_z-of_z}
use Rattle.std.specs.Int.{w64}
use mir.Val.{SFits}
use Rattle.h264_lists.proofs.Turns.{put-in}
use Rattle.h264_lists.proofs.modified.put_at.Goals as goal

pub returns-clause-value : goal.returns-clause-value
returns-clause-value c =
    let fits : SFits w64 c.args.no_wrap = search rules in
    let others = rw c.as_slice.ensures.value at (simp to_z-of_z at c.left_place-place.ensures.others) in
    put-in _ c.args.frame c.args.slots.now.items c.remove.new.self.items _ c.args.k (omega arith) (others ∙ sym c.remove.ensures.items) c.insert.ensures.items
