use Rattle.std.proofs.Common.{◌+◌, ◌∙◌, ap, sym, arith, rules}
use Rattle.std.proofs.lemmas.Int.{to_z-of_z, to_z_pos}
use Rattle.std.specs.Int.{w64}
use mir.Val.{SFits}
use Rattle.h264_lists.specs.Built.{list_answer}
use Rattle.h264_lists.proofs.Turns.{within-more, refused-at, goes-on-at, turns-end}
use Rattle.h264_lists.proofs.modified.modify.Goals as goal

pub named_frame-requires : goal.named_frame-requires
named_frame-requires c =
    let fits : SFits w64 c.pred_after-no_wrap.result = search rules in
    rw to_z-of_z (within-more (c.loop-k.k + 1) 16 _ (omega arith) (c.pred_after-no_wrap.ensures.grows c.loop-k.k c.loop-k.invariant.bound))

pub put_at-requires : goal.put_at-requires
put_at-requires c =
    let fits : SFits w64 c.pred_after-no_wrap.result = search rules in
    rw to_z-of_z (within-more (c.loop-k.k + 1) 16 _ (omega arith) (c.pred_after-no_wrap.ensures.grows c.loop-k.k c.loop-k.invariant.bound))

pub returns-in_default : goal.returns-in_default
returns-in_default c =
    let fits : SFits w64 c.pred_after-no_wrap.result = search rules in
    let sent = to_z-of_z w64 c.pred_after-no_wrap.result fits in
    let start = to_z_pos w64 c.args.current.now.frame_num (omega arith) in
    ap list_answer (refused-at _ _ _ _ _ _ _ _ _ _ _ (omega arith) (rw start at c.loop-k.invariant.turns) c.pred_after-no_wrap.ensures.value sent
    c.in_default.ensures)

pub loop-k-preserved : goal.loop-k-preserved
loop-k-preserved c =
    let fits : SFits w64 c.pred_after-no_wrap.result = search rules in
    let sent = to_z-of_z w64 c.pred_after-no_wrap.result fits in
    record {
      turns = goes-on-at _ _ _ _ _ _ _ _ _ _ _ _ _ (omega arith) c.loop-k.invariant.turns c.pred_after-no_wrap.ensures.value sent c.in-Some.ensures
          c.loop-k.invariant.places c.put_at.ensures.value;
      places = c.put_at.ensures.len ∙ c.loop-k.invariant.places;
      bound = rw to_z-of_z (c.pred_after-no_wrap.ensures.grows c.loop-k.k c.loop-k.invariant.bound);
    }

pub returns : goal.returns
returns c =
    let start = to_z_pos w64 c.args.current.now.frame_num (omega arith) in
    ap list_answer (sym (turns-end _ _ _ _ _ _ _ c.loop-k-test.false) ∙ rw start at c.loop-k.invariant.turns)
