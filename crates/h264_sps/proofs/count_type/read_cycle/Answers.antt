use Rattle.std.proofs.Common.{rules, arith, ◌≡◌, ◌+◌, ◌∙◌, pos, take, refl, length-set}
use Rattle.std.proofs.lemmas.List.{take_more_set, drop-set-lt}
use Rattle.std.proofs.lemmas.Int.{to_z-of_z}
use Rattle.std.specs.Int.{w32}
use mir.Val.{SFits}
use Rattle.h264_base.specs.declared.element_name.ElementName.TheVariants.{OffsetForRefFrame}
use Rattle.h264_base.proofs.Steps.{kept}
use Rattle.h264_bits.specs.Forms.{signed}
use Rattle.h264_bits.proofs.Repeated.{repeated-starts, repeated-next, repeated-stop, repeated-over, rest-kept}
use Rattle.h264_sps.proofs.Padded.{cycle-is}
use Rattle.h264_sps.proofs.Ways.{passed-on}
use Rattle.h264_sps.proofs.count_type.read_cycle.Goals as goal

pub loop-i-init : goal.loop-i-init
loop-i-init g c = record { rest = repeated-starts (signed OffsetForRefFrame) c.args.length _ _ _ refl; sized = refl; following = refl; room = c.requires.room }

pub returns-in_err-offset : goal.returns-in_err-offset
returns-in_err-offset g c = passed-on _ c.from_residual.ensures.1
    (repeated-stop (signed OffsetForRefFrame) c.args.length c.loop-i.i (take c.loop-i.i c.loop-i.offset_for_ref_frame) c.loop-i-test.true
    c.loop-i.invariant.rest c.in_err-offset.ensures)

pub loop-i-preserved : goal.loop-i-preserved
loop-i-preserved g c =
    let fits : SFits w32 c.in_ok-offset.offset = search rules in
    let n = c.loop-i.invariant.sized in
    let t = c.loop-i-test.true in
    let few = c.requires.few in
    record {
      rest = repeated-next (signed OffsetForRefFrame) c.args.length c.loop-i.i (take c.loop-i.i c.loop-i.offset_for_ref_frame) _ c.loop-i-test.true
          (rw (to_z-of_z w32 c.in_ok-offset.offset) (take_more_set c.loop-i.offset_for_ref_frame c.loop-i.i c.in_ok-offset.offset (omega arith)))
          c.loop-i.invariant.rest c.in_ok-offset.ensures;
      sized = length-set c.loop-i.offset_for_ref_frame c.loop-i.i _ ∙ c.loop-i.invariant.sized;
      following = drop-set-lt (c.loop-i.i + 1) c.loop-i.offset_for_ref_frame c.loop-i.i _ (omega arith) ∙
          rest-kept c.loop-i.offset_for_ref_frame c.loop-i.i 255 (pos 0) (omega arith) c.loop-i.invariant.following;
      room = let k = kept c.in_ok-offset.ensures in let r = c.loop-i.invariant.room in rw k r;
    }

pub returns : goal.returns
returns g c =
    let at : c.loop-i.i ≡ c.args.length = (let t = c.loop-i-test.false in omega arith) in
    repeated-over (signed OffsetForRefFrame) c.args.length c.loop-i.i (take c.loop-i.i c.loop-i.offset_for_ref_frame) _ c.loop-i-test.false
    (cycle-is c.loop-i.offset_for_ref_frame c.loop-i.i c.args.length at c.requires.few c.loop-i.invariant.sized c.loop-i.invariant.following)
    c.loop-i.invariant.rest
