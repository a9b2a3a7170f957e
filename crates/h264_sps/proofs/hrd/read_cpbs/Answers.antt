use Rattle.std.proofs.Common.{arith, ◌≡◌, ◌+◌, ◌∙◌, take, refl, length-set}
use Rattle.std.proofs.lemmas.List.{take_more_set, drop-set-lt}
use Rattle.h264_base.proofs.Steps.{kept}
use Rattle.h264_sps.specs.Hrd.{cpb, no_cpb}
use Rattle.h264_bits.proofs.Repeated.{repeated-starts, repeated-next, repeated-stop, repeated-over, rest-kept}
use Rattle.h264_sps.proofs.VuiPadded.{cpbs-are}
use Rattle.h264_sps.proofs.Ways.{passed-on}
use Rattle.h264_sps.proofs.hrd.read_cpbs.Goals as goal

pub loop-i-init : goal.loop-i-init
loop-i-init g c = record { rest = repeated-starts cpb c.args.count _ _ _ refl; sized = refl; following = refl; room = c.requires.room }

pub returns-in_err-next : goal.returns-in_err-next
returns-in_err-next g c = passed-on _ c.from_residual.ensures.1
    (repeated-stop cpb c.args.count c.loop-i.i (take c.loop-i.i c.loop-i.entries) c.loop-i-test.true c.loop-i.invariant.rest c.in_err-next.ensures)

pub loop-i-preserved : goal.loop-i-preserved
loop-i-preserved g c =
    let n = c.loop-i.invariant.sized in
    let t = c.loop-i-test.true in
    let few = c.requires.few in
    record {
      rest = repeated-next cpb c.args.count c.loop-i.i (take c.loop-i.i c.loop-i.entries) _ c.loop-i-test.true
          (take_more_set c.loop-i.entries c.loop-i.i c.in_ok-next.next (omega arith)) c.loop-i.invariant.rest c.in_ok-next.ensures;
      sized = length-set c.loop-i.entries c.loop-i.i _ ∙ c.loop-i.invariant.sized;
      following = drop-set-lt (c.loop-i.i + 1) c.loop-i.entries c.loop-i.i _ (omega arith) ∙
          rest-kept c.loop-i.entries c.loop-i.i 32 no_cpb (omega arith) c.loop-i.invariant.following;
      room = let k = kept c.in_ok-next.ensures in let r = c.loop-i.invariant.room in rw k r;
    }

pub returns : goal.returns
returns g c =
    let at : c.loop-i.i ≡ c.args.count = (let t = c.loop-i-test.false in omega arith) in
    repeated-over cpb c.args.count c.loop-i.i (take c.loop-i.i c.loop-i.entries) _ c.loop-i-test.false
    (cpbs-are c.loop-i.entries c.loop-i.i c.args.count at c.requires.few c.loop-i.invariant.sized c.loop-i.invariant.following) c.loop-i.invariant.rest
