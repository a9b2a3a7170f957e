use Rattle.std.proofs.Common.{rules, arith, ◌≡◌, ◌∙◌, take, refl, ap, length-set}
use Rattle.std.proofs.lemmas.List.{take_more_set}
use Rattle.std.proofs.lemmas.Result.{err_from_is_err_and}
use Rattle.std.proofs.lemmas.Int.{to_z-of_z}
use Rattle.std.specs.Int.{w16}
use mir.Val.{SFits}
use Rattle.h264_base.proofs.Steps.{kept}
use Rattle.h264_bits.proofs.Repeated.{repeated-starts, repeated-next, repeated-stop, repeated-over}
use Rattle.h264_cavlc.specs.Token.{trailing_one}
use Rattle.h264_cavlc.proofs.token.read_each_one.Goals as goal

pub loop-k-init : goal.loop-k-init
loop-k-init g c = record { rest = repeated-starts trailing_one c.args.ones _ _ _ refl; sized = search rules; room = c.requires.room }

pub returns-in_err-one : goal.returns-in_err-one
returns-in_err-one g c = let p = err_from_is_err_and c.from_residual.result c.from_residual.ensures.1 in
    rw (p.1, p.2) (repeated-stop trailing_one c.args.ones c.loop-k.k (take c.loop-k.k c.loop-k.levels) c.loop-k-test.true c.loop-k.invariant.rest
    c.in_err-one.ensures)

pub loop-k-preserved : goal.loop-k-preserved
loop-k-preserved g c =
    let fits : SFits w16 c.in_ok-one.one = search rules in
    let n = c.loop-k.invariant.sized in
    let t = c.loop-k-test.true in
    let few = c.requires.few in
    record {
      rest = repeated-next trailing_one c.args.ones c.loop-k.k (take c.loop-k.k c.loop-k.levels) _ t
          (rw (to_z-of_z w16 c.in_ok-one.one) (take_more_set c.loop-k.levels c.loop-k.k c.in_ok-one.one (omega arith))) c.loop-k.invariant.rest
          c.in_ok-one.ensures;
      sized = length-set c.loop-k.levels c.loop-k.k _ ∙ n;
      room = let k = kept c.in_ok-one.ensures in let r = c.loop-k.invariant.room in rw k r;
    }

pub returns : goal.returns
returns g c =
    let at : c.loop-k.k ≡ c.args.ones = (let t = c.loop-k-test.false in omega arith) in
    repeated-over trailing_one c.args.ones c.loop-k.k (take c.loop-k.k c.loop-k.levels) _ c.loop-k-test.false (ap (λ n. take n c.loop-k.levels) at)
    c.loop-k.invariant.rest
