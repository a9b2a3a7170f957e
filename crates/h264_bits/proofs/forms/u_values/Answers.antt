use Rattle.std.proofs.Common.{rules, arith, ◌≡◌, ◌∙◌, take, length, refl, length-set, sym}
use Rattle.std.proofs.lemmas.List.{length-replicate, take_more_set, take_all, drop_all}
use Rattle.std.proofs.lemmas.Result.{err_from_is_err_and}
use Rattle.h264_base.proofs.Steps.{kept}
use Rattle.h264_bits.specs.Forms.{bits as bits_form}
use Rattle.h264_bits.proofs.Each.{each-starts, each-next, each-stop, each-over}
use Rattle.h264_bits.proofs.forms.u_values.Goals as goal

pub loop-i-init : goal.loop-i-init
loop-i-init g c = record {
  rest = each-starts (λ name. bits_form name g.row.N) c.args.names _ _ _ refl;
  sized = (let few : length c.args.names ≡ g.row.K = search rules in length-replicate g.row.K 0 ∙ sym few);
  room = c.requires.room;
}

pub returns-in_err-value : goal.returns-in_err-value
returns-in_err-value g c = let p = err_from_is_err_and c.from_residual.result c.from_residual.ensures.1 in
    let few : length c.args.names ≡ g.row.K = search rules in let t = c.loop-i-test.true in
    rw (p.1, p.2) (each-stop (λ name. bits_form name g.row.N) c.args.names c.loop-i.i _ (take c.loop-i.i c.loop-i.values) (omega arith)
    c.loop-i.invariant.rest c.in_err-value.ensures.meets)

pub loop-i-preserved : goal.loop-i-preserved
loop-i-preserved g c =
    let n = c.loop-i.invariant.sized in
    let t = c.loop-i-test.true in
    let few : length c.args.names ≡ g.row.K = search rules in
    record {
      rest = each-next (λ name. bits_form name g.row.N) c.args.names c.loop-i.i _ (take c.loop-i.i c.loop-i.values) _ (omega arith)
          (take_more_set c.loop-i.values c.loop-i.i c.in_ok-value.value (omega arith)) c.loop-i.invariant.rest c.in_ok-value.ensures.meets;
      sized = length-set c.loop-i.values c.loop-i.i _ ∙ c.loop-i.invariant.sized;
      room = let k = kept c.in_ok-value.ensures.meets in let r = c.loop-i.invariant.room in rw k r;
    }

pub returns : goal.returns
returns g c =
    let n = c.loop-i.invariant.sized in
    let t = c.loop-i-test.false in
    let few : length c.args.names ≡ g.row.K = search rules in
    each-over (λ name. bits_form name g.row.N) c.args.names c.loop-i.i (take c.loop-i.i c.loop-i.values) _ (drop_all c.loop-i.i c.args.names (omega arith))
    (take_all c.loop-i.i c.loop-i.values (omega arith)) c.loop-i.invariant.rest
