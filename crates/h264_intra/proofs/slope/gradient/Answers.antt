use Rattle.std.proofs.Common.{◌≡◌, ◌+ℤ◌, sym, ◌∙◌, arith, to_z, of_z, w32}
use Rattle.std.proofs.lemmas.Int.{ints}
use Rattle.h264_intra.proofs.Gradient.{total_none, gradient_more, gradient_last}
use Rattle.h264_intra.proofs.slope.gradient.Goals as goal

pub loop-k-init : goal.loop-k-init
loop-k-init g c = record {
  value = sym (total_none _);
  bound = record { low = omega (arith, ints); high = omega (arith, ints) };
}

pub loop-k-preserved : goal.loop-k-preserved
loop-k-preserved g c =
    let s = to_z w32 c.loop-k.sum-bits in
    let kept : to_z w32 (of_z w32 (s +ℤ to_z w32 (of_z w32 c.weighted-sum.result))) ≡ s +ℤ c.weighted-sum.result = omega (arith, ints) in
    record {
      value = kept ∙ gradient_more g.row.HALF c.loop-k.k c.args.corner c.args.side.now s c.weighted-sum.result (omega arith) c.loop-k.invariant.value
          c.weighted-sum.ensures.value;
      bound = record { low = omega (arith, ints); high = omega (arith, ints) };
    }

pub returns-clause-value : goal.returns-clause-value
returns-clause-value g c =
    let s = to_z w32 c.loop-k.sum-bits in
    let kept : to_z w32 (of_z w32 (s +ℤ to_z w32 (of_z w32 c.weighted.result))) ≡ s +ℤ c.weighted.result = omega (arith, ints) in
    kept ∙ gradient_last g.row.HALF c.args.corner c.loop-k.k c.args.side.now s c.weighted.result (omega arith) c.loop-k.invariant.value c.weighted.ensures.value
