use Rattle.std.proofs.Common.{◌+◌, arith, refl, sym}
use Rattle.h264_inter.proofs.Weighing.{plain-weighted}
use Rattle.h264_inter.proofs.weighted.weigh.Goals as goal

pub returns-then-is_plain : goal.returns-then-is_plain
returns-then-is_plain g c = record {
  here = λ k p. sym (plain-weighted c.args.weight _ (let t = (c.type_inv.samples (c.args.start + k)).fits in omega arith)
      (c.is_plain.ensures.0 c.if-is_plain.true));
  before = λ k p. refl;
  after = λ k p. refl;
}
