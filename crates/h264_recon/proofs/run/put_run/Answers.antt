use Rattle.std.proofs.Common.{arith}
use Rattle.std.proofs.lemmas.Grind.{elements}
use Rattle.h264_recon.proofs.run.put_run.Goals as goal

pub returns : goal.returns
returns g c = let s = c.put_row.ensures in record {
  size = grind (arith, elements);
  here = λ k i. grind (arith, elements);
  before = λ k i. grind (arith, elements);
  after = λ k i. grind (arith, elements);
}
