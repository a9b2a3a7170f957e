use Rattle.std.proofs.Common.{◌*◌}
use Rattle.h264_near.specs.declared.partition.Partition.TheVariants.{P8x16}
use Rattle.h264_recon.specs.Parts.{AreMade}
use Rattle.h264_recon.specs.Predicted.{parted_motions}
use Rattle.h264_recon.proofs.inter.predict_8x16.Given as goal

abbrev pub invariant-loop-k : goal.invariant-loop-k
invariant-loop-k l = AreMade (λ a b. a) (2 * l.k) l.pool (parted_motions P8x16 l.m.places.now l.m.derived.now) l.position l.own
