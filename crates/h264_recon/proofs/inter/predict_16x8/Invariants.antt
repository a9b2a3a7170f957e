use Rattle.std.proofs.Common.{◌*◌}
use Rattle.h264_near.specs.declared.partition.Partition.TheVariants.{P16x8}
use Rattle.h264_recon.specs.Parts.{AreMade}
use Rattle.h264_recon.specs.Predicted.{parted_motions}
use Rattle.h264_recon.proofs.inter.predict_16x8.Given as goal

abbrev pub invariant-loop-k : goal.invariant-loop-k
invariant-loop-k l = AreMade (λ a b. b) (2 * l.k) l.pool (parted_motions P16x8 l.m.places.now l.m.derived.now) l.position l.own
