use Rattle.std.proofs.Common.{◌*◌}
use Rattle.h264_plane.specs.Blocks.{number_of}
use Rattle.h264_near.specs.declared.partition.Partition.TheVariants.{P8x8}
use Rattle.h264_recon.specs.Parts.{AreMade}
use Rattle.h264_recon.specs.Predicted.{parted_motions}
use Rattle.h264_recon.proofs.inter.predict_8x8.Given as goal

abbrev pub invariant-loop-quarter : goal.invariant-loop-quarter
invariant-loop-quarter l = AreMade number_of (4 * l.quarter) l.pool (parted_motions (P8x8 l.types) l.m.places.now l.m.derived.now) l.position l.own
