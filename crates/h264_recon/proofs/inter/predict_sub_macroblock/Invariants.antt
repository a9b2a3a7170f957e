use Rattle.std.proofs.Common.{◌+◌, ◌*◌}
use Rattle.h264_plane.specs.Blocks.{number_of}
use Rattle.h264_near.specs.declared.partition.Partition.TheVariants.{P8x8}
use Rattle.h264_recon.specs.Parts.{AreMade}
use Rattle.h264_recon.specs.Predicted.{parted_motions}
use Rattle.h264_recon.proofs.inter.predict_sub_macroblock.Given as goal

abbrev pub invariant-loop-k : goal.invariant-loop-k
invariant-loop-k l = AreMade number_of (4 * l.quarter + l.k) l.pool (parted_motions (P8x8 l.types) l.m.places.now l.m.derived.now) l.position l.own
