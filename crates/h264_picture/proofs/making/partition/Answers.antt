use Rattle.std.proofs.Common.{◌≡◌, Option, Some, None, refl}
use Rattle.h264_near.specs.declared.partition.Partition.{Partition}
use Rattle.h264_deblock.specs.Steps.{MovesBy}
use Rattle.h264_picture.proofs.making.partition.Goals as goal

pub returns : goal.returns
returns c coded h = go c.partition_of.result refl
  where
    go : (o : Option Partition) → c.partition_of.result ≡ o → MovesBy o c.args.read.now.contexts.motions
    go None e = tt
    go (Some p) e = c.partition_of.ensures coded p h e
