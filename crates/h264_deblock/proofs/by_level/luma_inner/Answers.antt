use Rattle.std.proofs.Common.{refl}
use Rattle.h264_deblock.specs.Level.{names}
use Rattle.h264_deblock.proofs.Macroblocks.{or_some}
use Rattle.h264_deblock.proofs.by_level.luma_inner.Goals as goal

pub returns : goal.returns
returns g c = rw c.requires.filtered (or_some _ _ _ _ _ _ _ (c.edge.ensures _ (c.requires.inner.here (names c.args.word.now)) refl))
