use Rattle.std.proofs.Common.{refl}
use Rattle.h264_deblock.specs.Level.{names}
use Rattle.h264_deblock.proofs.Macroblocks.{or_some}
use Rattle.h264_deblock.proofs.by_level.pair_inner.Goals as goal

pub returns-clause-cb : goal.returns-clause-cb
returns-clause-cb g c = rw c.requires.filtered (or_some _ _ _ _ _ _ _ (c.edge_pair.ensures.cb _ (c.requires.inner.here (names c.args.word.now)) refl))

pub returns-clause-cr : goal.returns-clause-cr
returns-clause-cr g c = rw c.requires.filtered (or_some _ _ _ _ _ _ _ (c.edge_pair.ensures.cr _ (c.requires.inner.here (names c.args.word.now)) refl))
