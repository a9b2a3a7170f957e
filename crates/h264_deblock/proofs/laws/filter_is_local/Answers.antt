use Rattle.h264_deblock.proofs.Macroblocks.{filter_local, filter_whole}
use Rattle.h264_deblock.proofs.laws.filter_is_local.Goals as goal

pub returns-clause-first : goal.returns-clause-first
returns-clause-first c = filter_local

pub returns-clause-whole : goal.returns-clause-whole
returns-clause-whole c = filter_whole
