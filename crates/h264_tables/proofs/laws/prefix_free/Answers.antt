use Rattle.h264_tables.specs.Table.{code_table}
use Rattle.h264_tables.proofs.Prefixes.{one-word}
use Rattle.h264_tables.proofs.laws.prefix_free.Goals as goal

pub returns : goal.returns
returns c table word rest v u h g = one-word (code_table table) word rest v u h g
