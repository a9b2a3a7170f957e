use Rattle.std.proofs.Common.{rules}
use Rattle.h264_plane.proofs.Lanes.{first_in_turn, second_in_turn}
use Rattle.h264_deblock.proofs.columns.woven.Goals as goal

pub returns-clause-first : goal.returns-clause-first
returns-clause-first c n p = first_in_turn c.args.a c.args.b n (search rules) p

pub returns-clause-second : goal.returns-clause-second
returns-clause-second c n p = second_in_turn c.args.a c.args.b n (search rules) p
