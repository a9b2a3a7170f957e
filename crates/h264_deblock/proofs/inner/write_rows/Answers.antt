use Rattle.std.proofs.Common.{rules}
use Rattle.h264_deblock.proofs.Nearest.{nearest_rows}
use Rattle.h264_deblock.proofs.inner.write_rows.Goals as goal

pub returns : goal.returns
returns c =
    nearest_rows c.args.plane.now c.put_run.new.self c.put_run-2.new.self c.args.x c.args.y c.args.r.now c.requires.before (search rules) (search rules)
    c.put_run.ensures c.put_run-2.ensures
