use Rattle.std.proofs.Common.{◌+◌}
use Rattle.h264_deblock.specs.Inner.{inner_of, limits_at}
use Rattle.h264_deblock.proofs.Groups.{first_half, second_half}
use Rattle.h264_deblock.proofs.Nearest.{edge_by_nearest}
use Rattle.h264_deblock.proofs.edges.pair_lines.Goals as goal

pub returns-clause-cb : goal.returns-clause-cb
returns-clause-cb g c e is named-by =
    edge_by_nearest _ c.args.cb.now c.write_nearest.new.plane e c.args.along c.args.across (limits_at c.limits_at_level-limits.result)
    (inner_of c.read_inner-before.result) c.filtered_pair.result.0 c.read_inner-before.ensures.cb c.filtered_pair.ensures.cb
    (first_half e _ (c.limits_at_level-limits.ensures.here e is named-by)) c.write_nearest.ensures

pub returns-clause-cr : goal.returns-clause-cr
returns-clause-cr g c e is named-by =
    edge_by_nearest _ c.args.cr.now c.write_nearest-2.new.plane e c.args.along c.args.across (λ n. limits_at c.limits_at_level-limits.result (8 + n))
    (λ n. inner_of c.read_inner-before.result (8 + n)) c.filtered_pair.result.1 c.read_inner-before.ensures.cr c.filtered_pair.ensures.cr
    (second_half e _ (c.limits_at_level-limits.ensures.here e is named-by)) c.write_nearest-2.ensures
