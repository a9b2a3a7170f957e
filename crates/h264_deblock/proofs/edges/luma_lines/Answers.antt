use Rattle.std.proofs.Common.{false, ap, ◌∙◌}
use Rattle.h264_deblock.specs.Line.{filtered, Limits}
use Rattle.h264_deblock.specs.Rows.{line_of}
use Rattle.h264_deblock.specs.Inner.{limits_at}
use Rattle.h264_deblock.proofs.Beside.{edge_by_rows, edge_kept}
use Rattle.h264_deblock.proofs.edges.luma_lines.Goals as goal

pub returns-then-are_quiet : goal.returns-then-are_quiet
returns-then-are_quiet g c e is named-by =
    edge_kept _ c.args.plane.now e c.args.along c.args.across c.read-before.result c.requires.before c.read-before.ensures
    (λ n i. c.are_quiet.ensures.quiet c.if-are_quiet.true n i ∙
    ap (λ (k : Limits). filtered false k (line_of c.read-before.result n)) (c.limits_at_level-limits.ensures.here e is named-by n i))

pub returns-then-word-eq-FOUR : goal.returns-then-word-eq-FOUR
returns-then-word-eq-FOUR g c e is named-by =
    edge_by_rows _ c.args.plane.now c.write.new.plane e c.args.along c.args.across (limits_at c.limits_at_level-limits.result) c.read-before.result
    c.filtered_rows-after.result
    c.read-before.ensures c.filtered_rows-after.ensures (c.limits_at_level-limits.ensures.here e is named-by) c.write.ensures

pub returns : goal.returns
returns g c e is named-by =
    edge_by_rows _ c.args.plane.now c.write-2.new.plane e c.args.along c.args.across (limits_at c.limits_at_level-limits.result) c.read-before.result
    c.filtered_rows-after-2.result
    c.read-before.ensures c.filtered_rows-after-2.ensures (c.limits_at_level-limits.ensures.here e is named-by) c.write-2.ensures
