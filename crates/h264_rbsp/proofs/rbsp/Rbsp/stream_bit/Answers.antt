use Rattle.std.proofs.Common.{◌+◌, ◌*◌, ◌/◌, ℕ, ◌∙◌, sym, ap, nat_le, rules, subst}
use Rattle.std.specs.List.{count_by}
use Rattle.std.specs.List.Sorted.{IsPartitionedBy}
use Rattle.std.proofs.lemmas.List.Sorted.{IsPartitionPoint-from_clause, IsPartitionedBy-leb}
use Rattle.h264_base.specs.Body.{place}
use Rattle.h264_rbsp.proofs.Places.{count-point}
use Rattle.h264_rbsp.proofs.rbsp.Rbsp.stream_bit.Goals as goal

pub returns : goal.returns
unfolding place
returns c =
    let byte = c.args.i / 8 in
    let items = c.as_slice.ensures in
    let by : IsPartitionedBy (λ d. nat_le d byte) c.as_slice.result.now =
    subst (IsPartitionedBy (λ (d : ℕ). nat_le d byte)) (sym items)
    (IsPartitionedBy-leb (λ (d : ℕ). d) c.self.inside.dropped.items byte c.self.invariant.sorted) in
    let at = IsPartitionPoint-from_clause (λ (d : ℕ). nat_le d byte) c.as_slice.result.now c.partition_point-dropped.result
    c.partition_point-dropped.ensures.partitioned by (search rules) in
    let n = count-point (λ (d : ℕ). nat_le d byte) c.as_slice.result.now c.partition_point-dropped.result at c.partition_point-dropped.ensures.bound in
    ap (λ k. c.self.inside.first + c.args.i + 8 * k) (sym n ∙ ap (count_by (λ (d : ℕ). nat_le d byte)) items)
    ∙ ap (λ b. place b c.args.i) c.self.view_is
