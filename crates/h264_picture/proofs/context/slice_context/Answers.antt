use Rattle.std.proofs.lemmas.Int.{ints}
use Rattle.std.proofs.Common.{rules, SFits, w32, to_z, of_z, ◌≡◌, refl, min, length, arith}
use Rattle.h264_picture.specs.Context.{slice_context}
use Rattle.h264_picture.proofs.context.slice_context.Goals as goal

pub returns-clause-value : goal.returns-clause-value
unfolding slice_context
returns-clause-value c =
    let z = c.args.pps.now.chroma_qp_index_offset in
    let fits : SFits w32 z = search rules in
    let kept : to_z w32 (of_z w32 z) ≡ z = omega (arith, ints) in
    let few : c.min.result ≡ min (length c.args.list.now) 16 = search rules in
    rw (c.slice_type.ensures, c.slice_qp.ensures.here, c.references.ensures, c.vector_limit.ensures.here, kept, few) refl
