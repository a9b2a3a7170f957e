use Rattle.std.proofs.Common.{refl, ◌∙◌}
use Rattle.std.proofs.lemmas.Result.{err_from_is_err_and}
use Rattle.h264_base.proofs.Steps.{bind, stop, done, checked}
use Rattle.h264_mbsyntax.specs.Slice.{skip, skipped_of}
use Rattle.h264_picture.proofs.Steps.{moved, skipped-slice}
use Rattle.h264_picture.proofs.Skipped.{skipped-possible, skipped-none}
use Rattle.h264_picture.proofs.sequence.Sequence.skip.Goals as goal

pub returns-in_err-check-clause-meets : goal.returns-in_err-check-clause-meets
unfolding skip
returns-in_err-check-clause-meets g c width size making picture k = let p = err_from_is_err_and c.from_residual.result c.from_residual.ensures.1 in
    rw (p.1, p.2) (stop _ (checked _ _ _ _ (rw (c.vector_fits-fits.ensures, c.skip_vector-vector.ensures width picture k.holds.keeps) at
    c.in_err-check.ensures)))

pub returns-clause-meets : goal.returns-clause-meets
unfolding skip
returns-clause-meets g c width size making picture k =
    let slice = c.args.slice.now in
    let context = slice.context in
    let vector = c.skip_vector-vector.result in
    let is = c.skip_vector-vector.ensures width picture k.holds.keeps in
    let own = skipped_of context picture vector in
    let read = c.skip_macroblock-skipped.ensures.holds picture k.predicted in
    let made = c.make_skipped.ensures in
    let next = c.keep_skipped.ensures.reads width size making slice picture own
    (moved width size picture _ _ k.holds made.syntax.near made.same.across made.syntax.size made.syntax.next) k.first read
    (rw made.syntax.mb c.skip_macroblock-skipped.ensures.qp) (skipped-slice context picture vector)
    (made.samples width size making picture own k.holds k.samples k.makes read (skipped-slice context picture vector)
    (skipped-possible width context picture vector c.requires.refers) (skipped-none context.chroma_qp_index_offset context picture vector))
    k.makes in
    bind _ (checked _ _ _ _ (rw (c.vector_fits-fits.ensures, is) at c.in_ok-check.ensures)) (done _ _ _ _ _ _ _ (refl, rw is at next))

pub returns-clause-within : goal.returns-clause-within
returns-clause-within g c = rw (c.keep_skipped.ensures.mb ∙ c.make_skipped.ensures.syntax.mb) c.requires.qp
