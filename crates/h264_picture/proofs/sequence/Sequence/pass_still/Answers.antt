use Rattle.std.proofs.Common.{◌≡◌, Some, refl, subst, arith}
use Rattle.h264_near.specs.Motions.{neighbour}
use Rattle.h264_vectors.specs.Vectors.{none_derived, zero_vector}
use Rattle.h264_mbsyntax.specs.Slice.{skipped_of}
use Rattle.h264_mbsyntax.specs.Still.{with_still}
use Rattle.h264_mbsyntax.proofs.Still.{still-beside}
use Rattle.h264_picture.proofs.Passing.{row-room, reads-still}
use Rattle.h264_picture.proofs.sequence.Sequence.pass_still.Goals as goal

pub returns-clause-still : goal.returns-clause-still
returns-clause-still c width size making picture r =
    let a = c.repeated-count.ensures.alike (let f = c.if-count-eq0.false in omega arith) in
    let context = c.args.slice.now.context in
    let left = c.push_repeated.ensures.left width picture a.skipped (skipped_of context picture zero_vector) r.holds.keeps a.before
    (a.alike picture r.predicted) (row-room width size picture _ c.args.self.now r.holds c.repeated-count.ensures.row) in
    record {
      vectors = λ k h. still-beside width (with_still context picture k) context.number a.skipped.motion
          (subst (λ n. neighbour width (with_still context picture k) n none_derived 0 1 ≡ Some (Some a.skipped.motion)) a.of_slice (left k h none_derived))
          a.still;
      fits = λ k h. a.fits;
    }

pub returns-clause-reads : goal.returns-clause-reads
returns-clause-reads c width size making picture r =
    let a = c.repeated-count.ensures.alike (let f = c.if-count-eq0.false in omega arith) in
    reads-still width size making c.args.slice.now picture c.repeated-count.result c.args.self.now _ r a.none
    (c.push_repeated.ensures.keeps width picture a.skipped (skipped_of c.args.slice.now.context picture zero_vector) r.holds.keeps a.before
    (a.alike picture r.predicted) (row-room width size picture _ c.args.self.now r.holds c.repeated-count.ensures.row)) refl refl refl refl
