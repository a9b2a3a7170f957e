use Rattle.h264_base.proofs.Steps.{bind, done}
use Rattle.h264_mbsyntax.specs.Slice.{next}
use Rattle.h264_picture.proofs.sequence.Sequence.read_after_skips.Goals as goal
use Rattle.std.proofs.lemmas.Bool.{not-false}
use Rattle.h264_base.proofs.Plain.{not-true}

pub returns-then-not-ahead-clause-meets : goal.returns-then-not-ahead-clause-meets
unfolding next
returns-then-not-ahead-clause-meets g c width size making picture k = bind _ c.look-ahead.ensures (rw (not-true _ c.if-not-ahead.true) (done _ _ _ _ _ _ _ k))

pub returns : goal.returns
unfolding next
returns g c =
    let e = c.read_unskipped.ensures in
    record {
      meets = λ width size making picture k. bind _ c.look-ahead.ensures
          (rw (not-false _ c.if-not-ahead.false) (c.read_unskipped.ensures.meets width size making picture k));
      quiet = e.quiet;
      within = e.within;
      moves = e.moves;
      size = e.size;
      same = e.same;
      refers = e.refers;
    }
