use Rattle.h264_base.proofs.Steps.{bind, done}
use Rattle.h264_base.specs.declared.mode.SliceType.TheVariants as slice_type
use Rattle.h264_mbsyntax.specs.Slice.{next, by_slice_type}
use Rattle.h264_mbsyntax.proofs.Quantiser.{next-typed}
use Rattle.h264_picture.proofs.sequence.Sequence.read_at_next.Goals as goal
use Rattle.std.proofs.lemmas.Bool.{not-false}
use Rattle.h264_base.proofs.Plain.{not-true}

pub returns-then-not-ahead-clause-meets : goal.returns-then-not-ahead-clause-meets
unfolding next
returns-then-not-ahead-clause-meets g c width size making picture k = bind _ c.look-ahead.ensures (rw (not-true _ c.if-not-ahead.true) (done _ _ _ _ _ _ _ k))

pub returns-in-I : goal.returns-in-I
unfolding next by_slice_type
returns-in-I g c =
    let e = c.read_unskipped.ensures in
    record {
      meets = λ width size making picture k. bind _ c.look-ahead.ensures
          (rw (not-false _ c.if-not-ahead.false) (next-typed _ slice_type.I _ width c.args.slice.now.context _ picture c.in-I.is
          (e.meets width size making picture k)));
      quiet = e.quiet;
      within = e.within;
      moves = e.moves;
      size = e.size;
      same = e.same;
      refers = e.refers;
    }

pub returns-in-P : goal.returns-in-P
unfolding next by_slice_type
returns-in-P g c =
    let e = c.read_run.ensures in
    record {
      meets = λ width size making picture k. bind _ c.look-ahead.ensures
          (rw (not-false _ c.if-not-ahead.false) (next-typed _ slice_type.P _ width c.args.slice.now.context _ picture c.in-P.is
          (e.meets width size making picture k)));
      quiet = e.quiet;
      within = e.within;
      moves = e.moves;
      size = e.size;
      same = e.same;
      refers = e.refers;
    }
