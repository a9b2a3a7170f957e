use Rattle.h264_mbsyntax.proofs.Quantiser.{next-some}
use Rattle.h264_picture.specs.Levels.{transform_fits}
use Rattle.std.proofs.Common.{◌≡◌, refl}
use Rattle.h264_picture.proofs.sequence.Sequence.read_next.Goals as goal
use Rattle.h264_base.proofs.Plain.{on-ok}

pub returns-in-Next : goal.returns-in-Next
returns-in-Next g c =
    let e = c.read_at_next.ensures in
    record {
      meets = λ width size making picture k. rw c.in-Next.is (c.read_at_next.ensures.meets width size making picture k);
      quiet = e.quiet;
      within = e.within;
      moves = e.moves;
      size = e.size;
      same = e.same;
      refers = e.refers;
    }

pub returns-then-more-eq0 : goal.returns-then-more-eq0
returns-then-more-eq0 g c =
    let e = c.read_after_skips.ensures in
    record {
      meets = λ width size making picture k. rw (c.in-Skipping.is, c.if-more-eq0.true) (c.read_after_skips.ensures.meets width size making picture k);
      quiet = e.quiet;
      within = e.within;
      moves = e.moves;
      size = e.size;
      same = e.same;
      refers = e.refers;
    }

pub returns-else-more-eq0 : goal.returns-else-more-eq0
returns-else-more-eq0 g c =
    let e = c.skip.ensures in
    record {
      meets = λ width size making picture k. rw (
        c.in-Skipping.is,
        next-some (transform_fits c.args.slice.now.context) width c.args.slice.now.context c.args.left picture _ _ c.if-more-eq0.false,
      )
          (c.skip.ensures.meets width size making picture k);
      quiet = on-ok {P = g.S.Elements.failures c.args.sink.now ≡ g.S.Elements.failures c.args.sink.now} c.skip.result refl;
      within = e.within;
      moves = e.moves;
      size = e.size;
      same = e.same;
      refers = e.refers;
    }
