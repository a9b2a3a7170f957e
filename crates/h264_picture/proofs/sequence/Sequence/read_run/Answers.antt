use Rattle.std.proofs.Common.{◌≡◌}
use Rattle.std.proofs.lemmas.Result.{err_from_is_err_and}
use Rattle.h264_base.proofs.Steps.{bind, stop, checked}
use Rattle.h264_mbsyntax.specs.Slice.{run_of_skips, after_run}
use Rattle.h264_mbsyntax.proofs.Quantiser.{after-some}
use Rattle.h264_picture.specs.Levels.{transform_fits}
use Rattle.h264_picture.proofs.Steps.{run-left}
use Rattle.h264_picture.proofs.sequence.Sequence.read_run.Goals as goal
use Rattle.h264_base.proofs.Plain.{on-ok}

pub returns-in_err-run-clause-meets : goal.returns-in_err-run-clause-meets
unfolding run_of_skips
returns-in_err-run-clause-meets g c width size making picture k = let p = err_from_is_err_and c.from_residual.result c.from_residual.ensures.1 in
    rw (p.1, p.2) (stop _ (c.in_err-run.ensures.meets))

pub returns-in_err-check-clause-meets : goal.returns-in_err-check-clause-meets
unfolding run_of_skips
returns-in_err-check-clause-meets g c width size making picture k = let p =
    err_from_is_err_and c.from_residual-in_err-check.result c.from_residual-in_err-check.ensures.1 in
    rw (p.1, p.2) (bind _ (c.in_ok-run.ensures.meets) (stop _ (checked _ _ _ _ (c.in_err-check.ensures))))

pub returns-in_err-check-2-clause-meets : goal.returns-in_err-check-2-clause-meets
unfolding run_of_skips
returns-in_err-check-2-clause-meets g c width size making picture k = let p =
    err_from_is_err_and c.from_residual-in_err-check-2.result c.from_residual-in_err-check-2.ensures.1 in
    rw (p.1, p.2) (bind _ (c.in_ok-run.ensures.meets)
    (bind _ (checked _ _ _ _ (c.in_ok-check.ensures)) (stop _ (checked _ _ _ _ (rw c.has_reference.ensures at c.in_err-check-2.ensures)))))

pub skip-requires-clause-some : goal.skip-requires-clause-some
skip-requires-clause-some g c = run-left c.in_ok-run.run'.value c.args.left c.in_ok-check.ensures.checks c.if-run-eq0.false

pub returns-then-run-eq0 : goal.returns-then-run-eq0
unfolding run_of_skips after_run
returns-then-run-eq0 g c =
    let e = c.read_unskipped.ensures in
    record {
      meets = λ width size making picture k. bind _ (c.in_ok-run.ensures.meets)
          (bind _ (checked _ _ _ _ (c.in_ok-check.ensures))
          (bind _ (checked _ _ _ _ (rw c.has_reference.ensures at c.in_ok-check-2.ensures))
          (rw c.if-run-eq0.true (c.read_unskipped.ensures.meets width size making picture k))));
      quiet = rw c.in_ok-run.ensures.quiet at c.read_unskipped.ensures.quiet;
      within = e.within;
      moves = e.moves;
      size = e.size;
      same = e.same;
      refers = e.refers;
    }

pub returns : goal.returns
unfolding run_of_skips
returns g c =
    let e = c.skip.ensures in
    record {
      meets = λ width size making picture k. bind _ (c.in_ok-run.ensures.meets)
          (bind _ (checked _ _ _ _ (c.in_ok-check.ensures))
          (bind _ (checked _ _ _ _ (rw c.has_reference.ensures at c.in_ok-check-2.ensures))
          (rw (after-some (transform_fits c.args.slice.now.context) width c.args.slice.now.context c.args.left picture _ _ c.if-run-eq0.false)
          (c.skip.ensures.meets width size making picture k))));
      quiet = on-ok {P = g.S.Elements.failures c.read_ue.new.sink ≡ g.S.Elements.failures c.args.sink.now} c.skip.result c.in_ok-run.ensures.quiet;
      within = e.within;
      moves = e.moves;
      size = e.size;
      same = e.same;
      refers = e.refers;
    }
