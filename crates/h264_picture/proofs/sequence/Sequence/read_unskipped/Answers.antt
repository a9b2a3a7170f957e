use Rattle.std.proofs.Common.{refl, sym, ◌∙◌, subst, ◌+◌, ap}
use Rattle.std.proofs.lemmas.Result.{err_from_is_err_and}
use Rattle.h264_base.proofs.Steps.{bind, bind_as, stop, done, checked}
use Rattle.h264_mbsyntax.specs.Slice.{unskipped}
use Rattle.h264_mbsyntax.specs.Holds.{HoldsMacroblock}
use Rattle.h264_picture.proofs.Steps.{moved, same-samples, one-left, some-left}
use Rattle.h264_picture.proofs.sequence.Sequence.read_unskipped.Goals as goal

pub returns-in_err-check-clause-meets : goal.returns-in_err-check-clause-meets
unfolding unskipped
returns-in_err-check-clause-meets g c width size making picture k = let p = err_from_is_err_and c.from_residual.result c.from_residual.ensures.1 in
    rw (p.1, p.2) (bind _ c.look-ahead.ensures (stop _ (checked _ _ _ _ c.in_err-check.ensures)))

pub returns-in_err-bit-clause-meets : goal.returns-in_err-bit-clause-meets
unfolding unskipped
returns-in_err-bit-clause-meets g c width size making picture k = let p =
    err_from_is_err_and c.from_residual-in_err-bit.result c.from_residual-in_err-bit.ensures.1 in
    rw (p.1, p.2) (bind _ c.look-ahead.ensures
    (bind _ (checked _ _ _ _ c.in_ok-check.ensures) (stop _ (c.in_err-bit.ensures.meets width picture k.holds.keeps k.predicted))))

pub returns-in_err-check-2-clause-meets : goal.returns-in_err-check-2-clause-meets
unfolding unskipped
returns-in_err-check-2-clause-meets g c width size making picture k = let p =
    err_from_is_err_and c.from_residual-in_err-check-2.result c.from_residual-in_err-check-2.ensures.1 in
    rw (p.1, p.2) (bind _ c.look-ahead.ensures
    (bind _ (checked _ _ _ _ c.in_ok-check.ensures)
    (bind_as _ (c.in_ok-bit.ensures.meets width picture k.holds.keeps k.predicted)
    (λ v e. rw e.placed (stop _ (checked _ _ _ _ (rw (c.make_read-fits.ensures.range v.macroblock e.holds) at c.in_err-check-2.ensures)))))))

pub returns-clause-meets : goal.returns-clause-meets
unfolding unskipped
returns-clause-meets g c width size making picture k =
    bind _ c.look-ahead.ensures (bind _ (checked _ _ _ _ c.in_ok-check.ensures)
    (bind_as _ (c.in_ok-bit.ensures.meets width picture k.holds.keeps k.predicted)
    (λ v e. rw e.placed (bind _ (checked _ _ _ _ (rw (c.make_read-fits.ensures.range v.macroblock e.holds) at c.in_ok-check-2.ensures))
    (done _ _ _ _ _ _ _ (
      refl,
      c.keep.ensures.reads width size making c.args.slice.now picture v.macroblock
          (moved width size picture _ _ k.holds c.make_read-fits.ensures.syntax.near c.make_read-fits.ensures.same.across c.make_read-fits.ensures.syntax.size
          c.make_read-fits.ensures.syntax.next) k.first (subst (λ m. HoldsMacroblock m v.macroblock) (sym c.make_read-fits.ensures.syntax.mb) e.holds)
          (e.holds.contexts.slice ∙ c.in_ok-bit.ensures.same)
          (c.make_read-fits.ensures.samples c.in_ok-check-2.ensures.checks width size making picture v.macroblock
          (moved width size picture _ _ k.holds refl refl refl refl) (same-samples making picture c.args.self.now _ refl refl refl k.samples)
          k.makes e.holds
          (e.holds.contexts.slice ∙ c.in_ok-bit.ensures.same) e.possible) k.makes,
    ))))))

pub make_read-fits-requires-clause-next : goal.make_read-fits-requires-clause-next
make_read-fits-requires-clause-next g c = one-left c.args.self.now.picture.next c.args.self.now.size c.args.left c.in_ok-check.ensures.checks c.requires.left

pub keep-requires : goal.keep-requires
keep-requires g c = rw (c.make_read-fits.ensures.syntax.next, c.make_read-fits.ensures.syntax.size)
    (one-left c.args.self.now.picture.next c.args.self.now.size c.args.left c.in_ok-check.ensures.checks c.requires.left)

pub invariant_of-self : goal.invariant_of-self
invariant_of-self g c = let old = c.args.self.now in record { within = old.within; room = old.room; sound = old.sound; drawn = old.drawn }

pub returns-clause-within : goal.returns-clause-within
returns-clause-within g c = rw (c.keep.ensures.mb ∙ c.make_read-fits.ensures.syntax.mb) c.in_ok-bit.ensures.within

pub returns-clause-moves : goal.returns-clause-moves
returns-clause-moves g c = (some-left c.args.left c.in_ok-check.ensures.checks, c.keep.ensures.next ∙ ap (λ n. n + 1) c.make_read-fits.ensures.syntax.next, tt)

pub returns-clause-quiet : goal.returns-clause-quiet
returns-clause-quiet g c = c.in_ok-bit.ensures.quiet
