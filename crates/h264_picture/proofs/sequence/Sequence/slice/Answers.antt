use Rattle.std.proofs.Common.{refl, arith}
use Rattle.std.proofs.lemmas.Result.{err_from_is_err_and}
use Rattle.h264_base.proofs.Steps.{bind, stop, checked}
use Rattle.h264_mbsyntax.specs.Slice.{slice_data}
use Rattle.h264_mbsyntax.specs.declared.slice.Standing.TheVariants.{Next}
use Rattle.h264_picture.specs.Levels.{transform_fits}
use Rattle.h264_picture.specs.Making.{beginning_at}
use Rattle.h264_picture.proofs.Canvases.{lent-stays}
use Rattle.h264_picture.proofs.Steps.{moved, same-samples, qp-first, left-is, makes-with}
use Rattle.h264_picture.proofs.sequence.Sequence.slice.Goals as goal

pub returns-in_err-check-clause-meets : goal.returns-in_err-check-clause-meets
unfolding slice_data
returns-in_err-check-clause-meets g c width size making picture h m = let p = err_from_is_err_and c.from_residual.result c.from_residual.ensures.1 in
    rw (p.1, p.2) (bind _ c.look-ahead.ensures (stop _ (checked _ _ _ _ c.in_err-check.ensures)))

pub returns-clause-meets : goal.returns-clause-meets
unfolding slice_data
returns-clause-meets g c width size making picture h m =
    let k = h.holds in
    let context = beginning_at c.args.self.now.picture.next c.args.context.now in
    bind _ c.look-ahead.ensures (bind _ (checked _ _ _ _ c.in_ok-check.ensures)
    (left-is _ _ (transform_fits context) width context Next picture (let a = k.macroblocks in let b = k.next in omega arith)
    (c.read_macroblocks.ensures.meets width size making picture (record {
      holds = moved width size picture _ _ k refl refl refl refl;
      first = (let b = k.next in omega arith);
      predicted = qp-first context picture k.next k.past;
      samples = same-samples making picture c.args.self.now _ refl refl refl h.samples;
      makes = makes-with making picture _ c.args.samples.now c.args.base c.args.self.now c.places_in.ensures.values refl refl h.samples m;
    }))))

pub invariant_of-self : goal.invariant_of-self
invariant_of-self g c = let old = c.args.self.now in record { within = old.within; room = old.room; sound = old.sound; drawn = old.drawn }

pub places_in-requires : goal.places_in-requires
places_in-requires g c k e = let old = c.args.self.now in let d = old.drawn k e in let r = old.room in let n = d.count in omega arith

pub returns-clause-frames : goal.returns-clause-frames
returns-clause-frames g c b = lent-stays _ _ c.read_macroblocks.ensures.same.rest b
