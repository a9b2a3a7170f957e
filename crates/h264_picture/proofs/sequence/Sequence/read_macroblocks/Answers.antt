use Rattle.std.proofs.Common.{refl, arith, ◌∙◌}
use Rattle.std.proofs.lemmas.Result.{err_from_is_err_and}
use Rattle.h264_mbsyntax.specs.declared.slice.Standing.TheVariants.{Next}
use Rattle.h264_mbsyntax.proofs.Slices.{turn-next, turn-end, turn-stop, turns-over, over-stop, turns-start}
use Rattle.h264_picture.specs.Levels.{transform_fits}
use Rattle.h264_picture.specs.Making.{Reads}
use Rattle.h264_picture.proofs.Steps.{within-on, same-place, both-places}
use Rattle.h264_picture.proofs.Canvases.{same-places-in}
use Rattle.h264_picture.proofs.Passing.{turn-passed}
use Rattle.h264_picture.proofs.sequence.Sequence.read_macroblocks.Goals as goal

pub loop-turn-init : goal.loop-turn-init
loop-turn-init g c = record {
  rest = λ width size making picture k. (
    picture,
    k,
    turns-start (transform_fits c.args.slice.now.context) width c.args.slice.now.context c.args.left Next picture _ _,
  );
  within = c.requires.qp;
  refers = tt;
  standing_is = tt;
  below = omega arith;
  next_is = omega arith;
  size_is = refl;
  same = same-place _;
  places = c.requires.places;
  quiet = refl;
}

pub returns-in_err-read_next-clause-meets : goal.returns-in_err-read_next-clause-meets
returns-in_err-read_next-clause-meets g c width size making picture k =
    let r = c.loop-turn.invariant.rest width size making picture k in
    let p = err_from_is_err_and c.from_residual.result c.from_residual.ensures.1 in
    rw (p.1, p.2) (turn-stop (transform_fits c.args.slice.now.context) width c.args.slice.now.context c.args.left c.loop-turn.turn r.0
    (λ p. Reads width size making c.args.slice.now p c.read_next.new.self) c.loop-turn.standing c.loop-turn-test.true r.2
    (c.in_err-read_next.ensures.meets width size making r.0 r.1))

pub returns-in-None-clause-meets : goal.returns-in-None-clause-meets
returns-in-None-clause-meets g c width size making picture k =
    let r = c.loop-turn.invariant.rest width size making picture k in
    let m = rw c.in-None.is at (c.in_ok-read_next.ensures.meets width size making r.0 r.1) in
    turn-end (transform_fits c.args.slice.now.context) width c.args.slice.now.context c.args.left c.loop-turn.turn r.0
    (λ p. Reads width size making c.args.slice.now p c.read_next.new.self) c.loop-turn.standing c.loop-turn-test.true
    (λ p h. record { holds = h.holds; samples = h.samples }) r.2 m

pub loop-turn-preserved : goal.loop-turn-preserved
loop-turn-preserved g c =
    let t = c.loop-turn-test.true in
    let v = rw c.in-Some.is at c.in_ok-read_next.ensures.moves in
    let n = c.loop-turn.invariant.next_is in
    let passed = c.pass-passed.ensures in
    let few = passed.few in
    record {
      rest = λ width size making picture k.
          let r = c.loop-turn.invariant.rest width size making picture k in
          let m = rw c.in-Some.is at (c.in_ok-read_next.ensures.meets width size making r.0 r.1) in
          let next = turn-next (transform_fits c.args.slice.now.context) width c.args.slice.now.context c.args.left c.loop-turn.turn r.0
          (λ p. Reads width size making c.args.slice.now p c.read_next.new.self) c.loop-turn.standing t r.2 m in
          turn-passed (transform_fits c.args.slice.now.context) width c.args.slice.now.context c.args.left c.loop-turn.turn next.0 _ _
          (λ p. Reads width size making c.args.slice.now p c.pass-passed.new.self) (passed.passes width size making next.0 next.1) few
          (passed.reads width size making next.0 next.1) next.2;
      within = rw passed.mb c.in_ok-read_next.ensures.within;
      refers = passed.refers (rw c.in-Some.is at c.in_ok-read_next.ensures.refers);
      standing_is = within-on _ _ _ (omega arith) passed.within;
      below = omega arith;
      next_is = let e = v.1 in let p = passed.next in omega arith;
      size_is = passed.size ∙ c.read_next.ensures.size ∙ c.loop-turn.invariant.size_is;
      same = both-places _ _ _ c.loop-turn.invariant.same (both-places _ _ _ c.read_next.ensures.same passed.same);
      places = same-places-in _ _ _ passed.same.rest (same-places-in _ _ _ c.read_next.ensures.same.rest c.loop-turn.invariant.places);
      quiet = c.in_ok-read_next.ensures.quiet ∙ c.loop-turn.invariant.quiet;
    }

pub returns-in_err-_end-clause-meets : goal.returns-in_err-_end-clause-meets
returns-in_err-_end-clause-meets g c width size making picture k =
    let r = c.loop-turn.invariant.rest width size making picture k in
    let p = err_from_is_err_and c.from_residual-in_err-_end.result c.from_residual-in_err-_end.ensures.1 in
    rw (p.1, p.2) (over-stop (transform_fits c.args.slice.now.context) width c.args.slice.now.context c.args.left c.loop-turn.turn r.0
    (λ p. Reads width size making c.args.slice.now p c.read_next-2.new.self) c.loop-turn.standing (omega arith) r.2
    (c.in_err-_end.ensures.meets width size making r.0 r.1))

pub returns-clause-meets : goal.returns-clause-meets
returns-clause-meets g c width size making picture k =
    let r = c.loop-turn.invariant.rest width size making picture k in
    turns-over (transform_fits c.args.slice.now.context) width c.args.slice.now.context c.args.left c.loop-turn.turn r.0
    (λ p. Reads width size making c.args.slice.now p c.read_next-2.new.self) c.loop-turn.standing (omega arith)
    (λ p h. record { holds = h.holds; samples = h.samples }) r.2 (c.in_ok-_end.ensures.meets width size making r.0 r.1)
