use Rattle.std.proofs.Common.{rules, arith, ◌≡◌, ◌+◌, ◌-◌, ◌∙◌, ◌∷◌, ◌++◌, [], take, pos, get_or, refl, ap, sym, length-set, length-append}
use Rattle.std.proofs.lemmas.List.{get_or-take, length-take-le, length-replicate}
use Rattle.std.proofs.lemmas.List.Sums.{sum_by-append}
use Rattle.std.proofs.lemmas.Result.{err_from_is_err_and}
use Rattle.std.proofs.lemmas.Int.{to_z-of_z}
use Rattle.std.specs.Int.{w16}
use mir.Val.{SFits}
use Rattle.h264_base.proofs.Steps.{kept}
use Rattle.h264_cavlc.proofs.Loops.{runs-start, runs-next, runs-stop, runs-over}
use Rattle.h264_cavlc.proofs.Places.{placed-none, placed-more, placed-run, place-next, all-placed}
use Rattle.h264_cavlc.proofs.zeros.read_places.Goals as goal

pub loop-k-init : goal.loop-k-init
loop-k-init g c = let a = c.from-last.ensures in let b = c.from.ensures in record {
  sized = length-replicate g.row.N (pos 0);
  room = c.requires.room;
  runs = [];
  count = refl;
  left = omega arith;
  last = omega arith;
  place = omega arith;
  rest = runs-start c.args.zeros (c.args.total - 1) (c.args.total - 1 - 0) _ _ (omega arith);
  placed = placed-none c.args.total c.args.zeros g.row.N (take c.args.total c.args.levels.now);
}

pub bounds-by_place-place : goal.bounds-by_place-place
bounds-by_place-place g c = let i = c.loop-k.invariant in let t = c.loop-k-test.true in let a = i.last in let b = i.place in let l = i.left in
    let f = c.requires.fits in omega arith

pub returns-in_err-run : goal.returns-in_err-run
returns-in_err-run g c =
    let p = err_from_is_err_and c.from_residual.result c.from_residual.ensures.1 in
    let a = c.loop-k.invariant.last in
    let t = c.loop-k-test.true in
    rw (p.1, p.2) (runs-stop (c.args.total - 1) c.loop-k.k c.loop-k.left c.loop-k.invariant.runs (omega arith) c.loop-k.invariant.rest
    c.in_err-run.ensures.meets)

pub loop-k-preserved : goal.loop-k-preserved
loop-k-preserved g c =
    let i = c.loop-k.invariant in
    let t = c.loop-k-test.true in
    let a = i.last in
    let b = i.place in
    let m = i.count in
    let l = i.left in
    let r = c.from-in-loop-k.ensures in
    let level = get_or c.args.levels.now c.loop-k.k (pos 0) in
    let fits : SFits w16 level = search rules in
    let f = c.requires.fits in
    record {
      sized = length-set c.loop-k.by_place c.loop-k.place _ ∙ i.sized;
      room = let k = kept c.in_ok-run.ensures.meets in let r = i.room in rw k r;
      runs = i.runs ++ c.in_ok-run.run' ∷ [];
      count = let n = length-append i.runs (c.in_ok-run.run' ∷ []) in omega arith;
      left = let s = sum_by-append (λ run. run) i.runs (c.in_ok-run.run' ∷ []) in omega arith;
      last = a;
      place = let w = c.in_ok-run.ensures.within in omega arith;
      rest = runs-next (c.args.total - 1) c.loop-k.k c.loop-k.left _ i.runs (omega arith) refl i.rest c.in_ok-run.ensures.meets;
      placed = placed-run (c.loop-k.k + 1) c.args.total c.args.zeros c.in_ok-run.run' _ i.runs _ (omega arith)
          (placed-more c.loop-k.k (c.loop-k.k + 1) c.args.total c.args.zeros _ (take c.args.total c.args.levels.now) i.runs c.loop-k.by_place _ (omega arith)
          refl (let m = i.sized in omega arith)
          (let e = place-next c.args.total c.args.zeros i.runs c.loop-k.k i.count in omega arith)
          (to_z-of_z w16 level fits ∙ sym (get_or-take c.args.total c.args.levels.now c.loop-k.k (pos 0) (omega arith)))
          i.placed);
    }

pub returns : goal.returns
returns g c =
    let i = c.loop-k.invariant in
    let t = c.loop-k-test.false in
    let some = c.requires.some in
    let few = c.requires.few in
    let f = c.requires.fits in
    let l = i.left in
    let m = i.count in
    let n = i.sized in
    let a = i.last in
    let b = i.place in
    let last : c.loop-k.k + 1 ≡ c.args.total = omega arith in
    let at : c.from-last.result ≡ c.loop-k.k = omega arith in
    let level = get_or c.args.levels.now c.from-last.result (pos 0) in
    let fits : SFits w16 level = search rules in
    let e = place-next c.args.total c.args.zeros i.runs c.loop-k.k m in
    let sixteen = c.told-levels in
    runs-over (c.args.total - 1) c.loop-k.k c.loop-k.left i.runs _ (omega arith)
    (all-placed c.args.total c.args.zeros g.row.N (take c.args.total c.args.levels.now) i.runs _ (length-set c.loop-k.by_place c.loop-k.place _ ∙ n)
    (length-take-le c.args.total c.args.levels.now (omega arith))
    (placed-more c.loop-k.k c.args.total c.args.total c.args.zeros _ (take c.args.total c.args.levels.now) i.runs c.loop-k.by_place _ (omega arith)
    (omega arith) (omega arith)
    (omega arith)
    (to_z-of_z w16 level fits ∙ ap (λ n. get_or c.args.levels.now n (pos 0)) at ∙
    sym (get_or-take c.args.total c.args.levels.now c.loop-k.k (pos 0) (omega arith)))
    i.placed))
    i.rest
