use Rattle.std.proofs.Common.{rules, arith, ◌≡◌, ℕ, ◌<◌, ◌∙◌, false, take, refl, ap, sym, length-set}
use Rattle.std.proofs.lemmas.List.{take_more_set, length-take-le}
use Rattle.std.proofs.lemmas.Result.{err_from_is_err_and}
use Rattle.std.proofs.lemmas.Int.{to_z-of_z}
use Rattle.std.specs.Int.{w16}
use mir.Val.{SFits}
use Rattle.h264_base.proofs.Steps.{kept}
use Rattle.h264_cavlc.specs.Level.{is_never_one}
use Rattle.h264_cavlc.proofs.Loops.{levels-start, levels-next, levels-stop, levels-over}
use Rattle.h264_cavlc.proofs.Sizes.{unequal}
use Rattle.h264_cavlc.proofs.level.read_more_levels.Goals as goal

never-later : (ones k : ℕ) → ones < k → false ≡ is_never_one ones k
unfolding is_never_one
never-later ones k h = rw (unequal k ones (λ e. absurd (omega arith))) refl

pub returns-then-token : goal.returns-then-token
returns-then-token g c = levels-over c.args.token.ones c.args.token.total c.args.token.ones _ (take c.args.token.ones c.args.levels.now) _ (omega arith)
    (ap (λ n. take n c.args.levels.now) (omega arith)) (levels-start c.args.token.ones _ _ _ _ _ _ _ refl refl)

pub returns-in_err-first : goal.returns-in_err-first
returns-in_err-first g c =
    let p = err_from_is_err_and c.from_residual.result c.from_residual.ensures.1 in
    let w = c.requires.within in
    let few = c.requires.few in
    let start = levels-start c.args.token.ones _ _ _ _ _ _ _ (sym c.first_suffix_length-first_length.ensures.length) refl in
    rw (p.1, p.2) (levels-stop c.args.token.ones c.args.token.total c.args.token.ones c.first_suffix_length-first_length.result
    c.is_never_one-never_one.result (take c.args.token.ones c.args.levels.now) (omega arith)
    (length-take-le c.args.token.ones c.args.levels.now (omega arith)) c.is_never_one-never_one.ensures start c.in_err-first.ensures)

pub loop-k-init : goal.loop-k-init
loop-k-init g c =
    let fits : SFits w16 c.in_ok-first.first = search rules in
    let same = to_z-of_z w16 c.in_ok-first.first fits in
    let next = rw same at c.next_suffix_length-suffix_length.ensures.length in
    let w = c.requires.within in
    let few = c.requires.few in
    let n = c.told-levels in
    let start = levels-start c.args.token.ones _ _ _ _ _ _ _ (sym c.first_suffix_length-first_length.ensures.length) refl in
    record {
      rest = levels-next c.args.token.ones c.args.token.total c.args.token.ones c.first_suffix_length-first_length.result
          c.next_suffix_length-suffix_length.result c.is_never_one-never_one.result (take c.args.token.ones c.args.levels.now) _ (omega arith)
          (length-take-le c.args.token.ones c.args.levels.now (omega arith)) c.is_never_one-never_one.ensures next
          (rw (c.from.ensures, same) (take_more_set c.args.levels.now c.args.token.ones c.in_ok-first.first (omega arith))) start c.in_ok-first.ensures;
      sized = length-set c.args.levels.now c.from.result _ ∙ search rules;
      some = c.next_suffix_length-suffix_length.ensures.some;
      short = c.next_suffix_length-suffix_length.ensures.short;
      room = let k = kept c.in_ok-first.ensures in let r = c.requires.room in rw k r;
    }

pub returns-in_err-level : goal.returns-in_err-level
returns-in_err-level g c =
    let p = err_from_is_err_and c.from_residual-in_err-level.result c.from_residual-in_err-level.ensures.1 in
    let n = c.loop-k.invariant.sized in
    let t = c.loop-k-test.true in
    let few = c.requires.few in
    let some = c.loop-k.invariant.some in
    let used : c.max-used.result ≡ c.loop-k.suffix_length = (let m = c.max-used.ensures in omega arith) in
    let e = rw used at c.in_err-level.ensures in
    rw (p.1, p.2) (levels-stop c.args.token.ones c.args.token.total c.loop-k.k c.loop-k.suffix_length false (take c.loop-k.k c.loop-k.levels) t
    (length-take-le c.loop-k.k c.loop-k.levels (omega arith)) (never-later c.args.token.ones c.loop-k.k (let i = c.loop-k.auto in omega arith))
    c.loop-k.invariant.rest e)

pub loop-k-preserved : goal.loop-k-preserved
loop-k-preserved g c =
    let fits : SFits w16 c.in_ok-level.level = search rules in
    let same = to_z-of_z w16 c.in_ok-level.level fits in
    let some = c.loop-k.invariant.some in
    let used : c.max-used.result ≡ c.loop-k.suffix_length = (let m = c.max-used.ensures in omega arith) in
    let next = rw (same, used) at c.next_suffix_length-suffix_length-in-loop-k.ensures.length in
    let e = rw used at c.in_ok-level.ensures in
    let n = c.loop-k.invariant.sized in
    let t = c.loop-k-test.true in
    let few = c.requires.few in
    record {
      rest = levels-next c.args.token.ones c.args.token.total c.loop-k.k c.loop-k.suffix_length c.next_suffix_length-suffix_length-in-loop-k.result false
          (take c.loop-k.k c.loop-k.levels) _ t (length-take-le c.loop-k.k c.loop-k.levels (omega arith))
          (never-later c.args.token.ones c.loop-k.k (let i = c.loop-k.auto in omega arith)) next
          (rw (c.from-in-loop-k.ensures, same) (take_more_set c.loop-k.levels c.loop-k.k c.in_ok-level.level (omega arith))) c.loop-k.invariant.rest e;
      sized = length-set c.loop-k.levels c.from-in-loop-k.result _ ∙ n;
      some = c.next_suffix_length-suffix_length-in-loop-k.ensures.some;
      short = c.next_suffix_length-suffix_length-in-loop-k.ensures.short;
      room = let k = kept c.in_ok-level.ensures in let r = c.loop-k.invariant.room in rw k r;
    }

pub returns : goal.returns
returns g c =
    let at : c.loop-k.k ≡ c.args.token.total = (let t = c.loop-k-test.false in let i = c.loop-k.auto in let w = c.requires.within in omega arith) in
    levels-over c.args.token.ones c.args.token.total c.loop-k.k c.loop-k.suffix_length (take c.loop-k.k c.loop-k.levels) _ c.loop-k-test.false
    (ap (λ n. take n c.loop-k.levels) at) c.loop-k.invariant.rest
