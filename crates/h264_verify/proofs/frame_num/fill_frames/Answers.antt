use Rattle.std.proofs.Common.{◌≡◌, ◌∙◌, ◌-◌, ◌<◌, sym, refl, rules, subst, arith}
use Rattle.std.proofs.lemmas.Result.{err_from_is_err_and}
use Rattle.h264_marking.proofs.Filling.{Filled, filled-some, filled-none, filled-first, filled-next, filled-last}
use Rattle.h264_marking.proofs.Moving.{last-within, last-after}
use Rattle.h264_verify.proofs.kept.WhereMade.{places-down}
use Rattle.h264_verify.proofs.judged.MissingNumbers.{some-missing, some-gap, fills-first, fills-more, fills-whole, fills-refused, fills-stopped, fills-next}
use Rattle.h264_verify.proofs.judged.MissingNumbers.{fills-last, fills-kept}
use Rattle.h264_verify.proofs.judged.MissingUntold.{fills-skipped}
use Rattle.h264_verify.proofs.frame_num.fill_frames.Goals as goal

pub loop-turn-init : goal.loop-turn-init
loop-turn-init g c = record {
  filled = filled-first c.args.gap.now.numbering c.args.gap.now.count c.args.gap.now.prev_ref_frame_num c.args.held.now;
  fills = λ depth frames t next k. fills-first depth c.args.gap.now.bit c.args.gap.now.numbering c.args.gap.now.count c.args.gap.now.prev_ref_frame_num
      c.args.held.now g.S.Elements.took g.S.Elements.failures frames t next c.args.sink.now c.args.decoder.now k;
  few = c.requires.few;
  places = c.requires.places;
  format = refl;
  kept = refl;
}

pub miss-requires-clause-few : goal.miss-requires-clause-few
miss-requires-clause-few g c =
    let some : 0 < c.args.gap.now.count = let t = c.loop-turn-test.true in omega (arith, t) in
    places-down _ _ c.loop-turn.decoder (c.in_ok-fill_gap.ensures.bounded (c.loop-turn.invariant.few some)) (c.loop-turn.invariant.places some)

pub miss-requires-clause-missing : goal.miss-requires-clause-missing
miss-requires-clause-missing g c = some-missing _ _ _ (filled-some _ _ _ _ _ c.in_ok-fill_gap.ensures.answer c.in_ok-fill_gap.ensures.held)

pub miss-requires-clause-kept : goal.miss-requires-clause-kept
miss-requires-clause-kept g c = some-gap _ _ _ _ _ _ _ _ _ _ _ _ _ _ c.requires.kept c.loop-turn.invariant.fills

-- ---- the others are skipped

pub returns-then-may_skip-clause-plays : goal.returns-then-may_skip-clause-plays
returns-then-may_skip-clause-plays g c = λ depth frames t next k.
    let f = c.loop-turn.invariant.fills depth frames t next k in
    let still = c.may_skip.ensures.frames c.if-may_skip.true depth frames f.turn next f.keeps in
    fills-last _ _ _ _ _ _ _ _ _ _ _ _ _ _ _ _
    (fills-skipped _ _ _ _ _ _ _ _ _ _ _ _ _ _ c.number_after.result _ c.skip.new.self _ _ (c.may_skip.ensures.held c.if-may_skip.true) f still)

pub returns-then-may_skip-clause-keeps : goal.returns-then-may_skip-clause-keeps
returns-then-may_skip-clause-keeps g c = λ depth frames t next k.
    let f = c.loop-turn.invariant.fills depth frames t next k in
    let still = c.may_skip.ensures.frames c.if-may_skip.true depth frames f.turn next f.keeps in
    fills-kept _ _ _ _ _ _ _ _ _ _ _ _ _ _ _ _
    (fills-skipped _ _ _ _ _ _ _ _ _ _ _ _ _ _ c.number_after.result _ c.skip.new.self _ _ (c.may_skip.ensures.held c.if-may_skip.true) f still)

pub returns-then-may_skip-clause-last : goal.returns-then-may_skip-clause-last
returns-then-may_skip-clause-last g c =
    let steady = c.may_skip.ensures.held c.if-may_skip.true in
    c.number_after.ensures ∙ sym (c.loop-turn.invariant.filled.number ∙
    last-after c.args.gap.now.numbering.max_frame_num (c.args.gap.now.count - c.loop-turn.turn) c.loop-turn.last
    (last-within c.args.gap.now.numbering c.loop-turn.last c.loop-turn.held steady))

pub returns-then-may_skip-clause-held : goal.returns-then-may_skip-clause-held
returns-then-may_skip-clause-held g c = c.loop-turn.invariant.filled.frames ∙ c.skip.ensures

-- ---- one more is filled

pub returns-in_err-fill_gap-clause-plays : goal.returns-in_err-fill_gap-clause-plays
returns-in_err-fill_gap-clause-plays g c =
    let p = err_from_is_err_and c.from_residual.result c.from_residual.ensures.1 in
    let none = filled-none _ _ _ (rw c.number_after-in-loop-turn.ensures at c.in_err-fill_gap.ensures.answer) in
    rw (p.1, p.2) (λ depth frames t next k.
    let f = fills-more _ _ _ _ _ _ _ _ _ _ _ _ c.loop-turn.turn _ _ _ _ c.loop-turn-test.true (c.loop-turn.invariant.fills depth frames t next k) in
    fills-refused _ _ _ _ _ _ _ _ _ _ _ _ _ _ _ _ _ f (λ _. tt) _ none.0 none.1)

pub returns-in_err-miss-clause-plays : goal.returns-in_err-miss-clause-plays
returns-in_err-miss-clause-plays g c =
    let p = err_from_is_err_and c.from_residual-in_err-miss.result c.from_residual-in_err-miss.ensures.1 in
    let answer = rw c.number_after-in-loop-turn.ensures at c.in_ok-fill_gap.ensures.answer in
    let held = rw c.number_after-in-loop-turn.ensures at c.in_ok-fill_gap.ensures.held in
    rw (p.1, p.2) (λ depth frames t next k.
    let f = fills-more _ _ _ _ _ _ _ _ _ _ _ _ c.loop-turn.turn _ _ _ _ c.loop-turn-test.true (c.loop-turn.invariant.fills depth frames t next k) in
    fills-stopped _ _ _ _ _ _ _ _ _ _ _ _ _ _ _ _ _ f _ (filled-some _ _ _ _ _ answer held) (λ _. tt) _ _
    (c.in_err-miss.ensures.plays depth frames f.turn next f.keeps))

pub loop-turn-preserved : goal.loop-turn-preserved
loop-turn-preserved g c =
    let answer = rw c.number_after-in-loop-turn.ensures at c.in_ok-fill_gap.ensures.answer in
    let held = rw c.number_after-in-loop-turn.ensures at c.in_ok-fill_gap.ensures.held in
    rw c.number_after-in-loop-turn.ensures (record {
      filled = filled-next c.args.gap.now.numbering c.args.gap.now.count c.args.gap.now.prev_ref_frame_num c.args.held.now c.loop-turn.turn c.loop-turn.last
          c.loop-turn.held c.fill_gap.new.self _ c.args.gap.now.bit c.loop-turn.invariant.filled c.loop-turn-test.true answer held;
      fills = λ depth frames t next k.
          let f = fills-more _ _ _ _ _ _ _ _ _ _ _ _ c.loop-turn.turn _ _ _ _ c.loop-turn-test.true (c.loop-turn.invariant.fills depth frames t next k) in
          fills-next _ _ _ _ _ _ _ _ _ _ _ _ _ _ _ _ _ f _ (filled-some _ _ _ _ _ answer held) _ _ _
          (c.in_ok-miss.ensures.plays depth frames f.turn next f.keeps)
          (c.in_ok-miss.ensures.keeps depth frames f.turn next f.keeps);
      few = λ some. c.in_ok-fill_gap.ensures.bounded (c.loop-turn.invariant.few some);
      places = λ some. c.in_ok-miss.ensures.sized _ (c.loop-turn.invariant.places some);
      format = c.in_ok-miss.ensures.format ∙ c.loop-turn.invariant.format;
      kept = c.in_ok-miss.ensures.kept ∙ c.loop-turn.invariant.kept;
    })

-- ---- all are filled

pub returns-clause-plays : goal.returns-clause-plays
returns-clause-plays g c =
    let e : c.loop-turn.turn ≡ c.args.gap.now.count = search rules in
    λ depth frames t next k. fills-last _ _ _ _ _ _ _ _ _ _ _ _ _ _ _ _
    (fills-whole _ _ _ _ _ _ _ _ _ _ _ _ c.loop-turn.turn _ _ _ _ e (c.loop-turn.invariant.fills depth frames t next k))

pub returns-clause-keeps : goal.returns-clause-keeps
returns-clause-keeps g c =
    let e : c.loop-turn.turn ≡ c.args.gap.now.count = search rules in
    λ depth frames t next k. fills-kept _ _ _ _ _ _ _ _ _ _ _ _ _ _ _ _
    (fills-whole _ _ _ _ _ _ _ _ _ _ _ _ c.loop-turn.turn _ _ _ _ e (c.loop-turn.invariant.fills depth frames t next k))

pub returns-clause-last : goal.returns-clause-last
returns-clause-last g c =
    let e : c.loop-turn.turn ≡ c.args.gap.now.count = search rules in
    (filled-last c.args.gap.now.numbering c.args.gap.now.count c.args.gap.now.prev_ref_frame_num c.args.held.now c.loop-turn.last c.loop-turn.held
    (subst (λ t. Filled c.args.gap.now.numbering c.args.gap.now.count c.args.gap.now.prev_ref_frame_num c.args.held.now t c.loop-turn.last
    c.loop-turn.held) e c.loop-turn.invariant.filled)).1

pub returns-clause-held : goal.returns-clause-held
returns-clause-held g c =
    let e : c.loop-turn.turn ≡ c.args.gap.now.count = search rules in
    (filled-last c.args.gap.now.numbering c.args.gap.now.count c.args.gap.now.prev_ref_frame_num c.args.held.now c.loop-turn.last c.loop-turn.held
    (subst (λ t. Filled c.args.gap.now.numbering c.args.gap.now.count c.args.gap.now.prev_ref_frame_num c.args.held.now t c.loop-turn.last
    c.loop-turn.held) e c.loop-turn.invariant.filled)).0
