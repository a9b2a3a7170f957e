use Rattle.std.proofs.Common.{Err, ap, ◌∙◌, ℕ}
use Rattle.std.proofs.lemmas.Result.{err_from_is_err_and}
use Rattle.h264_verify.proofs.language.OutcomesPlayed.{plays-not-read}
use Rattle.h264_verify.proofs.session.SessionSteps.{went-on, ready-push, ready-unit, not-waiting}
use Rattle.h264_verify.proofs.session.SessionPush.{goes-push, goes-unit, push-stops, push-memory, unit-stops, push-not-read}
use Rattle.h264_verify.proofs.session.feed_some.Goals as goal

pub returns-in_err-n : goal.returns-in_err-n
returns-in_err-n g c =
    let p = err_from_is_err_and c.from_residual.result c.from_residual.ensures.1 in
    rw (p.1, p.2) (record {
      within = tt;
      goes = λ bytes frames told f. tt;
      ready = tt;
      kept = tt;
      stops = λ bytes frames told f later. push-stops f _ _ _ _ c.requires.some (c.in_err-n.ensures.err c.requires.ready.0.0) later;
      no_read = push-not-read _ c.push.new.self c.args.piece.now _ (c.in_err-n.ensures.err c.requires.ready.0.0);
    })

pub returns-in-None-clause-goes : goal.returns-in-None-clause-goes
returns-in-None-clause-goes g c = λ bytes frames told f. goes-push f _ c.in_ok-n.ensures.ok _ c.in-None.ensures.none (not-waiting _ c.in-None.ensures.when)

pub returns-in-None-clause-ready : goal.returns-in-None-clause-ready
returns-in-None-clause-ready g c =
    let some = c.requires.ready.3 in
    let waits = not-waiting _ c.in-None.ensures.when in
    let none : ℕ = 0 in
    ready-push c.in_ok-n.ensures.ok c.requires.ready c.in-None.ensures.none waits
    (went-on some (goes-push some.fed _ {S = Unit {0}} {took = λ s calls. Unit {0}} {failures = λ s. none} c.in_ok-n.ensures.ok tt
    c.in-None.ensures.none waits))

pub returns-in_err-bytes-in-Some : goal.returns-in_err-bytes-in-Some
returns-in_err-bytes-in-Some g c =
    let p = err_from_is_err_and c.from_residual-in_err-bytes-in-Some.result c.from_residual-in_err-bytes-in-Some.ensures.1 in
    let memory = c.in_err-bytes-in-Some.ensures.err.0 in
    rw (p.1, p.2) (record {
      within = tt;
      goes = λ bytes frames told f. tt;
      ready = tt;
      kept = tt;
      stops = λ bytes frames told f later. push-memory f _ _ _ memory c.requires.some later;
      no_read = λ e. cc;
    })

pub returns-in_err-judge_next-in-Some : goal.returns-in_err-judge_next-in-Some
returns-in_err-judge_next-in-Some g c =
    let p = err_from_is_err_and c.from_residual-in_err-judge_next-in-Some.result c.from_residual-in_err-judge_next-in-Some.ensures.1 in
    let judged = c.in_err-judge_next-in-Some.ensures in
    let some = c.requires.ready.3 in
    rw (p.1, p.2) (record {
      within = tt;
      goes = λ bytes frames told f. tt;
      ready = tt;
      kept = tt;
      stops = λ bytes frames told f later.
          unit-stops f _ c.in_ok-n.ensures.ok c.in-Some.ensures.some (c.in_ok-n.ensures.ok.ended_is ∙ c.requires.ready.0.2) _ _ _ _
          (judged.turns frames f.before f.keeps) (λ e. (judged.no_memory frames f.before f.keeps (ap Err e), judged.pauses frames f.before f.keeps (ap Err e)))
          later;
      no_read = λ e. plays-not-read _ _ _ _ _ _ _ (judged.turns some.frames some.fed.before some.fed.keeps).plays (ap Err e);
    })

pub returns-in_ok-judge_next-in-Some-clause-goes : goal.returns-in_ok-judge_next-in-Some-clause-goes
returns-in_ok-judge_next-in-Some-clause-goes g c =
    λ bytes frames told f. goes-unit f _ c.in_ok-n.ensures.ok c.in-Some.ensures.some (c.in_ok-n.ensures.ok.ended_is ∙ c.requires.ready.0.2)
    (c.in_ok-judge_next-in-Some.ensures.turns frames f.before f.keeps)

pub returns-in_ok-judge_next-in-Some-clause-ready : goal.returns-in_ok-judge_next-in-Some-clause-ready
returns-in_ok-judge_next-in-Some-clause-ready g c =
    let some = c.requires.ready.3 in
    let judged = c.in_ok-judge_next-in-Some.ensures in
    ready-unit c.in_ok-n.ensures.ok c.requires.ready c.in-Some.ensures.some judged.counts judged.pictures
    (went-on some (goes-unit some.fed _ c.in_ok-n.ensures.ok c.in-Some.ensures.some (c.in_ok-n.ensures.ok.ended_is ∙ c.requires.ready.0.2)
    (judged.turns some.frames some.fed.before some.fed.keeps)))
