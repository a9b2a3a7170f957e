use Rattle.std.proofs.Common.{Err, ap}
use Rattle.std.proofs.lemmas.Result.{err_from_is_err_and}
use Rattle.h264_base.specs.declared.stop.Stop.TheVariants.{Memory, Read}
use Rattle.h264_verify.proofs.laws.AfterLegal.{err-same}
use Rattle.h264_verify.proofs.language.OutcomesPlayed.{plays-not-read, err-as}
use Rattle.h264_verify.proofs.session.SessionSteps.{fed-keeps, not-waiting}
use Rattle.h264_verify.proofs.session.SessionRest.{named-not-memory, named-not-read}
use Rattle.h264_verify.proofs.session.SessionEnd.{finish-stops, finish-end, finish-memory, finish-unit, finish-both, last-read, last-some, changes-read}
use Rattle.h264_verify.proofs.session.finish_all.Goals as goal

pub returns-in_err-finish : goal.returns-in_err-finish
returns-in_err-finish g c =
    let p = err_from_is_err_and c.from_residual.result c.from_residual.ensures.1 in
    let h = c.in_err-finish.ensures.err c.requires.ready.0.0 in
    rw (p.1, p.2) (record {
      comes = λ bytes frames told f. finish-stops f _ _ _ h;
      no_read = λ e. named-not-read h.tail _ h.stop_is (err-same _ Read e);
      memory = λ e. absurd (named-not-memory h.tail _ h.stop_is (err-same _ Memory e));
    })

pub judge_end-requires-clause-kept : goal.judge_end-requires-clause-kept
judge_end-requires-clause-kept g c = fed-keeps c.requires.ready.3

pub returns-in-None : goal.returns-in-None
returns-in-None g c = record {
  comes = λ bytes frames told f. finish-end f c.in_ok-finish.ensures.ok _ _ _ _ _ (not-waiting _ c.in-None.ensures.when) c.in-None.ensures.none
      c.length.ensures.value c.judge_end.ensures.no_memory (c.judge_end.ensures.ends frames f.before f.keeps);
  no_read = λ e. let some = c.requires.ready.3 in
      plays-not-read _ _ _ _ _ _ _ (c.judge_end.ensures.ends some.frames some.fed.before some.fed.keeps).plays e;
  memory = λ e. absurd (c.judge_end.ensures.no_memory e);
}

pub returns-in_err-bytes-in-Some : goal.returns-in_err-bytes-in-Some
returns-in_err-bytes-in-Some g c =
    let p = err_from_is_err_and c.from_residual-in_err-bytes-in-Some.result c.from_residual-in_err-bytes-in-Some.ensures.1 in
    let memory = c.in_err-bytes-in-Some.ensures.err.0 in
    rw (p.1, p.2) (record {
      comes = λ bytes frames told f. finish-memory f _ _ memory (last-some _ _ _ _ c.in_ok-finish.ensures.ok c.in-Some.ensures.some);
      no_read = λ e. let r = err-same _ Read e in cc;
      memory = λ e. last-read _ _ _ _ _ c.in_ok-finish.ensures.ok c.in-Some.ensures.some c.in_err-bytes-in-Some.ensures.err.1;
    })

pub returns-in_err-judge_next-in-Some : goal.returns-in_err-judge_next-in-Some
returns-in_err-judge_next-in-Some g c =
    let p = err_from_is_err_and c.from_residual-in_err-judge_next-in-Some.result c.from_residual-in_err-judge_next-in-Some.ensures.1 in
    let judged = c.in_err-judge_next-in-Some.ensures in
    let some = c.requires.ready.3 in
    rw (p.1, p.2) (record {
      comes = λ bytes frames told f.
          finish-unit f c.in_ok-finish.ensures.ok c.in-Some.ensures.some _ _ _ _ (judged.turns frames f.before f.keeps)
          (λ e. (judged.no_memory frames f.before f.keeps (ap Err e), judged.pauses frames f.before f.keeps (ap Err e)));
      no_read = λ e. plays-not-read _ _ _ _ _ _ _ (judged.turns some.frames some.fed.before some.fed.keeps).plays (err-as _ _ e);
      memory = λ e. last-read _ _ _ _ _ c.in_ok-finish.ensures.ok c.in-Some.ensures.some
          (changes-read _ _ _ (judged.no_memory some.frames some.fed.before some.fed.keeps (err-as _ _ e)));
    })

pub returns-in_ok-judge_next-in-Some : goal.returns-in_ok-judge_next-in-Some
returns-in_ok-judge_next-in-Some g c = record {
  comes = λ bytes frames told f.
      let t = c.in_ok-judge_next-in-Some.ensures.turns frames f.before f.keeps in
      finish-both f c.in_ok-finish.ensures.ok c.in-Some.ensures.some _ _ _ _ _ _ c.length-in-Some.ensures.value c.judge_end-in-Some.ensures.no_memory t
      (c.judge_end-in-Some.ensures.ends t.made t.after t.keeps);
  no_read = λ e.
      let some = c.requires.ready.3 in
      let t = c.in_ok-judge_next-in-Some.ensures.turns some.frames some.fed.before some.fed.keeps in
      plays-not-read _ _ _ _ _ _ _ (c.judge_end-in-Some.ensures.ends t.made t.after t.keeps).plays e;
  memory = λ e. absurd (c.judge_end-in-Some.ensures.no_memory e);
}
