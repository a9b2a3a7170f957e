use Rattle.std.proofs.lemmas.Result.{err_from_is_err_and}
use Rattle.h264_verify.specs.Order.{closing_demands, whole_steps, close_steps}
use Rattle.h264_verify.proofs.samples.FamiliesAgree.{agree-none}
use Rattle.h264_verify.proofs.language.Played.{begins, answered, refused, met, unmet, last}
use Rattle.h264_verify.proofs.close.close.Goals as goal
use Rattle.h264_base.proofs.Plain.{on-ok}

pub end_frame-requires-clause-kept : goal.end_frame-requires-clause-kept
end_frame-requires-clause-kept g c =
    let k = c.requires.kept in
    record { depth = k.depth; frames = k.frames; before = k.before; slices_are = c.in_ok-end.ensures.ended k.before k.slices_are; keeps = k.keeps }

pub returns-in_err-end_data-clause-closes : goal.returns-in_err-end_data-clause-closes
returns-in_err-end_data-clause-closes g c =
    let p = err_from_is_err_and c.from_residual.result c.from_residual.ensures.1 in
    rw (p.1, p.2) (λ depth frames before k d. record {
      made = frames;
      same = agree-none _ frames;
      plays = refused _ _ (whole_steps depth before) _ (begins _ _ (close_steps depth before) _) (c.in_err-end_data.ensures.judged depth frames before k d)
          c.in_err-end_data.ensures.named;
      keeps = tt;
    })

pub returns-in_err-end-clause-closes : goal.returns-in_err-end-clause-closes
returns-in_err-end-clause-closes g c =
    let p = err_from_is_err_and c.from_residual-in_err-end.result c.from_residual-in_err-end.ensures.1 in
    rw (p.1, p.2) (λ depth frames before k d.
    let whole = c.in_ok-end_data.ensures.judged depth frames before k d in
    record {
      made = frames;
      same = agree-none _ frames;
      plays = unmet _ _ (closing_demands before) _ (answered _ _ (whole_steps depth before) _ (begins _ _ (close_steps depth before) _) whole)
          (c.in_err-end.ensures.judged before k);
      keeps = tt;
    })

pub returns-clause-closes : goal.returns-clause-closes
returns-clause-closes g c = λ depth frames before k d.
    let whole = c.in_ok-end_data.ensures.judged depth frames before k d in
    let e = c.end_frame.ensures.ends depth frames before (c.in_ok-end.ensures.ended before k) whole d in
    record {
      made = e.made;
      same = e.same;
      plays = last _ _ (met _ _ (closing_demands before) _ (answered _ _ (whole_steps depth before) _ (begins _ _ (close_steps depth before) _) whole)
          (c.in_ok-end.ensures.judged before k)) e.plays;
      keeps = e.keeps;
    }

pub returns-clause-ended : goal.returns-clause-ended
returns-clause-ended g c = λ before k. on-ok c.end_frame.result (c.in_ok-end.ensures.ended before k)
