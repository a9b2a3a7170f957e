use Rattle.std.proofs.Common.{[], None, refl, inl, inr, ⊎_elim}
use Rattle.h264_report.proofs.Accounts.{checked, none-checked, none-elements, of-bytes, was-read}
use Rattle.h264_report.proofs.judging.check.Goals as goal

pub returns-in_default-clause-checks : goal.returns-in_default-clause-checks
returns-in_default-clause-checks g c = of-bytes _ _
    (λ bytes h. none-checked c.args.target bytes c.put_memory.result _ _ c.put_memory.ensures.answer c.put_memory.ensures.text)
    ([], none-checked c.args.target [] c.put_memory.result _ _ c.put_memory.ensures.answer c.put_memory.ensures.text)

pub returns-clause-checks : goal.returns-clause-checks
returns-clause-checks g c =
    let none = none-elements c.in-Ok.sink.trail c.in-Ok.ensures in
    of-bytes _ _
    (λ bytes h. checked {s' = c.run-answer.new.sink} (λ s. s.trail) _ _ (c.run-answer.ensures.verdict bytes h None tt) none (λ calls t. t)
    c.put_trail.ensures.answer (rw c.trail.ensures at c.put_trail.ensures.text))
    (let j = c.run-answer.ensures.some in (
      j.0,
      checked {s' = c.run-answer.new.sink} (λ s. s.trail) _ _ (j.4 None tt) none (λ calls t. t) c.put_trail.ensures.answer
          (rw c.trail.ensures at c.put_trail.ensures.text),
    ))

pub returns-clause-read : goal.returns-clause-read
returns-clause-read g c = λ e. c.run-answer.ensures.read (was-read _ _ c.put_trail.ensures.answer e)

pub returns-in_default-clause-read_told : goal.returns-in_default-clause-read_told
returns-in_default-clause-read_told g c = inl refl

pub returns-clause-read_told : goal.returns-clause-read_told
returns-clause-read_told g c = ⊎_elim (λ e. inl e) (λ r. inr (c.put_trail.ensures.read r)) c.run-answer.ensures.read_told
