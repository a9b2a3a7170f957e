use Rattle.std.proofs.Common.{◌≡◌, ℕ, ◌+◌, List, Option, None, Some, refl, ap, ◌∙◌, inl, inr, ⊎_elim}
use Rattle.h264_report.proofs.Accounts.{of-kept}
use Rattle.h264_lines.specs.Sent.{wrote}
use Rattle.h264_report.specs.Written.{OfBytes, Checks, status_of}
use Rattle.h264_command.specs.Commands.{Performs, Unopened, Done}
use Rattle.h264_command.proofs.Reopened.{excused-since, held-still, opened-again, read-after}
use Rattle.h264_command.proofs.command.serve.Goals as goal

-- and the other writer holds what it held
beside : (known : Option (List ℕ)) (Is : List ℕ → Type 0) (held : Option (List ℕ)) → OfBytes known Is → OfBytes known (λ bytes. Is bytes × (held ≡ held))
beside None Is held p = (p.0, (p.1, refl))
beside (Some bytes) Is held p = (p, refl)

pub returns-in-Err : goal.returns-in-Err
returns-in-Err g c words asks plain target = Unopened c.args.request.task c.args.request.file.now c.no_file.result.written asks plain
    (c.status.ensures ∙ ap (λ answer. status_of c.no_file.result.written answer) c.no_file.ensures.answer) (inl c.in-Err.ensures.failed)
    c.no_file.ensures.failures c.no_file.ensures.says

pub returns-then-not-is_glanced_at : goal.returns-then-not-is_glanced_at
returns-then-not-is_glanced_at g c words asks plain target =
    Done c.args.request.task c.args.request.file.now c.args.target c.perform.result asks plain target c.status-then-not-is_glanced_at.ensures
    (excused-since _ c.in_default.ensures.kept c.perform.ensures.excused)
    (of-kept (g.O.Opener.holds c.args.files.now.opener c.args.request.file.now) _
    (λ bytes. Performs c.args.request.task c.args.target bytes c.perform.result
    (wrote (g.W.Device.contents c.args.out.now) (g.W.Device.contents c.perform.new.out))
    (wrote (g.E.Device.contents c.args.err.now) (g.E.Device.contents c.perform.new.err)))
    c.in_default.ensures.opened c.perform.ensures.performs)

pub returns-in-Some : goal.returns-in-Some
returns-in-Some g c words asks plain target =
    Done c.args.request.task c.args.request.file.now c.args.target c.in-Some.ending asks plain target c.status-in-Some.ensures
    (record {
      failures = record {
        unwritten = λ e. inl (c.in-Some.ensures.failed e);
        write = λ e. absurd (c.in-Some.ensures.write e);
        quiet = λ never e. (c.in-Some.ensures.quiet e, refl);
        handed_over = λ never e. (inl (c.in-Some.ensures.handed_over e), inr refl);
      };
      read = λ e. read-after _ c.in_default.ensures.kept (c.in-Some.ensures.read e);
      read_told = ⊎_elim (λ q. inl (q ∙ c.in_default.ensures.kept)) (λ r. inr (inl r)) c.in-Some.ensures.read_told;
    })
    (rw (c.if-not-is_glanced_at.ensures refl)
    (beside (g.O.Opener.holds c.args.files.now.opener c.args.request.file.now)
    (λ bytes. Checks c.args.target bytes c.in-Some.ending (wrote (g.W.Device.contents c.args.out.now) (g.W.Device.contents c.glance.new.out)))
    (g.E.Device.contents c.args.err.now)
    (of-kept (g.O.Opener.holds c.args.files.now.opener c.args.request.file.now) _
    (λ bytes. Checks c.args.target bytes c.in-Some.ending (wrote (g.W.Device.contents c.args.out.now) (g.W.Device.contents c.glance.new.out)))
    c.in_default.ensures.opened c.in-Some.ensures.checks)))

pub returns-in-Ok : goal.returns-in-Ok
returns-in-Ok g c words asks plain target =
    let kept = c.in-Ok.ensures.kept ∙ c.in_default-glance.ensures.unfailed ∙ c.in_default.ensures.kept in
    let untold = c.in_default-glance.ensures.untold in
    let same = held-still g.O.Opener.holds c.in_default-glance.ensures.opener c.in_default.ensures.holds in
    let k = opened-again g.O.Opener.holds _ _ same refl c.in-Ok.ensures.opened in
    Done c.args.request.task c.args.request.file.now c.args.target c.perform-in-Ok.result asks plain target c.status-in-Ok.ensures
    (excused-since _ kept (rw untold at c.perform-in-Ok.ensures.excused))
    (of-kept (g.O.Opener.holds c.args.files.now.opener c.args.request.file.now) _
    (λ bytes. Performs c.args.request.task c.args.target bytes c.perform-in-Ok.result
    (wrote (g.W.Device.contents c.args.out.now) (g.W.Device.contents c.perform-in-Ok.new.out))
    (wrote (g.E.Device.contents c.args.err.now) (g.E.Device.contents c.perform-in-Ok.new.err)))
    k (rw untold at c.perform-in-Ok.ensures.performs))

pub returns-in-Err-open_again : goal.returns-in-Err-open_again
returns-in-Err-open_again g c words asks plain target =
    let untold = c.in_default-glance.ensures.untold in
    Unopened c.args.request.task c.args.request.file.now c.no_file-in-Err-open_again.result.written asks plain
    (c.status-in-Err-open_again.ensures ∙ ap (λ answer. status_of c.no_file-in-Err-open_again.result.written answer) c.no_file-in-Err-open_again.ensures.answer)
    (inl (c.in-Err-open_again.ensures.failed ∙ ap (λ n. n + 1) (c.in_default-glance.ensures.unfailed ∙ c.in_default.ensures.kept)))
    (rw untold at c.no_file-in-Err-open_again.ensures.failures) (rw untold at c.no_file-in-Err-open_again.ensures.says)
