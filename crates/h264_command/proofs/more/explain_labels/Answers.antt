use Rattle.std.proofs.Common.{◌≡◌, true, false, refl, map, length, string_bytes, subst, arith, ap, sym, ◌∙◌}
use Rattle.std.proofs.lemmas.Bool.{true≢false}
use Rattle.std.proofs.lemmas.List.{take_all}
use Rattle.h264_lines.specs.Sent.{Sends}
use Rattle.h264_report.specs.Written.{status_of}
use Rattle.h264_lines.proofs.Known.{sends-is, ok-of}
use Rattle.h264_command.specs.Explained.{IsExplained}
use Rattle.h264_command.specs.More.{Told, Short}
use Rattle.h264_command.proofs.Explained.{explained-none, explained-more}
use Rattle.h264_command.proofs.more.explain_labels.Goals as goal

pub loop-label-init : goal.loop-label-init
loop-label-init g c = (explained-none c.args.json _ c.new-text.ensures.bytes, refl)

pub loop-label-preserved : goal.loop-label-preserved
loop-label-preserved g c = (
  explained-more c.args.json (λ label. label.now) c.args.labels.now c.loop-label.label-index _ (string_bytes c.loop-label.text) _ c.in-Some.entry
      c.loop-label.invariant.0 c.loop-label-test.true c.in-Some.ensures.is
      (ok-of c.put_entry.result c.if-is_err.ensures.value c.put_entry.ensures),
  c.loop-label.invariant.1,
)

pub returns-then-is_err-clause-status : goal.returns-then-is_err-clause-status
returns-then-is_err-clause-status g c = Short c.put_memory.result.written
    (c.status.ensures ∙ ap (λ answer. status_of c.put_memory.result.written answer) c.put_memory.ensures.answer)
    (record { whole = c.put_memory.ensures.handed_over; failed = c.put_memory.ensures.failed })

pub returns-then-put_text-clause-status : goal.returns-then-put_text-clause-status
returns-then-put_text-clause-status g c = Told true refl (record { whole = λ e. c.if-put_text.ensures.handed_over refl; failed = λ e. absurd (true≢false e) })

pub returns-then-put_text-clause-told : goal.returns-then-put_text-clause-told
returns-then-put_text-clause-told g c zero =
    let at : length c.args.labels.now ≡ c.loop-label.label-index = let t = c.loop-label-test.false in let a = c.loop-label.auto.label-index-end in
    omega arith in
    let all = take_all c.loop-label.label-index c.args.labels.now (omega (arith, at)) in (
      string_bytes c.loop-label.text,
      subst (λ ls. IsExplained c.args.json (map (λ label. label.now) ls) (string_bytes c.loop-label.text)) all c.loop-label.invariant.0,
      subst (λ before. Sends before (g.W.Device.contents c.put_text.new.out) (string_bytes c.loop-label.text)) c.loop-label.invariant.1
          (sends-is c.as_str.ensures.value c.if-put_text.ensures.text),
    )

pub returns-clause-status : goal.returns-clause-status
returns-clause-status g c = Told false refl (record { whole = λ e. absurd (true≢false (sym e)); failed = λ e. c.if-put_text.ensures.failed refl })
