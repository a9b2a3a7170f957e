use Rattle.std.proofs.Common.{◌≡◌, ◌<◌, length, Option, None, Some, true, refl, sym, ap, ◌∙◌, arith}
use Rattle.h264_dpb.specs.Shown.{frame_call}
use Rattle.h264_lines.specs.Y4m.{framed_in, HasSize}
use Rattle.h264_lines.proofs.Framed.{first-frame, later-frame, unsent-y4m, y4m-none}
use Rattle.h264_lines.proofs.Sinks.{on-ok-three, on-err-all, err-map}
use Rattle.h264_lines.proofs.y4m_sink.Y4mSinkFrameOut.frame.Goals as goal

is-none : {X : Type 0} (o : Option X) → ((x : X) → o ≡ Some x → ⊥) → o ≡ None
is-none None never = refl
is-none (Some x) never = absurd (never x refl)

pub returns-then-is_stopped-clause-refused : goal.returns-then-is_stopped-clause-refused
returns-then-is_stopped-clause-refused g c = rw c.fail.ensures.others (on-err-all c.fail.result (record { told = λ before h. y4m-none h }))

pub returns-in_default-clause-ok : goal.returns-in_default-clause-ok
returns-in_default-clause-ok g c =
    let call = frame_call c.args._count c.args.frame.now c.args.rectangle in
    let more : 0 < length (framed_in call) = omega arith in
    let whole = c.is_stopped.ensures.whole c.if-is_stopped.false in
    let sized : HasSize c.head_for-head.result call = (sym c.head_for-head.ensures.width, sym c.head_for-head.ensures.height) in
    on-ok-three c.put_first.result (λ e s b. record {
      told =
          λ before h. first-frame c.args.self.now.head c.put_first.new.self.head c.head_for-head.result c.args.self.now.broke_off c.put_first.new.self.broke_off
          before call c.put_first.ensures.same_reference (is-none c.args.self.now.head c.in_default.not-Some) e whole more sized s b h;
    })
    c.put_first.ensures.headed c.put_first.ensures.ok c.put_first.ensures.blamed

pub returns-in_default-clause-refused : goal.returns-in_default-clause-refused
returns-in_default-clause-refused g c =
    err-map c.put_first.result (λ u. record {
      told =
          λ before h. unsent-y4m c.put_first.ensures.same_reference u.0 u.1 (ap g.W.Device.has_failed u.2) (ap g.W.Device.contents u.2) h;
    })
    c.put_first.ensures.unsent

pub returns-in-Ok-clause-ok : goal.returns-in-Ok-clause-ok
returns-in-Ok-clause-ok g c =
    let call = frame_call c.args._count c.args.frame.now c.args.rectangle in
    let whole = c.is_stopped.ensures.whole c.if-is_stopped.false in
    let broke = c.args.self.now.broke_off in
    let same = c.has_size_of.ensures.yes c.if-not-has_size_of.false in
    let sized : HasSize c.in-Some.first call = (sym c.head_for-head.ensures.width ∙ same.0, sym c.head_for-head.ensures.height ∙ same.1) in
    record {
      told = λ before h. later-frame c.args.self.now.head c.in-Some.first broke broke before call refl c.in-Some.is whole sized
          (rw whole c.in-Ok.ensures.ok) (rw whole c.in-Ok.ensures.quiet) h;
    }

pub returns-in-Err-clause-ok : goal.returns-in-Err-clause-ok
returns-in-Err-clause-ok g c =
    let call = frame_call c.args._count c.args.frame.now c.args.rectangle in
    let whole = c.is_stopped.ensures.whole c.if-is_stopped.false in
    let same = c.has_size_of.ensures.yes c.if-not-has_size_of.false in
    let sized : HasSize c.in-Some.first call = (sym c.head_for-head.ensures.width ∙ same.0, sym c.head_for-head.ensures.height ∙ same.1) in
    record {
      told = λ before h. later-frame c.args.self.now.head c.in-Some.first c.args.self.now.broke_off true before call refl c.in-Some.is whole sized
          c.in-Err.ensures.front c.in-Err.ensures.failed h;
    }
