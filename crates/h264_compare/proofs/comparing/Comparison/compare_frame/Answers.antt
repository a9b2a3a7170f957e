use Rattle.std.proofs.Common.{ap₂, subst}
use Rattle.h264_lines.specs.Frames.{shown_bytes}
use Rattle.h264_compare.specs.Numbers.{AreNoted}
use Rattle.h264_compare.proofs.Adding.{added}
use Rattle.h264_compare.proofs.comparing.Comparison.compare_frame.Goals as goal

pub returns : goal.returns
returns g c =
    let made = shown_bytes c.args.frame.now c.args.rectangle in
    let shown = c.shown_frame-shown.result in
    let e = c.compare_next-run.ensures in
    record {
      frame = record { shown = shown; made = made; line = e.line; given = e.given };
      compared = ap₂ (λ w h. record { width = w; height = h; bytes = made }) c.shown_frame-shown.ensures.width c.shown_frame-shown.ensures.height;
      read = e.read;
      suits_it = e.suits_it;
      ends = e.ends;
      adds = added (record { shown = shown; made = made; line = e.line; given = e.given }) c.args.self.now.numbers c.compare_next-run.new.self.numbers
          c.end.new.self c.compare_next-run.result.differs c.shown_frame-shown.ensures.number
          (subst (λ n. AreNoted shown 0 n c.compare_next-run.new.self.numbers made e.given) c.begin.ensures e.noted) e.differs_are c.end.ensures;
    }
