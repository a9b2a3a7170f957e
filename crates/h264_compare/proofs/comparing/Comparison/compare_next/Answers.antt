use Rattle.std.proofs.Common.{[], sym, ◌∙◌, append-nil, arith}
use Rattle.std.proofs.KnownBytes.{Consumes-nil, Consumes-trans}
use Rattle.h264_lines.specs.Frames.{shown_bytes}
use Rattle.h264_compare.proofs.Matching.{noted-none, differ-none}
use Rattle.h264_compare.proofs.comparing.Comparison.compare_next.Goals as goal

pub returns-then-not-suits : goal.returns-then-not-suits
returns-then-not-suits g c =
    let made = shown_bytes c.args.frame.now c.args.rectangle in
    record {
      line = [];
      given = [];
      read = Consumes-nil _;
      suits_it = record { line = λ some. absurd (omega (arith, some)); size = λ some. absurd (omega (arith, some)) };
      noted = noted-none c.args.shown 0 c.args.self.now.numbers made c.know_range.ensures;
      differs_are = sym (differ-none made);
      ends = (omega arith, tt);
    }

pub returns-in-Err : goal.returns-in-Err
returns-in-Err g c =
    let made = shown_bytes c.args.frame.now c.args.rectangle in
    let line = c.in-Err.ensures.read in
    record {
      line = line.0;
      given = [];
      read = rw (append-nil line.0) line.1;
      suits_it = record { line = λ some. absurd (omega (arith, some)); size = λ some. absurd (omega (arith, some)) };
      noted = noted-none c.args.shown 0 c.args.self.now.numbers made c.know_range.ensures;
      differs_are = sym (differ-none made);
      ends = (omega arith, c.in-Err.ensures.ended);
    }

pub returns-in-Ok : goal.returns-in-Ok
returns-in-Ok g c =
    let line = c.in-Ok.ensures.read in
    let e = c.compare_shown.ensures in
    record {
      line = line.0;
      given = e.given;
      read = Consumes-trans _ _ _ _ _ line.1 e.read;
      suits_it = record { line = λ some. line.2; size = λ some. sym c.suits.ensures ∙ c.if-not-suits.false };
      noted = e.noted;
      differs_are = e.differs_are;
      ends = e.ends;
    }
