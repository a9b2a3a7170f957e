use Rattle.std.proofs.Common.{◌≡◌, length, sym, ◌∙◌, arith}
use Rattle.h264_compare.proofs.Again.{again-one, again-none, none-ahead, none-behind, some-of}
use Rattle.h264_compare.proofs.opening.AheadRead.read.Goals as goal
use Rattle.h264_compare.proofs.opening.AheadRead.read.Goals.{else-self-via-then-self+else-self-lt-SIGN_LENGTH, else-self-via-else-self}

pub returns-then-self-lt-SIGN_LENGTH-clause-bytes : goal.returns-then-self-lt-SIGN_LENGTH-clause-bytes
returns-then-self-lt-SIGN_LENGTH-clause-bytes g c = (
  again-one (g.R.Read.remaining c.args.self.now.reader) c.args.self.now.first c.args.buf.now c.args.self.now.next c.args.self.now.end c.if-self.true
      (let long : length c.args.self.now.first ≡ 10 = c.fits-self.1.0.1.0.1 in let t = c.if-self-lt-SIGN_LENGTH.true in omega (arith, long, t))
      (some-of (length c.args.buf.now) (sym c.is_empty.ensures ∙ c.if-is_empty.false)),
  λ none. absurd (omega (arith, none)),
)

pub returns-clause-bytes : goal.returns-clause-bytes
returns-clause-bytes g c =
    let first = c.args.self.now.first in
    again-none (g.R.Read.remaining c.args.self.now.reader) (g.R.Read.remaining c.read.new.self) _ c.read.result c.read.new.buf
    (elim c.else-self.branch [
      | else-self-via-then-self+else-self-lt-SIGN_LENGTH w ↦ none-behind first c.args.self.now.next _
          (let long : length first ≡ 10 = c.fits-self.1.0.1.0.1 in let t = w.if-self-lt-SIGN_LENGTH.false in omega (arith, long, t))
      | else-self-via-else-self w ↦ none-ahead first c.args.self.now.next c.args.self.now.end w.if-self.false
    ]) c.read.ensures.bytes
