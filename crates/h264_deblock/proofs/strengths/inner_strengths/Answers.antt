use Rattle.std.proofs.Common.{◌≡◌, true, false, length, arith}
use Rattle.h264_deblock.proofs.CodedEdges.{strong-lines, even-lines}
use Rattle.h264_deblock.proofs.Numbers.{threes-words, zeros-words}
use Rattle.h264_deblock.proofs.strengths.inner_strengths.Goals as goal

pub returns-then-own-clause-vertical : goal.returns-then-own-clause-vertical
returns-then-own-clause-vertical c a e m s = strong-lines true m c.args.own.now.intra s.intra c.if-own.true

pub returns-then-own-clause-horizontal : goal.returns-then-own-clause-horizontal
returns-then-own-clause-horizontal c a e m s = strong-lines false m c.args.own.now.intra s.intra c.if-own.true

pub returns-then-even : goal.returns-then-even
returns-then-even c =
    let own = c.args.own.now in
    let k : length own.totals ≡ 16 = omega arith in
    record {
      vertical = λ a e m s. even-lines true own m s k c.if-own.false (e c.if-even.true);
      horizontal = λ a e m s. even-lines false own m s k c.if-own.false (e c.if-even.true);
      vertical_words = zeros-words;
      horizontal_words = zeros-words;
    }

pub returns-then-own-clause-vertical_words : goal.returns-then-own-clause-vertical_words
returns-then-own-clause-vertical_words c = threes-words

pub returns-then-own-clause-horizontal_words : goal.returns-then-own-clause-horizontal_words
returns-then-own-clause-horizontal_words c = threes-words
