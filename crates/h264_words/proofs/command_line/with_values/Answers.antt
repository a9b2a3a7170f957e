use Rattle.std.proofs.Common.{◌≡◌, arith}
use Rattle.h264_words.specs.Words.{with_value}
use Rattle.h264_words.proofs.InTurn.{one-more}
use Rattle.h264_words.proofs.command_line.with_values.Goals as goal

pub loop-option-preserved : goal.loop-option-preserved
loop-option-preserved c = record {
  local = c.in_ok-all.ensures.local;
  app = one-more (λ a p. with_value a (p.0.now, p.1)) _ _ c.loop-option.option-index _ _ _ c.in_ok-all.ensures.app
      c.loop-option.invariant.app c.loop-option-test.true;
}

pub returns-clause-app : goal.returns-clause-app
returns-clause-app c =
    let last : c.loop-option.option-index ≡ 4 = (let t = c.loop-option-test.false in let e = c.loop-option.auto.option-index-end in omega arith) in
    rw last at c.loop-option.invariant.app
