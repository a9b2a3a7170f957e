use Rattle.std.proofs.Common.{◌≡◌, arith}
use Rattle.h264_words.specs.ListWords.{with_list_file}
use Rattle.h264_words.proofs.InTurn.{one-more}
use Rattle.h264_words.proofs.command_line.list_program.Goals as goal

pub loop-name-preserved : goal.loop-name-preserved
loop-name-preserved c = record {
  local = c.in_ok-command.ensures.local;
  app = one-more (λ a p. with_list_file a p.0.now) _ _ c.loop-name.name-index _ _ _ c.in_ok-command.ensures.app c.loop-name.invariant.app c.loop-name-test.true;
}

pub returns : goal.returns
returns c =
    let last : c.loop-name.name-index ≡ 9 = (let t = c.loop-name-test.false in let e = c.loop-name.auto.name-index-end in omega arith) in
    rw last at c.loop-name.invariant.app
