use Rattle.std.specs.Prelude.{◌≡◌, false, fold, take}
use Rattle.clap.specs.Words.{app_of}
use Rattle.clap.specs.declared.builder.command.Command.TheViews.{out-Command as fields_of}
use Rattle.h264_words.specs.Words.{with_flag}
use Rattle.h264_words.proofs.command_line.with_flags.Given as goal

abbrev pub invariant-loop-option : goal.invariant-loop-option
invariant-loop-option l = record {
  local : (fields_of l.all).has_globals ≡ false;
  app : app_of l.all ≡ fold (λ a p. with_flag a p.0.now) (app_of l.fn.command) (take l.option-index l.option-items);
}
