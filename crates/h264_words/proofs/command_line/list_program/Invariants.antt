use Rattle.std.specs.Prelude.{◌≡◌, false, fold, take}
use Rattle.clap.specs.Words.{app_of}
use Rattle.clap.specs.declared.builder.command.Command.TheViews.{out-Command as fields_of}
use Rattle.h264_words.specs.ListWords.{with_list_file}
use Rattle.h264_words.specs.Words.{bare}
use Rattle.h264_words.proofs.command_line.list_program.Given as goal

abbrev pub invariant-loop-name : goal.invariant-loop-name
invariant-loop-name l = record {
  local : (fields_of l.command).has_globals ≡ false;
  app : app_of l.command ≡ fold (λ a p. with_list_file a p.0.now) bare (take l.name-index l.name-items);
}
