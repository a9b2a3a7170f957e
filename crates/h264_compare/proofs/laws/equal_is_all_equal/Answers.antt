use Rattle.std.proofs.Common.{sym, ap, ◌∙◌}
use Rattle.h264_compare.specs.Differences.{first_of}
use Rattle.h264_compare.proofs.Equal.{frames-same, none-differ}
use Rattle.h264_compare.proofs.laws.equal_is_all_equal.Goals as goal

pub returns-clause-equal : goal.returns-clause-equal
returns-clause-equal c = λ n frames numbers whole none. frames-same frames whole (sym numbers.first ∙ none)

pub returns-clause-differs : goal.returns-clause-differs
returns-clause-differs c = λ n frames numbers same. numbers.first ∙ ap first_of (none-differ frames same)
