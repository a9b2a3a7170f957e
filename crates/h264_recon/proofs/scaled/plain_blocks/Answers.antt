use Rattle.std.proofs.Common.{refl, sym, ◌∙◌}
use Rattle.h264_recon.proofs.FromLevels.{blank_of, plain_of}
use Rattle.h264_recon.proofs.scaled.plain_blocks.Goals as goal

pub returns-then-are_blank : goal.returns-then-are_blank
returns-then-are_blank c = blank_of c.args.mb.now.qp c.args.mb.now (sym c.are_blank.ensures ∙ c.if-are_blank.true)

pub returns : goal.returns
returns c = plain_of c.args.mb.now.qp c.args.mb.now _ refl refl (sym c.are_blank.ensures ∙ c.if-are_blank.false)
