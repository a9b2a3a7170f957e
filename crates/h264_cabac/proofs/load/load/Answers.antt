use Rattle.std.proofs.Common.{rules, ◌∙◌, sym}
use Rattle.h264_cabac.proofs.Loads.{peek-four}
use Rattle.h264_cabac.proofs.load.load.Goals as goal

pub returns-then-k-bytes : goal.returns-then-k-bytes
returns-then-k-bytes c = c.from_be_bytes.ensures ∙ sym (peek-four c.args.bytes.now c.args.k (search rules))
