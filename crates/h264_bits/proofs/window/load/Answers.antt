use Rattle.std.proofs.Common.{rules, ◌∙◌, sym}
use Rattle.h264_bits.proofs.Peeks.{peek-eight}
use Rattle.h264_bits.proofs.window.load.Goals as goal

pub returns-then-k-bytes : goal.returns-then-k-bytes
returns-then-k-bytes c = c.from_be_bytes.ensures ∙ sym (peek-eight c.args.bytes.now c.args.k (search rules))
