use Rattle.std.proofs.Common.{◌≤◌, length, drop, arith}
use Rattle.std.proofs.lemmas.Grind.{common_steps}
use Rattle.h264_command.proofs.Kept.{counted-read}
use Rattle.h264_command.proofs.storing.KeptBytes.give_stored.Goals as goal

pub returns-clause-bytes : goal.returns-clause-bytes
returns-clause-bytes g c =
    let n = c.in_ok-n.n in
    let fits : n ≤ length c.read.new.buf = c.in_ok-n.ensures.bound.0 in
    let counted : n ≤ c.args.self.now.stored = grind (arith, common_steps, fits) in
    counted-read c.args.self.now.stored n c.read.new.buf (drop c.min-count.result c.args.piece.now) (omega (arith, c.if-n-eq0.false)) counted fits
    (g.S.Read.remaining c.args.self.now.store) (g.S.Read.remaining c.read.new.self) c.in_ok-n.ensures.bytes.0
