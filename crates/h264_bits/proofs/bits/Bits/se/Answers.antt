use Rattle.std.proofs.lemmas.Result.{err_from_is_err_and}
use Rattle.h264_bits.proofs.Readings.{signed-wordless}
use Rattle.h264_bits.proofs.bits.Bits.se.Goals as goal

pub returns-in_err-code-clause-none : goal.returns-in_err-code-clause-none
returns-in_err-code-clause-none c =
    let p = err_from_is_err_and c.from_residual.result c.from_residual.ensures.1 in
    rw p.1 (signed-wordless c.args.self.now.body.bytes c.args.self.now.at c.in_err-code.ensures.none)
