use Rattle.std.specs.Prelude.{take, codes}
use Rattle.std.specs.Io.KnownBytes.{Consumes}
use Rattle.h264_compare.proofs.given.pass_word.Given as goal

abbrev pub invariant-loop-i : goal.invariant-loop-i
invariant-loop-i g l = Consumes (g.R.Read.remaining l.fn.reader) (g.R.Read.remaining l.reader) (take l.i (codes "FRAME"))
