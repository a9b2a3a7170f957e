use Rattle.std.proofs.KnownBytes.{Consumes-trans}
use Rattle.h264_compare.proofs.given.pass_word.Goals as goal

pub returns-then-byte-i-clause-read : goal.returns-then-byte-i-clause-read
returns-then-byte-i-clause-read g c = (_, Consumes-trans _ _ _ _ _ c.loop-i.invariant c.in-Ok.ensures.bytes, tt)
