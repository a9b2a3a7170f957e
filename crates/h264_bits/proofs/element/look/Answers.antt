use Rattle.std.proofs.Common.{refl}
use Rattle.h264_base.proofs.Steps.{looked}
use Rattle.h264_base.proofs.Words.{more-one}
use Rattle.h264_bits.specs.Seen.{seen_ahead}
use Rattle.h264_bits.proofs.element.look.Goals as goal

pub returns : goal.returns
returns g c = looked _ _ seen_ahead _ _ _ (rw (c.stream_bit.ensures, more-one c.args.bits.now.body.bytes c.args.bits.now.at c.more.result c.more.ensures) refl)
