use Rattle.std.proofs.Common.{sym, ◌∙◌}
use Rattle.h264_verify.proofs.samples.BeginsFrames.{none-some, some-free}
use Rattle.h264_verify.proofs.decoder.Decoder.free_place.Goals as goal

pub unreachable-requires : goal.unreachable-requires
unreachable-requires c =
    none-some c.free_place.result c.in_default.is
    (some-free c.args.self.now c.free_place.result c.first_place-first.result c.places.result c.first_place-first.ensures.value c.places.ensures.value
    c.requires.some c.free_place.ensures.some c.free_place.ensures.first (c.requires.room (sym c.purpose.ensures ∙ c.in-Frames.is)))
