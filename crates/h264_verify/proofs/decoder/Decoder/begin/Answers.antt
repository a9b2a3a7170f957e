use Rattle.std.proofs.Common.{refl, sym, ◌∙◌}
use Rattle.h264_verify.proofs.samples.BeginsFrames.{begun-frames, is-active, always-place, some-place}
use Rattle.h264_verify.proofs.decoder.Decoder.begin.Goals as goal

pub returns-clause-begins : goal.returns-clause-begins
returns-clause-begins c = λ frames slice pictures sps-is k.
    begun-frames frames slice pictures c.args.self.now c.activate.new.self _ c.args.sps.now c.free_place-place.result k sps-is
    (c.in_ok-activate.ensures.room k.output.format) c.in_ok-activate.ensures.format (c.in_ok-activate.ensures.kept k.settled.released)
    c.in_ok-activate.ensures.others c.in_ok-activate.ensures.output refl refl refl
    (let f = c.free_place-place.ensures.from in let n = c.free_place-place.ensures.near in is-active _ c.free_place-place.result f n)
    c.begin.ensures.first c.free_place-place.ensures.free c.begin.ensures.holds c.begin.ensures.samples c.begin.ensures.begun c.begin.ensures.kept
    c.begin.ensures.places c.begin.ensures.size c.begin.ensures.released c.begin.ensures.purpose c.in_ok-activate.ensures.purpose

pub free_place-place-requires-clause-some : goal.free_place-place-requires-clause-some
free_place-place-requires-clause-some c =
    let k = c.requires.kept in
    let e = c.in_ok-activate.ensures in
    some-place c.args.self.now c.activate.new.self c.args.sps.now k (e.room k.keeps.output.format) e.format e.output

pub free_place-place-requires-clause-room : goal.free_place-place-requires-clause-room
free_place-place-requires-clause-room c = λ m.
    let k = c.requires.kept in
    let e = c.in_ok-activate.ensures in
    always-place c.args.self.now c.activate.new.self c.args.sps.now k (e.room k.keeps.output.format) e.format e.output (sym e.purpose ∙ m)
    (e.sized k.keeps.settled.released k.keeps.settled.sized)
