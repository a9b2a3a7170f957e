use Rattle.std.proofs.Common.{◌≡◌, ◌%◌, ◌+◌, ◌<◌, length, rules, sym, ◌∙◌}
use Rattle.h264_marking.specs.Frames.{frame_places}
use Rattle.h264_marking.proofs.Moving.{steady-is}
use Rattle.h264_marking.proofs.steady.is_steady.Goals as goal

pub returns : goal.returns
returns c = λ h.
    let some : 0 < c.count_shorts-shorts.result = search rules in
    let few : c.count_shorts-shorts.result < c.args.numbering.now.max_frame_num = search rules in
    let full : length c.args.frames.now ≡ frame_places c.args.numbering.now.max_num_ref_frames = search rules in
    let within : c.number_before-before.result < c.args.numbering.now.max_frame_num = search rules in
    let last : c.args.last ≡ (c.number_before-before.result + c.count_shorts-shorts.result) % c.args.numbering.now.max_frame_num = search rules in
    steady-is c.args.numbering.now c.args.last c.number_before-before.result c.count_shorts-shorts.result c.args.frames.now (sym c.is_window.ensures ∙ h) full
    some few within last
