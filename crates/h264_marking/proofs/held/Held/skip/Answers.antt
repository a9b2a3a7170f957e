use Rattle.std.proofs.Common.{Option, Some, List, map, ap, sym, ◌∙◌}
use Rattle.h264_marking.specs.declared.frame.ReferenceFrame.{ReferenceFrame}
use Rattle.h264_marking.specs.Frames.{References}
use Rattle.h264_marking.specs.Steady.{moved}
use Rattle.h264_marking.proofs.Moving.{all-moved}
use Rattle.h264_marking.proofs.held.Held.skip.Goals as goal

pub returns : goal.returns
returns c =
    all-moved c.args.numbering.now c.args.last c.args.self.now c.requires.steady c.args.count
    ∙ ap (λ (r : References). let o : Option References = Some (record r { frames = map (moved c.args.numbering.now.max_frame_num c.args.count) r.frames }) in
    o) (sym c.self.view_is)
    ∙ ap (λ (frames : List ReferenceFrame). let o : Option References =
    Some (record { frames = frames; max_long_term_frame_idx_plus1 = c.self.inside.max_long_term_frame_idx_plus1 }) in o) (sym c.move_all.ensures)
