use Rattle.std.proofs.Common.{◌≡◌, ℕ, ◌-◌, ◌<◌, ◌≤◌, length}
use Rattle.h264_verify.specs.declared.state.Depth.{Depth}
use Rattle.h264_dpb.specs.Turns.{Turn}
use Rattle.h264_marking.proofs.Filling.{Filled}
use Rattle.h264_marking.specs.Frames.{frame_places}
use Rattle.h264_verify.specs.Keeping.{WhereMade, FillsFrames, HasPlaces, format_in}
use Rattle.h264_verify.proofs.judged.MissingNumbers.{Fills}
use Rattle.h264_verify.proofs.frame_num.fill_frames.Given as goal
use Rattle.h264_verify.specs.Telling.{Family}

abbrev pub invariant-loop-turn : goal.invariant-loop-turn
invariant-loop-turn g l = record {
  filled : Filled l.gap.numbering l.gap.count l.gap.prev_ref_frame_num l.initial.held l.turn l.last l.held;
  fills : (depth : Depth) (frames : Family) (t : Turn) (next : ℕ) → WhereMade depth (FillsFrames frames t next) l.initial.decoder →
      Fills depth l.gap.bit l.gap.numbering l.gap.count l.gap.prev_ref_frame_num l.initial.held g.S.Elements.took g.S.Elements.failures frames t next
      l.initial.sink (l.gap.count - l.turn) l.last l.held l.sink l.decoder;
  few : 0 < l.gap.count → length l.held.frames ≤ frame_places l.gap.numbering.max_num_ref_frames;
  places : 0 < l.gap.count → HasPlaces (frame_places l.gap.numbering.max_num_ref_frames) l.decoder;
  format : format_in l.decoder ≡ format_in l.initial.decoder;
  kept : g.S.Elements.failures l.sink ≡ g.S.Elements.failures l.initial.sink;
}
