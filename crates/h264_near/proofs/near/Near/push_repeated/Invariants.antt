use Rattle.std.proofs.Common.{◌≡◌, ℕ, ◌+◌, ◌%◌, ◌<◌, List, ◌++◌, length, Some, replicate, Option}
use Rattle.h264_near.specs.Coded.{CodedMacroblock}
use Rattle.h264_near.specs.Motions.{neighbour}
use Rattle.h264_near.specs.declared.motion.Motion.{Motion}
use Rattle.h264_near.specs.declared.skipped.Skipped.{Skipped}
use Rattle.h264_near.specs.Keeps.{Keeps}
use Rattle.h264_near.specs.Skips.{IsSkipped}
use Rattle.h264_near.proofs.near.Near.push_repeated.Given as goal

abbrev pub invariant-loop-turn : goal.invariant-loop-turn
invariant-loop-turn l = record {
  same : l.self.skipped ≡ l.fn.self.skipped;
  keeps : (width : ℕ) (picture : List CodedMacroblock) (s : Skipped) (coded : CodedMacroblock) → Keeps width picture l.fn.self →
      l.fn.self.skipped ≡ Some s → IsSkipped s coded → length picture % width + l._turn < width → Keeps width (picture ++ replicate l._turn coded) l.self;
  left : (width : ℕ) (picture : List CodedMacroblock) (s : Skipped) (coded : CodedMacroblock) → Keeps width picture l.fn.self →
      l.fn.self.skipped ≡ Some s → IsSkipped s coded → length picture % width + l._turn < width → (k : ℕ) → k < l._turn →
      (motions : List (Option Motion)) → neighbour width (picture ++ replicate k coded) s.slice motions 0 1 ≡ Some (Some s.motion);
}
