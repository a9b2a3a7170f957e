-- The edge of a skipped macroblock. A working form.
use Rattle.std.specs.Prelude.{◌≡◌, ℕ, false, replicate, Option, Some}
use Rattle.h264_intra.specs.declared.luma4.Intra4x4PredMode.TheVariants.{Dc}
use Rattle.h264_near.specs.declared.context.Edge.{Edge}
use Rattle.h264_near.specs.declared.skipped.Skipped.{Skipped}

-- its lower and its right edge, which are alike
abbrev pub edge_of : Skipped → Edge
edge_of s = record {
  slice = s.slice;
  intra = false;
  qp = s.qp;
  totals = replicate 4 0;
  chroma = replicate 4 0;
  modes = replicate 4 Dc;
  motions = replicate 4 (Some s.motion);
}

-- the edge is that of this skipped macroblock, if there is one
abbrev pub IsEdgeOf : Option Skipped → Option Edge → Type 0
IsEdgeOf skipped edge = (s : Skipped) → skipped ≡ Some s → edge ≡ Some (edge_of s)
