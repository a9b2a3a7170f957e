-- What constructs a skipped macroblock. A working form.
use Rattle.std.specs.Prelude.{ℕ, List, replicate, Option, Some}
use Rattle.h264_base.specs.declared.weight.Weights.{Weights}
use Rattle.h264_near.specs.declared.skipped.Skipped.{Skipped}
use Rattle.h264_scale.specs.declared.levels.Levels.{Levels}
use Rattle.h264_recon.specs.Constructed.{Coded}
use Rattle.h264_recon.specs.Given.{no_sides}
use Rattle.h264_recon.specs.Predicted.{Prediction, Inter, placed_motion}
use Rattle.h264_recon.specs.Weights.{index_weights}

-- its motion in all places, by the places of the slice's reference pictures
abbrev pub prediction_by : Skipped → List ℕ → Prediction
prediction_by s places = Inter (replicate 16 (placed_motion places (Some s.motion)))

-- with the weights of the slice's reference indexes
abbrev pub skipped : Skipped → List ℕ → List (Option Weights) → Levels → Coded
skipped s places weights l =
    record { available = no_sides; prediction = prediction_by s places; levels = l; weights = replicate 16 (index_weights weights (Some s.motion)) }
