-- How a macroblock is predicted, as its equations have it, and as the code has it. A working form.
use Rattle.std.specs.Prelude.{ℕ, ◌+◌, ◌%◌, ◌/◌, nat_lt, List, get_or, Option, Some, None, pos, if◌then◌else◌}
use Rattle.h264_near.specs.declared.motion.Motion as derived
use Rattle.h264_plane.specs.Blocks.{number_of}
use Rattle.h264_near.specs.Partition.{first_of}
use Rattle.h264_near.specs.declared.partition.Partition.{Partition}
use Rattle.h264_recon.specs.Table.{table}
use Rattle.h264_recon.specs.declared.macroblock.IntraModes.{IntraModes}
use Rattle.h264_recon.specs.declared.macroblock.Motion.{Motion}
use Rattle.h264_recon.specs.declared.macroblock.Motions.{Motions}
use Rattle.h264_recon.specs.declared.macroblock.Prediction as code
use Rattle.h264_recon.specs.declared.macroblock.Prediction.TheVariants as kind

-- the samples of an I_PCM macroblock, row by row
pub record PcmSamples : Type 0 where
  pub y : List ℕ
  pub cb : List ℕ
  pub cr : List ℕ

pub data Prediction : Type 0 where
  Intra : IntraModes → Prediction
  -- with the motion of each 4x4 place, row by row
  Inter : List Motion → Prediction
  Pcm : PcmSamples → Prediction

-- the samples of I_PCM by plane (7.3.5)
unfoldable pub pcm_of : List ℕ → PcmSamples
pcm_of samples = record {
  y = table 256 (λ k. get_or samples k 0);
  cb = table 64 (λ k. get_or samples (256 + k) 0);
  cr = table 64 (λ k. get_or samples (320 + k) 0);
}

-- ---- the motion of a place, whose picture is the place that its index names, of these sixteen

-- of a place that has none, or whose index names none of these: the first of them, and no vector
abbrev pub unmoved : List ℕ → Motion
unmoved places = record { picture = get_or places 0 0; vector = record { x = pos 0; y = pos 0 } }

abbrev pub placed_motion : List ℕ → Option derived.Motion → Motion
placed_motion places None = unmoved places
placed_motion places (Some m) =
    if nat_lt m.ref_idx 16 then record { picture = get_or places m.ref_idx 0; vector = record { x = m.vector.x; y = m.vector.y } } else unmoved places

abbrev pub placed_at : List ℕ → List (Option derived.Motion) → ℕ → Motion
placed_at places motions k = placed_motion places (get_or motions (number_of (k % 4) (k / 4)) None)

unfoldable pub placed_motions : List ℕ → List (Option derived.Motion) → List Motion
placed_motions places motions = table 16 (placed_at places motions)

-- ---- what the code has stands for this: each place has the motion of the first block of its partition

abbrev pub parted_at : Partition → List ℕ → List (Option derived.Motion) → ℕ → Motion
parted_at partition places motions k = placed_motion places (get_or motions (first_of partition (number_of (k % 4) (k / 4))) None)

unfoldable pub parted_motions : Partition → List ℕ → List (Option derived.Motion) → List Motion
parted_motions partition places motions = table 16 (parted_at partition places motions)

abbrev pub motions_in : Motions → List Motion
motions_in m = parted_motions m.partition m.places.now m.derived.now

abbrev pub prediction_in : code.Prediction → Prediction
prediction_in (kind.Intra modes) = Intra modes
prediction_in (kind.Inter motions) = Inter (motions_in motions)
prediction_in (kind.Pcm samples) = Pcm (pcm_of samples.now)
