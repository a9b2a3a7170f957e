-- bS of pairs that were worked by hand.
use Rattle.std.proofs.Common.{true, ◌≡◌, ℕ, Some, refl, pos, replicate}
use Rattle.h264_intra.specs.declared.luma16.Intra16x16PredMode.TheVariants as luma
use Rattle.h264_intra.specs.declared.chroma.IntraChromaPredMode.TheVariants as chroma
use Rattle.h264_plane.specs.Blocks.{number_of}
use Rattle.h264_near.specs.Coded.{CodedMacroblock, Inter, Intra16x16, no_residual}
use Rattle.h264_tables.specs.declared.thresholds.Strength.TheVariants.{One, Two, Three}
use Rattle.h264_deblock.specs.Strength.{side_part, strength_of}
use Rattle.h264_deblock.specs.CodedEdges.{block_at, strength_at}
use Rattle.h264_deblock.specs.declared.edge_parameters.BoundaryStrength.TheVariants.{Zero, BelowFour, Four}

-- a macroblock of a slice whose blocks have this vector and so many coefficients each
abbrev moved : ℕ → ℕ → ℕ → ℕ → CodedMacroblock
moved slice picture x total = record {
  slice = slice;
  prediction = Inter (replicate 16 (Some (record { ref_idx = 0; picture = picture; vector = record { x = pos x; y = pos 0 } })));
  qp = 26;
  totals = replicate 16 total;
  chroma_totals = replicate 8 0;
  residual = no_residual;
}

abbrev still : CodedMacroblock
still = record { slice = 0; prediction = Intra16x16 luma.Dc chroma.Dc; qp = 26; totals = replicate 16 0; chroma_totals = replicate 8 0; residual = no_residual }

-- of quarters of vertical edges: inside a macroblock without coefficients nothing is filtered; at its edges by pictures and vectors, across slices too; 2 by
-- coefficients; 4 and 3 by intra
pub quarters : (strength_at true 2 (moved 0 7 0 0) (moved 0 7 0 0) 0 ≡ Zero) × (strength_at true 0 (moved 0 7 0 0) (moved 1 7 3 0) 0 ≡ Zero) ×
    (strength_at true 0 (moved 0 7 0 0) (moved 1 7 4 0) 0 ≡ BelowFour One) × (strength_at true 0 (moved 0 7 0 0) (moved 1 8 0 0) 0 ≡ BelowFour One) ×
    (strength_at true 0 (moved 0 7 0 0) (moved 1 7 0 1) 0 ≡ BelowFour Two) × (strength_at true 0 (moved 0 7 0 0) still 0 ≡ Four) ×
    (strength_at true 1 still still 0 ≡ BelowFour Three)
unfolding strength_at block_at strength_of side_part number_of
quarters = (refl, refl, refl, refl, refl, refl, refl)
