-- The grammar on slices that were worked by hand.
use Rattle.std.proofs.Common.{◌≡◌, ℕ, ◌+◌, ◌*◌, true, false, List, [], ◌∷◌, length, map, replicate, get_or, ℤ, pos, Option, Some, None, Result, Ok, Err, refl}
use Rattle.h264_base.specs.declared.mode.SliceType.TheVariants as slice_type
use Rattle.h264_base.specs.declared.rule.Rule.TheVariants.{BlockSize, CodeWord, ResidualWord, NoReference, IntraMode, VectorRange, SliceEmpty, MbPast}
use Rattle.h264_base.specs.declared.stop.Stop.{Stop}
use Rattle.h264_base.specs.declared.stop.Stop.TheVariants.{No}
use Rattle.h264_base.specs.Body.{Body, place}
use Rattle.h264_base.specs.Word.{number_at, zeros_at, golomb_at, rows_at, value_at, ends_at, closes_at, no_zero_at}
use Rattle.h264_base.specs.Grammar.{Element, ◌>>=◌, read_word, check, more, align, raw_bytes}
use Rattle.h264_base.specs.Run.{Run, run}
use Rattle.h264_tables.specs.CoeffToken.{coeff_token_nc0, coeff_token_nc2, coeff_token_nc4, coeff_token_nc8, coeff_token_chroma_dc}
use Rattle.h264_tables.specs.CodedBlockPattern.{golomb_rows, coded_block_pattern_intra, coded_block_pattern_inter}
use Rattle.h264_tables.specs.InvertedBit.{inverted_bit}
use Rattle.h264_tables.specs.LevelPrefix.{prefix_rows, level_prefix}
use Rattle.h264_bits.specs.Forms.{signed, unsigned_to, repeated}
use Rattle.h264_cavlc.specs.Block.{residual_block, coefficients as block_coefficients, all_levels}
use Rattle.h264_cavlc.specs.Token.{coeff_token, coeff_token_table, trailing_one}
use Rattle.h264_cavlc.specs.Level.{first_suffix_length, next_suffix_length, level, more_levels}
use Rattle.h264_near.specs.declared.motion.Motion.{Motion}
use Rattle.h264_plane.specs.Blocks.{number_of, column_of, row_of}
use Rattle.h264_near.specs.Coded.{CodedMacroblock, Prediction, Inter, chroma_number_of, total_part, chroma_part, mode_part}
use Rattle.h264_near.specs.Coded.{motion_part}
use Rattle.h264_near.specs.Place.{part_at, around}
use Rattle.h264_near.specs.Intra.{luma_nc, chroma_nc, predicted_mode, block_samples, macroblock_samples}
use Rattle.h264_near.specs.Motions.{neighbour}
use Rattle.h264_vectors.specs.Vectors.{median, chosen, by_median, by_direction, predicted_vector, skip_vector}
use Rattle.h264_vectors.specs.declared.slice.SliceContext.{SliceContext}
use Rattle.h264_mbsyntax.specs.Intra.{fits_block, chroma_mode, mode_by, block_mode, block_modes, pcm_samples}
use Rattle.h264_mbsyntax.specs.Residual.{qp_after, qp_delta, no_block, block_if, is_coded, blocks_by, luma_block, chroma_dc_if, chroma_ac_if, chroma}
use Rattle.h264_mbsyntax.specs.Residual.{coded_coefficients, coefficients, coefficients16, no_coefficients, no_chroma}
use Rattle.h264_vectors.specs.Inter.{read_ref_idx, part_motion, part_motions, ref_index, one_part, two_parts, quarters, split_parts, motions_by, motions}
use Rattle.h264_vectors.specs.Derived.{motion_of, component_fits, with_part, with_vector, derive}
use Rattle.h264_mbsyntax.specs.Macroblock.{predicted_qp, coded, intra4x4, intra16x16, pcm, intra, inter, by_type, macroblock, pattern_of}
use Rattle.h264_mbsyntax.specs.Slice.{skipped_of, skip, unskipped, after_run, run_of_skips, by_slice_type, next, macroblocks, slice_data}

-- an I slice, and a P slice with so many active references, each of level 1
abbrev i_slice : SliceContext
i_slice = record {
  number = 0;
  slice_type = slice_type.I;
  qp = 26;
  active = 0;
  references = replicate 16 None;
  constrained_intra = false;
  chroma_qp_index_offset = pos 0;
  vector_limit = 256;
}

abbrev p_slice : List (Option ℕ) → ℕ → SliceContext
p_slice references active = record {
  number = 0;
  slice_type = slice_type.P;
  qp = 26;
  active = active;
  references = references;
  constrained_intra = false;
  chroma_qp_index_offset = pos 0;
  vector_limit = 256;
}

abbrev one_reference : List (Option ℕ)
one_reference = Some 7 ∷ replicate 15 None

-- RBSP bytes of a unit that begins so many bytes before them
abbrev body : ℕ → List ℕ → Body
body unit bytes = record { bytes = bytes; first = 8 * (unit + 1); dropped = [] }

abbrev decoded : ℕ → SliceContext → ℕ → List ℕ → ℕ → Run (List CodedMacroblock)
decoded width slice unit bytes from = run (slice_data (λ m. true) width width slice []) (body unit bytes) from

abbrev values : {A : Type 0} → Run A → List ℤ
values r = map (λ (e : Element). e.value) r.elements

-- where the slice data end and how many macroblocks they have, or the stop
abbrev ended : Result (List CodedMacroblock × ℕ) Stop → Result (ℕ × ℕ) Stop
ended (Ok x) = Ok (length x.0, x.1)
ended (Err s) = Err s

abbrev vector_in : Prediction → List (Option Motion)
vector_in (Inter motions) = motions
vector_in p = []

-- what the first block of each macroblock is predicted from
abbrev first_motions : Result (List CodedMacroblock × ℕ) Stop → List (Option Motion)
first_motions (Ok x) = map (λ (m : CodedMacroblock). get_or (vector_in m.prediction) 0 None) x.0
first_motions (Err s) = []

-- a macroblock of Intra 16x16 without coefficients
grey : (ended (decoded 1 i_slice 21 (136 ∷ 132 ∷ 147 ∷ 192 ∷ []) 17).answer ≡ Ok (1, 25)) ×
    (values (decoded 1 i_slice 21 (136 ∷ 132 ∷ 147 ∷ 192 ∷ []) 17) ≡ pos 3 ∷ pos 0 ∷ pos 0 ∷ pos 0 ∷ [])
unfolding run number_at zeros_at golomb_at rows_at value_at ends_at place ◌>>=◌ read_word check more align raw_bytes coeff_token_nc0 coeff_token_nc2
    coeff_token_nc4 coeff_token_nc8 coeff_token_chroma_dc golomb_rows coded_block_pattern_intra coded_block_pattern_inter inverted_bit prefix_rows
    level_prefix signed unsigned_to repeated residual_block block_coefficients all_levels coeff_token coeff_token_table trailing_one first_suffix_length
    next_suffix_length level more_levels number_of column_of row_of chroma_number_of total_part chroma_part mode_part motion_part part_at around luma_nc
    chroma_nc predicted_mode block_samples macroblock_samples neighbour median chosen by_median by_direction predicted_vector skip_vector chroma_mode
    block_mode block_modes qp_after qp_delta no_block block_if is_coded blocks_by luma_block chroma_dc_if chroma_ac_if chroma coded_coefficients coefficients
    coefficients16 no_coefficients no_chroma read_ref_idx motion_of component_fits with_part with_vector derive part_motion part_motions ref_index one_part
    two_parts quarters split_parts motions_by motions predicted_qp coded intra4x4 intra16x16 pcm intra inter by_type macroblock skipped_of skip unskipped
    after_run run_of_skips by_slice_type next macroblocks slice_data pattern_of
grey = (refl, refl)

-- the same without its last byte: coeff_token is missing
cut : (ended (decoded 1 i_slice 21 (136 ∷ 132 ∷ 147 ∷ []) 17).answer ≡ Err (No 200 ResidualWord)) ×
    (values (decoded 1 i_slice 21 (136 ∷ 132 ∷ 147 ∷ []) 17) ≡ pos 3 ∷ pos 0 ∷ pos 0 ∷ [])
unfolding run number_at zeros_at golomb_at rows_at value_at ends_at place ◌>>=◌ read_word check more align raw_bytes coeff_token_nc0 coeff_token_nc2
    coeff_token_nc4 coeff_token_nc8 coeff_token_chroma_dc golomb_rows coded_block_pattern_intra coded_block_pattern_inter inverted_bit prefix_rows
    level_prefix signed unsigned_to repeated residual_block block_coefficients all_levels coeff_token coeff_token_table trailing_one first_suffix_length
    next_suffix_length level more_levels number_of column_of row_of chroma_number_of total_part chroma_part mode_part motion_part part_at around luma_nc
    chroma_nc predicted_mode block_samples macroblock_samples neighbour median chosen by_median by_direction predicted_vector skip_vector chroma_mode
    block_mode block_modes qp_after qp_delta no_block block_if is_coded blocks_by luma_block chroma_dc_if chroma_ac_if chroma coded_coefficients coefficients
    coefficients16 no_coefficients no_chroma read_ref_idx motion_of component_fits with_part with_vector derive part_motion part_motions ref_index one_part
    two_parts quarters split_parts motions_by motions predicted_qp coded intra4x4 intra16x16 pcm intra inter by_type macroblock skipped_of skip unskipped
    after_run run_of_skips by_slice_type next macroblocks slice_data pattern_of
cut = (refl, refl)

-- level_prefix 16
prefix-16 : (ended (decoded 1 i_slice 21 (136 ∷ 132 ∷ 147 ∷ 20 ∷ 0 ∷ 3 ∷ 128 ∷ []) 17).answer ≡ Err (No 206 ResidualWord))
unfolding run number_at zeros_at golomb_at rows_at value_at ends_at place ◌>>=◌ read_word check more align raw_bytes coeff_token_nc0 coeff_token_nc2
    coeff_token_nc4 coeff_token_nc8 coeff_token_chroma_dc golomb_rows coded_block_pattern_intra coded_block_pattern_inter inverted_bit prefix_rows
    level_prefix signed unsigned_to repeated residual_block block_coefficients all_levels coeff_token coeff_token_table trailing_one first_suffix_length
    next_suffix_length level more_levels number_of column_of row_of chroma_number_of total_part chroma_part mode_part motion_part part_at around luma_nc
    chroma_nc predicted_mode block_samples macroblock_samples neighbour median chosen by_median by_direction predicted_vector skip_vector chroma_mode
    block_mode block_modes qp_after qp_delta no_block block_if is_coded blocks_by luma_block chroma_dc_if chroma_ac_if chroma coded_coefficients coefficients
    coefficients16 no_coefficients no_chroma read_ref_idx motion_of component_fits with_part with_vector derive part_motion part_motions ref_index one_part
    two_parts quarters split_parts motions_by motions predicted_qp coded intra4x4 intra16x16 pcm intra inter by_type macroblock skipped_of skip unskipped
    after_run run_of_skips by_slice_type next macroblocks slice_data pattern_of
prefix-16 = refl

-- a total of 16 in a block of 15
sixteen-of-fifteen : (ended (decoded 1 i_slice 21 (136 ∷ 132 ∷ 132 ∷ 56 ∷ 0 ∷ 36 ∷ []) 17).answer ≡ Err (No 205 BlockSize))
unfolding run number_at zeros_at golomb_at rows_at value_at ends_at place ◌>>=◌ read_word check more align raw_bytes coeff_token_nc0 coeff_token_nc2
    coeff_token_nc4 coeff_token_nc8 coeff_token_chroma_dc golomb_rows coded_block_pattern_intra coded_block_pattern_inter inverted_bit prefix_rows
    level_prefix signed unsigned_to repeated residual_block block_coefficients all_levels coeff_token coeff_token_table trailing_one first_suffix_length
    next_suffix_length level more_levels number_of column_of row_of chroma_number_of total_part chroma_part mode_part motion_part part_at around luma_nc
    chroma_nc predicted_mode block_samples macroblock_samples neighbour median chosen by_median by_direction predicted_vector skip_vector chroma_mode
    block_mode block_modes qp_after qp_delta no_block block_if is_coded blocks_by luma_block chroma_dc_if chroma_ac_if chroma coded_coefficients coefficients
    coefficients16 no_coefficients no_chroma read_ref_idx motion_of component_fits with_part with_vector derive part_motion part_motions ref_index one_part
    two_parts quarters split_parts motions_by motions predicted_qp coded intra4x4 intra16x16 pcm intra inter by_type macroblock skipped_of skip unskipped
    after_run run_of_skips by_slice_type next macroblocks slice_data pattern_of
sixteen-of-fifteen = refl

-- a macroblock too many
past : (ended (decoded 1 i_slice 21 (136 ∷ 132 ∷ 147 ∷ 224 ∷ []) 17).answer ≡ Err (No 201 MbPast)) ×
    (values (decoded 1 i_slice 21 (136 ∷ 132 ∷ 147 ∷ 224 ∷ []) 17) ≡ pos 3 ∷ pos 0 ∷ pos 0 ∷ pos 0 ∷ [])
unfolding run number_at zeros_at golomb_at rows_at value_at ends_at place ◌>>=◌ read_word check more align raw_bytes coeff_token_nc0 coeff_token_nc2
    coeff_token_nc4 coeff_token_nc8 coeff_token_chroma_dc golomb_rows coded_block_pattern_intra coded_block_pattern_inter inverted_bit prefix_rows
    level_prefix signed unsigned_to repeated residual_block block_coefficients all_levels coeff_token coeff_token_table trailing_one first_suffix_length
    next_suffix_length level more_levels number_of column_of row_of chroma_number_of total_part chroma_part mode_part motion_part part_at around luma_nc
    chroma_nc predicted_mode block_samples macroblock_samples neighbour median chosen by_median by_direction predicted_vector skip_vector chroma_mode
    block_mode block_modes qp_after qp_delta no_block block_if is_coded blocks_by luma_block chroma_dc_if chroma_ac_if chroma coded_coefficients coefficients
    coefficients16 no_coefficients no_chroma read_ref_idx motion_of component_fits with_part with_vector derive part_motion part_motions ref_index one_part
    two_parts quarters split_parts motions_by motions predicted_qp coded intra4x4 intra16x16 pcm intra inter by_type macroblock skipped_of skip unskipped
    after_run run_of_skips by_slice_type next macroblocks slice_data pattern_of
past = (refl, refl)

-- no macroblock
empty : (ended (decoded 1 i_slice 21 (136 ∷ 132 ∷ 192 ∷ []) 17).answer ≡ Err (No 193 SliceEmpty))
unfolding run number_at zeros_at golomb_at rows_at value_at ends_at place ◌>>=◌ read_word check more align raw_bytes coeff_token_nc0 coeff_token_nc2
    coeff_token_nc4 coeff_token_nc8 coeff_token_chroma_dc golomb_rows coded_block_pattern_intra coded_block_pattern_inter inverted_bit prefix_rows
    level_prefix signed unsigned_to repeated residual_block block_coefficients all_levels coeff_token coeff_token_table trailing_one first_suffix_length
    next_suffix_length level more_levels number_of column_of row_of chroma_number_of total_part chroma_part mode_part motion_part part_at around luma_nc
    chroma_nc predicted_mode block_samples macroblock_samples neighbour median chosen by_median by_direction predicted_vector skip_vector chroma_mode
    block_mode block_modes qp_after qp_delta no_block block_if is_coded blocks_by luma_block chroma_dc_if chroma_ac_if chroma coded_coefficients coefficients
    coefficients16 no_coefficients no_chroma read_ref_idx motion_of component_fits with_part with_vector derive part_motion part_motions ref_index one_part
    two_parts quarters split_parts motions_by motions predicted_qp coded intra4x4 intra16x16 pcm intra inter by_type macroblock skipped_of skip unskipped
    after_run run_of_skips by_slice_type next macroblocks slice_data pattern_of
empty = refl

-- a skipped macroblock
skipped : (ended (decoded 1 (p_slice (one_reference) 1) 29 (154 ∷ 34 ∷ 160 ∷ []) 15).answer ≡ Ok (1, 18)) ×
    (values (decoded 1 (p_slice (one_reference) 1) 29 (154 ∷ 34 ∷ 160 ∷ []) 15) ≡ pos 1 ∷ [])
unfolding run number_at zeros_at golomb_at rows_at value_at ends_at place ◌>>=◌ read_word check more align raw_bytes coeff_token_nc0 coeff_token_nc2
    coeff_token_nc4 coeff_token_nc8 coeff_token_chroma_dc golomb_rows coded_block_pattern_intra coded_block_pattern_inter inverted_bit prefix_rows
    level_prefix signed unsigned_to repeated residual_block block_coefficients all_levels coeff_token coeff_token_table trailing_one first_suffix_length
    next_suffix_length level more_levels number_of column_of row_of chroma_number_of total_part chroma_part mode_part motion_part part_at around luma_nc
    chroma_nc predicted_mode block_samples macroblock_samples neighbour median chosen by_median by_direction predicted_vector skip_vector chroma_mode
    block_mode block_modes qp_after qp_delta no_block block_if is_coded blocks_by luma_block chroma_dc_if chroma_ac_if chroma coded_coefficients coefficients
    coefficients16 no_coefficients no_chroma read_ref_idx motion_of component_fits with_part with_vector derive part_motion part_motions ref_index one_part
    two_parts quarters split_parts motions_by motions predicted_qp coded intra4x4 intra16x16 pcm intra inter by_type macroblock skipped_of skip unskipped
    after_run run_of_skips by_slice_type next macroblocks slice_data pattern_of
skipped = (refl, refl)

-- a vector of (64, 0), then a skipped macroblock
moved : (ended (decoded 2 (p_slice (one_reference) 1) 32 (154 ∷ 35 ∷ 128 ∷ 128 ∷ 212 ∷ []) 15).answer ≡ Ok (2, 37)) ×
    (values (decoded 2 (p_slice (one_reference) 1) 32 (154 ∷ 35 ∷ 128 ∷ 128 ∷ 212 ∷ []) 15) ≡ pos 0 ∷ pos 0 ∷ pos 64 ∷ pos 0 ∷ pos 0 ∷ pos 1 ∷ [])
unfolding run number_at zeros_at golomb_at rows_at value_at ends_at place ◌>>=◌ read_word check more align raw_bytes coeff_token_nc0 coeff_token_nc2
    coeff_token_nc4 coeff_token_nc8 coeff_token_chroma_dc golomb_rows coded_block_pattern_intra coded_block_pattern_inter inverted_bit prefix_rows
    level_prefix signed unsigned_to repeated residual_block block_coefficients all_levels coeff_token coeff_token_table trailing_one first_suffix_length
    next_suffix_length level more_levels number_of column_of row_of chroma_number_of total_part chroma_part mode_part motion_part part_at around luma_nc
    chroma_nc predicted_mode block_samples macroblock_samples neighbour median chosen by_median by_direction predicted_vector skip_vector chroma_mode
    block_mode block_modes qp_after qp_delta no_block block_if is_coded blocks_by luma_block chroma_dc_if chroma_ac_if chroma coded_coefficients coefficients
    coefficients16 no_coefficients no_chroma read_ref_idx motion_of component_fits with_part with_vector derive part_motion part_motions ref_index one_part
    two_parts quarters split_parts motions_by motions predicted_qp coded intra4x4 intra16x16 pcm intra inter by_type macroblock skipped_of skip unskipped
    after_run run_of_skips by_slice_type next macroblocks slice_data pattern_of
moved = (refl, refl)

-- the second of two indices names no picture
missing-reference : (ended (decoded 1 (p_slice (one_reference) 2) 29 (154 ∷ 52 ∷ 119 ∷ 128 ∷ []) 18).answer ≡ Err (No 260 NoReference)) ×
    (values (decoded 1 (p_slice (one_reference) 2) 29 (154 ∷ 52 ∷ 119 ∷ 128 ∷ []) 18) ≡ pos 0 ∷ pos 0 ∷ pos 1 ∷ [])
unfolding run number_at zeros_at golomb_at rows_at value_at ends_at place ◌>>=◌ read_word check more align raw_bytes coeff_token_nc0 coeff_token_nc2
    coeff_token_nc4 coeff_token_nc8 coeff_token_chroma_dc golomb_rows coded_block_pattern_intra coded_block_pattern_inter inverted_bit prefix_rows
    level_prefix signed unsigned_to repeated residual_block block_coefficients all_levels coeff_token coeff_token_table trailing_one first_suffix_length
    next_suffix_length level more_levels number_of column_of row_of chroma_number_of total_part chroma_part mode_part motion_part part_at around luma_nc
    chroma_nc predicted_mode block_samples macroblock_samples neighbour median chosen by_median by_direction predicted_vector skip_vector chroma_mode
    block_mode block_modes qp_after qp_delta no_block block_if is_coded blocks_by luma_block chroma_dc_if chroma_ac_if chroma coded_coefficients coefficients
    coefficients16 no_coefficients no_chroma read_ref_idx motion_of component_fits with_part with_vector derive part_motion part_motions ref_index one_part
    two_parts quarters split_parts motions_by motions predicted_qp coded intra4x4 intra16x16 pcm intra inter by_type macroblock skipped_of skip unskipped
    after_run run_of_skips by_slice_type next macroblocks slice_data pattern_of
missing-reference = (refl, refl)

-- the first of two indices
first-reference : (ended (decoded 1 (p_slice (one_reference) 2) 29 (154 ∷ 52 ∷ 127 ∷ 128 ∷ []) 18).answer ≡ Ok (1, 24)) ×
    (values (decoded 1 (p_slice (one_reference) 2) 29 (154 ∷ 52 ∷ 127 ∷ 128 ∷ []) 18) ≡ pos 0 ∷ pos 0 ∷ pos 0 ∷ pos 0 ∷ pos 0 ∷ pos 0 ∷ [])
unfolding run number_at zeros_at golomb_at rows_at value_at ends_at place ◌>>=◌ read_word check more align raw_bytes coeff_token_nc0 coeff_token_nc2
    coeff_token_nc4 coeff_token_nc8 coeff_token_chroma_dc golomb_rows coded_block_pattern_intra coded_block_pattern_inter inverted_bit prefix_rows
    level_prefix signed unsigned_to repeated residual_block block_coefficients all_levels coeff_token coeff_token_table trailing_one first_suffix_length
    next_suffix_length level more_levels number_of column_of row_of chroma_number_of total_part chroma_part mode_part motion_part part_at around luma_nc
    chroma_nc predicted_mode block_samples macroblock_samples neighbour median chosen by_median by_direction predicted_vector skip_vector chroma_mode
    block_mode block_modes qp_after qp_delta no_block block_if is_coded blocks_by luma_block chroma_dc_if chroma_ac_if chroma coded_coefficients coefficients
    coefficients16 no_coefficients no_chroma read_ref_idx motion_of component_fits with_part with_vector derive part_motion part_motions ref_index one_part
    two_parts quarters split_parts motions_by motions predicted_qp coded intra4x4 intra16x16 pcm intra inter by_type macroblock skipped_of skip unskipped
    after_run run_of_skips by_slice_type next macroblocks slice_data pattern_of
first-reference = (refl, refl)

-- a vector of 256 down in level 1
far-down : (ended (decoded 1 (p_slice (one_reference) 1) 29 (154 ∷ 35 ∷ 192 ∷ 16 ∷ 6 ∷ []) 15).answer ≡ Err (No 256 VectorRange)) ×
    (values (decoded 1 (p_slice (one_reference) 1) 29 (154 ∷ 35 ∷ 192 ∷ 16 ∷ 6 ∷ []) 15) ≡ pos 0 ∷ pos 0 ∷ pos 0 ∷ pos 256 ∷ pos 0 ∷ [])
unfolding run number_at zeros_at golomb_at rows_at value_at ends_at place ◌>>=◌ read_word check more align raw_bytes coeff_token_nc0 coeff_token_nc2
    coeff_token_nc4 coeff_token_nc8 coeff_token_chroma_dc golomb_rows coded_block_pattern_intra coded_block_pattern_inter inverted_bit prefix_rows
    level_prefix signed unsigned_to repeated residual_block block_coefficients all_levels coeff_token coeff_token_table trailing_one first_suffix_length
    next_suffix_length level more_levels number_of column_of row_of chroma_number_of total_part chroma_part mode_part motion_part part_at around luma_nc
    chroma_nc predicted_mode block_samples macroblock_samples neighbour median chosen by_median by_direction predicted_vector skip_vector chroma_mode
    block_mode block_modes qp_after qp_delta no_block block_if is_coded blocks_by luma_block chroma_dc_if chroma_ac_if chroma coded_coefficients coefficients
    coefficients16 no_coefficients no_chroma read_ref_idx motion_of component_fits with_part with_vector derive part_motion part_motions ref_index one_part
    two_parts quarters split_parts motions_by motions predicted_qp coded intra4x4 intra16x16 pcm intra inter by_type macroblock skipped_of skip unskipped
    after_run run_of_skips by_slice_type next macroblocks slice_data pattern_of
far-down = (refl, refl)

-- the second macroblock of these stands still, since nothing stands above it
moved-vectors : first_motions (decoded 2 (p_slice one_reference 1) 32 (154 ∷ 35 ∷ 128 ∷ 128 ∷ 212 ∷ []) 15).answer ≡
    Some (record { ref_idx = 0; picture = 7; vector = record { x = pos 64; y = pos 0 } }) ∷ Some
    (record { ref_idx = 0; picture = 7; vector = record { x = pos 0; y = pos 0 } }) ∷ []
unfolding run number_at zeros_at golomb_at rows_at value_at ends_at place ◌>>=◌ read_word check more align raw_bytes coeff_token_nc0 coeff_token_nc2
    coeff_token_nc4 coeff_token_nc8 coeff_token_chroma_dc golomb_rows coded_block_pattern_intra coded_block_pattern_inter inverted_bit prefix_rows
    level_prefix signed unsigned_to repeated residual_block block_coefficients all_levels coeff_token coeff_token_table trailing_one first_suffix_length
    next_suffix_length level more_levels number_of column_of row_of chroma_number_of total_part chroma_part mode_part motion_part part_at around luma_nc
    chroma_nc predicted_mode block_samples macroblock_samples neighbour median chosen by_median by_direction predicted_vector skip_vector chroma_mode
    block_mode block_modes qp_after qp_delta no_block block_if is_coded blocks_by luma_block chroma_dc_if chroma_ac_if chroma coded_coefficients coefficients
    coefficients16 no_coefficients no_chroma read_ref_idx motion_of component_fits with_part with_vector derive part_motion part_motions ref_index one_part
    two_parts quarters split_parts motions_by motions predicted_qp coded intra4x4 intra16x16 pcm intra inter by_type macroblock skipped_of skip unskipped
    after_run run_of_skips by_slice_type next macroblocks slice_data pattern_of
moved-vectors = refl

-- I_4x4 with sixteen predicted modes and no residual
sixteen-modes : (ended (decoded 1 i_slice 21 (136 ∷ 132 ∷ 255 ∷ 255 ∷ 228 ∷ 128 ∷ []) 17).answer ≡ Ok (1, 40)) ×
    (values (decoded 1 i_slice 21 (136 ∷ 132 ∷ 255 ∷ 255 ∷ 228 ∷ 128 ∷ []) 17) ≡
    pos 0 ∷ pos 1 ∷ pos 1 ∷ pos 1 ∷ pos 1 ∷ pos 1 ∷ pos 1 ∷ pos 1 ∷ pos 1 ∷ pos 1 ∷ pos 1 ∷ pos 1 ∷ pos 1 ∷ pos 1 ∷ pos 1 ∷ pos 1 ∷ pos 1 ∷ pos 0 ∷ pos
    0 ∷ [])
unfolding run number_at zeros_at golomb_at rows_at value_at ends_at place ◌>>=◌ read_word check more align raw_bytes coeff_token_nc0 coeff_token_nc2
    coeff_token_nc4 coeff_token_nc8 coeff_token_chroma_dc golomb_rows coded_block_pattern_intra coded_block_pattern_inter inverted_bit prefix_rows
    level_prefix signed unsigned_to repeated residual_block block_coefficients all_levels coeff_token coeff_token_table trailing_one first_suffix_length
    next_suffix_length level more_levels number_of column_of row_of chroma_number_of total_part chroma_part mode_part motion_part part_at around luma_nc
    chroma_nc predicted_mode block_samples macroblock_samples neighbour median chosen by_median by_direction predicted_vector skip_vector chroma_mode
    block_mode block_modes qp_after qp_delta no_block block_if is_coded blocks_by luma_block chroma_dc_if chroma_ac_if chroma coded_coefficients coefficients
    coefficients16 no_coefficients no_chroma read_ref_idx motion_of component_fits with_part with_vector derive part_motion part_motions ref_index one_part
    two_parts quarters split_parts motions_by motions predicted_qp coded intra4x4 intra16x16 pcm intra inter by_type macroblock skipped_of skip unskipped
    after_run run_of_skips by_slice_type next macroblocks slice_data pattern_of pcm_samples mode_by fits_block no_zero_at closes_at
sixteen-modes = (refl, refl)

-- Intra 16x16, horizontal, with nothing to the left
no-left : (ended (decoded 1 i_slice 21 (136 ∷ 132 ∷ 191 ∷ 255 ∷ 228 ∷ 128 ∷ []) 17).answer ≡ Err (No 193 IntraMode)) ×
    (values (decoded 1 i_slice 21 (136 ∷ 132 ∷ 191 ∷ 255 ∷ 228 ∷ 128 ∷ []) 17) ≡ pos 2 ∷ [])
unfolding run number_at zeros_at golomb_at rows_at value_at ends_at place ◌>>=◌ read_word check more align raw_bytes coeff_token_nc0 coeff_token_nc2
    coeff_token_nc4 coeff_token_nc8 coeff_token_chroma_dc golomb_rows coded_block_pattern_intra coded_block_pattern_inter inverted_bit prefix_rows
    level_prefix signed unsigned_to repeated residual_block block_coefficients all_levels coeff_token coeff_token_table trailing_one first_suffix_length
    next_suffix_length level more_levels number_of column_of row_of chroma_number_of total_part chroma_part mode_part motion_part part_at around luma_nc
    chroma_nc predicted_mode block_samples macroblock_samples neighbour median chosen by_median by_direction predicted_vector skip_vector chroma_mode
    block_mode block_modes qp_after qp_delta no_block block_if is_coded blocks_by luma_block chroma_dc_if chroma_ac_if chroma coded_coefficients coefficients
    coefficients16 no_coefficients no_chroma read_ref_idx motion_of component_fits with_part with_vector derive part_motion part_motions ref_index one_part
    two_parts quarters split_parts motions_by motions predicted_qp coded intra4x4 intra16x16 pcm intra inter by_type macroblock skipped_of skip unskipped
    after_run run_of_skips by_slice_type next macroblocks slice_data pattern_of pcm_samples mode_by fits_block no_zero_at closes_at
no-left = (refl, refl)

-- a 1 among the alignment bits of I_PCM
aligned-by-one : (ended (decoded 1 i_slice 21 (136 ∷ 132 ∷ 134 ∷ 144 ∷ 0 ∷ []) 17).answer ≡ Err (No 203 CodeWord)) ×
    (values (decoded 1 i_slice 21 (136 ∷ 132 ∷ 134 ∷ 144 ∷ 0 ∷ []) 17) ≡ pos 25 ∷ [])
unfolding run number_at zeros_at golomb_at rows_at value_at ends_at place ◌>>=◌ read_word check more align raw_bytes coeff_token_nc0 coeff_token_nc2
    coeff_token_nc4 coeff_token_nc8 coeff_token_chroma_dc golomb_rows coded_block_pattern_intra coded_block_pattern_inter inverted_bit prefix_rows
    level_prefix signed unsigned_to repeated residual_block block_coefficients all_levels coeff_token coeff_token_table trailing_one first_suffix_length
    next_suffix_length level more_levels number_of column_of row_of chroma_number_of total_part chroma_part mode_part motion_part part_at around luma_nc
    chroma_nc predicted_mode block_samples macroblock_samples neighbour median chosen by_median by_direction predicted_vector skip_vector chroma_mode
    block_mode block_modes qp_after qp_delta no_block block_if is_coded blocks_by luma_block chroma_dc_if chroma_ac_if chroma coded_coefficients coefficients
    coefficients16 no_coefficients no_chroma read_ref_idx motion_of component_fits with_part with_vector derive part_motion part_motions ref_index one_part
    two_parts quarters split_parts motions_by motions predicted_qp coded intra4x4 intra16x16 pcm intra inter by_type macroblock skipped_of skip unskipped
    after_run run_of_skips by_slice_type next macroblocks slice_data pattern_of pcm_samples mode_by fits_block no_zero_at closes_at
aligned-by-one = (refl, refl)

-- I_PCM without its samples
short-samples : (ended (decoded 1 i_slice 21 (136 ∷ 132 ∷ 134 ∷ 128 ∷ 1 ∷ 2 ∷ []) 17).answer ≡ Err (No 224 CodeWord)) ×
    (values (decoded 1 i_slice 21 (136 ∷ 132 ∷ 134 ∷ 128 ∷ 1 ∷ 2 ∷ []) 17) ≡ pos 25 ∷ [])
unfolding run number_at zeros_at golomb_at rows_at value_at ends_at place ◌>>=◌ read_word check more align raw_bytes coeff_token_nc0 coeff_token_nc2
    coeff_token_nc4 coeff_token_nc8 coeff_token_chroma_dc golomb_rows coded_block_pattern_intra coded_block_pattern_inter inverted_bit prefix_rows
    level_prefix signed unsigned_to repeated residual_block block_coefficients all_levels coeff_token coeff_token_table trailing_one first_suffix_length
    next_suffix_length level more_levels number_of column_of row_of chroma_number_of total_part chroma_part mode_part motion_part part_at around luma_nc
    chroma_nc predicted_mode block_samples macroblock_samples neighbour median chosen by_median by_direction predicted_vector skip_vector chroma_mode
    block_mode block_modes qp_after qp_delta no_block block_if is_coded blocks_by luma_block chroma_dc_if chroma_ac_if chroma coded_coefficients coefficients
    coefficients16 no_coefficients no_chroma read_ref_idx motion_of component_fits with_part with_vector derive part_motion part_motions ref_index one_part
    two_parts quarters split_parts motions_by motions predicted_qp coded intra4x4 intra16x16 pcm intra inter by_type macroblock skipped_of skip unskipped
    after_run run_of_skips by_slice_type next macroblocks slice_data pattern_of pcm_samples mode_by fits_block no_zero_at closes_at
short-samples = (refl, refl)

-- P_8x8 with 8x8, 8x4, 4x8 and 4x4, all vectors 0
four-splits : (ended (decoded 1 (p_slice (one_reference) 1) 29 (154 ∷ 35 ∷ 37 ∷ 50 ∷ 127 ∷ 255 ∷ 248 ∷ []) 15).answer ≡ Ok (1, 52)) ×
    (values (decoded 1 (p_slice (one_reference) 1) 29 (154 ∷ 35 ∷ 37 ∷ 50 ∷ 127 ∷ 255 ∷ 248 ∷ []) 15) ≡
    pos 0 ∷ pos 3 ∷ pos 0 ∷ pos 1 ∷ pos 2 ∷ pos 3 ∷ pos 0 ∷ pos 0 ∷ pos 0 ∷ pos 0 ∷ pos 0 ∷ pos 0 ∷ pos 0 ∷ pos 0 ∷ pos 0 ∷ pos 0 ∷ pos 0 ∷ pos 0 ∷ pos
    0 ∷ pos 0 ∷ pos 0 ∷ pos 0 ∷ pos 0 ∷ pos 0 ∷ pos 0 ∷ [])
unfolding run number_at zeros_at golomb_at rows_at value_at ends_at place ◌>>=◌ read_word check more align raw_bytes coeff_token_nc0 coeff_token_nc2
    coeff_token_nc4 coeff_token_nc8 coeff_token_chroma_dc golomb_rows coded_block_pattern_intra coded_block_pattern_inter inverted_bit prefix_rows
    level_prefix signed unsigned_to repeated residual_block block_coefficients all_levels coeff_token coeff_token_table trailing_one first_suffix_length
    next_suffix_length level more_levels number_of column_of row_of chroma_number_of total_part chroma_part mode_part motion_part part_at around luma_nc
    chroma_nc predicted_mode block_samples macroblock_samples neighbour median chosen by_median by_direction predicted_vector skip_vector chroma_mode
    block_mode block_modes qp_after qp_delta no_block block_if is_coded blocks_by luma_block chroma_dc_if chroma_ac_if chroma coded_coefficients coefficients
    coefficients16 no_coefficients no_chroma read_ref_idx motion_of component_fits with_part with_vector derive part_motion part_motions ref_index one_part
    two_parts quarters split_parts motions_by motions predicted_qp coded intra4x4 intra16x16 pcm intra inter by_type macroblock skipped_of skip unskipped
    after_run run_of_skips by_slice_type next macroblocks slice_data pattern_of pcm_samples mode_by fits_block no_zero_at closes_at
four-splits = (refl, refl)
