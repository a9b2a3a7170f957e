-- macroblock_layer() (7.3.5). To be read beside the standard.
use Rattle.std.specs.Prelude.{ℕ, ◌+◌, ◌-◌, ◌*◌, ◌/◌, ◌%◌, ◌==◌, nat_lt, nat_le, List, [], length, replicate, Option, Some, None, slice_get, if◌then◌else◌}
use Rattle.h264_base.specs.declared.element_name.ElementName.TheVariants.{MbType, CodedBlockPattern}
use Rattle.h264_base.specs.declared.rule.Rule.TheVariants.{Range, IntraMode, VectorRange}
use Rattle.h264_base.specs.declared.mode.SliceType.{SliceType}
use Rattle.h264_base.specs.declared.mode.SliceType.TheVariants as slice_type
use Rattle.h264_base.specs.Word.{Unsigned, Words}
use Rattle.h264_base.specs.Grammar.{Grammar, Done, ◌>>=◌, element, check}
use Rattle.h264_tables.specs.declared.table.Table.TheVariants.{CodedBlockPatternIntra, CodedBlockPatternInter}
use Rattle.h264_tables.specs.Table.{code_table}
use Rattle.h264_bits.specs.Forms.{natural}
use Rattle.h264_near.specs.Coded.{CodedMacroblock, Prediction, Intra4x4, Intra16x16, Pcm, Inter, no_residual}
use Rattle.h264_intra.specs.declared.luma16.Intra16x16PredMode.{Intra16x16PredMode}
use Rattle.h264_intra.specs.Luma16.{mode16_of, is_possible16}
use Rattle.h264_near.specs.Intra.{macroblock_samples}
use Rattle.h264_vectors.specs.declared.slice.SliceContext.{SliceContext}
use Rattle.h264_mbsyntax.specs.Intra.{block_modes, chroma_mode, pcm_samples}
use Rattle.h264_mbsyntax.specs.Residual.{Coefficients, coefficients, coefficients16, totals_of, levels_of}
use Rattle.h264_vectors.specs.Inter.{motions}

-- QP_Y,PRED: QP_Y of the macroblock before in the slice, and SliceQP_Y for its first (7.4.5)
abbrev pub qp_of : SliceContext → Option CodedMacroblock → ℕ
qp_of slice None = slice.qp
qp_of slice (Some m) = if m.slice == slice.number then m.qp else slice.qp

unfoldable pub predicted_qp : SliceContext → List CodedMacroblock → ℕ
predicted_qp slice picture = qp_of slice (if nat_lt 0 (length picture) then slice_get picture (length picture - 1) else None)

-- a macroblock of its prediction and its coefficients
unfoldable pub coded : ℕ → Prediction → Coefficients → CodedMacroblock
coded slice prediction c = record {
  slice = slice;
  prediction = prediction;
  qp = c.qp;
  totals = totals_of c.luma;
  chroma_totals = totals_of c.chroma.ac;
  residual = record { luma_dc = c.luma_dc.by_place; luma = levels_of c.luma; chroma_dc = levels_of c.chroma.dc; chroma = levels_of c.chroma.ac };
}

-- I_4x4
unfoldable pub intra4x4 : ℕ → SliceContext → List CodedMacroblock → Grammar CodedMacroblock
intra4x4 width slice picture = do
  modes ← block_modes width picture slice.number slice.constrained_intra 16 []
  chroma ← chroma_mode (macroblock_samples width picture slice.number slice.constrained_intra)
  pattern ← element CodedBlockPattern (Words (code_table CodedBlockPatternIntra))
  c ← coefficients width picture slice.number (predicted_qp slice picture) (natural pattern.value)
  Done (coded slice.number (Intra4x4 modes chroma) c)

-- what mb_type says of Intra 16x16 macroblocks, from 1 on (Table 7-11): the mode, and the pattern
abbrev pub mode_of : ℕ → Intra16x16PredMode
mode_of kind = mode16_of ((kind - 1) % 4)

unfoldable pub pattern_of : ℕ → ℕ
pattern_of kind = (kind - 1) / 4 % 3 * 16 + (if nat_lt kind 13 then 0 else 15)

unfoldable pub intra16x16 : ℕ → SliceContext → List CodedMacroblock → ℕ → ℕ → Grammar CodedMacroblock
intra16x16 width slice picture bit kind = do
  _ ← check IntraMode bit (is_possible16 (mode_of kind) (macroblock_samples width picture slice.number slice.constrained_intra))
  chroma ← chroma_mode (macroblock_samples width picture slice.number slice.constrained_intra)
  c ← coefficients16 width picture slice.number (predicted_qp slice picture) (pattern_of kind)
  Done (coded slice.number (Intra16x16 (mode_of kind) chroma) c)

-- I_PCM, whose blocks count as 16 coefficients (9.2.1) and which leaves QP_Y
unfoldable pub pcm_of : ℕ → ℕ → List ℕ → CodedMacroblock
pcm_of slice qp samples = record {
  slice = slice;
  prediction = Pcm samples;
  qp = qp;
  totals = replicate 16 16;
  chroma_totals = replicate 8 16;
  residual = no_residual;
}

unfoldable pub pcm : SliceContext → List CodedMacroblock → Grammar CodedMacroblock
pcm slice picture = do
  samples ← pcm_samples
  Done (pcm_of slice.number (predicted_qp slice picture) samples)

-- an intra macroblock by its mb_type in I slices (Table 7-11)
unfoldable pub intra : ℕ → SliceContext → List CodedMacroblock → ℕ → ℕ → Grammar CodedMacroblock
intra width slice picture bit kind =
    if kind == 0 then intra4x4 width slice picture else
    if kind == 25 then pcm slice picture else
    intra16x16 width slice picture bit kind

-- an inter macroblock by its mb_type in P slices, 0 to 4 (Table 7-13)
unfoldable pub inter : ℕ → SliceContext → List CodedMacroblock → ℕ → ℕ → Grammar CodedMacroblock
inter width slice picture bit kind = do
  d ← motions width slice picture bit kind
  pattern ← element CodedBlockPattern (Words (code_table CodedBlockPatternInter))
  c ← coefficients width picture slice.number (predicted_qp slice picture) (natural pattern.value)
  _ ← check VectorRange bit d.fit
  Done (coded slice.number (Inter d.motions) c)

-- a macroblock, and the stream bit of its mb_type
pub record Placed : Type 0 where
  pub bit : ℕ
  pub macroblock : CodedMacroblock

-- by mb_type and the type of the slice: in P slices intra types begin at 5
unfoldable pub by_type : SliceType → ℕ → SliceContext → List CodedMacroblock → ℕ → ℕ → Grammar CodedMacroblock
by_type slice_type.I width slice picture bit kind = do
  _ ← check Range bit (nat_le kind 25)
  intra width slice picture bit kind
by_type slice_type.P width slice picture bit kind = do
  _ ← check Range bit (nat_le kind 30)
  if nat_lt kind 5 then inter width slice picture bit kind else intra width slice picture bit (kind - 5)

unfoldable pub macroblock : ℕ → SliceContext → List CodedMacroblock → Grammar Placed
macroblock width slice picture = do
  kind ← element MbType Unsigned
  m ← by_type slice.slice_type width slice picture kind.bit (natural kind.value)
  Done (record { bit = kind.bit; macroblock = m })
