-- pred_weight_table() (7.3.3.2), with the rules on its values and the values that are inferred (7.4.3.2). To be read beside the standard.
use Rattle.std.specs.Prelude.{ℕ, pos, negsuc, ◌^◌, Bool, true, false, []}
use Rattle.h264_base.specs.declared.element_name.ElementName.{ElementName}
use Rattle.h264_base.specs.declared.element_name.ElementName.TheVariants.{LumaLog2WeightDenom, ChromaLog2WeightDenom, LumaWeightL0Flag, LumaWeightL0}
use Rattle.h264_base.specs.declared.element_name.ElementName.TheVariants.{LumaOffsetL0, ChromaWeightL0Flag, ChromaWeightL0, ChromaOffsetL0}
use Rattle.h264_base.specs.declared.weight.Weight.{Weight}
use Rattle.h264_base.specs.Grammar.{Grammar, Done, ◌>>=◌}
use Rattle.h264_bits.specs.Forms.{flag, unsigned_to, signed_within, repeated}
use Rattle.h264_header.specs.declared.header.IndexWeights.{IndexWeights}
use Rattle.h264_header.specs.declared.header.PredWeightTable.{PredWeightTable}

-- the weight and the offset of a plane, where they are there
unfoldable pub stated_weight : ElementName → ElementName → ℕ → Grammar Weight
stated_weight weight_name offset_name denom = do
  weight ← signed_within weight_name (negsuc 127) (pos 127)
  offset ← signed_within offset_name (negsuc 127) (pos 127)
  Done (record { log2_weight_denom = denom; weight = weight; offset = offset })

-- where they are not there, the weight is 2 to the power of the denominator, and the offset is 0
abbrev pub inferred_weight : ℕ → Weight
inferred_weight denom = record { log2_weight_denom = denom; weight = pos (2 ^ denom); offset = pos 0 }

unfoldable pub luma_weight : ℕ → Bool → Grammar Weight
luma_weight denom false = Done (inferred_weight denom)
luma_weight denom true = stated_weight LumaWeightL0 LumaOffsetL0 denom

-- those of Cb stand before those of Cr
unfoldable pub with_chroma : Weight → ℕ → Bool → Grammar IndexWeights
with_chroma luma denom false = Done (record { weights = record { luma = luma; cb = inferred_weight denom; cr = inferred_weight denom } })
with_chroma luma denom true = do
  cb ← stated_weight ChromaWeightL0 ChromaOffsetL0 denom
  cr ← stated_weight ChromaWeightL0 ChromaOffsetL0 denom
  Done (record { weights = record { luma = luma; cb = cb; cr = cr } })

-- the weights of a reference index
unfoldable pub index_weights : ℕ → ℕ → Grammar IndexWeights
index_weights luma_denom chroma_denom = do
  luma_given ← flag LumaWeightL0Flag
  luma ← luma_weight luma_denom luma_given
  chroma_given ← flag ChromaWeightL0Flag
  with_chroma luma chroma_denom chroma_given

-- The table of a P slice whose list has so many active places.
unfoldable pub pred_weight_table : ℕ → Grammar PredWeightTable
pred_weight_table active = do
  luma_denom ← unsigned_to LumaLog2WeightDenom 7
  chroma_denom ← unsigned_to ChromaLog2WeightDenom 7
  entries ← repeated (index_weights luma_denom chroma_denom) [] active
  Done (record { entries = record { items = entries } })
