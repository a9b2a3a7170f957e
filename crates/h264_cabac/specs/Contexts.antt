-- The state that each context begins a slice with (9.3.1.1). To be read beside the standard.
use Rattle.std.specs.Prelude.{◌≡◌, ℕ, ◌+◌, ◌-◌, true, false, List, Option, Some, None, ℤ, pos, negsuc, ◌+ℤ◌, ◌*ℤ◌, min, max, nat_le, ◌&&◌, if◌then◌else◌}
use Rattle.std.specs.Prelude.{slice_get}
use Rattle.std.specs.Option.{option_and_then}
use Rattle.std.specs.Int.{int_shr}
use Rattle.h264_cabac.specs.declared.initial.InitTable.{InitTable}
use Rattle.h264_cabac.specs.declared.initial.InitTable.TheVariants.{Intra, CabacInit0, CabacInit1, CabacInit2}
use Rattle.h264_cabac.specs.Engine.{ContextState}
use Rattle.h264_cabac.specs.Pairs.{i_pairs, pairs_0, pairs_1, pairs_2}

-- Clip3(1, 126, z)
abbrev pub clip_1_126 : ℤ → ℕ
clip_1_126 (pos n) = max 1 (min n 126)
clip_1_126 (negsuc n) = 1

-- preCtxState, with Clip3(0, 51, SliceQPY) for a SliceQPY that is not negative
abbrev pub pre_ctx_state : ℤ → ℤ → ℕ → ℕ
pre_ctx_state m n slice_qp = clip_1_126 (int_shr (m *ℤ pos (min slice_qp 51)) 4 +ℤ n)

-- pStateIdx and valMPS from preCtxState
abbrev pub state_from : ℕ → ContextState
state_from pre = if nat_le pre 63 then record { p_state_idx = 63 - pre; val_mps = false } else record { p_state_idx = pre - 64; val_mps = true }

unfoldable pub initial_state : ℤ × ℤ → ℕ → ContextState
initial_state pair slice_qp = state_from (pre_ctx_state pair.0 pair.1 slice_qp)

-- The place of a ctxIdx in a table, if it is one of those from first to last; before stands how many others come before.
abbrev pub place_in : ℕ → ℕ → ℕ → ℕ → Option ℕ → Option ℕ
place_in first last before index others = if nat_le first index && nat_le index last then Some (index - first + before) else others

unfoldable pub i_place : ℕ → Option ℕ
i_place index = place_in 3 10 0 index (place_in 60 69 8 index (place_in 73 275 18 index (place_in 399 435 221 index None)))

unfoldable pub p_place : ℕ → Option ℕ
p_place index = place_in 3 23 0 index (place_in 40 69 21 index (place_in 73 275 51 index (place_in 399 435 254 index None)))

-- m and n of a ctxIdx. There are none where frame macroblocks of the slice do not use it.
unfoldable pub pair_of : InitTable → ℕ → Option (ℤ × ℤ)
pair_of Intra index = option_and_then (slice_get i_pairs) (i_place index)
pair_of CabacInit0 index = option_and_then (slice_get pairs_0) (p_place index)
pair_of CabacInit1 index = option_and_then (slice_get pairs_1) (p_place index)
pair_of CabacInit2 index = option_and_then (slice_get pairs_2) (p_place index)

-- each context that has a pair stands at its ctxIdx, with the state of that pair
pub record IsInitial (table : InitTable) (slice_qp : ℕ) (contexts : List ContextState) : Type 0 where
  pub states : (index : ℕ) (pair : ℤ × ℤ) → pair_of table index ≡ Some pair → slice_get contexts index ≡ Some (initial_state pair slice_qp)
