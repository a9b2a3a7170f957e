-- The binarization of each element, and the contexts of its bins (9.3.2, 9.3.3.1, Tables 9-34 to 9-39). To be read beside the standard.
use Rattle.std.specs.Prelude.{ℕ, zero, suc, ◌+◌, ◌*◌, ◌^◌, List, [], ◌∷◌, ℤ, pos, neg_ℤ, min, nat_lt, ◌==◌, slice_index, if◌then◌else◌}
use Rattle.h264_base.specs.Word.{digit, signed}
use Rattle.h264_cabac.specs.declared.elements.Direction.{Direction}
use Rattle.h264_cabac.specs.declared.elements.Direction.TheVariants.{Across, Down}
use Rattle.h264_cabac.specs.Bins.{Bins, Value, NoValue, ◌>>=◌, regular, bypassed, terminating}

-- The ctxIdx of bin k: the fifth is that of all bins from the fifth on.
abbrev pub index_of : List ℕ → ℕ → ℕ
index_of indices k = slice_index indices (min k 4)

-- U (9.3.2.1): ones, as many as the value, and a 0. After k ones this many bins may follow.
unfoldable pub unary_from : List ℕ → ℕ → ℕ → Bins ℕ
unary_from indices zero k = NoValue
unary_from indices (suc left) k = do
  one ← regular (index_of indices k)
  if one then unary_from indices left (k + 1) else Value k

-- no value of an element that is so binarized is above 52
abbrev pub unary : List ℕ → Bins ℕ
unary indices = unary_from indices 53 0

-- TU (9.3.2.2): as U, but after cMax ones no 0 follows. After k ones this many bins may follow.
unfoldable pub truncated_from : List ℕ → ℕ → ℕ → Bins ℕ
truncated_from indices zero k = Value k
truncated_from indices (suc left) k = do
  one ← regular (index_of indices k)
  if one then truncated_from indices left (k + 1) else Value k

abbrev pub truncated : List ℕ → ℕ → Bins ℕ
truncated indices c_max = truncated_from indices c_max 0

-- n more bins of a number, the highest first
unfoldable pub number_from : ℕ → ℕ → Bins ℕ
number_from zero number = Value number
number_from (suc n) number = do
  b ← bypassed
  number_from n (2 * number + digit b)

-- The suffix of UEGk (9.3.2.3): ones, each of which adds 2^k and makes k greater by one, a 0, and a number of k bins. This many ones and the 0 may follow.
unfoldable pub golomb_from : ℕ → ℕ → ℕ → Bins ℕ
golomb_from zero k sum = NoValue
golomb_from (suc left) k sum = do
  one ← bypassed
  if one then golomb_from left (k + 1) (sum + 2 ^ k) else (do
    number ← number_from k 0
    Value (sum + number))

-- the chroma pattern of Intra 16x16 (Table 9-36), from 0 to 2
abbrev pub chroma_pattern : ℕ → ℕ → Bins ℕ
chroma_pattern first second = do
  some ← regular first
  if some then (do
    all ← regular second
    Value (1 + digit all)) else Value 0

-- mb_type of Intra 16x16 (Table 9-36), with the contexts of its bins: luma, chroma and more of it, and the two bins of the mode
abbrev pub intra_16x16 : ℕ → ℕ → ℕ → ℕ → ℕ → Bins ℕ
intra_16x16 a b c d e = do
  luma ← regular a
  chroma ← chroma_pattern b c
  high ← regular d
  low ← regular e
  Value (1 + 12 * digit luma + 4 * chroma + 2 * digit high + digit low)

-- mb_type after a first bin of 1: I_PCM, or Intra 16x16
abbrev pub not_nxn : ℕ → ℕ → ℕ → ℕ → ℕ → Bins ℕ
not_nxn a b c d e = do
  pcm ← terminating
  if pcm then Value 25 else intra_16x16 a b c d e

-- mb_type in I slices (Table 9-36), by ctxIdxInc of its first bin
abbrev pub mb_type_i : ℕ → Bins ℕ
mb_type_i increment = do
  b ← regular (3 + increment)
  if b then not_nxn 6 7 8 9 10 else Value 0

-- mb_type in P slices (Table 9-37): from 5 on that of an intra macroblock
abbrev pub intra_in_p : Bins ℕ
intra_in_p = do
  b ← regular 17
  if b then not_nxn 18 19 19 20 20 else Value 0

abbrev pub mb_type_p : Bins ℕ
mb_type_p = do
  intra ← regular 14
  if intra then (do
    t ← intra_in_p
    Value (5 + t)) else (do
      two ← regular 15
      third ← regular (if two then 17 else 16)
      Value (if two then (if third then 1 else 2) else (if third then 3 else 0)))

-- sub_mb_type in P slices (Table 9-38)
abbrev pub sub_mb_type : Bins ℕ
sub_mb_type = do
  whole ← regular 21
  if whole then Value 0 else (do
    upright ← regular 22
    if upright then (do
      two ← regular 23
      Value (if two then 2 else 3)) else Value 1)

-- ref_idx_l0, by ctxIdxInc of its first bin
abbrev pub ref_idx : ℕ → Bins ℕ
ref_idx increment = unary ((54 + increment) ∷ 58 ∷ 59 ∷ 59 ∷ 59 ∷ [])

-- mb_qp_delta (9.3.2.7), by ctxIdxInc of its first bin
abbrev pub mb_qp_delta : ℕ → Bins ℤ
mb_qp_delta increment = do
  k ← unary ((60 + increment) ∷ 62 ∷ 63 ∷ 63 ∷ 63 ∷ [])
  Value (signed k)

-- intra_chroma_pred_mode, by ctxIdxInc of its first bin
abbrev pub intra_chroma_pred_mode : ℕ → Bins ℕ
intra_chroma_pred_mode increment = truncated ((64 + increment) ∷ 67 ∷ 67 ∷ 67 ∷ 67 ∷ []) 3

-- rem_intra4x4_pred_mode and rem_intra8x8_pred_mode: three bins, the lowest first (9.3.2.4)
abbrev pub rem_intra_pred_mode : Bins ℕ
rem_intra_pred_mode = do
  a ← regular 69
  b ← regular 69
  c ← regular 69
  Value (digit a + 2 * digit b + 4 * digit c)

-- UEGk with a prefix of at most c_max ones; no suffix has more than 16 ones
abbrev pub with_suffix : List ℕ → ℕ → ℕ → Bins ℕ
with_suffix indices c_max k = do
  prefix ← truncated indices c_max
  if nat_lt prefix c_max then Value prefix else golomb_from 17 k c_max

-- a sign, where the size is not 0
abbrev pub with_sign : ℕ → Bins ℤ
with_sign size =
    if size == 0 then Value (pos 0) else (do
      negative ← bypassed
      Value (if negative then neg_ℤ (pos size) else pos size))

-- the first ctxIdx of the contexts of mvd_l0
abbrev pub first_of : Direction → ℕ
first_of Across = 40
first_of Down = 47

-- mvd_l0 (9.3.2.3), from the first ctxIdx of its direction, and by ctxIdxInc of its first bin
abbrev pub mvd : ℕ → ℕ → Bins ℤ
mvd first increment = do
  size ← with_suffix ((first + increment) ∷ (first + 3) ∷ (first + 4) ∷ (first + 5) ∷ (first + 6) ∷ []) 9 3
  with_sign size

-- coeff_abs_level_minus1 (9.3.2.3), by the ctxIdx of its first bin and of the others
abbrev pub coeff_abs_level_minus1 : ℕ → ℕ → Bins ℕ
coeff_abs_level_minus1 first others = with_suffix (first ∷ others ∷ others ∷ others ∷ others ∷ []) 14 0
