-- How many vectors two macroblocks in a row have (A.3.1, item on MaxMvsPer2Mb). To be read beside the standard.
use Rattle.std.specs.Prelude.{ℕ, ◌==◌, ◌&&◌, ◌||◌, Bool, false, not, nat_lt, if◌then◌else◌, Option, None, Some}
use Rattle.h264_base.specs.declared.element_name.ElementName.{ElementName}
use Rattle.h264_base.specs.declared.element_name.ElementName.TheVariants as names
use Rattle.h264_bits.specs.Counts.{grown}
use Rattle.h264_strict.specs.declared.strict_vectors.Vectors.{Vectors}

-- MvCnt of a macroblock of a P slice by mb_type (8.4.1, table 7-13): P_L0_16x16 has one vector, two halves have two. The vectors of P_8x8 stand in its
-- sub-macroblocks, and an intra macroblock has none.
abbrev pub vectors_of_type : ℕ → ℕ
vectors_of_type mb_type = if mb_type == 0 then 1 else (if mb_type == 1 || mb_type == 2 then 2 else 0)

-- the vectors of a sub-macroblock, NumSubMbPart (table 7-17): 8x8 one, 8x4 and 4x8 two, 4x4 four
abbrev pub vectors_of_part : ℕ → ℕ
vectors_of_part sub_mb_type = if sub_mb_type == 0 then 1 else (if sub_mb_type == 1 || sub_mb_type == 2 then 2 else 4)

abbrev pub no_vectors : Vectors
no_vectors = record { is_p = false; earlier = 0; current = 0 }

-- a macroblock of an I slice has none
abbrev pub vectors_in : Vectors → ℕ → ℕ
vectors_in m mb_type = if m.is_p then vectors_of_type mb_type else 0

-- so many macroblocks are skipped, each of which has one vector
abbrev pub after_run : Vectors → ℕ → Vectors
after_run m run = if run == 0 then m else record m { earlier = if run == 1 then m.current else 1; current = 1 }

-- MvCnt of the last two macroblocks, after one more element; slices and pictures break no row
unfoldable pub vectors_after : Vectors → ElementName → ℕ → Vectors
vectors_after m names.SliceType v = record m { is_p = (v == 0) || (v == 5) }
vectors_after m names.MbSkipRun v = after_run m v
vectors_after m names.MbType v = record m { earlier = m.current; current = vectors_in m v }
vectors_after m names.SubMbType v = record m { current = grown m.current (vectors_of_part v) }
vectors_after m name v = m

abbrev pub exceeds : Option ℕ → ℕ → Bool
exceeds None vectors = false
exceeds (Some limit) vectors = nat_lt limit vectors

-- The element with which the vectors of two macroblocks in a row become more than the limit: the one that skips the second, its mb_type, or a sub_mb_type.
unfoldable pub by_vectors : (limit : Option ℕ) → Vectors → ElementName → ℕ → Bool
by_vectors limit m names.MbSkipRun v = not (v == 0) && exceeds limit (grown m.current 1)
by_vectors limit m names.MbType v = exceeds limit (grown m.current (vectors_in m v))
by_vectors limit m names.SubMbType v =
    not (exceeds limit (grown m.earlier m.current)) && exceeds limit (grown (grown m.earlier m.current) (vectors_of_part v))
by_vectors limit m name v = false
