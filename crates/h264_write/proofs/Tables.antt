-- The rows of the tables: few, and each with bits that fit its length.
use Rattle.std.proofs.Common.{◌≡◌, ℕ, zero, suc, ◌<◌, ◌≤◌, ◌^◌, Bool, true, false, List, [], ◌∷◌, Option, Some, None, length, slice_get, ◌&&◌, nat_lt}
use Rattle.std.proofs.Common.{nat_le, refl, ap, sym, arith, inl, inr}
use Rattle.std.proofs.lemmas.Bool.{and_parts, leb-true, ltb-true}
use Rattle.h264_base.specs.Table.{Row, row, IsRow}
use Rattle.h264_base.specs.Word.{Words, Unsigned, IsWord}
use Rattle.h264_tables.specs.declared.table.Table.{Table}
use Rattle.h264_tables.specs.declared.table.Table.TheVariants.{CoeffTokenNc0, CoeffTokenNc2, CoeffTokenNc4, CoeffTokenNc8, CoeffTokenChromaDc, TotalZeros1}
use Rattle.h264_tables.specs.declared.table.Table.TheVariants.{TotalZeros2, TotalZeros3, TotalZeros4, TotalZeros5, TotalZeros6, TotalZeros7, TotalZeros8}
use Rattle.h264_tables.specs.declared.table.Table.TheVariants.{TotalZeros9, TotalZeros10, TotalZeros11, TotalZeros12, TotalZeros13, TotalZeros14}
use Rattle.h264_tables.specs.declared.table.Table.TheVariants.{TotalZeros15, TotalZerosChromaDc1, TotalZerosChromaDc2, TotalZerosChromaDc3, RunBefore1}
use Rattle.h264_tables.specs.declared.table.Table.TheVariants.{RunBefore2, RunBefore3, RunBefore4, RunBefore5, RunBefore6, RunBefore7, CodedBlockPatternIntra}
use Rattle.h264_tables.specs.declared.table.Table.TheVariants.{CodedBlockPatternInter, InvertedBit, LevelPrefix}
use Rattle.h264_tables.specs.CoeffToken.{coeff_token_nc0, coeff_token_nc2, coeff_token_nc4, coeff_token_nc8, coeff_token_chroma_dc}
use Rattle.h264_tables.specs.TotalZeros.{total_zeros_1, total_zeros_2, total_zeros_3, total_zeros_4, total_zeros_5, total_zeros_6, total_zeros_7}
use Rattle.h264_tables.specs.TotalZeros.{total_zeros_8, total_zeros_9, total_zeros_10, total_zeros_11, total_zeros_12, total_zeros_13, total_zeros_14}
use Rattle.h264_tables.specs.TotalZeros.{total_zeros_15, total_zeros_chroma_dc_1, total_zeros_chroma_dc_2, total_zeros_chroma_dc_3}
use Rattle.h264_tables.specs.RunBefore.{run_before_1, run_before_2, run_before_3, run_before_4, run_before_5, run_before_6, run_before_7}
use Rattle.h264_tables.specs.CodedBlockPattern.{golomb_rows, coded_block_pattern_intra, coded_block_pattern_inter}
use Rattle.h264_tables.specs.InvertedBit.{inverted_bit}
use Rattle.h264_tables.specs.LevelPrefix.{prefix_rows, level_prefix}
use Rattle.std.proofs.Common.{subst, pos, ◌-◌, ◌==◌}
use Rattle.std.proofs.lemmas.Bool.Decides.{nat_tests}
use Rattle.h264_bits.specs.Truncated.{truncated}
use Rattle.std.specs.Option.{option_map}
use Rattle.h264_base.proofs.Chains.{map-some}
use Rattle.h264_tables.specs.declared.code_words.CodeWord.{CodeWord}
use Rattle.h264_tables.specs.CodeWord.{word_of}
use Rattle.h264_tables.specs.Table.{rows_of, code_table}
use Rattle.h264_write.specs.Written.{spelled, IsWordFor, HasNoValue}
use Rattle.h264_write.proofs.Spelled.{length-spelled, number-whole}

-- at most so many, and each word's bits fit its length
unfoldable are_spelled : ℕ → List Row → Bool
are_spelled zero [] = true
are_spelled zero (r ∷ rows) = false
are_spelled (suc n) [] = true
are_spelled (suc n) (r ∷ rows) = nat_lt r.bits (2 ^ r.length) && nat_le r.length 32 && are_spelled n rows

rows_of-spelled : (table : Table) → are_spelled 64 (rows_of table) ≡ true
unfolding are_spelled coeff_token_nc0 coeff_token_nc2 coeff_token_nc4 coeff_token_nc8 coeff_token_chroma_dc total_zeros_1 total_zeros_2 total_zeros_3
    total_zeros_4 total_zeros_5 total_zeros_6 total_zeros_7 total_zeros_8 total_zeros_9 total_zeros_10 total_zeros_11 total_zeros_12 total_zeros_13
    total_zeros_14 total_zeros_15 total_zeros_chroma_dc_1 total_zeros_chroma_dc_2 total_zeros_chroma_dc_3 run_before_1 run_before_2 run_before_3 run_before_4
    run_before_5 run_before_6 run_before_7 coded_block_pattern_intra coded_block_pattern_inter inverted_bit level_prefix golomb_rows prefix_rows
rows_of-spelled CoeffTokenNc0 = refl
rows_of-spelled CoeffTokenNc2 = refl
rows_of-spelled CoeffTokenNc4 = refl
rows_of-spelled CoeffTokenNc8 = refl
rows_of-spelled CoeffTokenChromaDc = refl
rows_of-spelled TotalZeros1 = refl
rows_of-spelled TotalZeros2 = refl
rows_of-spelled TotalZeros3 = refl
rows_of-spelled TotalZeros4 = refl
rows_of-spelled TotalZeros5 = refl
rows_of-spelled TotalZeros6 = refl
rows_of-spelled TotalZeros7 = refl
rows_of-spelled TotalZeros8 = refl
rows_of-spelled TotalZeros9 = refl
rows_of-spelled TotalZeros10 = refl
rows_of-spelled TotalZeros11 = refl
rows_of-spelled TotalZeros12 = refl
rows_of-spelled TotalZeros13 = refl
rows_of-spelled TotalZeros14 = refl
rows_of-spelled TotalZeros15 = refl
rows_of-spelled TotalZerosChromaDc1 = refl
rows_of-spelled TotalZerosChromaDc2 = refl
rows_of-spelled TotalZerosChromaDc3 = refl
rows_of-spelled RunBefore1 = refl
rows_of-spelled RunBefore2 = refl
rows_of-spelled RunBefore3 = refl
rows_of-spelled RunBefore4 = refl
rows_of-spelled RunBefore5 = refl
rows_of-spelled RunBefore6 = refl
rows_of-spelled RunBefore7 = refl
rows_of-spelled CodedBlockPatternIntra = refl
rows_of-spelled CodedBlockPatternInter = refl
rows_of-spelled InvertedBit = refl
rows_of-spelled LevelPrefix = refl

few-rows : (n : ℕ) (rows : List Row) → are_spelled n rows ≡ true → length rows ≤ n
unfolding are_spelled
few-rows zero [] e = omega arith
few-rows zero (r ∷ rows) e = absurd (cc)
few-rows (suc n) [] e = omega arith
few-rows (suc n) (r ∷ rows) e = let h : length rows ≤ n = few-rows n rows (and_parts _ _ e).1 in omega arith

row-spelled : (n : ℕ) (rows : List Row) (r : Row) → are_spelled n rows ≡ true → IsRow rows r → (r.bits < 2 ^ r.length) × (r.length ≤ 32)
unfolding are_spelled
row-spelled n [] r e m = absurd m
row-spelled zero (q ∷ rows) r e m = absurd (cc)
row-spelled (suc n) (q ∷ rows) r e (inl same) = let a = and_parts _ _ (and_parts _ _ e).0 in let P : Row → Type 0 = λ r. (r.bits < 2 ^ r.length) ×
    (r.length ≤ 32) in subst P same (ltb-true _ _ a.0, leb-true _ _ a.1)
row-spelled (suc n) (q ∷ rows) r e (inr m) = row-spelled n rows r (and_parts _ _ e).1 m

pub rows_of-few : (table : Table) → length (rows_of table) ≤ 64
rows_of-few table = few-rows 64 (rows_of table) (rows_of-spelled table)

pub word-spelled : (table : Table) (r : Row) → IsRow (rows_of table) r → (r.bits < 2 ^ r.length) × (r.length ≤ 32)
word-spelled table r m = row-spelled 64 (rows_of table) r (rows_of-spelled table) m

-- a row by its number
pub row-at : (rows : List Row) (i : ℕ) (r : Row) → slice_get rows i ≡ Some r → IsRow rows r
row-at [] i r e = absurd (cc)
row-at (q ∷ rows) zero r e = inl (cc)
row-at (q ∷ rows) (suc i) r e = inr (row-at rows i r e)

row-number : (rows : List Row) (r : Row) → IsRow rows r → (k : ℕ) × (k < length rows) × (slice_get rows k ≡ Some r)
row-number [] r m = absurd m
row-number (q ∷ rows) r (inl same) = (0, omega arith, ap Some same)
row-number (q ∷ rows) r (inr m) = let k = row-number rows r m in (suc k.0, (let h = k.1 in omega arith), k.2)

-- none of the first i rows has this value
abbrev pub LacksTo : ℕ → List Row → ℕ → Type 0
LacksTo i rows value = (k : ℕ) (r : Row) → k < i → slice_get rows k ≡ Some r → r.value ≡ value → ⊥

pub lacks-all : (i : ℕ) (table : Table) (value : ℕ) → length (rows_of table) ≤ i → LacksTo i (rows_of table) value → HasNoValue table value
lacks-all i table value h before r m e = let k = row-number (rows_of table) r m in let l = k.1 in before k.0 r (omega arith) k.2 e

past : (rows : List Row) (i : ℕ) → slice_get rows i ≡ None → length rows ≤ i
past [] i e = omega arith
past (q ∷ rows) zero e = absurd (cc)
past (q ∷ rows) (suc i) e = let h = past rows i e in omega arith

pub rows-past : (table : Table) (i : ℕ) → None ≡ option_map word_of (slice_get (rows_of table) i) → length (rows_of table) ≤ i
rows-past table i e = past (rows_of table) i (none (slice_get (rows_of table) i) e)
  where
    none : (o : Option Row) → None ≡ option_map word_of o → o ≡ None
    none None e = refl
    none (Some r) e = absurd (cc)

-- a word's row
pub word-row : (table : Table) (i : ℕ) (w : CodeWord) → Some w ≡ option_map word_of (slice_get (rows_of table) i) → (r : Row) ×
    (slice_get (rows_of table) i ≡ Some r) × (word_of r ≡ w)
word-row table i w e = map-some word_of (slice_get (rows_of table) i) w (sym e)

-- the bits of a word are a word of its value
pub row-written : (table : Table) (value : ℕ) (w : CodeWord) → IsWordFor table value w → IsWord (Words (code_table table)) (spelled w.length w.bits) (pos value)
row-written table value w is =
    let r = is.row in
    let s = word-spelled table r is.is_row in
    let l = length-spelled r.length r.bits in
    let n = number-whole r.length r.bits s.0 in
    rw is.word_is (r, is.is_row, (l, n), ap pos (sym is.value_is))

-- te(v) with range 1, and with others
pub bit-written : (value : ℕ) → value ≤ 1 → IsWord (Words (code_table InvertedBit)) (spelled 1 (1 - value)) (pos value)
unfolding spelled inverted_bit
bit-written zero h = (row 1 1 0, inl refl, (refl, refl), refl)
bit-written (suc zero) h = (row 1 0 1, inr (inl refl), (refl, refl), refl)
bit-written (suc (suc value)) h = absurd (omega arith)

pub truncated-one : (x : ℕ) → x ≡ 1 → truncated x ≡ Words (code_table InvertedBit)
truncated-one x e = rw e refl

pub truncated-other : (x : ℕ) → (x ≡ 1 → ⊥) → truncated x ≡ Unsigned
truncated-other x h = let e : (x == 1) ≡ false = grind (arith, nat_tests) in rw e refl
