-- What holds of the rows of every table.
use Rattle.std.proofs.Common.{◌≡◌, ℕ, ◌<◌, ◌≤◌, Bool, true, false, List, [], ◌∷◌, Option, Some, None, refl, ap, sym, ◌∙◌, arith, if◌then◌else◌, ◌&&◌, nat_lt}
use Rattle.std.proofs.Common.{nat_le, inl, inr}
use Rattle.std.proofs.lemmas.Bool.{and_parts, leb-true, ltb-true}
use Rattle.h264_base.specs.Table.{Row, IsRow}
use Rattle.h264_tables.specs.Front.{begins, front_of, found_of}
use Rattle.h264_tables.specs.declared.table.Table.{Table}
use Rattle.h264_tables.specs.declared.table.Table.TheVariants.{CoeffTokenNc0, CoeffTokenNc2, CoeffTokenNc4, CoeffTokenNc8, CoeffTokenChromaDc, TotalZeros1}
use Rattle.h264_tables.specs.declared.table.Table.TheVariants.{TotalZeros2, TotalZeros3, TotalZeros4, TotalZeros5, TotalZeros6, TotalZeros7, TotalZeros8}
use Rattle.h264_tables.specs.declared.table.Table.TheVariants.{TotalZeros9, TotalZeros10, TotalZeros11, TotalZeros12, TotalZeros13, TotalZeros14}
use Rattle.h264_tables.specs.declared.table.Table.TheVariants.{TotalZeros15, TotalZerosChromaDc1, TotalZerosChromaDc2, TotalZerosChromaDc3, RunBefore1}
use Rattle.h264_tables.specs.declared.table.Table.TheVariants.{RunBefore2, RunBefore3, RunBefore4, RunBefore5, RunBefore6, RunBefore7, CodedBlockPatternIntra}
use Rattle.h264_tables.specs.declared.table.Table.TheVariants.{CodedBlockPatternInter, InvertedBit, LevelPrefix}
use Rattle.h264_tables.specs.Table.{rows_of}
use Rattle.h264_tables.specs.Greatest.{greatest_value}
use Rattle.h264_tables.specs.CoeffToken.{coeff_token_nc0, coeff_token_nc2, coeff_token_nc4, coeff_token_nc8, coeff_token_chroma_dc}
use Rattle.h264_tables.specs.TotalZeros.{total_zeros_1, total_zeros_2, total_zeros_3, total_zeros_4, total_zeros_5, total_zeros_6, total_zeros_7}
use Rattle.h264_tables.specs.TotalZeros.{total_zeros_8, total_zeros_9, total_zeros_10, total_zeros_11, total_zeros_12, total_zeros_13, total_zeros_14}
use Rattle.h264_tables.specs.TotalZeros.{total_zeros_15, total_zeros_chroma_dc_1, total_zeros_chroma_dc_2, total_zeros_chroma_dc_3}
use Rattle.h264_tables.specs.RunBefore.{run_before_1, run_before_2, run_before_3, run_before_4, run_before_5, run_before_6, run_before_7}
use Rattle.h264_tables.specs.CodedBlockPattern.{golomb_rows, coded_block_pattern_intra, coded_block_pattern_inter}
use Rattle.h264_tables.specs.InvertedBit.{inverted_bit}
use Rattle.h264_tables.specs.LevelPrefix.{prefix_rows, level_prefix}
use Rattle.h264_tables.proofs.Entries.{are_words}

-- each word has 1 to 16 bits
pub rows_of-words : (table : Table) → are_words 16 (rows_of table) ≡ true
unfolding are_words coeff_token_nc0 coeff_token_nc2 coeff_token_nc4 coeff_token_nc8 coeff_token_chroma_dc total_zeros_1 total_zeros_2 total_zeros_3
    total_zeros_4 total_zeros_5 total_zeros_6 total_zeros_7 total_zeros_8 total_zeros_9 total_zeros_10 total_zeros_11 total_zeros_12 total_zeros_13
    total_zeros_14 total_zeros_15 total_zeros_chroma_dc_1 total_zeros_chroma_dc_2 total_zeros_chroma_dc_3 run_before_1 run_before_2 run_before_3 run_before_4
    run_before_5 run_before_6 run_before_7 coded_block_pattern_intra coded_block_pattern_inter inverted_bit level_prefix golomb_rows prefix_rows
rows_of-words CoeffTokenNc0 = refl
rows_of-words CoeffTokenNc2 = refl
rows_of-words CoeffTokenNc4 = refl
rows_of-words CoeffTokenNc8 = refl
rows_of-words CoeffTokenChromaDc = refl
rows_of-words TotalZeros1 = refl
rows_of-words TotalZeros2 = refl
rows_of-words TotalZeros3 = refl
rows_of-words TotalZeros4 = refl
rows_of-words TotalZeros5 = refl
rows_of-words TotalZeros6 = refl
rows_of-words TotalZeros7 = refl
rows_of-words TotalZeros8 = refl
rows_of-words TotalZeros9 = refl
rows_of-words TotalZeros10 = refl
rows_of-words TotalZeros11 = refl
rows_of-words TotalZeros12 = refl
rows_of-words TotalZeros13 = refl
rows_of-words TotalZeros14 = refl
rows_of-words TotalZeros15 = refl
rows_of-words TotalZerosChromaDc1 = refl
rows_of-words TotalZerosChromaDc2 = refl
rows_of-words TotalZerosChromaDc3 = refl
rows_of-words RunBefore1 = refl
rows_of-words RunBefore2 = refl
rows_of-words RunBefore3 = refl
rows_of-words RunBefore4 = refl
rows_of-words RunBefore5 = refl
rows_of-words RunBefore6 = refl
rows_of-words RunBefore7 = refl
rows_of-words CodedBlockPatternIntra = refl
rows_of-words CodedBlockPatternInter = refl
rows_of-words InvertedBit = refl
rows_of-words LevelPrefix = refl

-- no value is above k
unfoldable pub values_within : ℕ → List Row → Bool
values_within k [] = true
values_within k (r ∷ rows) = nat_le r.value k && values_within k rows

pub rows_of-within : (table : Table) → values_within (greatest_value table) (rows_of table) ≡ true
unfolding values_within coeff_token_nc0 coeff_token_nc2 coeff_token_nc4 coeff_token_nc8 coeff_token_chroma_dc total_zeros_1 total_zeros_2 total_zeros_3
    total_zeros_4 total_zeros_5 total_zeros_6 total_zeros_7 total_zeros_8 total_zeros_9 total_zeros_10 total_zeros_11 total_zeros_12 total_zeros_13
    total_zeros_14 total_zeros_15 total_zeros_chroma_dc_1 total_zeros_chroma_dc_2 total_zeros_chroma_dc_3 run_before_1 run_before_2 run_before_3 run_before_4
    run_before_5 run_before_6 run_before_7 coded_block_pattern_intra coded_block_pattern_inter inverted_bit level_prefix golomb_rows prefix_rows
rows_of-within CoeffTokenNc0 = refl
rows_of-within CoeffTokenNc2 = refl
rows_of-within CoeffTokenNc4 = refl
rows_of-within CoeffTokenNc8 = refl
rows_of-within CoeffTokenChromaDc = refl
rows_of-within TotalZeros1 = refl
rows_of-within TotalZeros2 = refl
rows_of-within TotalZeros3 = refl
rows_of-within TotalZeros4 = refl
rows_of-within TotalZeros5 = refl
rows_of-within TotalZeros6 = refl
rows_of-within TotalZeros7 = refl
rows_of-within TotalZeros8 = refl
rows_of-within TotalZeros9 = refl
rows_of-within TotalZeros10 = refl
rows_of-within TotalZeros11 = refl
rows_of-within TotalZeros12 = refl
rows_of-within TotalZeros13 = refl
rows_of-within TotalZeros14 = refl
rows_of-within TotalZeros15 = refl
rows_of-within TotalZerosChromaDc1 = refl
rows_of-within TotalZerosChromaDc2 = refl
rows_of-within TotalZerosChromaDc3 = refl
rows_of-within RunBefore1 = refl
rows_of-within RunBefore2 = refl
rows_of-within RunBefore3 = refl
rows_of-within RunBefore4 = refl
rows_of-within RunBefore5 = refl
rows_of-within RunBefore6 = refl
rows_of-within RunBefore7 = refl
rows_of-within CodedBlockPatternIntra = refl
rows_of-within CodedBlockPatternInter = refl
rows_of-within InvertedBit = refl
rows_of-within LevelPrefix = refl

pub row-within : (k : ℕ) (rows : List Row) (r : Row) → values_within k rows ≡ true → IsRow rows r → r.value ≤ k
unfolding values_within
row-within k [] r h m = absurd m
row-within k (q ∷ rows) r h (inl e) = rw (← e) (leb-true _ _ (and_parts (nat_le q.value k) (values_within k rows) h).0)
row-within k (q ∷ rows) r h (inr m) = row-within k rows r (and_parts (nat_le q.value k) (values_within k rows) h).1 m

-- a word of 1 to 16 bits
pub record IsShort (r : Row) : Type 0 where
  pub some : 0 < r.length
  pub few : r.length ≤ 16

pub row-short : (rows : List Row) (r : Row) → are_words 16 rows ≡ true → IsRow rows r → IsShort r
unfolding are_words
row-short [] r h m = absurd m
row-short (q ∷ rows) r h (inl e) =
    let a = and_parts (nat_lt 0 q.length && nat_le q.length 16) (are_words 16 rows) h in
    let b = and_parts (nat_lt 0 q.length) (nat_le q.length 16) a.0 in
    rw (← e) (record { some = ltb-true _ _ b.0; few = leb-true _ _ b.1 })
row-short (q ∷ rows) r h (inr m) = row-short rows r (and_parts (nat_lt 0 q.length && nat_le q.length 16) (are_words 16 rows) h).1 m

-- the row that was found is one of them, and the bits begin with its word
pub front-row : (w : ℕ) (rows : List Row) (y : ℕ) (r : Row) → front_of w rows y ≡ Some r → IsRow rows r × (begins w r y ≡ true)
unfolding front_of
front-row w [] y r e = absurd (cc)
front-row w (q ∷ rows) y r e = go (begins w q y) refl (λ f. front-row w rows y r f) e
  where
    go : (b : Bool) → begins w q y ≡ b → (front_of w rows y ≡ Some r → IsRow rows r × (begins w r y ≡ true)) →
        (if b then Some q else front_of w rows y) ≡ Some r → IsRow (q ∷ rows) r × (begins w r y ≡ true)
    go true f more g = let s : q ≡ r = cc in (inl s, ap (λ (p : Row). begins w p y) (sym s) ∙ f)
    go false f more g = let m = more g in (inr m.0, m.1)

-- a length of 0 says that none was found
pub found-none : (rows : List Row) (y : ℕ) (p : ℕ × ℕ) → are_words 16 rows ≡ true → p ≡ found_of (front_of 16 rows y) → p.0 ≡ 0 → front_of 16 rows y ≡ None
found-none rows y p h e z = go (front_of 16 rows y) refl (sym z ∙ ap (λ (q : ℕ × ℕ). q.0) e)
  where
    go : (o : Option Row) → front_of 16 rows y ≡ o → 0 ≡ (found_of o).0 → front_of 16 rows y ≡ None
    go None f n = f
    go (Some r) f n = absurd (let m = row-short rows r h (front-row 16 rows y r f).0 in let l = m.some in omega arith)

-- what was found has a length of 1 to 16 and a value up to the table's greatest
pub found-within : (table : Table) (y : ℕ) (p : ℕ × ℕ) → p ≡ found_of (front_of 16 (rows_of table) y) → p.1 ≤ greatest_value table
found-within table y p e = go (front_of 16 (rows_of table) y) refl e
  where
    go : (o : Option Row) → front_of 16 (rows_of table) y ≡ o → p ≡ found_of o → p.1 ≤ greatest_value table
    go None f n = let z : p.1 ≡ 0 = ap (λ (q : ℕ × ℕ). q.1) n in omega arith
    go (Some r) f n = let z : p.1 ≡ r.value = ap (λ (q : ℕ × ℕ). q.1) n in
        rw z (row-within (greatest_value table) (rows_of table) r (rows_of-within table) (front-row 16 (rows_of table) y r f).0)
