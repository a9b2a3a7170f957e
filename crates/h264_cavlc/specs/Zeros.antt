-- The zeros below the highest coefficient, and the runs of zeros before each (9.2.3). To be read beside the standard.
use Rattle.std.specs.Prelude.{ℕ, zero, suc, ◌+◌, ◌-◌, ◌==◌, min, nat_le, nat_lt, if◌then◌else◌, List, [], ◌∷◌, ◌++◌, slice_get, unwrap_or}
use Rattle.h264_base.specs.declared.element_name.ElementName.TheVariants.{TotalZeros, RunBefore}
use Rattle.h264_base.specs.declared.rule.Rule.TheVariants.{BlockSize}
use Rattle.h264_base.specs.Word.{Words}
use Rattle.h264_base.specs.Grammar.{Grammar, Done, ◌>>=◌, residual_element, check}
use Rattle.h264_tables.specs.declared.table.Table.{Table}
use Rattle.h264_tables.specs.declared.table.Table.TheVariants.{TotalZeros1, TotalZerosChromaDc1, RunBefore1}
use Rattle.h264_tables.specs.Choice.{total_zeros_tables, chroma_dc_tables, run_before_tables}
use Rattle.h264_tables.specs.Table.{code_table}
use Rattle.h264_bits.specs.Forms.{natural}

-- the table of total_zeros of a block of this size with so many coefficients, at least one (Tables 9-7 to 9-9)
unfoldable pub total_zeros_table : ℕ → ℕ → Table
total_zeros_table size total =
    if size == 4 then unwrap_or (slice_get chroma_dc_tables (total - 1)) TotalZerosChromaDc1
    else unwrap_or (slice_get total_zeros_tables (total - 1)) TotalZeros1

unfoldable pub coded_total_zeros : ℕ → ℕ → Grammar ℕ
coded_total_zeros size total = do
  e ← residual_element TotalZeros (Words (code_table (total_zeros_table size total)))
  _ ← check BlockSize e.bit (nat_le (total + natural e.value) size)
  Done (natural e.value)

-- total_zeros, which is 0 where the block has no room for a zero
unfoldable pub total_zeros : ℕ → ℕ → Grammar ℕ
total_zeros size total = if nat_lt total size then coded_total_zeros size total else Done 0

-- the table of run_before by zerosLeft, which is not 0 (Table 9-10)
unfoldable pub run_before_table : ℕ → Table
run_before_table zeros_left = unwrap_or (slice_get run_before_tables (min zeros_left 7 - 1)) RunBefore1

unfoldable pub coded_run_before : ℕ → Grammar ℕ
coded_run_before zeros_left = do
  e ← residual_element RunBefore (Words (code_table (run_before_table zeros_left)))
  _ ← check BlockSize e.bit (nat_le (natural e.value) zeros_left)
  Done (natural e.value)

-- run_before, which is 0 where no zeros are left
unfoldable pub run_before : ℕ → Grammar ℕ
run_before zeros_left = if zeros_left == 0 then Done 0 else coded_run_before zeros_left

-- the runs of so many more coefficients, after these, where so many zeros are left
unfoldable pub runs_before : List ℕ → ℕ → ℕ → Grammar (List ℕ)
runs_before before zeros_left zero = Done before
runs_before before zeros_left (suc n) = do
  run ← run_before zeros_left
  runs_before (before ++ run ∷ []) (zeros_left - run) n
