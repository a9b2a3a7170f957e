-- The levels that are no trailing ones (9.2.2, 9.2.2.1). To be read beside the standard.
use Rattle.std.specs.Prelude.{ℕ, zero, suc, ◌+◌, ◌-◌, ◌*◌, ◌/◌, ◌%◌, ◌^◌, max, Bool, ◌==◌, ◌&&◌, nat_lt, if◌then◌else◌, List, [], ◌∷◌, ◌++◌, length, ℤ, pos}
use Rattle.std.specs.Prelude.{neg_ℤ, unsigned_abs}
use Rattle.h264_base.specs.declared.element_name.ElementName.TheVariants.{LevelPrefix, LevelSuffix}
use Rattle.h264_base.specs.Word.{Fixed, Words}
use Rattle.h264_base.specs.Grammar.{Grammar, Done, ◌>>=◌, residual_element}
use Rattle.h264_tables.specs.declared.table.Table.TheVariants.{LevelPrefix as PrefixTable}
use Rattle.h264_tables.specs.Table.{code_table}
use Rattle.h264_bits.specs.Forms.{natural}
use Rattle.h264_cavlc.specs.declared.token.Token.{Token}

-- suffixLength of the first level
unfoldable pub first_suffix_length : Token → ℕ
first_suffix_length token = if nat_lt 10 token.total && nat_lt token.ones 3 then 1 else 0

-- suffixLength of the level after one of this suffixLength and value
unfoldable pub next_suffix_length : ℕ → ℤ → ℕ
next_suffix_length suffix_length level =
    let used = max suffix_length 1 in
    if nat_lt (3 * 2 ^ (used - 1)) (unsigned_abs level) && nat_lt used 6 then used + 1 else used

-- levelSuffixSize, in bits, by level_prefix and suffixLength
unfoldable pub suffix_size : ℕ → ℕ → ℕ
suffix_size prefix suffix_length = if prefix == 14 && suffix_length == 0 then 4 else if prefix == 15 then 12 else suffix_length

-- Level k, where so many trailing ones stand before the others, is the first of them and can't be 1 or -1, which would be a trailing one.
unfoldable pub is_never_one : ℕ → ℕ → Bool
is_never_one ones k = k == ones && nat_lt ones 3

-- levelCode by level_prefix, suffixLength, level_suffix, and whether the level is never 1 or -1
unfoldable pub level_code : ℕ → ℕ → ℕ → Bool → ℕ
level_code prefix suffix_length suffix never_one =
    prefix * 2 ^ suffix_length + suffix + (if prefix == 15 && suffix_length == 0 then 15 else 0) + (if never_one then 2 else 0)

-- levelVal: 1, -1, 2, -2 and so on
unfoldable pub level_value : ℕ → ℤ
level_value code = if code % 2 == 0 then pos ((code + 2) / 2) else neg_ℤ (pos ((code + 1) / 2))

-- level_suffix, which is 0 where it has no bits
unfoldable pub level_suffix : ℕ → Grammar ℕ
level_suffix zero = Done 0
level_suffix (suc n) = do
  e ← residual_element LevelSuffix (Fixed (suc n))
  Done (natural e.value)

unfoldable pub level : ℕ → Bool → Grammar ℤ
level suffix_length never_one = do
  prefix ← residual_element LevelPrefix (Words (code_table PrefixTable))
  suffix ← level_suffix (suffix_size (natural prefix.value) suffix_length)
  Done (level_value (level_code (natural prefix.value) suffix_length suffix never_one))

-- so many more levels of a block with these trailing ones, after these levels, from this suffixLength on
unfoldable pub more_levels : ℕ → List ℤ → ℕ → ℕ → Grammar (List ℤ)
more_levels ones before suffix_length zero = Done before
more_levels ones before suffix_length (suc n) = do
  x ← level suffix_length (is_never_one ones (length before))
  more_levels ones (before ++ x ∷ []) (next_suffix_length suffix_length x) n
