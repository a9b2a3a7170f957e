-- residual_block_cavlc() (7.3.5.3.2), with the rules on its size (9.2). To be read beside the standard.
use Rattle.std.specs.Prelude.{ℕ, ◌-◌, ◌==◌, if◌then◌else◌, List, [], replicate, ℤ, pos, nat_lt, unsigned_abs, count_by}
use Rattle.h264_base.specs.Grammar.{Grammar, Done, ◌>>=◌}
use Rattle.h264_bits.specs.Forms.{repeated}
use Rattle.h264_cavlc.specs.declared.token.Token.{Token}
use Rattle.h264_cavlc.specs.Token.{coeff_token, trailing_one}
use Rattle.h264_cavlc.specs.Level.{first_suffix_length, more_levels}
use Rattle.h264_cavlc.specs.Zeros.{total_zeros, runs_before}
use Rattle.h264_cavlc.specs.Place.{by_place}

-- the levels by place of the scan, and how many of them are not 0
pub record Block : Type 0 where
  pub by_place : List ℤ
  pub total : ℕ

-- how many levels are not 0
unfoldable pub nonzero_count : List ℤ → ℕ
nonzero_count levels = count_by (λ level. nat_lt 0 (unsigned_abs level)) levels

-- the levels, the first at the highest place
unfoldable pub all_levels : Token → Grammar (List ℤ)
all_levels token = do
  ones ← repeated trailing_one [] token.ones
  levels ← more_levels token.ones ones (first_suffix_length token) (token.total - token.ones)
  Done levels

-- what follows the token of a block that has coefficients
unfoldable pub coefficients : ℕ → Token → Grammar Block
coefficients size token = do
  levels ← all_levels token
  zeros ← total_zeros size token.total
  runs ← runs_before [] zeros (token.total - 1)
  Done (record { by_place = by_place size levels zeros runs; total = token.total })

-- a block of so many coefficients: 16, 15, or 4 for chroma DC, which has no nC of its own
unfoldable pub residual_block : ℕ → ℕ → Grammar Block
residual_block size nc = do
  token ← coeff_token size nc
  if token.total == 0 then Done (record { by_place = replicate size (pos 0); total = 0 }) else coefficients size token
