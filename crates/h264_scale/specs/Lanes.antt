-- Matrices as vectors keep them: four rows of four lanes, or sixteen entries by place of the scan. A working form.
use Rattle.std.specs.Prelude.{◌≡◌, ℕ, zero, suc, ◌+◌, ◌<◌, ◌&&◌, ◌==◌, if◌then◌else◌, List, [], ◌∷◌, get_or, ℤ, pos, unsigned_abs, FitsSigned}
use Rattle.std.specs.Int.{w32}
use Rattle.h264_scale.specs.Fours.{row_then}
use Rattle.h264_scale.specs.declared.fours.Four.{Four}
use Rattle.h264_scale.specs.declared.fours.Block.{Block}
use Rattle.h264_scale.specs.declared.lanes.Rows.{Rows}

-- the lanes of a row
abbrev pub lanes : Four → List ℤ
lanes v = row_then v []

-- vectors hold the rows of a matrix
pub record AreRows (m : Rows) (x : Block) : Type 0 where
  pub r0 : m.r0 ≡ lanes x.r0
  pub r1 : m.r1 ≡ lanes x.r1
  pub r2 : m.r2 ≡ lanes x.r2
  pub r3 : m.r3 ≡ lanes x.r3

-- the entries of a matrix by place of the scan
abbrev pub by_place : (ℕ → ℕ → ℤ) → List ℤ
by_place m =
    m 0 0 ∷ m 0 1 ∷ m 1 0 ∷ m 2 0 ∷ m 1 1 ∷ m 0 2 ∷ m 0 3 ∷ m 1 2 ∷
    m 2 1 ∷ m 3 0 ∷ m 3 1 ∷ m 2 2 ∷ m 1 3 ∷ m 2 3 ∷ m 3 2 ∷ m 3 3 ∷ []

-- a matrix with another first entry
abbrev pub with_first : ℤ → (ℕ → ℕ → ℤ) → ℕ → ℕ → ℤ
with_first z m i j = if i == 0 && j == 0 then z else m i j

-- entries of 32 bits
abbrev pub AreWide : (ℕ → ℕ → ℤ) → Type 0
AreWide m = (i j : ℕ) → i < 4 → j < 4 → FitsSigned w32 (m i j)

-- the sum of the first n numbers of a list without their signs
unfoldable pub size_below : ℕ → List ℤ → ℕ
size_below zero l = 0
size_below (suc n) l = size_below n l + unsigned_abs (get_or l n (pos 0))
