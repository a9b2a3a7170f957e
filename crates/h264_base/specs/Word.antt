-- Code words and where they stand (7.2, 9.1). To be read beside the standard.
use Rattle.std.specs.Prelude.{◌≡◌, ℕ, zero, suc, ◌+◌, ◌-◌, ◌*◌, ◌/◌, ◌%◌, ◌^◌, ◌<◌, Bool, true, false, List, [], ◌∷◌, ◌++◌, length, replicate, ℤ, pos}
use Rattle.std.specs.Prelude.{Option, Some, None, slice_get, ◌==◌, if◌then◌else◌, neg_ℤ, not, nat_lt, nat_le, ◌&&◌}
use Rattle.std.specs.Option.{option_map, option_and_then}
use Rattle.h264_base.specs.Table.{Row, CodeTable, IsRow}

-- how a value is written: u(n), ue(v), se(v), or a word of a table, as te(v), me(v) and ce(v) are
pub data Code : Type 0 where
  Fixed : ℕ → Code
  Unsigned : Code
  Signed : Code
  Words : CodeTable → Code

abbrev pub Word : Type 0
Word = List Bool

abbrev pub digit : Bool → ℕ
digit true = 1
digit false = 0

-- the number that a word spells, the highest bit first
abbrev pub number : Word → ℕ
number [] = 0
number (b ∷ w) = digit b * 2 ^ length w + number w

-- the value of codeNum c in se(v) (9.1.1)
abbrev pub signed : ℕ → ℤ
signed c = if c % 2 == 0 then neg_ℤ (pos (c / 2)) else pos (c / 2 + 1)

-- an Exp-Golomb word of codeNum c: k zeros, a 1, and k more bits, with k at most 31 (9.1)
abbrev pub IsGolomb : Word → ℕ → Type 0
IsGolomb w c = (rest : Word) × (length rest < 32) × (w ≡ replicate (length rest) false ++ true ∷ rest) × (c + 1 ≡ 2 ^ length rest + number rest)

-- the word of a row of a table
abbrev pub IsWordOf : Row → Word → Type 0
IsWordOf r w = (length w ≡ r.length) × (number w ≡ r.bits)

-- the words of a code, and what each stands for
abbrev pub IsWord : Code → Word → ℤ → Type 0
IsWord (Fixed n) w v = (length w ≡ n) × (v ≡ pos (number w))
IsWord Unsigned w v = (c : ℕ) × IsGolomb w c × (v ≡ pos c)
IsWord Signed w v = (c : ℕ) × IsGolomb w c × (v ≡ signed c)
IsWord (Words t) w v = (r : Row) × IsRow t.rows r × IsWordOf r w × (v ≡ pos r.value)

-- bit i of these bytes, the highest bit of a byte first
abbrev pub bit_of : List ℕ → ℕ → Option Bool
bit_of bytes i = option_map (λ b. b / 2 ^ (7 - i % 8) % 2 == 1) (slice_get bytes (i / 8))

-- the word stands at bit i
abbrev pub StandsAt : List ℕ → ℕ → Word → Type 0
StandsAt bytes i [] = Unit {0}
StandsAt bytes i (b ∷ w) = (bit_of bytes i ≡ Some b) × StandsAt bytes (i + 1) w

-- the bits from i up to j are a word of the value
abbrev pub Reads : Code → List ℕ → ℕ → ℤ → ℕ → Type 0
Reads code bytes i v j = (w : Word) × IsWord code w v × StandsAt bytes i w × (j ≡ i + length w)

-- How many bits are left of bit i's byte, where i is not its first.
abbrev pub padding : ℕ → ℕ
padding i = (8 - i % 8) % 8

-- These as functions.
unfoldable pub number_at : ℕ → List ℕ → ℕ → Option ℕ
number_at zero bytes i = Some 0
number_at (suc n) bytes i = option_and_then (λ b. option_map (λ v. digit b * 2 ^ n + v) (number_at n bytes (i + 1))) (bit_of bytes i)

-- how many zeros stand before the first 1, if it is one of the next n bits
unfoldable pub zeros_at : ℕ → List ℕ → ℕ → Option ℕ
zeros_at zero bytes i = None
zeros_at (suc n) bytes i = option_and_then (λ b. if b then Some 0 else option_map suc (zeros_at n bytes (i + 1))) (bit_of bytes i)

-- a value and the place after it
unfoldable pub golomb_at : List ℕ → ℕ → Option (ℕ × ℕ)
golomb_at bytes i = option_and_then (λ k. option_map (λ r. (2 ^ k - 1 + r, i + (2 * k + 1))) (number_at k bytes (i + k + 1))) (zeros_at 32 bytes i)

-- whether the next bits spell this number
abbrev pub spells : ℕ → Option ℕ → Bool
spells b None = false
spells b (Some x) = x == b

-- the value of the first row whose word stands there, and the place after it
unfoldable pub rows_at : List Row → List ℕ → ℕ → Option (ℕ × ℕ)
rows_at [] bytes i = None
rows_at (r ∷ rows) bytes i = if spells r.bits (number_at r.length bytes i) then Some (r.value, i + r.length) else rows_at rows bytes i

unfoldable pub value_at : Code → List ℕ → ℕ → Option (ℤ × ℕ)
value_at (Fixed n) bytes i = option_map (λ v. (pos v, i + n)) (number_at n bytes i)
value_at Unsigned bytes i = option_map (λ x. (pos x.0, x.1)) (golomb_at bytes i)
value_at Signed bytes i = option_map (λ x. (signed x.0, x.1)) (golomb_at bytes i)
value_at (Words t) bytes i = option_map (λ x. (pos x.0, x.1)) (rows_at t.rows bytes i)

abbrev pub is_bit : Bool → Option Bool → Bool
is_bit b None = false
is_bit true (Some c) = c
is_bit false (Some c) = not c

abbrev pub stands_at : List ℕ → ℕ → Word → Bool
stands_at bytes i [] = true
stands_at bytes i (b ∷ w) = is_bit b (bit_of bytes i) && stands_at bytes (i + 1) w

-- the rest is a 1 followed by 0s only
unfoldable pub ends_at : List ℕ → ℕ → Bool
ends_at bytes i = nat_lt i (8 * length bytes) && stands_at bytes i (true ∷ replicate (8 * length bytes - i - 1) false)

-- so do trailing bits, which stand in the last byte
unfoldable pub closes_at : List ℕ → ℕ → Bool
closes_at bytes i = nat_le (8 * length bytes) (i + 8) && ends_at bytes i

-- the first of the next n bits that is not a 0
unfoldable pub no_zero_at : ℕ → List ℕ → ℕ → Option ℕ
no_zero_at zero bytes i = None
no_zero_at (suc n) bytes i = if is_bit false (bit_of bytes i) then no_zero_at n bytes (i + 1) else Some i
