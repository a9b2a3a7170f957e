-- The next bits as a number, with zeros past the end of the bytes. A working form.
use Rattle.std.specs.Prelude.{◌≡◌, ℕ, zero, suc, ◌+◌, ◌*◌, ◌/◌, ◌%◌, ◌-◌, ◌^◌, ◌≤◌, ◌==◌, List, length, ℤ, Option, Some, None, slice_index}
use Rattle.h264_base.specs.Word.{Code, value_at, ends_at}

-- bit i, or 0 past the end
unfoldable pub bit_or_zero : List ℕ → ℕ → ℕ
bit_or_zero bytes i = slice_index bytes (i / 8) / 2 ^ (7 - i % 8) % 2

-- the number that the n bits from bit i on spell
unfoldable pub peek_at : ℕ → List ℕ → ℕ → ℕ
peek_at zero bytes i = 0
peek_at (suc n) bytes i = bit_or_zero bytes i * 2 ^ n + peek_at n bytes (i + 1)

-- the value that stands at bit i with the bit after it, or that none stands there
abbrev pub FindsBy : {X : Type 0} → (X → ℤ) → Code → List ℕ → ℕ → Option (X × ℕ) → Type 0
FindsBy view code bytes i (Some p) = value_at code bytes i ≡ Some (view p.0, p.1)
FindsBy view code bytes i None = value_at code bytes i ≡ None

-- bit k is the last 1 of the bytes; where they have no 1 it is a number past their end
unfoldable pub IsLastOne : List ℕ → ℕ → Type 0
IsLastOne bytes k = (i : ℕ) → i ≤ 8 * length bytes → ends_at bytes i ≡ (i == k)
