-- That nothing can be read. A working form.
use Rattle.std.specs.Prelude.{ℕ, ℤ, List}
use Rattle.h264_base.specs.Word.{Code, Reads}

-- no word of the code stands at bit i
abbrev pub HasNoWord : Code → List ℕ → ℕ → Type 0
HasNoWord code bytes i = (v : ℤ) (j : ℕ) → Reads code bytes i v j → ⊥
