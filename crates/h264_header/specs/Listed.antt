-- Syntax structures that the elements of many parts of a header share. A working form.
use Rattle.std.specs.Prelude.{ℕ, zero, suc, ℤ, pos, Bool, true, false, Option, Some, None, List, [], ◌∷◌, ◌++◌}
use Rattle.h264_base.specs.Grammar.{Grammar, Found as Seen, Done, ◌>>=◌}
use Rattle.h264_bits.specs.Forms.{natural}
use Rattle.h264_bits.specs.declared.element.Found.{Found}

-- an element's value as a number, with its stream bit
abbrev pub found_unsigned : Seen → Found ℕ
found_unsigned e = record { bit = e.bit; value = natural e.value }

abbrev pub found_signed : Seen → Found ℤ
found_signed e = record { bit = e.bit; value = e.value }

-- an element that is 0 where it is not there
unfoldable pub or_0 : Bool → Grammar ℤ → Grammar ℤ
or_0 false part = Done (pos 0)
or_0 true part = part

-- what follows one of a list's entries, or its end
abbrev pub listed_on : {A : Type 0} → (List A → Grammar (List A)) → List A → Option A → Grammar (List A)
listed_on rest before None = Done before
listed_on rest before (Some x) = rest (before ++ x ∷ [])

-- The entries of a list after these, up to one that ends it; at most so many are read, that one among them.
unfoldable pub listed : {A : Type 0} → (List A → Grammar (Option A)) → ℕ → List A → Grammar (List A)
listed entry zero before = Done before
listed entry (suc n) before = entry before >>= listed_on (listed entry n) before
