-- Forms of elements that many syntax structures share. To be read beside the standard.
use Rattle.std.specs.Prelude.{ℕ, zero, suc, ℤ, pos, negsuc, nat_le, int_le, ◌==◌, Bool, true, false, Option, Some, None, List, [], ◌∷◌, ◌++◌}
use Rattle.h264_base.specs.declared.element_name.ElementName.{ElementName}
use Rattle.h264_base.specs.declared.rule.Rule.TheVariants.{Range, Tool}
use Rattle.h264_base.specs.Word.{Fixed, Unsigned, Signed}
use Rattle.h264_base.specs.Grammar.{Grammar, Done, ◌>>=◌, element, check}

-- a value that is not negative
abbrev pub natural : ℤ → ℕ
natural (pos n) = n
natural (negsuc n) = 0

-- u(n)
unfoldable pub bits : ElementName → ℕ → Grammar ℕ
bits name n = do
  e ← element name (Fixed n)
  Done (natural e.value)

-- ue(v), any value
unfoldable pub unsigned : ElementName → Grammar ℕ
unsigned name = do
  e ← element name Unsigned
  Done (natural e.value)

-- a flag, u(1)
unfoldable pub flag : ElementName → Grammar Bool
flag name = do
  e ← element name (Fixed 1)
  Done (natural e.value == 1)

-- ue(v) of at most max
unfoldable pub unsigned_to : ElementName → ℕ → Grammar ℕ
unsigned_to name max = do
  e ← element name Unsigned
  _ ← check Range e.bit (nat_le (natural e.value) max)
  Done (natural e.value)

-- se(v), any value
unfoldable pub signed : ElementName → Grammar ℤ
signed name = do
  e ← element name Signed
  Done e.value

-- se(v) from min to max
unfoldable pub signed_within : ElementName → ℤ → ℤ → Grammar ℤ
signed_within name min max = do
  e ← element name Signed
  _ ← check Range e.bit (int_le min e.value)
  _ ← check Range e.bit (int_le e.value max)
  Done e.value

-- u(n) of which only this value is in the profile
unfoldable pub bits_must_be : ElementName → ℕ → ℕ → Grammar (Unit {0})
bits_must_be name n value = do
  e ← element name (Fixed n)
  check Tool e.bit (natural e.value == value)

-- ue(v) of which only 0 is in the profile
unfoldable pub unsigned_must_be_0 : ElementName → Grammar (Unit {0})
unsigned_must_be_0 name = do
  e ← element name Unsigned
  check Tool e.bit (natural e.value == 0)

-- a part that is there where a flag says so
unfoldable pub optional : {A : Type 0} → Bool → Grammar A → Grammar (Option A)
optional false part = Done None
optional true part = do
  x ← part
  Done (Some x)

-- n more of a part, after these
unfoldable pub repeated : {A : Type 0} → Grammar A → List A → ℕ → Grammar (List A)
repeated part before zero = Done before
repeated part before (suc n) = do
  x ← part
  repeated part (before ++ x ∷ []) n

-- an element of this form under each name in turn, after these
unfoldable pub each : {A : Type 0} → (ElementName → Grammar A) → List A → List ElementName → Grammar (List A)
each form before [] = Done before
each form before (name ∷ names) = do
  x ← form name
  each form (before ++ x ∷ []) names
