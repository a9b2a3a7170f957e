-- What a source gives: its bytes, and whether it said its end. A working form.
use Rattle.std.specs.Prelude.{◌≡◌, ℕ, Bool, true, false, List, [], ◌++◌, Option, Some}
use Rattle.h264_base.specs.Call.{IsQuiet}

-- These bytes are the first of those that are left, where these are known, and all of them where the end was said.
abbrev pub AreFirst : Option (List ℕ) → List ℕ → (ended : Bool) → Type 0
AreFirst left bytes ended = (known : List ℕ) → left ≡ Some known → (rest : List ℕ) × (known ≡ bytes ++ rest) × (ended ≡ true → rest ≡ [])

-- A source from one read of it to another: the bytes that are left, what it gave and whether it said its end, and how often it failed,
-- as it was and as it is.
pub record SourceSpan (R : Type 0) : Type 1 where
  pub left : R → Option (List ℕ)
  pub gave : R → List ℕ → Bool → Type 0
  pub failures : R → ℕ
  pub old : R
  pub new : R

abbrev pub source_span : {R : Type 0} → (R → Option (List ℕ)) → (R → List ℕ → Bool → Type 0) → (R → ℕ) → R → R → SourceSpan R
source_span left gave failures old new = record { left = left; gave = gave; failures = failures; old = old; new = new }

-- From old, where the end was not said, to new a source gave these bytes, and then said its end or not.
pub record Gives {R : Type 0} (r : SourceSpan R) (bytes : List ℕ) (ended : Bool) : Type 0 where
  -- it gave them after all that it gave before
  pub so_far : (before : List ℕ) → r.gave r.old before false → r.gave r.new (before ++ bytes) ended
  -- They are the first that were left, and the others are left now unless a read failed.
  pub first : (known : List ℕ) → r.left r.old ≡ Some known → (rest : List ℕ) × (known ≡ bytes ++ rest) × (ended ≡ true → rest ≡ [])
      × (IsQuiet r.failures r.old r.new → r.left r.new ≡ Some rest)
