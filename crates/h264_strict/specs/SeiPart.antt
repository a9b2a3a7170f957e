-- Parts of a payload, read from a bit of the RBSP on. To be read beside the standard.
use Rattle.std.specs.Prelude.{ℕ, zero, suc, Bool, List, Option, Some, None, nat_le, if◌then◌else◌}
use Rattle.std.specs.Option.{option_map, option_and_then}
use Rattle.h264_base.specs.Word.{Code, Fixed, Unsigned, value_at}
use Rattle.h264_bits.specs.Forms.{natural}

-- A part: what it gives, and the bit after it. None where it does not stand there, or a value is out of its range.
abbrev pub Part : Type 0 → Type 0
Part A = List ℕ → ℕ → Option (A × ℕ)

-- one part, and then another, which may depend on what the first gives
infixl 10 ◌>>=◌
abbrev pub ◌>>=◌ : {A B : Type 0} → Part A → (A → Part B) → Part B
(p >>= f) bytes i = option_and_then (λ x. f x.0 bytes x.1) (p bytes i)

-- nothing is read
abbrev pub give : {A : Type 0} → A → Part A
give x bytes i = Some (x, i)

-- a part of which no value is told
abbrev pub passed : {A : Type 0} → Part A → Part (Unit {0})
passed part = do
  _ ← part
  give tt

-- a test that has to hold
abbrev pub must : Bool → Part (Unit {0})
must holds bytes i = if holds then Some (tt, i) else None

-- an element that is not negative
abbrev pub element : Code → Part ℕ
element code bytes i = option_map (λ x. (natural x.0, x.1)) (value_at code bytes i)

-- u(n), and ue(v)
abbrev pub u : ℕ → Part ℕ
u n = element (Fixed n)

abbrev pub ue : Part ℕ
ue = element Unsigned

-- one of at most max
abbrev pub u_to : ℕ → ℕ → Part ℕ
u_to n max = do
  v ← u n
  _ ← must (nat_le v max)
  give v

abbrev pub ue_to : ℕ → Part ℕ
ue_to max = do
  v ← ue
  _ ← must (nat_le v max)
  give v

-- a part that is there where a flag says so
abbrev pub when : Bool → Part (Unit {0}) → Part (Unit {0})
when there part bytes i = if there then part bytes i else Some (tt, i)

-- a part so many times
unfoldable pub times : ℕ → Part (Unit {0}) → Part (Unit {0})
times zero part = give tt
times (suc n) part = do
  _ ← part
  times n part

-- what a reader has read: its answer, and the bit that is read next
abbrev pub read_so : {A : Type 0} → Option A → ℕ → Option (A × ℕ)
read_so None j = None
read_so (Some x) j = Some (x, j)
