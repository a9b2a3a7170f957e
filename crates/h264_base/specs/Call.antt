-- What a sink is told. A working form.
use Rattle.std.specs.Prelude.{◌≡◌, ℕ, ◌-◌, ◌<◌, ◌^◌, ℤ, List, ◌++◌}
use Rattle.h264_base.specs.declared.element_name.ElementName.{ElementName}
use Rattle.h264_base.specs.declared.mode.SliceType.{SliceType}

-- a call of a sink
pub data Call : Type 0 where
  -- a unit: the byte of the stream where it begins, nal_unit_type, nal_ref_idc, and its length in bytes
  OfUnit : ℕ → ℕ → ℕ → ℕ → Call
  -- a slice: the byte where its unit begins, first_mb_in_slice, its type, frame_num, and the picture's order count
  OfSlice : ℕ → ℕ → SliceType → ℕ → ℤ → Call
  -- an element: its name, the stream bit where it begins, and its value
  OfElement : ElementName → ℕ → ℤ → Call
  -- a frame: its order count, its width and height in luma samples, and the rows of Y, then Cb, then Cr
  OfFrame : ℤ → ℕ → ℕ → List ℕ → Call

-- from old to new a sink took these calls, whatever it had taken before
pub record Tells {S : Type 0} (took : S → List Call → Type 0) (old new : S) (calls : List Call) : Type 0 where
  pub told : (before : List Call) → took old before → took new (before ++ calls)

-- the sink took only the first of these calls
pub record TellsFront {S : Type 0} (took : S → List Call → Type 0) (old new : S) (calls : List Call) : Type 0 where
  pub front : List Call
  pub rest : List Call
  pub whole : calls ≡ front ++ rest
  pub tells : Tells took old new front

-- A sink from one call of it to another: what it took and how often it failed, as it was and as it is.
pub record SinkSpan (S Call : Type 0) : Type 1 where
  pub took : S → List Call → Type 0
  pub failures : S → ℕ
  pub old : S
  pub new : S

abbrev pub span : {S Call : Type 0} → (S → List Call → Type 0) → (S → ℕ) → S → S → SinkSpan S Call
span took failures old new = record { took = took; failures = failures; old = old; new = new }

-- One more failure can be counted in 64 bits.
abbrev pub HasRoom : {S : Type 0} → (S → ℕ) → S → Type 0
HasRoom failures s = failures s < 2 ^ 64 - 1

-- no call failed from old to new
abbrev pub IsQuiet : {S : Type 0} → (S → ℕ) → S → S → Type 0
IsQuiet failures old new = failures new ≡ failures old
