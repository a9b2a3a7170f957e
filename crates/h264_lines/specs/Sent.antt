-- What a writer holds that was sent bytes, where it tells what it holds. A working form.
use Rattle.std.specs.Prelude.{◌≡◌, ◌<◌, ℕ, Bool, true, false, List, ◌++◌, length, Option}
use Rattle.std.specs.Io.KnownBytes.{Appends}

-- A writer that is lent: the reference to it, the bytes that it took, where it tells them, and whether it has failed.
pub record LentWriter : Type 0 where
  pub reference : ℕ
  pub bytes : Option (List ℕ)
  pub has_failed : Bool

abbrev pub lent : (reference : ℕ) → (bytes : Option (List ℕ)) → (has_failed : Bool) → LentWriter
lent reference bytes has_failed = record { reference = reference; bytes = bytes; has_failed = has_failed }

-- A writer from one time to another: the bytes that it took, where it tells them, as they were and as they are.
pub record WriterSpan : Type 0 where
  pub old : Option (List ℕ)
  pub new : Option (List ℕ)

abbrev pub wrote : (old new : Option (List ℕ)) → WriterSpan
wrote old new = record { old = old; new = new }

-- part stands at the front of bytes, and is not all of them
pub record IsProperFront (part bytes : List ℕ) : Type 0 where
  pub rest : List ℕ
  pub whole : bytes ≡ part ++ rest
  pub more : 0 < length rest

-- the writer took these bytes
pub record Sends (old new : Option (List ℕ)) (bytes : List ℕ) : Type 0 where
  pub appends : Appends old new bytes

-- the writer took the first of these bytes, or all
pub record SendsSome (old new : Option (List ℕ)) (bytes : List ℕ) : Type 0 where
  pub part : List ℕ
  pub rest : List ℕ
  pub whole : bytes ≡ part ++ rest
  pub appends : Appends old new part

-- the writer took a part of these bytes
pub record SendsFront (old new : Option (List ℕ)) (bytes : List ℕ) : Type 0 where
  pub part : List ℕ
  pub proper : IsProperFront part bytes
  pub appends : Appends old new part

-- The writer took these bytes; or, where not all was written, the first of them.
abbrev pub Takes : Bool → Option (List ℕ) → Option (List ℕ) → List ℕ → Type 0
Takes true old new bytes = Sends old new bytes
Takes false old new bytes = SendsSome old new bytes

-- The writer took these bytes; or, where it broke off, a part of them.
abbrev pub SendsOrBreaksOff : Bool → Option (List ℕ) → Option (List ℕ) → List ℕ → Type 0
SendsOrBreaksOff false old new bytes = Sends old new bytes
SendsOrBreaksOff true old new bytes = SendsFront old new bytes

-- A device has failed where a call broke off; else it has failed where it had before.
abbrev pub IsBlamed : (broke_off was_failed failed : Bool) → Type 0
IsBlamed true was_failed failed = failed ≡ true
IsBlamed false was_failed failed = failed ≡ was_failed
