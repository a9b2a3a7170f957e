-- What is known of files that are opened and read. A working form.
use Rattle.std.specs.Prelude.{◌≡◌, ℕ, ◌+◌, ◌-◌, ◌<◌, ◌≤◌, ◌^◌, Bool, List, Option, Some, None, Result, IsErrOf, ◌⊎◌, min, if◌then◌else◌}
use Rattle.h264_base.specs.declared.stop.Stop.{Stop}
use Rattle.h264_base.specs.declared.stop.Stop.TheVariants.{Read, Write}
use Rattle.h264_base.specs.declared.summary.Summary.{Summary}

-- the bytes that the open file will give, where there is one and it tells them
abbrev pub left_of : {F : Type 0} → (F → Option (List ℕ)) → Option F → Option (List ℕ)
left_of remaining None = None
left_of remaining (Some file) = remaining file

-- a count with one more, where there is one; it stays below 2^64
abbrev pub one_more : Bool → ℕ → ℕ
one_more more n = if more then min (n + 1) (2 ^ 64 - 1) else n

-- A file was read so often, which is less than 2^41 times; or it could not be opened or read.
abbrev pub was_read_by : (reads failures : ℕ) → ℕ → Type 0
was_read_by reads failures n = ((n ≤ reads) × (n < 2 ^ 41)) ⊎ (0 < failures)

-- One could not be opened or read, or was read too often.
abbrev pub HasFailedToRead : (failures failures' : ℕ) (was_read was_read' : ℕ → Type 0) → Type 0
HasFailedToRead failures failures' was_read was_read' = (failures' ≡ failures + 1) ⊎ ((n : ℕ) → was_read n → was_read' (n + 2 ^ 41))

-- The open file could not be opened or read since these counts of failures and of reads, or was read too often.
abbrev pub IsUnread : (failures reads failures' reads' : ℕ) → Type 0
IsUnread failures reads failures' reads' = HasFailedToRead failures failures' (was_read_by reads failures) (was_read_by reads' failures')

-- None failed to be opened or read.
abbrev pub HasReadAll : (failures failures' : ℕ) → Type 0
HasReadAll failures failures' = failures' ≡ failures

-- Where one failed, it is told that a read did.
abbrev pub TellsUnread : (failures failures' : ℕ) → Result Summary Stop → Type 0
TellsUnread failures failures' answer = HasReadAll failures failures' ⊎ IsErrOf answer Read

-- Where one failed, it is told that a read did, or that a write failed too.
abbrev pub TellsFailure : (failures failures' : ℕ) → Result Summary Stop → Type 0
TellsFailure failures failures' answer = HasReadAll failures failures' ⊎ (IsErrOf answer Read ⊎ IsErrOf answer Write)

-- what is counted of files: how often the open one could not be opened or read, how often it was read, and how many of those that were closed could not be
-- opened or read, or were read too often
pub record Counts : Type 0 where
  pub failures : ℕ
  pub reads : ℕ
  pub unread : ℕ

abbrev pub counts : (failures reads unread : ℕ) → Counts
counts failures reads unread = record { failures = failures; reads = reads; unread = unread }
