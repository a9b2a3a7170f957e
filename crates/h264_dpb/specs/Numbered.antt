-- Numbers and places of the frames in the buffer. A working form.
use Rattle.std.specs.Prelude.{ℕ, ◌+◌, ◌≤◌, ◌==◌, Bool, Option, Some, None, List, [], ◌∷◌, if◌then◌else◌}
use Rattle.std.specs.List.{list_any}
use Rattle.h264_dpb.specs.declared.entry.Entry.{Entry}
use Rattle.h264_dpb.specs.declared.entry.Placed.{Placed}

-- the pictures stand in decoding order: their numbers rise from one to below another
abbrev pub AreRising : {N : Type 0} → (N → ℕ) → ℕ → List (Entry N) → ℕ → Type 0
AreRising number low [] high = low ≤ high
AreRising number low (e ∷ es) high = (low ≤ number e.of) × AreRising number (number e.of + 1) es high

abbrev pub number_of : Placed → ℕ
number_of n = n.picture

-- whether a frame of the buffer stands at a place
abbrev pub is_at : ℕ → Entry Placed → Bool
is_at place e = e.of.place == place

abbrev pub is_taken : List (Entry Placed) → ℕ → Bool
is_taken es place = list_any (is_at place) es

-- the place of the frame of a picture, by its number
abbrev pub place_in : List (Entry Placed) → ℕ → Option ℕ
place_in [] n = None
place_in (e ∷ es) n = if e.of.picture == n then Some e.of.place else place_in es n
