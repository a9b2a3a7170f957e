-- The decoded picture buffer of a stream (C.4.2, C.4.4, C.4.5): what is written, and what stays. To be read beside the standard.
use Rattle.std.specs.Prelude.{ℕ, ◌||◌, not, Bool, true, Option, List, [], ◌++◌, map, if◌then◌else◌}
use Rattle.h264_marking.specs.Frames.{References}
use Rattle.h264_dpb.specs.declared.entry.Entry.{Entry}
use Rattle.h264_dpb.specs.declared.entry.Rectangle.{Rectangle}
use Rattle.h264_dpb.specs.Bumping.{Step, flushed, is_held, missing_in}
use Rattle.h264_dpb.specs.Buffered.{Buffered, reference_step, other_step, missing_step}
use Rattle.h264_dpb.specs.declared.ended.Ended.{Ended}

-- a picture by its number in decoding order, and what is shown of its frame
pub record Shown : Type 0 where
  pub picture : ℕ
  pub rectangle : Rectangle

-- what is written, in order, and the buffer that is left
pub record Turn : Type 0 where
  pub written : List (Entry Shown)
  pub buffer : Buffered Shown

abbrev pub turn_then : Turn → (Buffered Shown → Turn) → Turn
turn_then t next = record { written = t.written ++ (next t.buffer).written; buffer = (next t.buffer).buffer }

abbrev pub stays : Buffered Shown → Turn
stays b = record { written = []; buffer = b }

-- a step that leaves so many frames that do not exist, in a buffer of so many places
abbrev pub turn_of : Step Shown → ℕ → ℕ → Turn
turn_of s missing size = record { written = s.written; buffer = record { entries = s.entries; missing = missing; size = size } }

-- what is held for reference, by number; none for a frame that does not exist
abbrev pub names : References → List (Option ℕ)
names refs = map (λ f. f.picture) refs.frames

abbrev pub still : References → Shown → Bool
still refs n = is_held (names refs) n.picture

-- before the first picture
abbrev pub no_buffer : Buffered Shown
no_buffer = record { entries = []; missing = 0; size = 1 }

-- all that waits is written, or not, and the buffer has this size then
unfoldable pub flush_turn : Bool → ℕ → Buffered Shown → Turn
flush_turn write size b = turn_of (flushed write b.entries) 0 size

-- a picture that is used for reference, where these are held once it is marked (C.4.5.1)
unfoldable pub reference_turn : Entry Shown → References → Buffered Shown → Turn
reference_turn e refs b = turn_of (reference_step e (still refs) (missing_in (names refs)) b) (missing_in (names refs)) b.size

-- a picture that is not (C.4.5.2)
unfoldable pub other_turn : Entry Shown → Buffered Shown → Turn
other_turn e b = turn_of (other_step e b) b.missing b.size

-- the frame of a missing frame_num, where these are held with it (C.4.2)
unfoldable pub missing_turn : References → Buffered Shown → Turn
missing_turn refs b = turn_of (missing_step (still refs) (missing_in (names refs)) b) (missing_in (names refs)) b.size

abbrev pub entry_of : Ended → Entry Shown
entry_of p = record { of = record { picture = p.picture; rectangle = p.rectangle }; count = p.count; waiting = true; reference = p.reference }

-- an IDR picture and operation 5 empty the buffer first (C.4.4, C.4.5.3)
abbrev pub empties : Ended → Bool
empties p = p.idr || p.resets

unfoldable pub way_turn : Ended → Buffered Shown → Turn
way_turn p b = if empties p then flush_turn (not p.drops) p.size b else stays b

unfoldable pub store_turn : Ended → References → Buffered Shown → Turn
store_turn p refs b = if p.reference then reference_turn (entry_of p) refs b else other_turn (entry_of p) b

-- The end of a picture, once it is marked and these are held.
abbrev pub end_turn : Ended → References → Buffered Shown → Turn
end_turn p refs b = turn_then (way_turn p b) (store_turn p refs)

-- The end of the input: all that waits is written.
abbrev pub last_turn : Buffered Shown → Turn
last_turn b = flush_turn true 1 b
