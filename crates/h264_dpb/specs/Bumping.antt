-- To be read beside the standard. The order of output (C.4.4, C.4.5.3), as steps on the list of frames in the buffer, in decoding order. What names a
-- picture is left open.
use Rattle.std.specs.Prelude.{ℕ, zero, suc, nat_lt, ◌==◌, ◌&&◌, ◌||◌, Bool, true, false, Option, Some, None, List, [], ◌∷◌, ◌++◌, map, length, ℤ, int_lt}
use Rattle.std.specs.Prelude.{if◌then◌else◌}
use Rattle.std.specs.List.{filter, list_any, count_by}
use Rattle.std.specs.Int.{int_min}
use Rattle.std.specs.Option.{is_none}
use Rattle.std.specs.Ordering.{int_eq}
use Rattle.h264_dpb.specs.declared.entry.Entry.{Entry}

-- what a step writes, in order, and what it leaves in the buffer
pub record Step (N : Type 0) : Type 0 where
  pub written : List (Entry N)
  pub entries : List (Entry N)

abbrev pub leaves : {N : Type 0} → List (Entry N) → Step N
leaves es = record { written = []; entries = es }

-- one step, and the next one on what it leaves
abbrev pub and_then : {N : Type 0} → Step N → (List (Entry N) → Step N) → Step N
and_then s next = record { written = s.written ++ (next s.entries).written; entries = (next s.entries).entries }

abbrev pub in_front : {N : Type 0} → Entry N → Step N → Step N
in_front e s = record s { entries = e ∷ s.entries }

-- the least count of the frames that wait
abbrev pub least_with : ℤ → Option ℤ → ℤ
least_with c None = c
least_with c (Some d) = int_min c d

abbrev pub least_count : {N : Type 0} → List (Entry N) → Option ℤ
least_count [] = None
least_count (e ∷ es) = if e.waiting then Some (least_with e.count (least_count es)) else least_count es

-- it waits, and has this count
abbrev pub is_next : {N : Type 0} → ℤ → Entry N → Bool
is_next c e = e.waiting && int_eq e.count c

-- A frame that was written stays where it is used for reference.
abbrev pub left_of : {N : Type 0} → Entry N → List (Entry N)
left_of e = if e.reference then record e { waiting = false } ∷ [] else []

-- the first of these frames that waits and has this count is written
abbrev pub written_at : {N : Type 0} → ℤ → List (Entry N) → Step N
written_at c [] = leaves []
written_at c (e ∷ es) = if is_next c e then record { written = e ∷ []; entries = left_of e ++ es } else in_front e (written_at c es)

abbrev pub written_by : {N : Type 0} → Option ℤ → List (Entry N) → Step N
written_by None es = leaves es
written_by (Some c) es = written_at c es

-- One output: the frame with the least count of those that wait; of the same count the first in decoding order.
unfoldable pub bumped : {N : Type 0} → List (Entry N) → Step N
bumped es = written_by (least_count es) es

-- Frames are output, at most n, until one of so many places is free.
unfoldable pub made_room : {N : Type 0} → ℕ → ℕ → List (Entry N) → Step N
made_room zero places es = leaves es
made_room (suc n) places es = if nat_lt (length es) places then leaves es else and_then (bumped es) (made_room n places)

-- its count is below that of every frame that waits
abbrev pub is_below : ℤ → Option ℤ → Bool
is_below c None = true
is_below c (Some least) = int_lt c least

abbrev pub joins : {N : Type 0} → Entry N → List (Entry N) → Step N
joins e es = leaves (es ++ e ∷ [])

-- A frame that is not used for reference: it is stored where a place is free; else it is written at once where its count is below
-- that of every frame that waits; else there is one output, and again, at most n times.
unfoldable pub placed : {N : Type 0} → ℕ → ℕ → Entry N → List (Entry N) → Step N
placed zero places e es = if nat_lt (length es) places then joins e es else record { written = e ∷ []; entries = es }
placed (suc n) places e es =
    if nat_lt (length es) places then joins e es
    else (if is_below e.count (least_count es) then record { written = e ∷ []; entries = es }
    else and_then (bumped es) (placed n places e))

-- what is held for reference: the number of each picture, and none for a frame that does not exist
abbrev pub is_picture : ℕ → Option ℕ → Bool
is_picture k None = false
is_picture k (Some held) = held == k

abbrev pub is_held : List (Option ℕ) → ℕ → Bool
is_held held k = list_any (is_picture k) held

-- the frames that do not exist take places too
abbrev pub missing_in : List (Option ℕ) → ℕ
missing_in held = count_by is_none held

abbrev pub marked_by : {N : Type 0} → (N → Bool) → Entry N → Entry N
marked_by held e = record e { reference = held e.of }

abbrev pub is_in_use : {N : Type 0} → Entry N → Bool
is_in_use e = e.waiting || e.reference

-- Once these are held, the other frames are not used for reference any more, and those that do not wait leave the buffer.
unfoldable pub marked : {N : Type 0} → (N → Bool) → List (Entry N) → List (Entry N)
marked held es = filter is_in_use (map (marked_by held) es)

-- all that wait are written
unfoldable pub emptied : {N : Type 0} → List (Entry N) → Step N
emptied es = made_room (length es) 0 es

-- A frame that is used for reference, once it is marked, in a buffer of so many places for pictures.
unfoldable pub stored_reference : {N : Type 0} → ℕ → Entry N → List (Entry N) → Step N
stored_reference places e es = and_then (made_room (length es) places es) (joins e)

unfoldable pub stored_other : {N : Type 0} → ℕ → Entry N → List (Entry N) → Step N
stored_other places e es = placed (length es) places e es

-- the frames without the one at a place, or with it if it is used for reference
abbrev pub left_at : {N : Type 0} → List (Entry N) → ℕ → List (Entry N)
left_at [] k = []
left_at (e ∷ es) zero = left_of e ++ es
left_at (e ∷ es) (suc k) = e ∷ left_at es k

-- All that wait are written, or they are dropped; nothing stays.
unfoldable pub flushed : {N : Type 0} → Bool → List (Entry N) → Step N
flushed write es = record { written = if write then (emptied es).written else []; entries = [] }
