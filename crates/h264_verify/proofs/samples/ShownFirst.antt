-- The frames that the buffer holds and writes are of the pictures so far.
use Rattle.std.proofs.Common.{◌≡◌, ℕ, ◌<◌, ◌≤◌, Bool, true, false, not, List, [], ◌∷◌, length, Option, Some, None, refl, arith, if◌then◌else◌}
use Rattle.h264_marking.specs.Frames.{References}
use Rattle.h264_marking.specs.declared.frame.Numbering.{Numbering}
use Rattle.h264_marking.specs.Window.{filled}
use Rattle.h264_marking.specs.Ended.{numbering_of}
use Rattle.h264_dpb.specs.declared.entry.Entry.{Entry}
use Rattle.h264_dpb.specs.declared.ended.Ended.{Ended}
use Rattle.h264_dpb.specs.Bumping.{marked}
use Rattle.h264_dpb.specs.Buffered.{Buffered}
use Rattle.h264_dpb.specs.Ending.{ended_of}
use Rattle.h264_dpb.specs.Kept.{Each}
use Rattle.h264_dpb.specs.Turns.{Shown, Turn, turn_then, stays, still, entry_of, empties, flush_turn, reference_turn, other_turn, missing_turn, way_turn}
use Rattle.h264_dpb.specs.Turns.{store_turn, end_turn, last_turn}
use Rattle.h264_dpb.proofs.Every.{each-append, each-marked, both-flushed, both-made_room, both-reference, both-other}
use Rattle.h264_verify.specs.Pictures.{CodedPicture, held_after}
use Rattle.h264_verify.specs.Buffering.{gap_on, gaps_turn, missing_before, gaps_before, ended_picture, ended_turn, after_all, within_newest}

-- ---- frames in the buffer

-- a picture among the first, so many
abbrev pub IsFirst : ℕ → Shown → Type 0
IsFirst n s = s.picture < n

-- all that is written and left is of the first pictures
abbrev pub TurnOf : ℕ → Turn → Type 0
TurnOf n t = Each (IsFirst n) t.written × Each (IsFirst n) t.buffer.entries

each-more : (m n : ℕ) (es : List (Entry Shown)) → m ≤ n → Each (IsFirst m) es → Each (IsFirst n) es
each-more m n [] l h = tt
each-more m n (e ∷ es) l h = (omega (arith, l, h.0), each-more m n es l h.1)

turn-more : (m n : ℕ) (t : Turn) → m ≤ n → TurnOf m t → TurnOf n t
turn-more m n t l h = (each-more m n t.written l h.0, each-more m n t.buffer.entries l h.1)

then-of : (n : ℕ) (t : Turn) (next : Buffered Shown → Turn) → TurnOf n t → TurnOf n (next t.buffer) → TurnOf n (turn_then t next)
then-of n t next h k = (each-append (IsFirst n) t.written (next t.buffer).written h.0 k.0, k.1)

flush-of : (n : ℕ) (write : Bool) (size : ℕ) (b : Buffered Shown) → Each (IsFirst n) b.entries → TurnOf n (flush_turn write size b)
unfolding flush_turn
flush-of n write size b h = both-flushed (IsFirst n) write b.entries h

way-by : (n : ℕ) (b : Bool) (s t : Turn) → TurnOf n s → TurnOf n t → TurnOf n (if b then s else t)
way-by n true s t h k = h
way-by n false s t h k = k

way-of : (n : ℕ) (p : Ended) (b : Buffered Shown) → Each (IsFirst n) b.entries → TurnOf n (way_turn p b)
unfolding way_turn
way-of n p b h = way-by n (empties p) (flush_turn (not p.drops) p.size b) (stays b) (flush-of n (not p.drops) p.size b h) (tt, h)

pub missing-first : (n : ℕ) (refs : References) (b : Buffered Shown) → Each (IsFirst n) b.entries → TurnOf n (missing_turn refs b)
unfolding missing_turn
missing-first n refs b h = both-made_room (IsFirst n) _ _ (marked (still refs) b.entries) (each-marked (IsFirst n) (still refs) b.entries h)

reference-of : (n : ℕ) (e : Entry Shown) (refs : References) (b : Buffered Shown) → e.of.picture < n → Each (IsFirst n) b.entries →
    TurnOf n (reference_turn e refs b)
unfolding reference_turn
reference-of n e refs b l h = both-reference (IsFirst n) _ e (marked (still refs) b.entries) l (each-marked (IsFirst n) (still refs) b.entries h)

other-of : (n : ℕ) (e : Entry Shown) (b : Buffered Shown) → e.of.picture < n → Each (IsFirst n) b.entries → TurnOf n (other_turn e b)
unfolding other_turn
other-of n e b l h = both-other (IsFirst n) _ e b.entries l h

store-of : (n : ℕ) (p : Ended) (refs : References) (b : Buffered Shown) → p.picture < n → Each (IsFirst n) b.entries → TurnOf n (store_turn p refs b)
unfolding store_turn
store-of n p refs b l h = way-by n p.reference (reference_turn (entry_of p) refs b) (other_turn (entry_of p) b) (reference-of n (entry_of p) refs b l h)
    (other-of n (entry_of p) b l h)

end-turn-of : (n : ℕ) (p : Ended) (refs : References) (b : Buffered Shown) → p.picture < n → Each (IsFirst n) b.entries → TurnOf n (end_turn p refs b)
end-turn-of n p refs b l h =
    let way = way-of n p b h in
    then-of n (way_turn p b) (store_turn p refs) way (store-of n p refs (way_turn p b).buffer l way.1)

-- ---- those of a stream

number-is : (p : CodedPicture) (ps : List CodedPicture) → (ended_picture p ps).picture ≡ length ps
unfolding ended_of
number-is p ps = refl

gaps-of : (n : ℕ) (current : Numbering) (numbers : List ℕ) (refs : References) (b : Buffered Shown) → Each (IsFirst n) b.entries →
    TurnOf n (gaps_turn current numbers refs b)
gaps-of n current [] refs b h = (tt, h)
gaps-of n current (number ∷ numbers) refs b h = by (filled (record current { frame_num = number }) refs) (gaps-of n current numbers)
  where
    by : (o : Option References) → ((held : References) (left : Buffered Shown) → Each (IsFirst n) left.entries →
        TurnOf n (gaps_turn current numbers held left)) → TurnOf n (gap_on o (λ held. turn_then (missing_turn held b) (gaps_turn current numbers held)) b)
    by None more = (tt, h)
    by (Some held) more = let one = missing-first n held b h in
        then-of n (missing_turn held b) (gaps_turn current numbers held) one (more held (missing_turn held b).buffer one.1)

pub ended-first : (p : CodedPicture) (ps : List CodedPicture) (b : Buffered Shown) → Each (IsFirst (length ps)) b.entries →
    TurnOf (length (p ∷ ps)) (ended_turn p ps b)
ended-first p ps b h =
    let number = number-is p ps in
    end-turn-of (length (p ∷ ps)) (ended_picture p ps) _ b (omega (arith, number)) (each-more (length ps) (length (p ∷ ps)) b.entries (omega arith) h)

within-by : (p : CodedPicture) (ps : List CodedPicture) → TurnOf (length ps) (after_all ps) → TurnOf (length ps) (within_newest (p ∷ ps))
within-by p ps h = then-of (length ps) (after_all ps) (gaps_before p ps) h
    (gaps-of (length ps) (numbering_of p.first.sps p.first.header) (missing_before p ps) (held_after ps) (after_all ps).buffer h.1)

-- the frames that are written and that wait are of the pictures so far
pub after-first : (ps : List CodedPicture) → TurnOf (length ps) (after_all ps)
after-first [] = (tt, tt)
after-first (p ∷ ps) =
    let within = within-by p ps (after-first ps) in
    then-of (length (p ∷ ps)) (within_newest (p ∷ ps)) (ended_turn p ps)
    (turn-more (length ps) (length (p ∷ ps)) (within_newest (p ∷ ps)) (omega arith) within) (ended-first p ps (within_newest (p ∷ ps)).buffer within.1)

pub within-first : (p : CodedPicture) (ps : List CodedPicture) → TurnOf (length ps) (within_newest (p ∷ ps))
within-first p ps = within-by p ps (after-first ps)

-- those that are written at the end of the input
pub last-first : (pictures : List CodedPicture) → Each (IsFirst (length pictures)) (last_turn (after_all pictures).buffer).written
last-first pictures = (flush-of (length pictures) true 1 (after_all pictures).buffer (after-first pictures).1).0
