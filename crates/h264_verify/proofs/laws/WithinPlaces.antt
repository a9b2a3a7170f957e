-- The buffer stays within its places.
use Rattle.std.proofs.Common.{◌≡◌, ℕ, ◌+◌, ◌-◌, ◌<◌, ◌≤◌, ◌||◌, not, Bool, true, false, List, [], ◌∷◌, ◌++◌, length, length-append, Option, Some, None, refl}
use Rattle.std.proofs.Common.{ap, sym, ◌∙◌, subst, arith, if◌then◌else◌}
use Rattle.std.proofs.lemmas.List.{append-nil, length-map}
use Rattle.std.specs.Option.{is_some}
use Rattle.h264_base.proofs.Chains.{then-some}
use Rattle.h264_header.specs.Picture.{is_idr, is_reference}
use Rattle.h264_sps.specs.declared.sps.Sps.{Sps}
use Rattle.h264_marking.specs.declared.frame.Numbering.{Numbering}
use Rattle.h264_marking.specs.Frames.{References, frame_places}
use Rattle.h264_marking.specs.Window.{filled}
use Rattle.h264_marking.specs.Gaps.{all_filled, unused_short_term_frame_nums}
use Rattle.h264_marking.specs.Ended.{numbering_of, resets}
use Rattle.h264_marking.proofs.Room.{filled-room}
use Rattle.h264_picture.specs.Buffer.{buffer_size}
use Rattle.h264_dpb.specs.declared.entry.Entry.{Entry}
use Rattle.h264_dpb.specs.declared.ended.Ended.{Ended}
use Rattle.h264_dpb.specs.Ending.{ended_of}
use Rattle.h264_dpb.specs.Bumping.{is_held, missing_in, made_room, marked, stored_reference, stored_other, flushed}
use Rattle.h264_dpb.specs.Buffered.{Buffered, StaysWithin}
use Rattle.h264_dpb.specs.Numbered.{AreRising}
use Rattle.h264_dpb.specs.Turns.{Shown, Turn, turn_then, stays, names, still, missing_turn, flush_turn, reference_turn, other_turn, empties, entry_of}
use Rattle.h264_dpb.specs.Turns.{way_turn, store_turn}
use Rattle.h264_dpb.proofs.Room.{short-placed}
use Rattle.h264_dpb.proofs.Bounded.{used-marked, made_room-frees}
use Rattle.h264_dpb.proofs.Rising.{marked-counted, few, few-other, rising-made_room, rising-marked, rising-reference, rising-other}
use Rattle.h264_verify.specs.Pictures.{CodedPicture, held_after, prev_ref_frame_num_of}
use Rattle.h264_verify.specs.Buffering.{gap_on, gaps_turn, missing_before, ended_picture, after_all, within_newest}
use Rattle.h264_verify.specs.Sound.{HasSet, Follows, AreSound}
use Rattle.h264_verify.proofs.laws.SoundPictures.{set-few, places-fit, after-few, after-among}
use Rattle.h264_verify.proofs.judged.MissingNumbers.{some-missing}
use Rattle.h264_base.proofs.Plain.{first-false}

abbrev number_of : Shown → ℕ
number_of n = n.picture

-- The pictures of a buffer stand in decoding order below a number, and it has so many places for them.
pub record Sits (n size : ℕ) (b : Buffered Shown) : Type 0 where
  pub rising : AreRising number_of 0 b.entries n
  pub within : StaysWithin b
  pub sized : b.size ≡ size

names-count : (refs : References) → length (names refs) ≡ length refs.frames
names-count refs = length-map refs.frames (λ f. f.picture)

-- ---- one step

missing-sits : (n size : ℕ) (refs : References) (b : Buffered Shown) → 0 < missing_in (names refs) → length refs.frames ≤ size → Sits n size b →
    Sits n size (missing_turn refs b).buffer
unfolding missing_turn
missing-sits n size refs b some most s =
    let left = marked (still refs) b.entries in
    let all = few number_of 0 n (names refs) b.entries s.rising in
    let count = marked-counted number_of (still refs) b.entries in
    let total = names-count refs in
    let sized = s.sized in
    let free = made_room-frees (b.size - (missing_in (names refs) - 1)) left (used-marked (still refs) b.entries)
    (omega (arith, all, count, total, most, some, sized)) in
    record {
      rising = rising-made_room number_of 0 n (length left) (b.size - (missing_in (names refs) - 1)) left
          (rising-marked number_of 0 n (still refs) b.entries s.rising);
      within = omega (arith, free, some, all, total, most, sized);
      sized = sized;
    }

reference-sits : (size : ℕ) (e : Entry Shown) (refs : References) (b : Buffered Shown) → is_held (names refs) e.of.picture ≡ true →
    length refs.frames ≤ size → Sits e.of.picture size b → Sits (e.of.picture + 1) size (reference_turn e refs b).buffer
unfolding reference_turn stored_reference
reference-sits size e refs b held most s =
    let left = marked (still refs) b.entries in
    let places = b.size - missing_in (names refs) in
    let all = few-other number_of 0 (names refs) e b.entries s.rising held in
    let count = marked-counted number_of (still refs) b.entries in
    let total = names-count refs in
    let sized = s.sized in
    let free = made_room-frees (b.size - missing_in (names refs)) left (used-marked (still refs) b.entries) (omega (arith, all, count, total, most, sized)) in
    let more = length-append (made_room (length left) places left).entries (e ∷ []) in
    record {
      rising = rising-reference number_of 0 e.of.picture places e left (omega arith) (rising-marked number_of 0 e.of.picture (still refs) b.entries s.rising);
      within = omega (arith, free, more, all, total, most, sized);
      sized = sized;
    }

other-sits : (size : ℕ) (e : Entry Shown) (b : Buffered Shown) → Sits e.of.picture size b → Sits (e.of.picture + 1) size (other_turn e b).buffer
unfolding other_turn stored_other
other-sits size e b s =
    let within = s.within in
    let short = short-placed (length b.entries) (b.size - b.missing) e b.entries (omega (arith, within)) in
    record {
      rising = rising-other number_of 0 e.of.picture (b.size - b.missing) e b.entries (omega arith) s.rising;
      within = omega (arith, short, within);
      sized = s.sized;
    }

flush-sits : (n size : ℕ) (write : Bool) (b : Buffered Shown) → Sits n size (flush_turn write size b).buffer
unfolding flush_turn flushed
flush-sits n size write b = record { rising = omega arith; within = omega arith; sized = refl }

way-sits : (n size : ℕ) (e : Ended) (b : Buffered Shown) → e.size ≡ size → (empties e ≡ false → Sits n size b) → Sits n size (way_turn e b).buffer
unfolding way_turn
way-sits n size e b z s = by (empties e) refl
  where
    by : (x : Bool) → empties e ≡ x → Sits n size (Turn.buffer (if x then flush_turn (not e.drops) e.size b else stays b))
    by true t = subst (λ (k : ℕ). Sits n k (flush_turn (not e.drops) e.size b).buffer) z (flush-sits n e.size (not e.drops) b)
    by false t = s t

store-sits : (size : ℕ) (e : Ended) (refs : References) (b : Buffered Shown) → (e.reference ≡ true → is_held (names refs) e.picture ≡ true) →
    length refs.frames ≤ size → Sits e.picture size b → Sits (e.picture + 1) size (store_turn e refs b).buffer
unfolding store_turn
store-sits size e refs b held most s = by e.reference refl
  where
    by : (x : Bool) → e.reference ≡ x → Sits (e.picture + 1) size (Turn.buffer (if x then reference_turn (entry_of e) refs b else other_turn (entry_of e) b))
    by true t = reference-sits size (entry_of e) refs b (held t) most s
    by false t = other-sits size (entry_of e) b s

-- ---- missing numbers, or the first of them

gaps-sits : (k size : ℕ) (n : Numbering) (numbers others : List ℕ) (refs next : References) (b : Buffered Shown) → all_filled n (numbers ++ others) refs ≡
    Some next → length refs.frames ≤ frame_places n.max_num_ref_frames → frame_places n.max_num_ref_frames ≤ size → Sits k size b →
    Sits k size (gaps_turn n numbers refs b).buffer
gaps-sits k size n [] others refs next b e few' fit s = s
gaps-sits k size n (number ∷ numbers) others refs next b e few' fit s =
    let one = then-some (all_filled n (numbers ++ others)) (filled (record n { frame_num = number }) refs) next e in
    let room = filled-room (record n { frame_num = number }) refs one.0 one.1 few' in
    subst (λ (o : Option References). Sits k size (gap_on o (λ held. turn_then (missing_turn held b) (gaps_turn n numbers held)) b).buffer) (sym one.1)
    (gaps-sits k size n numbers others one.0 next (missing_turn one.0 b).buffer one.2 room fit
    (missing-sits k size one.0 b (some-missing (record n { frame_num = number }) refs one.0 one.1) (omega (arith, room, fit)) s))

some-sits : (k size : ℕ) (n : Numbering) (numbers others : List ℕ) (refs : References) (b : Buffered Shown) (o : Option References) →
    all_filled n (numbers ++ others) refs ≡ o → is_some o ≡ true → length refs.frames ≤ frame_places n.max_num_ref_frames →
    frame_places n.max_num_ref_frames ≤ size → Sits k size b → Sits k size (gaps_turn n numbers refs b).buffer
some-sits k size n numbers others refs b None e t few' fit s = cc
some-sits k size n numbers others refs b (Some next) e t few' fit s = gaps-sits k size n numbers others refs next b e few' fit s

-- before an IDR picture there are none
none-missing : (idr : Bool) (prev : ℕ) (n : Numbering) → idr ≡ true → unused_short_term_frame_nums idr prev n ≡ []
none-missing true prev n e = refl
none-missing false prev n e = cc

none-first : (numbers others : List ℕ) → numbers ++ others ≡ [] → numbers ≡ []
none-first [] others e = refl
none-first (x ∷ numbers) others e = cc

-- so many places has the buffer once these have ended
abbrev pub places_after : List CodedPicture → ℕ
places_after [] = 1
places_after (p ∷ ps) = buffer_size p.first.sps

set-places : (sps : Sps) (ps : List CodedPicture) → HasSet sps ps → places_after ps ≡ buffer_size sps
set-places sps [] h = absurd h
set-places sps (p ∷ ps) h = ap (λ (x : Sps). buffer_size x) h

-- while missing numbers are filled before a picture
filling : (p : CodedPicture) (ps : List CodedPicture) (numbers others : List ℕ) → missing_before p ps ≡ numbers ++ others → Follows p ps → AreSound true ps →
    Sits (length ps) (places_after ps) (after_all ps).buffer →
    Sits (length ps) (places_after ps) (gaps_turn (numbering_of p.first.sps p.first.header) numbers (held_after ps) (after_all ps).buffer).buffer
filling p ps numbers others m f a s = by (is_idr p.first.header) refl
  where
    n : Numbering
    n = numbering_of p.first.sps p.first.header

    by : (x : Bool) → is_idr p.first.header ≡ x → Sits (length ps) (places_after ps) (gaps_turn n numbers (held_after ps) (after_all ps).buffer).buffer
    by true i =
        let none = none-first numbers others (sym m ∙ none-missing (is_idr p.first.header) (prev_ref_frame_num_of ps) n i) in
        subst (λ (l : List ℕ). Sits (length ps) (places_after ps) (gaps_turn n l (held_after ps) (after_all ps).buffer).buffer) (sym none) s
    by false i =
        let set = f.set i in
        let fit = places-fit p.first.sps f.usable in
        let places = set-places p.first.sps ps set in
        some-sits (length ps) (places_after ps) n numbers others (held_after ps) (after_all ps).buffer _
        (ap (λ (l : List ℕ). all_filled n l (held_after ps)) (sym m)) f.filled (set-few p.first.sps ps set a) (omega (arith, fit, places)) s

within-sits : (p : CodedPicture) (ps : List CodedPicture) → Follows p ps → AreSound true ps → Sits (length ps) (places_after ps) (after_all ps).buffer →
    Sits (length ps) (places_after ps) (within_newest (p ∷ ps)).buffer
within-sits p ps f a s = filling p ps (missing_before p ps) [] (sym (append-nil (missing_before p ps))) f a s

-- ---- the end of a picture

-- what the buffer is told of it
record IsTold (p : CodedPicture) (ps : List CodedPicture) (e : Ended) : Type 0 where
  reference : e.reference ≡ is_reference p.first.header
  number : e.picture ≡ length ps
  size : e.size ≡ buffer_size p.first.sps
  empty : empties e ≡ (is_idr p.first.header || resets p.first.header.marking)

is-told : (p : CodedPicture) (ps : List CodedPicture) → IsTold p ps (ended_picture p ps)
unfolding ended_of
is-told p ps = record { reference = refl; number = refl; size = refl; empty = refl }

ended-sits : (p : CodedPicture) (ps : List CodedPicture) (e : Ended) (b : Buffered Shown) → IsTold p ps e → AreSound true (p ∷ ps) →
    Sits (length ps) (places_after ps) b →
    Sits (length ps + 1) (buffer_size p.first.sps) (turn_then (way_turn e b) (store_turn e (held_after (p ∷ ps)))).buffer
ended-sits p ps e b o s h =
    let before : empties e ≡ false → Sits e.picture (buffer_size p.first.sps) b = λ t.
    let same = set-places p.first.sps ps (s.0.set (first-false (is_idr p.first.header) _ (sym o.empty ∙ t))) in
    subst (λ (k : ℕ). Sits k (buffer_size p.first.sps) b) (sym o.number) (subst (λ (k : ℕ). Sits (length ps) k b) same h)
    in
    let held : e.reference ≡ true → is_held (names (held_after (p ∷ ps))) e.picture ≡ true = λ r.
    subst (λ (k : ℕ). is_held (names (held_after (p ∷ ps))) k ≡ true) (sym o.number) (after-among p ps s (sym o.reference ∙ r))
    in
    subst (λ (k : ℕ). Sits (k + 1) (buffer_size p.first.sps) (turn_then (way_turn e b) (store_turn e (held_after (p ∷ ps)))).buffer) o.number
    (store-sits (buffer_size p.first.sps) e (held_after (p ∷ ps)) (way_turn e b).buffer held (after-few p ps s)
    (way-sits e.picture (buffer_size p.first.sps) e b o.size before))

-- ---- all pictures

pub after-sits : (pictures : List CodedPicture) → AreSound true pictures → Sits (length pictures) (places_after pictures) (after_all pictures).buffer
after-sits [] s = record { rising = omega arith; within = omega arith; sized = refl }
after-sits (p ∷ ps) s =
    subst (λ (k : ℕ). Sits k (buffer_size p.first.sps) (after_all (p ∷ ps)).buffer) (omega arith)
    (ended-sits p ps (ended_picture p ps) (within_newest (p ∷ ps)).buffer (is-told p ps) s (within-sits p ps s.0 s.2 (after-sits ps s.2)))

-- while missing numbers are filled before the newest, and while it is decoded
pub filling-sits : (ended : Bool) (p : CodedPicture) (ps : List CodedPicture) (numbers others : List ℕ) → AreSound ended (p ∷ ps) →
    missing_before p ps ≡ numbers ++ others →
    Sits (length ps) (places_after ps) (gaps_turn (numbering_of p.first.sps p.first.header) numbers (held_after ps) (after_all ps).buffer).buffer
filling-sits ended p ps numbers others s m = filling p ps numbers others m s.0 s.2 (after-sits ps s.2)

pub newest-sits : (ended : Bool) (p : CodedPicture) (ps : List CodedPicture) → AreSound ended (p ∷ ps) →
    Sits (length ps) (places_after ps) (within_newest (p ∷ ps)).buffer
newest-sits ended p ps s = within-sits p ps s.0 s.2 (after-sits ps s.2)
