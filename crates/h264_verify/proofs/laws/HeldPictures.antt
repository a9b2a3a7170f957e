-- Each picture that is held has its frame in the buffer.
use Rattle.std.proofs.Common.{◌≡◌, ℕ, ◌==◌, ◌||◌, not, Bool, true, false, List, [], ◌∷◌, length, unwrap_or, Option, Some, None, Result, Ok, Err, refl, ap}
use Rattle.std.proofs.Common.{sym, ◌∙◌, subst, if◌then◌else◌}
use Rattle.std.specs.Option.{is_some}
use Rattle.std.specs.Result.{result_unwrap_or}
use Rattle.h264_base.proofs.Chains.{then-some}
use Rattle.h264_bits.specs.declared.element.Found.{Found}
use Rattle.h264_header.specs.declared.header.Marking.{Marking}
use Rattle.h264_header.specs.declared.header.Marking.TheVariants as depth
use Rattle.h264_header.specs.Picture.{is_idr, is_reference}
use Rattle.h264_marking.specs.declared.frame.Numbering.{Numbering}
use Rattle.h264_marking.specs.Frames.{References}
use Rattle.h264_marking.specs.Window.{filled}
use Rattle.h264_marking.specs.Gaps.{all_filled}
use Rattle.h264_marking.specs.Held.{marked, idr_references, no_references}
use Rattle.h264_marking.specs.Ended.{ended, numbering_of, resets, resets_by}
use Rattle.h264_dpb.specs.declared.ended.Ended.{Ended}
use Rattle.h264_dpb.specs.Ending.{ended_of}
use Rattle.h264_dpb.specs.Bumping.{is_held}
use Rattle.h264_dpb.specs.Buffered.{Buffered}
use Rattle.h264_dpb.specs.Turns.{Shown, Turn, turn_then, stays, names, missing_turn, flush_turn, reference_turn, other_turn, empties, entry_of, way_turn}
use Rattle.h264_dpb.specs.Turns.{store_turn}
use Rattle.h264_verify.specs.Pictures.{CodedPicture, held_after, held_in, is_met}
use Rattle.h264_verify.specs.Buffering.{gap_on, gaps_turn, missing_before, ended_picture, ended_turn, after_all, within_newest}
use Rattle.h264_verify.specs.Sound.{IsMarked, AreSound, is_idr_marking, is_own, has_gap_filled}
use Rattle.h264_verify.specs.Held.{Stands, AreAmong}
use Rattle.h264_dpb.proofs.Truths.{or-true}
use Rattle.h264_verify.proofs.laws.HeldInBuffer.{IsAmong, filled-holds, marked-holds, reset-holds, reset-by as either}
use Rattle.h264_verify.proofs.laws.HeldStay.{stands-missing, stands-reference, stands-other, stands-own}

-- ---- missing numbers

gaps-among : (n : Numbering) (numbers : List ℕ) (refs next : References) (b : Buffered Shown) → all_filled n numbers refs ≡ Some next → AreAmong refs b →
    AreAmong next (gaps_turn n numbers refs b).buffer
gaps-among n [] refs next b e a = let same : refs ≡ next = cc in subst (λ (r : References). AreAmong r b) same a
gaps-among n (number ∷ numbers) refs next b e a =
    let s = then-some (all_filled n numbers) (filled (record n { frame_num = number }) refs) next e in
    subst (λ (o : Option References). AreAmong next (gap_on o (λ held. turn_then (missing_turn held b) (gaps_turn n numbers held)) b).buffer) (sym s.1)
    (gaps-among n numbers s.0 next (missing_turn s.0 b).buffer s.2
    (λ k h. stands-missing k s.0 h b (a k (filled-holds k (record n { frame_num = number }) refs s.0 s.1 h))))

filled-among : (n : Numbering) (numbers : List ℕ) (refs : References) (b : Buffered Shown) (o : Option References) → all_filled n numbers refs ≡ o →
    is_some o ≡ true → AreAmong refs b → AreAmong (unwrap_or o refs) (gaps_turn n numbers refs b).buffer
filled-among n numbers refs b None e s a = cc
filled-among n numbers refs b (Some next) e s a = gaps-among n numbers refs next b e a

within-among : (p : CodedPicture) (ps : List CodedPicture) → has_gap_filled p ps ≡ true → AreAmong (held_after ps) (after_all ps).buffer →
    AreAmong (held_in (p ∷ ps)) (within_newest (p ∷ ps)).buffer
within-among p ps f a = filled-among (numbering_of p.first.sps p.first.header) (missing_before p ps) (held_after ps) (after_all ps).buffer _ refl f a

-- ---- the end of a picture

-- a reference picture is stored
reference-among : (e : Ended) (refs next : References) (b : Buffered Shown) → e.reference ≡ true → AreAmong refs b →
    ((n : ℕ) → is_held (names next) n ≡ true → (e.picture == n || is_held (names refs) n) ≡ true) → AreAmong next (store_turn e next b).buffer
unfolding store_turn
reference-among e refs next b r a only = λ n h.
    subst (λ (x : Bool). Stands n (Turn.buffer (if x then reference_turn (entry_of e) next b else other_turn (entry_of e) b)).entries) (sym r)
    (either _ _ (Stands n (reference_turn (entry_of e) next b).buffer.entries) (only n h) (λ q. stands-own n (entry_of e) next b r q)
    (λ q. stands-reference n next h (entry_of e) b (a n q)))

-- and alone, where nothing else is held
alone-among : (e : Ended) (next : References) (b : Buffered Shown) → e.reference ≡ true →
    ((n : ℕ) → is_held (names next) n ≡ true → (e.picture == n) ≡ true) → AreAmong next (store_turn e next b).buffer
unfolding store_turn
alone-among e next b r only = λ n h.
    subst (λ (x : Bool). Stands n (Turn.buffer (if x then reference_turn (entry_of e) next b else other_turn (entry_of e) b)).entries) (sym r)
    (stands-own n (entry_of e) next b r (only n h))

-- another picture is
other-among : (e : Ended) (refs : References) (b : Buffered Shown) → e.reference ≡ false → AreAmong refs b → AreAmong refs (store_turn e refs b).buffer
unfolding store_turn
other-among e refs b r a = λ n h.
    subst (λ (x : Bool). Stands n (Turn.buffer (if x then reference_turn (entry_of e) refs b else other_turn (entry_of e) b)).entries) (sym r)
    (stands-other n (entry_of e) b (a n h))

-- an IDR picture and operation 5 leave the picture alone
bare-holds : (n : ℕ) (c : Numbering) (picture bit : ℕ) (marking : Marking) (refs next : References) → marked c picture bit marking refs ≡ Ok next →
    (is_idr_marking marking || resets_by marking) ≡ true → IsAmong n next.frames → (picture == n) ≡ true
unfolding marked
bare-holds n c picture bit (depth.Idr no_output long_term) refs next is t h =
    let same : idr_references c picture long_term ≡ next = cc in
    alone (picture == n) (subst (λ (r : References). IsAmong n r.frames) (sym same) h)
  where
    alone : (b : Bool) → (b || false) ≡ true → b ≡ true
    alone true e = refl
    alone false e = e
bare-holds n c picture bit depth.SlidingWindow refs next is t h = cc
bare-holds n c picture bit (depth.Adaptive operations) refs next is t h = reset-holds n c picture bit (depth.Adaptive operations) refs next is t h

way-empty : (e : Ended) (b : Buffered Shown) → empties e ≡ false → (way_turn e b).buffer ≡ b
unfolding way_turn
way-empty e b f = ap (λ (x : Bool). Turn.buffer (if x then flush_turn (not e.drops) e.size b else stays b)) f

-- what a marking that was met leaves
module _ (e : Ended) (n : Numbering) (found : Found Marking) (refs : References) (b : Buffered Shown) (r : e.reference ≡ true) (a : AreAmong refs b)
    (bare : empties e ≡ true → (is_idr_marking found.value || resets_by found.value) ≡ true) where
  marked-among : (next : References) → marked n e.picture found.bit found.value refs ≡ Ok next → (x : Bool) → empties e ≡ x →
      AreAmong next (store_turn e next (way_turn e b).buffer).buffer
  marked-among next m true t = alone-among e next (way_turn e b).buffer r (λ k h. bare-holds k n e.picture found.bit found.value refs next m (bare t) h)
  marked-among next m false t = reference-among e refs next (way_turn e b).buffer r
      (subst (λ (c : Buffered Shown). AreAmong refs c) (sym (way-empty e b t)) a) (λ k h. marked-holds k n e.picture found.bit found.value refs next m h)

  pub met-among : (o : Result References ℕ) → marked n e.picture found.bit found.value refs ≡ o → is_met o ≡ true →
      AreAmong (result_unwrap_or o refs) (store_turn e (result_unwrap_or o refs) (way_turn e b).buffer).buffer
  met-among (Ok next) m t = marked-among next m (empties e) refl
  met-among (Err bit) m t = cc

-- what the buffer is told of the picture
record IsOf (p : CodedPicture) (ps : List CodedPicture) (e : Ended) : Type 0 where
  reference : e.reference ≡ is_reference p.first.header
  number : e.picture ≡ length ps
  empty : empties e ≡ (is_idr p.first.header || resets p.first.header.marking)

is-of : (p : CodedPicture) (ps : List CodedPicture) → IsOf p ps (ended_picture p ps)
unfolding ended_of
is-of p ps = record { reference = refl; number = refl; empty = refl }

idr-bare : (idr : Bool) (m : Marking) → (idr ≡ true → is_idr_marking m ≡ true) → (idr || resets_by m) ≡ true → (is_idr_marking m || resets_by m) ≡ true
idr-bare true m f e = subst (λ (x : Bool). (x || resets_by m) ≡ true) (sym (f refl)) refl
idr-bare false m f e = or-true (is_idr_marking m) (resets_by m) e

ended-by : (p : CodedPicture) (ps : List CodedPicture) (e : Ended) → IsOf p ps e → (m : Option (Found Marking)) → p.first.header.marking ≡ m →
    IsMarked p.first.header → (refs : References) (b : Buffered Shown) → is_met (ended m (numbering_of p.first.sps p.first.header) e.picture refs) ≡ true →
    AreAmong refs b → AreAmong (result_unwrap_or (ended m (numbering_of p.first.sps p.first.header) e.picture refs) refs)
    (store_turn e (result_unwrap_or (ended m (numbering_of p.first.sps p.first.header) e.picture refs) refs) (way_turn e b).buffer).buffer
ended-by p ps e o None q k refs b met a =
    let none : is_reference p.first.header ≡ false = unmarked (is_reference p.first.header) refl in
    let stays-so : empties e ≡ false = o.empty ∙ ap (λ (x : Option (Found Marking)). is_idr p.first.header || resets x) q ∙
    no-idr (is_idr p.first.header) refl none in
    other-among e refs (way_turn e b).buffer (o.reference ∙ none) (subst (λ (c : Buffered Shown). AreAmong refs c) (sym (way-empty e b stays-so)) a)
  where
    unmarked : (x : Bool) → is_reference p.first.header ≡ x → x ≡ false
    unmarked true f = let s : is_some p.first.header.marking ≡ true = k.some f in let n : is_some p.first.header.marking ≡ false = ap (λ y. is_some y) q in cc
    unmarked false f = refl

    no-idr : (x : Bool) → is_idr p.first.header ≡ x → is_reference p.first.header ≡ false → (x || false) ≡ false
    no-idr true f g = let h : is_reference p.first.header ≡ true = k.idr f in cc
    no-idr false f g = refl
ended-by p ps e o (Some found) q k refs b met a =
    let yes : is_reference p.first.header ≡ true = marked-so (is_reference p.first.header) refl in
    let own : is_idr p.first.header ≡ true → is_idr_marking found.value ≡ true = λ i. subst (λ (x : Option (Found Marking)). is_own x ≡ true) q (k.own i) in
    let empty : empties e ≡ (is_idr p.first.header || resets_by found.value) = o.empty ∙
    ap (λ (x : Option (Found Marking)). is_idr p.first.header || resets x) q in
    met-among e (numbering_of p.first.sps p.first.header) found refs b (o.reference ∙ yes) a
    (λ t. idr-bare (is_idr p.first.header) found.value own (sym empty ∙ t)) _ refl met
  where
    marked-so : (x : Bool) → is_reference p.first.header ≡ x → x ≡ true
    marked-so true f = refl
    marked-so false f = let n : ◌≡◌ {A = Option (Found Marking)} None (Some found) = sym (k.none f) ∙ q in cc

ended-among : (p : CodedPicture) (ps : List CodedPicture) (b : Buffered Shown) → AreSound true (p ∷ ps) → AreAmong (held_in (p ∷ ps)) b →
    AreAmong (held_after (p ∷ ps)) (ended_turn p ps b).buffer
ended-among p ps b s a =
    let o = is-of p ps in
    let by = ended-by p ps (ended_picture p ps) o p.first.header.marking refl s.0.marked (held_in (p ∷ ps)) b in
    let n = o.number in
    subst (λ (k : ℕ). is_met (ended p.first.header.marking (numbering_of p.first.sps p.first.header) k (held_in (p ∷ ps))) ≡ true →
    AreAmong (held_in (p ∷ ps)) b → AreAmong
    (result_unwrap_or (ended p.first.header.marking (numbering_of p.first.sps p.first.header) k (held_in (p ∷ ps))) (held_in (p ∷ ps)))
    (store_turn (ended_picture p ps) (result_unwrap_or (ended p.first.header.marking (numbering_of p.first.sps p.first.header) k (held_in (p ∷ ps)))
    (held_in (p ∷ ps))) (way_turn (ended_picture p ps) b).buffer).buffer) n by (s.1 refl) a

-- ---- all pictures

none-among : (b : Buffered Shown) → AreAmong no_references b
none-among b n h = cc

after-among : (pictures : List CodedPicture) → AreSound true pictures → AreAmong (held_after pictures) (after_all pictures).buffer
after-among [] s = none-among (after_all []).buffer
after-among (p ∷ ps) s = ended-among p ps (within_newest (p ∷ ps)).buffer s (within-among p ps s.0.filled (after-among ps s.2))

-- while a picture is decoded
pub among-within : (ended : Bool) (p : CodedPicture) (ps : List CodedPicture) → AreSound ended (p ∷ ps) →
    AreAmong (held_in (p ∷ ps)) (within_newest (p ∷ ps)).buffer
among-within ended p ps s = within-among p ps s.0.filled (after-among ps s.2)
