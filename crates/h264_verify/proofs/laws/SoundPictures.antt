-- What follows of pictures whose rules are met: no more frames are held than the buffer has places, and a reference picture that has ended is among them.
use Rattle.std.proofs.Common.{◌≡◌, ℕ, ◌≤◌, ◌&&◌, nat_le, nat_lt, min, max, unwrap_or, Bool, true, false, List, [], ◌∷◌, ◌++◌, map, length, Option, Some, None}
use Rattle.std.proofs.Common.{Result, Ok, Err, refl, ap, sym, ◌∙◌, subst, arith, if◌then◌else◌}
use Rattle.std.proofs.lemmas.Bool.{and_parts, leb-true}
use Rattle.std.specs.Option.{is_some, option_map_or}
use Rattle.std.specs.Result.{result_unwrap_or}
use Rattle.h264_base.proofs.Chains.{then-some}
use Rattle.h264_base.specs.declared.stop.Stop.{Stop}
use Rattle.h264_bits.specs.declared.element.Found.{Found}
use Rattle.h264_sps.specs.declared.sps.Sps.{Sps}
use Rattle.h264_sps.specs.Usable.{is_usable, is_frame_size, crops_within, given_frames, dpb_frames, holds_references, buffers_within}
use Rattle.h264_header.specs.declared.header.Marking.{Marking}
use Rattle.h264_header.specs.declared.header.Marking.TheVariants as depth
use Rattle.h264_header.specs.Picture.{is_idr, is_reference}
use Rattle.h264_marking.specs.declared.frame.ReferenceFrame.{ReferenceFrame}
use Rattle.h264_marking.specs.declared.frame.Numbering.{Numbering}
use Rattle.h264_marking.specs.Frames.{References, frame_places}
use Rattle.h264_marking.specs.Window.{filled, slide}
use Rattle.h264_marking.specs.Gaps.{unused_short_term_frame_nums, all_filled, entered}
use Rattle.h264_marking.specs.Operations.{Marks, marks_of, with_frames, all_operated}
use Rattle.h264_marking.specs.Held.{own_frame, with_own, slid_and_joined, joined, marked}
use Rattle.h264_marking.specs.Ended.{ended, numbering_of}
use Rattle.h264_marking.proofs.Room.{filled-room, marked-room, from-ok}
use Rattle.h264_picture.specs.Buffer.{buffer_size}
use Rattle.h264_dpb.specs.Bumping.{is_picture, is_held}
use Rattle.h264_dpb.specs.Turns.{names}
use Rattle.h264_dpb.proofs.Truths.{is-same, true-or, or-true}
use Rattle.h264_verify.specs.Demands.{judged}
use Rattle.h264_verify.specs.Pictures.{CodedPicture, held_after, held_in, is_met, prev_ref_frame_num_of, end_of_picture}
use Rattle.h264_verify.specs.Sound.{IsMarked, HasSet, AreSound, has_ended}

-- ---- how many are held

all-few : (n : Numbering) (numbers : List ℕ) (refs next : References) → all_filled n numbers refs ≡ Some next →
    length refs.frames ≤ frame_places n.max_num_ref_frames → length next.frames ≤ frame_places n.max_num_ref_frames
all-few n [] refs next e few = let same : refs ≡ next = cc in subst (λ (r : References). length r.frames ≤ frame_places n.max_num_ref_frames) same few
all-few n (number ∷ numbers) refs next e few =
    let s = then-some (all_filled n numbers) (filled (record n { frame_num = number }) refs) next e in
    all-few n numbers s.0 next s.2 (filled-room (record n { frame_num = number }) refs s.0 s.1 few)

or-few : (n : Numbering) (numbers : List ℕ) (refs : References) (o : Option References) → all_filled n numbers refs ≡ o →
    length refs.frames ≤ frame_places n.max_num_ref_frames → length (unwrap_or o refs).frames ≤ frame_places n.max_num_ref_frames
or-few n numbers refs None e few = few
or-few n numbers refs (Some next) e few = all-few n numbers refs next e few

entered-few : (idr : Bool) (prev : ℕ) (n : Numbering) (refs : References) → length refs.frames ≤ frame_places n.max_num_ref_frames →
    length (entered idr prev n refs).frames ≤ frame_places n.max_num_ref_frames
entered-few idr prev n refs few = or-few n (unused_short_term_frame_nums idr prev n) refs _ refl few

abbrev FewHeld : List CodedPicture → Type 0
FewHeld [] = Unit {0}
FewHeld (p ∷ ps) = length (held_after (p ∷ ps)).frames ≤ frame_places p.first.sps.max_num_ref_frames

-- while a picture is decoded that is no IDR picture
within-few : (p : CodedPicture) (ps : List CodedPicture) → HasSet p.first.sps ps → FewHeld ps →
    length (held_in (p ∷ ps)).frames ≤ frame_places p.first.sps.max_num_ref_frames
within-few p [] s few = absurd s
within-few p (q ∷ qs) s few = entered-few (is_idr p.first.header) (prev_ref_frame_num_of (q ∷ qs)) (numbering_of p.first.sps p.first.header)
    (held_after (q ∷ qs)) (subst (λ (x : Sps). length (held_after (q ∷ qs)).frames ≤ frame_places x.max_num_ref_frames) s few)

marked-few : (n : Numbering) (number bit : ℕ) (marking : Marking) (refs : References) (r : Result References ℕ) → marked n number bit marking refs ≡ r →
    is_met r ≡ true → length (result_unwrap_or r refs).frames ≤ frame_places n.max_num_ref_frames
marked-few n number bit marking refs (Ok next) e t = marked-room n number bit marking refs next e
marked-few n number bit marking refs (Err at) e t = cc

ended-few : (marking : Option (Found Marking)) (n : Numbering) (number : ℕ) (refs : References) → is_met (ended marking n number refs) ≡ true →
    (marking ≡ None → length refs.frames ≤ frame_places n.max_num_ref_frames) →
    length (result_unwrap_or (ended marking n number refs) refs).frames ≤ frame_places n.max_num_ref_frames
ended-few None n number refs t few = few refl
ended-few (Some found) n number refs t few = marked-few n number found.bit found.value refs _ refl t

-- a picture without a marking is no IDR picture
no-idr : (h : _) (b : Bool) → IsMarked h → h.marking ≡ None → is_idr h ≡ b → b ≡ false
no-idr h true m e i = let s : is_some h.marking ≡ true = m.some (m.idr i) in let n : is_some h.marking ≡ false = ap (λ o. is_some o) e in cc
no-idr h false m e i = refl

held-few : (pictures : List CodedPicture) → AreSound true pictures → FewHeld pictures
held-few [] s = tt
held-few (p ∷ ps) s = ended-few p.first.header.marking (numbering_of p.first.sps p.first.header) (length ps) (held_in (p ∷ ps)) (s.1 refl)
    (λ none. within-few p ps (s.0.set (no-idr p.first.header _ s.0.marked none refl)) (held-few ps s.2))

-- before a picture with the set of the one before it
pub set-few : (sps : Sps) (pictures : List CodedPicture) → HasSet sps pictures → AreSound true pictures →
    length (held_after pictures).frames ≤ frame_places sps.max_num_ref_frames
set-few sps [] h s = absurd h
set-few sps (p ∷ ps) h s = subst (λ (x : Sps). length (held_after (p ∷ ps)).frames ≤ frame_places x.max_num_ref_frames) h (held-few (p ∷ ps) s)

-- ---- the buffer of a sequence has places for its reference frames

-- what is said of the buffer of a sequence
buffer-holds : (sps : Sps) → is_usable sps ≡ true → (holds_references sps && buffers_within sps) ≡ true
unfolding is_usable
buffer-holds sps u = (and_parts (crops_within sps.frame_size sps.frame_cropping) _ (and_parts (is_frame_size sps.frame_size) _ u).1).1

least-most : (m g : ℕ) → m ≤ g → min (max m 1) 16 ≤ max 1 (min g 16)
least-most m g h = omega (arith, h)

pub places-fit : (sps : Sps) → is_usable sps ≡ true → frame_places sps.max_num_ref_frames ≤ buffer_size sps
unfolding buffer_size
places-fit sps u = least-most sps.max_num_ref_frames (unwrap_or (given_frames sps) (dpb_frames sps))
    (leb-true _ _ (and_parts (holds_references sps) (buffers_within sps) (buffer-holds sps u)).0)

-- it has no more places than the level allows
most-of : (o : Option ℕ) (m : ℕ) → option_map_or (λ (n : ℕ). nat_le n m) o true ≡ true → max 1 (min (unwrap_or o m) 16) ≤ max 1 m
most-of None m h = omega arith
most-of (Some n) m h = let k = leb-true n m h in omega (arith, k)

pub size-fits : (sps : Sps) → is_usable sps ≡ true → buffer_size sps ≤ max 1 (dpb_frames sps)
unfolding buffer_size
size-fits sps u = most-of (given_frames sps) (dpb_frames sps) (and_parts (holds_references sps) (buffers_within sps) (buffer-holds sps u)).1

pub after-few : (p : CodedPicture) (ps : List CodedPicture) → AreSound true (p ∷ ps) → length (held_after (p ∷ ps)).frames ≤ buffer_size p.first.sps
after-few p ps s = let few = held-few (p ∷ ps) s in let fit = places-fit p.first.sps s.0.usable in omega (arith, few, fit)

-- ---- a reference picture that has ended is among those held

last-held : (frames : List ReferenceFrame) (f : ReferenceFrame) (picture : ℕ) → f.picture ≡ Some picture →
    is_held (map (λ (f : ReferenceFrame). f.picture) (frames ++ f ∷ [])) picture ≡ true
last-held [] f picture e = true-or _ _ (ap (λ (o : Option ℕ). is_picture picture o) e ∙ is-same picture)
last-held (g ∷ frames) f picture e = or-true (is_picture picture g.picture) _ (last-held frames f picture e)

own-by : (c : Numbering) (picture : ℕ) (marks : Marks) (next : References) (b : Bool) →
    (let o : Option References = if b then Some (record marks.held { frames = marks.held.frames ++ own_frame c picture marks ∷ [] }) else None in
    o ≡ Some next) → is_held (names next) picture ≡ true
own-by c picture marks next true e =
    let same : (let r : References = record marks.held { frames = marks.held.frames ++ own_frame c picture marks ∷ [] } in r) ≡ next = cc in
    subst (λ (r : References). is_held (names r) picture ≡ true) same (last-held marks.held.frames (own_frame c picture marks) picture refl)
own-by c picture marks next false e = cc

own-held : (c : Numbering) (picture : ℕ) (marks : Marks) (next : References) → with_own c picture marks ≡ Some next → is_held (names next) picture ≡ true
own-held c picture marks next e = own-by c picture marks next (nat_lt (length marks.held.frames) (frame_places c.max_num_ref_frames)) e

joined-own : (c : Numbering) (picture bit : ℕ) (r : Result Marks ℕ) (next : References) → joined c picture bit r ≡ Ok next → is_held (names next) picture ≡ true
joined-own c picture bit (Err at) next is = cc
joined-own c picture bit (Ok marks) next is = own-held c picture marks next (from-ok (with_own c picture marks) bit next is)

marked-own : (c : Numbering) (picture bit : ℕ) (marking : Marking) (refs next : References) → marked c picture bit marking refs ≡ Ok next →
    is_held (names next) picture ≡ true
unfolding marked
marked-own c picture bit (depth.Idr no_output long_term) refs next is =
    let e : ◌≡◌ {A = List (Option ℕ)} (Some picture ∷ []) (names next) = ap (λ (r : Result References ℕ). names (result_unwrap_or r refs)) is in
    subst (λ (l : List (Option ℕ)). is_held l picture ≡ true) e (true-or _ _ (is-same picture))
marked-own c picture bit depth.SlidingWindow refs next is =
    let s = then-some (λ frames. with_own c picture (with_frames (marks_of refs) frames)) (slide c refs.frames) next
    (from-ok (slid_and_joined c picture refs) bit next is) in
    own-held c picture (with_frames (marks_of refs) s.0) next s.2
marked-own c picture bit (depth.Adaptive operations) refs next is = joined-own c picture bit (all_operated c operations.items (marks_of refs)) next is

marked-among : (n : Numbering) (number bit : ℕ) (marking : Marking) (refs : References) (r : Result References ℕ) → marked n number bit marking refs ≡ r →
    is_met r ≡ true → is_held (names (result_unwrap_or r refs)) number ≡ true
marked-among n number bit marking refs (Ok next) e t = marked-own n number bit marking refs next e
marked-among n number bit marking refs (Err at) e t = cc

ended-among : (marking : Option (Found Marking)) (n : Numbering) (number : ℕ) (refs : References) → is_met (ended marking n number refs) ≡ true →
    is_some marking ≡ true → is_held (names (result_unwrap_or (ended marking n number refs) refs)) number ≡ true
ended-among None n number refs t some = cc
ended-among (Some found) n number refs t some = marked-among n number found.bit found.value refs _ refl t

pub after-among : (p : CodedPicture) (ps : List CodedPicture) → AreSound true (p ∷ ps) → is_reference p.first.header ≡ true →
    is_held (names (held_after (p ∷ ps))) (length ps) ≡ true
after-among p ps s r = ended-among p.first.header.marking (numbering_of p.first.sps p.first.header) (length ps) (held_in (p ∷ ps)) (s.1 refl)
    (s.0.marked.some r)

-- ---- the newest picture ends

pub met-by : (b : Bool) (e : Stop) → (let r : Result (Unit {0}) Stop = Ok tt in r ≡ (if b then Ok tt else Err e)) → b ≡ true
met-by true e h = refl
met-by false e h = cc

pub ended-sound : (on : Bool) (pictures : List CodedPicture) →
    (let r : Result (Unit {0}) Stop = Ok tt in r ≡ judged (if on then end_of_picture pictures else [])) → AreSound (has_ended on false) pictures →
    AreSound true pictures
ended-sound on [] h s = tt
ended-sound true (p ∷ ps) h s = (s.0, λ e. met-by _ _ h, s.2)
ended-sound false (p ∷ ps) h s = s

ended-always : (on : Bool) → has_ended on true ≡ true
ended-always true = refl
ended-always false = refl

pub sound-ended : (on : Bool) (pictures : List CodedPicture) → AreSound true pictures → AreSound (has_ended on true) pictures
sound-ended on pictures s = subst (λ (b : Bool). AreSound b pictures) (sym (ended-always on)) s

pub ended-sound-of : (on : Bool) (pictures : List CodedPicture) → AreSound (has_ended on true) pictures → AreSound true pictures
ended-sound-of on pictures s = subst (λ (b : Bool). AreSound b pictures) (ended-always on) s
