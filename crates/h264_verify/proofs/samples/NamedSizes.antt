-- Each picture that a list names is as large as the picture in which the list stands: it is of the same sequence.
use Rattle.std.proofs.Common.{◌≡◌, ℕ, zero, suc, ◌<◌, ◌==◌, ◌||◌, Bool, true, false, List, [], ◌∷◌, length, get_or, unwrap_or, ◌⊎◌, inl, inr, Option}
use Rattle.std.proofs.Common.{Some, None, Result, Ok, Err, IfOk, refl, ap, sym, ◌∙◌, subst}
use Rattle.std.specs.List.{AllByRecursion, slice_get}
use Rattle.std.specs.Option.{option_and_then}
use Rattle.std.specs.Result.{result_unwrap_or}
use Rattle.std.proofs.lemmas.Bool.{eqb-true}
use Rattle.h264_base.proofs.Chains.{then-some}
use Rattle.h264_bits.specs.declared.element.Found.{Found}
use Rattle.h264_sps.specs.declared.sps.Sps.{Sps}
use Rattle.h264_sps.specs.declared.sps.FrameSize.{FrameSize}
use Rattle.h264_header.specs.declared.header.Marking.{Marking}
use Rattle.h264_header.specs.declared.header.Marking.TheVariants as depth
use Rattle.h264_header.specs.declared.header.SliceKind.{SliceKind}
use Rattle.h264_header.specs.declared.header.SliceKind.TheVariants as kinds
use Rattle.h264_header.specs.Picture.{is_idr}
use Rattle.h264_marking.specs.declared.frame.ReferenceFrame.{ReferenceFrame}
use Rattle.h264_marking.specs.declared.frame.Numbering.{Numbering}
use Rattle.h264_marking.specs.Frames.{References}
use Rattle.h264_marking.specs.Window.{filled}
use Rattle.h264_marking.specs.Gaps.{unused_short_term_frame_nums, all_filled}
use Rattle.h264_marking.specs.Held.{marked}
use Rattle.h264_marking.specs.Ended.{ended, numbering_of}
use Rattle.h264_lists.specs.declared.slot.RefSlot.{RefSlot}
use Rattle.h264_lists.specs.declared.slot.RefSlot.TheVariants.{NoPicture, Held}
use Rattle.h264_lists.specs.Built.{built, AreOf}
use Rattle.h264_lists.proofs.Held.{built-held}
use Rattle.h264_dpb.specs.Bumping.{is_picture, is_held}
use Rattle.h264_picture.specs.Context.{picture_in, slice_context}
use Rattle.h264_verify.specs.Pictures.{CodedSlice, CodedPicture, prev_ref_frame_num_of, held_after, held_in}
use Rattle.h264_verify.specs.Lists.{list_of, list_in, named_in}
use Rattle.h264_verify.specs.Slices.{is_i}
use Rattle.h264_verify.specs.Decoding.{slices_of, EachSlice}
use Rattle.h264_verify.specs.Sound.{HasSet, is_idr_marking}
use Rattle.h264_verify.proofs.samples.FamiliesInSlice.{each-slice}
use Rattle.h264_verify.proofs.samples.FamiliesInPicture.{AreReadSlices}
use Rattle.h264_verify.proofs.laws.HeldInBuffer.{pictures_in, IsAmong, filled-holds, marked-holds}
use Rattle.h264_dpb.proofs.Truths.{is-same, true-or, or-true}
use Rattle.h264_recon.proofs.Tables.{table-at}

-- ---- pictures whose slices were read

-- the marking of an IDR picture
abbrev pub LeavesAlone : Option (Found Marking) → Type 0
LeavesAlone None = ⊥
LeavesAlone (Some found) = is_idr_marking found.value ≡ true

-- A slice of an IDR picture is one wherever it stands, and is I.
pub record IsOfKind (first s : CodedSlice) : Type 0 where
  pub idr : is_idr s.header ≡ is_idr first.header
  pub intra : is_idr s.header ≡ true → is_i s.header.kind.value ≡ true

-- A picture after these: one that is no IDR picture has the sequence parameter set of the one before it, an IDR picture leaves its own frame alone, and
-- its slices were read.
pub record IsRead (p : CodedPicture) (ps : List CodedPicture) : Type 0 where
  pub set : is_idr p.first.header ≡ false → HasSet p.first.sps ps
  pub alone : is_idr p.first.header ≡ true → LeavesAlone p.first.header.marking
  pub kinds : EachSlice (IsOfKind p.first) (slices_of p)
  pub slices : AreReadSlices p.first ps (slices_of p)

abbrev pub AreRead : List CodedPicture → Type 0
AreRead [] = Unit {0}
AreRead (p ∷ ps) = IsRead p ps × AreRead ps

-- the picture of this number is among these, and so large
abbrev pub HasSize : List CodedPicture → ℕ → FrameSize → Type 0
HasSize [] n size = ⊥
HasSize (p ∷ ps) n size = ((n ≡ length ps) × (p.first.sps.frame_size ≡ size)) ⊎ HasSize ps n size

-- ---- what is held

is-or : (number n : ℕ) (b : Bool) (P : Type 0) → (number == n || b) ≡ true → (b ≡ true → P) → (n ≡ number) ⊎ P
is-or number n b P e f = by (number == n) refl e
  where
    by : (t : Bool) → (number == n) ≡ t → (t || b) ≡ true → (n ≡ number) ⊎ P
    by true q h = inl (sym (eqb-true number n q))
    by false q h = inr (f h)

-- of an IDR picture its own frame alone
idr-held : (n : ℕ) (c : Numbering) (number bit : ℕ) (marking : Marking) (refs : References) → is_idr_marking marking ≡ true →
    IsAmong n (result_unwrap_or (marked c number bit marking refs) refs).frames → n ≡ number
unfolding marked
idr-held n c number bit (depth.Idr no_output long_term) refs i h = own (number == n) refl h
  where
    own : (t : Bool) → (number == n) ≡ t → (t || false) ≡ true → n ≡ number
    own true q e = sym (eqb-true number n q)
    own false q e = cc
idr-held n c number bit depth.SlidingWindow refs i h = cc
idr-held n c number bit (depth.Adaptive operations) refs i h = cc

met-held : (n : ℕ) (c : Numbering) (number bit : ℕ) (marking : Marking) (refs : References) (r : Result References ℕ) → marked c number bit marking refs ≡ r →
    IsAmong n (result_unwrap_or r refs).frames → (n ≡ number) ⊎ IsAmong n refs.frames
met-held n c number bit marking refs (Ok next) e h =
    is-or number n (is_held (pictures_in refs.frames) n) (IsAmong n refs.frames) (marked-holds n c number bit marking refs next e h) (λ k. k)
met-held n c number bit marking refs (Err at) e h = inr h

-- once a picture has ended: its own frame, and of a picture that is no IDR picture those that were held
ended-held : (n : ℕ) (idr : Bool) (m : Option (Found Marking)) (c : Numbering) (number : ℕ) (refs : References) → (idr ≡ true → LeavesAlone m) →
    IsAmong n (result_unwrap_or (ended m c number refs) refs).frames → (n ≡ number) ⊎ ((idr ≡ false) × IsAmong n refs.frames)
ended-held n true None c number refs a h = absurd (a refl)
ended-held n true (Some found) c number refs a h = inl (idr-held n c number found.bit found.value refs (a refl) h)
ended-held n false None c number refs a h = inr (refl, h)
ended-held n false (Some found) c number refs a h =
    with-idr (met-held n c number found.bit found.value refs (marked c number found.bit found.value refs) refl h)
  where
    with-idr : (n ≡ number) ⊎ IsAmong n refs.frames → (n ≡ number) ⊎ ((false ≡ false) × IsAmong n refs.frames)
    with-idr (inl e) = inl e
    with-idr (inr k) = inr (refl, k)

-- missing numbers bring none
gap-held : (n : ℕ) (c : Numbering) (numbers : List ℕ) (refs next : References) → all_filled c numbers refs ≡ Some next → IsAmong n next.frames →
    IsAmong n refs.frames
gap-held n c [] refs next e h = let same : refs ≡ next = cc in subst (λ (r : References). IsAmong n r.frames) (sym same) h
gap-held n c (number ∷ numbers) refs next e h =
    let s = then-some (all_filled c numbers) (filled (record c { frame_num = number }) refs) next e in
    filled-holds n (record c { frame_num = number }) refs s.0 s.1 (gap-held n c numbers s.0 next s.2 h)

entered-held : (n : ℕ) (c : Numbering) (numbers : List ℕ) (refs : References) (o : Option References) → all_filled c numbers refs ≡ o →
    IsAmong n (unwrap_or o refs).frames → IsAmong n refs.frames
entered-held n c numbers refs None e h = h
entered-held n c numbers refs (Some next) e h = gap-held n c numbers refs next e h

within-held : (n : ℕ) (p : CodedPicture) (ps : List CodedPicture) → IsAmong n (held_in (p ∷ ps)).frames → IsAmong n (held_after ps).frames
within-held n p ps h =
    let c = numbering_of p.first.sps p.first.header in
    let numbers = unused_short_term_frame_nums (is_idr p.first.header) (prev_ref_frame_num_of ps) c in
    entered-held n c numbers (held_after ps) (all_filled c numbers (held_after ps)) refl h

-- each picture that is held is as large as the newest
held-size : (n : ℕ) (sps : Sps) (pictures : List CodedPicture) → HasSet sps pictures → AreRead pictures → IsAmong n (held_after pictures).frames →
    HasSize pictures n sps.frame_size
held-size n sps [] s r h = absurd s
held-size n sps (p ∷ ps) s r h =
    subst (λ (x : Sps). HasSize (p ∷ ps) n x.frame_size) s
    (by (λ f k. held-size n p.first.sps ps (r.0.set f) r.1 (within-held n p ps k))
    (ended-held n (is_idr p.first.header) p.first.header.marking (numbering_of p.first.sps p.first.header) (length ps) (held_in (p ∷ ps)) r.0.alone h))
  where
    by : (is_idr p.first.header ≡ false → IsAmong n (held_in (p ∷ ps)).frames → HasSize ps n p.first.sps.frame_size) → (n ≡ length ps) ⊎
        ((is_idr p.first.header ≡ false) × IsAmong n (held_in (p ∷ ps)).frames) → HasSize (p ∷ ps) n p.first.sps.frame_size
    by earlier (inl e) = inl (e, refl)
    by earlier (inr k) = inr (earlier k.0 k.1)

-- ---- what a list names

-- a frame in a list, by its picture
abbrev IsHeldBy : ℕ → List ReferenceFrame → ReferenceFrame → Type 0
IsHeldBy n frames f = f.picture ≡ Some n → IsAmong n frames

all-held : (n : ℕ) (frames fs : List ReferenceFrame) → (IsAmong n fs → IsAmong n frames) → AllByRecursion (IsHeldBy n frames) fs
all-held n frames [] f = tt
all-held n frames (g ∷ fs) f = (
  λ e. f (true-or _ _ (ap (λ (o : Option ℕ). is_picture n o) e ∙ is-same n)),
  all-held n frames fs (λ h. f (or-true (is_picture n g.picture) _ h)),
)

slot-held : (P : ReferenceFrame → Type 0) (slots : List RefSlot) (k : ℕ) (f : ReferenceFrame) → AreOf P slots → slice_get slots k ≡ Some (Held f) → P f
slot-held P [] k f a e = absurd (cc)
slot-held P (NoPicture ∷ slots) zero f a e = absurd (cc)
slot-held P (NoPicture ∷ slots) (suc k) f a e = slot-held P slots k f a e
slot-held P (Held g ∷ slots) zero f a e = let same : g ≡ f = cc in subst P same a.0
slot-held P (Held g ∷ slots) (suc k) f a e = slot-held P slots k f a.1 e

slot-named : (slots : List RefSlot) (k n : ℕ) → option_and_then picture_in (slice_get slots k) ≡ Some n → (f : ReferenceFrame) ×
    (slice_get slots k ≡ Some (Held f)) × (f.picture ≡ Some n)
slot-named slots k n e = by (slice_get slots k) refl e
  where
    by : (o : Option RefSlot) → slice_get slots k ≡ o → option_and_then picture_in o ≡ Some n → (f : ReferenceFrame) × (slice_get slots k ≡ Some (Held f)) ×
        (f.picture ≡ Some n)
    by None q h = absurd (cc)
    by (Some NoPicture) q h = absurd (cc)
    by (Some (Held f)) q h = (f, q, h)

no-slot : (k n : ℕ) → (let o : Option ℕ = option_and_then picture_in (slice_get [] k) in o ≡ Some n) → ⊥
no-slot k n e = absurd (cc)

-- a slice with a list that names a picture is P, and the picture is held
list-held : (kind : SliceKind) (c : Numbering) (refs : References) (k n : ℕ) →
    option_and_then picture_in (slice_get (result_unwrap_or (list_of kind c refs) []) k) ≡ Some n → (is_i kind ≡ false) × IsAmong n refs.frames
list-held kinds.I c refs k n e = absurd (no-slot k n e)
list-held (kinds.P list) c refs k n e = (
  refl,
  by (built c list refs.frames) (built-held c list refs.frames (IsHeldBy n refs.frames) (all-held n refs.frames refs.frames (λ h. h))) e,
)
  where
    by : (r : Result (List RefSlot) ℕ) → IfOk r (AreOf (IsHeldBy n refs.frames)) → option_and_then picture_in (slice_get (result_unwrap_or r []) k) ≡ Some n →
        IsAmong n refs.frames
    by (Ok slots) a h = let s = slot-named slots k n h in slot-held (IsHeldBy n refs.frames) slots k s.0 a s.1 s.2
    by (Err bit) a h = absurd (no-slot k n h)

pub named-held : (pictures : List CodedPicture) (s : CodedSlice) (k n : ℕ) → k < 16 → get_or (named_in pictures s) k None ≡ Some n →
    (is_i s.header.kind.value ≡ false) × IsAmong n (held_in pictures).frames
unfolding slice_context
named-held pictures s k n h e = list-held s.header.kind.value (numbering_of s.sps s.header) (held_in pictures) k n
    (sym (table-at 16 (λ k. option_and_then picture_in (slice_get (list_in pictures s) k)) k None h) ∙ e)

-- it is as large as the picture
abbrev pub NamesOfSize : CodedPicture → List CodedPicture → CodedSlice → Type 0
NamesOfSize p ps s = (k n : ℕ) → k < 16 → get_or (named_in (p ∷ ps) s) k None ≡ Some n → HasSize ps n p.first.sps.frame_size

named-size : (p : CodedPicture) (ps : List CodedPicture) → IsRead p ps → AreRead ps → (s : CodedSlice) → IsOfKind p.first s → NamesOfSize p ps s
named-size p ps r all s kind k n h e =
    let l = named-held (p ∷ ps) s k n h e in
    held-size n p.first.sps ps (r.set (other (is_idr p.first.header) refl l.0)) all (within-held n p ps l.1)
  where
    other : (idr : Bool) → is_idr p.first.header ≡ idr → is_i s.header.kind.value ≡ false → idr ≡ false
    other true q f = let t = kind.intra (kind.idr ∙ q) in cc
    other false q f = refl

pub names-size : (p : CodedPicture) (ps : List CodedPicture) → IsRead p ps → AreRead ps → EachSlice (NamesOfSize p ps) (slices_of p)
names-size p ps r all = each-slice (named-size p ps r all) (slices_of p) r.kinds
