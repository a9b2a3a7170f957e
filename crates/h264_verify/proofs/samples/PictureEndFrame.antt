-- The end of a picture: its frame is decoded, and the buffer takes it.
use Rattle.std.proofs.Common.{◌≡◌, ℕ, ◌+◌, ◌*◌, ◌<◌, ◌≤◌, ◌==◌, Bool, true, false, IsTrue, List, [], ◌∷◌, ◌++◌, length, Option, Some, None, refl, ap, sym}
use Rattle.std.proofs.Common.{◌∙◌, subst, arith, nat_lt, if◌then◌else◌}
use Rattle.std.proofs.lemmas.Bool.{and_parts}
use Rattle.std.proofs.lemmas.Bool.Decides.{nat_tests}
use Rattle.h264_plane.specs.declared.frame.Frame.{Frame}
use Rattle.h264_plane.specs.Frames.{IsFrame, plane_of}
use Rattle.h264_plane.specs.Samples.{at}
use Rattle.h264_sps.specs.declared.sps.Sps.{Sps}
use Rattle.h264_pps.specs.declared.Pps.{Pps}
use Rattle.h264_sps.specs.declared.sps.FrameCropping.{FrameCropping}
use Rattle.h264_picture.specs.declared.sequence.Sequence.{Sequence}
use Rattle.h264_picture.specs.Decoded.{Parameters, IsDecoded as IsDecodedBy}
use Rattle.h264_picture.specs.Holds.{IsActive}
use Rattle.h264_picture.specs.Making.{Making, setting_of, IsMadeOf, IsDecodedIn}
use Rattle.h264_picture.specs.Places.{lent, HasSize}
use Rattle.h264_picture.proofs.Turns.{lent-references}
use Rattle.h264_dpb.specs.declared.entry.Entry.{Entry}
use Rattle.h264_dpb.specs.declared.entry.Placed.{Placed}
use Rattle.h264_dpb.specs.declared.output.Output.{Output}
use Rattle.h264_dpb.specs.Numbered.{AreRising, number_of as number_at}
use Rattle.h264_dpb.specs.Rectangles.{rectangle_of, rectangle_by, is_within, leaves}
use Rattle.h264_dpb.specs.Shown.{fits}
use Rattle.h264_dpb.specs.Kept.{Each, IsAtPlace, HasFrames}
use Rattle.h264_verify.specs.declared.decoder.Decoder.{Decoder}
use Rattle.h264_picture.specs.declared.purpose.Purpose.{Purpose}
use Rattle.h264_picture.specs.declared.purpose.Purpose.TheVariants as purposes
use Rattle.h264_verify.specs.Telling.{Agree, Family, IsFamilyFor}
use Rattle.h264_verify.specs.Pictures.{CodedSlice, CodedPicture, last_slice}
use Rattle.h264_verify.specs.Decoding.{EachSlice, slices_of, number_of, parameters_of, Refers, IsDecoded}
use Rattle.h264_verify.specs.Keeping.{IsMaking, AreFalling, HasReferences, HoldsBegun, place_by}
use Rattle.h264_verify.proofs.samples.FamiliesInSlice.{each-slice, refers-agree}
use Rattle.h264_verify.proofs.samples.SliceSamples.{offset-of}
use Rattle.h264_dpb.proofs.Finding.{rising-high}
use Rattle.h264_dpb.proofs.Truths.{is-same}

-- ---- the parameters of slices by their numbers

is-other : (m n : ℕ) → n < m → (m == n) ≡ false
is-other m n h = grind (arith, nat_tests)

abbrev pub numbered : List CodedSlice → CodedSlice → ℕ → CodedSlice
numbered [] none n = none
numbered (s ∷ slices) none n = if number_of s == n then s else numbered slices none n

numbered-by : (s : CodedSlice) (slices : List CodedSlice) (none : CodedSlice) (n : ℕ) (b : Bool) → (number_of s == n) ≡ b →
    numbered (s ∷ slices) none n ≡ (if b then s else numbered slices none n)
numbered-by s slices none n b e = ap (λ (x : Bool). if x then s else numbered slices none n) e

each-below : (P Q : CodedSlice → Type 0) (high : ℕ) (slices : List CodedSlice) → AreFalling high slices →
    ((s : CodedSlice) → number_of s < high → P s → Q s) → EachSlice P slices → EachSlice Q slices
each-below P Q high [] f g h = tt
each-below P Q high (s ∷ slices) f g h = (g s f.0 h.0, each-below P Q (number_of s) slices f.1 (λ t n p. g t (let a = f.0 in omega (arith, a, n)) p) h.1)

abbrev pub parameters_in : List CodedSlice → CodedSlice → ℕ → Parameters
parameters_in slices none n = parameters_of (numbered slices none n)

each-numbered : (high : ℕ) (slices : List CodedSlice) (none : CodedSlice) → AreFalling high slices →
    EachSlice (λ s. parameters_in slices none (number_of s) ≡ parameters_of s) slices
each-numbered high [] none f = tt
each-numbered high (s ∷ slices) none f = (
  ap parameters_of (numbered-by s slices none (number_of s) true (is-same (number_of s))),
  each-below _ _ (number_of s) slices f.1 (λ t n e. ap parameters_of
      (numbered-by s slices none (number_of t) false (is-other (number_of s) (number_of t) n)) ∙ e) (each-numbered (number_of s) slices none f.1),
)

numbered-pick : (P : CodedSlice → Type 0) (s : CodedSlice) (slices : List CodedSlice) (none : CodedSlice) (n : ℕ) (b : Bool) → (number_of s == n) ≡ b → P s →
    P (numbered slices none n) → P (numbered (s ∷ slices) none n)
numbered-pick P s slices none n true e h k = subst P (sym (numbered-by s slices none n true e)) h
numbered-pick P s slices none n false e h k = subst P (sym (numbered-by s slices none n false e)) k

numbered-one : (P : CodedSlice → Type 0) (slices : List CodedSlice) (none : CodedSlice) (n : ℕ) → P none → EachSlice P slices → P (numbered slices none n)
numbered-one P [] none n p h = p
numbered-one P (s ∷ slices) none n p h = numbered-pick P s slices none n (number_of s == n) refl h.0 (numbered-one P slices none n p h.1)

each-last : (P : CodedSlice → Type 0) (later : List CodedSlice) (first : CodedSlice) → EachSlice P (later ++ first ∷ []) → P first
each-last P [] first h = h.0
each-last P (s ∷ later) first h = each-last P later first h.1

-- ---- the frame is decoded

module _ (frames : ℕ → Frame) (p : CodedPicture) (ps : List CodedPicture) (d : Decoder)
    (h : HoldsBegun (Some frames) p ps (slices_of p) (last_slice p).macroblocks d) where
  abbrev pub making : Making
  making = record { slices = parameters_in (slices_of p) p.first; place = place_by d }

  pub is-making : IsMaking p.first.pps.chroma_qp_index_offset (slices_of p) d making
  is-making = record {
    parameters = each-numbered (length (last_slice p).macroblocks) (slices_of p) p.first h.so_far.numbers;
    offsets = λ n. numbered-one (λ s. (parameters_of s).filter.chroma_qp_index_offset ≡ p.first.pps.chroma_qp_index_offset) (slices_of p) p.first n
        (each-last _ p.later p.first offsets) offsets;
    places = λ n. refl;
  }
    where
      offsets : EachSlice (λ s. (parameters_of s).filter.chroma_qp_index_offset ≡ p.first.pps.chroma_qp_index_offset) (slices_of p)
      offsets = each-slice (λ s e. offset-of s.pps s.header ∙ ap (λ (x : Pps). x.chroma_qp_index_offset) e) (slices_of p) h.so_far.sets

  refers-in : (q : Sequence) → d.work.active ≡ Some q → (s : CodedSlice) → HasReferences frames (p ∷ ps) (length ps) d s →
      Refers frames p ps (place_by d) (setting_of q).reference s
  refers-in q a s e = record {
    before = λ k n small f. (e.each k n small f).before;
    samples = λ k n small f. let r = e.each k n small f in
        subst (IsActive (λ (x : Sequence). (c : _) (x' y : ℕ) → (setting_of x).reference (place_by d n) c x' y ≡ at (plane_of c (frames n)) x' y)) a
        (lent-references d.work.base d.place (place_by d n) d.work.active d.work.older (frames n) h.begun r.near r.lent_is);
  }

  -- the picture that was made with this size is decoded
  pub is-decoded : (f : Frame) → IsFrame f (16 * p.first.sps.frame_size.width) (16 * p.first.sps.frame_size.height) →
      HasSize p.first.sps.frame_size.width p.first.sps.frame_size.height d.work → IsDecodedIn d.work making (last_slice p).macroblocks (Some f) →
      IsDecoded frames p ps f
  is-decoded f size sized made = by d.work.active refl sized made
    where
      by : (o : Option Sequence) → d.work.active ≡ o →
          IsActive (λ (q : Sequence). (q.across ≡ p.first.sps.frame_size.width) × (q.down ≡ p.first.sps.frame_size.height)) o →
          IsActive (λ (q : Sequence). IsMadeOf (setting_of q) making (last_slice p).macroblocks (Some f)) o → IsDecoded frames p ps f
      by None a s m = absurd s
      by (Some q) a s m = record {
        size = size;
        place = place_by d;
        reference = (setting_of q).reference;
        refers = each-slice (refers-in q a) (slices_of p) h.so_far.frames_are.references;
        slices = making.slices;
        parameters = is-making.parameters;
        samples = subst (λ (w : ℕ). IsDecodedBy (record { across = w; down = p.first.sps.frame_size.height; reference = (setting_of q).reference })
            (place_by d) making.slices (last_slice p).macroblocks (λ c. at (plane_of c f))) s.0
            (subst (λ (x : ℕ). IsDecodedBy (record { across = q.across; down = x; reference = (setting_of q).reference }) (place_by d) making.slices
            (last_slice p).macroblocks (λ c. at (plane_of c f))) s.1 m);
      }

-- ---- a family with one frame more

abbrev pub with_one : (ℕ → Frame) → ℕ → Frame → ℕ → Frame
with_one frames n f k = if k == n then f else frames k

-- where frames are made, and this one is
abbrev pub with_frame : Family → ℕ → Option Frame → Family
with_frame None n o = None
with_frame (Some frames) n None = Some frames
with_frame (Some frames) n (Some f) = Some (with_one frames n f)

pub frame-at : (frames : ℕ → Frame) (n : ℕ) (f : Frame) → with_one frames n f n ≡ f
frame-at frames n f = ap (λ (b : Bool). if b then f else frames n) (is-same n)

frame-below : (frames : ℕ → Frame) (n : ℕ) (f : Frame) (k : ℕ) → k < n → frames k ≡ with_one frames n f k
frame-below frames n f k h = let e : (k == n) ≡ false = grind (arith, nat_tests) in sym (ap (λ (b : Bool). if b then f else frames k) e)

pub with-agrees : (frames : Family) (n : ℕ) (o : Option Frame) → Agree n frames (with_frame frames n o)
with-agrees None n o = tt
with-agrees (Some frames) n None = λ k h. refl
with-agrees (Some frames) n (Some f) = λ k h. frame-below frames n f k h

-- there is a family as before
pub with-family : (p : Purpose) (frames : Family) (n : ℕ) (o : Option Frame) → IsFamilyFor p frames → IsFamilyFor p (with_frame frames n o)
with-family p None n o h = h
with-family p (Some frames) n None h = h
with-family purposes.Frames (Some frames) n (Some f) h = tt
with-family purposes.Verdict (Some frames) n (Some f) h = absurd h

each-agrees : (frames others : ℕ → Frame) (lent : ℕ → Option Frame) (low high : ℕ) (es : List (Entry Placed)) → Agree high (Some frames) (Some others) →
    AreRising number_at low es high → Each (IsAtPlace frames lent) es → Each (IsAtPlace others lent) es
each-agrees frames others lent low high [] a r h = tt
each-agrees frames others lent low high (e ∷ es) a r h =
    let same = a e.of.picture (let k = rising-high (e.of.picture + 1) high es r.1 in omega (arith, k)) in (
      (h.0.0 ∙ ap Some same, subst (λ (f : Frame). IsTrue (fits e.of.rectangle f)) same h.0.1),
      each-agrees frames others lent (e.of.picture + 1) high es a r.1 h.1,
    )

pub frames-agree : (frames others : ℕ → Frame) (lent : ℕ → Option Frame) (next : ℕ) (output : Output) → Agree next (Some frames) (Some others) →
    AreRising number_at 0 output.buffer.entries next → HasFrames frames lent output → HasFrames others lent output
frames-agree frames others lent next output a r h = record { each = each-agrees frames others lent 0 next output.buffer.entries a r h.each }

-- the same frames before it decode it
pub decoded-as : (frames others : ℕ → Frame) (p : CodedPicture) (ps : List CodedPicture) (f : Frame) (n : ℕ) → length ps ≤ n →
    Agree n (Some frames) (Some others) →
    IsDecoded frames p ps f → IsDecoded others p ps f
decoded-as frames others p ps f n m a h = record {
  size = h.size;
  place = h.place;
  reference = h.reference;
  refers = each-slice (refers-agree frames others p ps h.place h.reference (λ k l. a k (omega (arith, l, m)))) (slices_of p) h.refers;
  slices = h.slices;
  parameters = h.parameters;
  samples = h.samples;
}

-- ---- what is shown of it

below : (a b : ℕ) → nat_lt a b ≡ true → a ≤ b
below a b e = grind (arith, nat_tests)

-- a rectangle of samples lies in the frame
module _ (w h : ℕ) (f : Frame) (sized : IsFrame f (16 * w) (16 * h)) where
  inside : (left right top bottom : ℕ) → left + right ≤ 8 * w → top + bottom ≤ 8 * h →
      fits (record { left = left; right = right; top = top; bottom = bottom }) f ≡ true
  inside left right top bottom across down =
      let yw = sized.y.columns in let yh = sized.y.rows in
      let cw = sized.cb.columns in let ch = sized.cb.rows in
      let rw = sized.cr.columns in let rh = sized.cr.rows in
      grind (arith, nat_tests)

  rectangle-by : (c : Option FrameCropping) → fits (rectangle_by (record { width = w; height = h }) c) f ≡ true
  rectangle-by None = inside 0 0 0 0 (omega arith) (omega arith)
  rectangle-by (Some c) = within c (is_within c (record { width = w; height = h })) refl
    where
      within : (c : FrameCropping) (b : Bool) → is_within c (record { width = w; height = h }) ≡ b →
          fits (if b then record { left = c.left; right = c.right; top = c.top; bottom = c.bottom } else record { left = 0; right = 0; top = 0; bottom = 0 })
          f ≡ true
      within c true e = inside c.left c.right c.top c.bottom (below _ _ (and_parts (leaves c.left c.right w) (leaves c.top c.bottom h) e).0)
          (below _ _ (and_parts (leaves c.left c.right w) (leaves c.top c.bottom h) e).1)
      within c false e = inside 0 0 0 0 (omega arith) (omega arith)

pub rectangle-fits : (sps : Sps) (f : Frame) → IsFrame f (16 * sps.frame_size.width) (16 * sps.frame_size.height) → fits (rectangle_of sps) f ≡ true
unfolding rectangle_of
rectangle-fits sps f sized = rectangle-by sps.frame_size.width sps.frame_size.height f sized sps.frame_cropping
