-- The samples of a picture in the making.
use Rattle.std.proofs.Common.{◌≡◌, ℕ, ◌+◌, ◌*◌, ◌<◌, Bool, true, false, IsTrue, IsOk, IfOk, Result, Ok, Err, List, [], length, get_or, Option, Some}
use Rattle.std.proofs.Common.{None, is_some, refl, sym, ap, ◌∙◌, subst, ℤ}
use Rattle.std.proofs.lemmas.Bool.{false≢true}
use Rattle.std.proofs.Math.Nat.{mul_comm}
use Rattle.h264_plane.specs.Frames.{frame_at, IsFrame}
use Rattle.h264_plane.specs.declared.frame.Component.TheVariants.{Y, Cb, Cr}
use Rattle.h264_plane.specs.declared.frame.Frame.{Frame}
use Rattle.h264_near.specs.Coded.{CodedMacroblock}
use Rattle.h264_near.specs.Keeps.{Keeps, width_of}
use Rattle.h264_vectors.specs.declared.slice.SliceContext.{SliceContext}
use Rattle.h264_mbsyntax.specs.Possible as read
use Rattle.h264_recon.specs.Constructed.{Coded, IsPossible}
use Rattle.h264_recon.specs.Given.{given, slice_settings}
use Rattle.h264_base.specs.declared.weight.Weights.{Weights}
use Rattle.h264_recon.specs.Placed.{PointsInto, weights_by}
use Rattle.h264_recon.specs.Pool.{IsShown, AreShown}
use Rattle.h264_recon.specs.Predicted.{Prediction, Intra, Inter, Pcm}
use Rattle.h264_recon.proofs.Possible.{given-allowed}
use Rattle.h264_deblock.specs.Filtering.{IsOf}
use Rattle.h264_picture.specs.declared.canvas.Canvas.{Canvas}
use Rattle.h264_picture.specs.declared.sequence.Sequence.{Sequence}
use Rattle.h264_picture.specs.declared.slice.Slice.{Slice}
use Rattle.h264_picture.specs.Decoded.{Parameters, given_by}
use Rattle.h264_picture.specs.Holds.{ServesIn, HoldsIn}
use Rattle.h264_picture.specs.Making.{Making, MakesSlice, HasSamplesIn, HoldsMade, IsMadeOf, pool_of, setting_by, setting_of}
use Rattle.h264_picture.specs.Sound.{IsPlace, ArePlaces, IsCanvas, HasCanvas}
use Rattle.h264_picture.proofs.Held.{held-none, held-whole}
use Rattle.h264_picture.proofs.Room.{own-frame, pool-frame, half}

-- a frame of so many macroblocks in a row and in a column
frame-of : (a d : ℕ) (f : Frame) → IsFrame f (16 * a) (16 * d) → IsOf a d f
frame-of a d f i Y = record { columns = i.y.columns; rows = i.y.rows }
frame-of a d f i Cb = record { columns = i.cb.columns ∙ half a; rows = i.cb.rows ∙ half d }
frame-of a d f i Cr = record { columns = i.cr.columns ∙ half a; rows = i.cr.rows ∙ half d }

-- two tests, each of which is met where the other is
pub alike : (a b : Bool) → (IsTrue a → IsTrue b) → (IsTrue b → IsTrue a) → a ≡ b
alike true true f g = refl
alike true false f g = sym (f refl)
alike false true f g = g refl
alike false false f g = refl

-- what holds where there is no error
pub if-ok : {A E P : Type 0} (r : Result A E) → IsOk r → IfOk r (λ u. P) → P
if-ok (Ok v) e p = p
if-ok (Err x) e p = absurd (false≢true e)

module _ (across down places : ℕ) (c : Canvas) (d : IsCanvas across down places c) where
  pub own-size : IsOf across down c.frames.frame
  own-size = frame-of across down c.frames.frame (own-frame (16 * across) (16 * down) c.frames d.frames c.frames.within.0)

  -- the frames of the pool are the reference pictures
  shown : (n : ℕ) → IsPlace c.frames n → IsShown (setting_by across down c.frames.pool) c.frames.pool n
  shown n h = record {
    size = frame-of across down (frame_at c.frames.pool n) (pool-frame (16 * across) (16 * down) c.frames n d.frames h);
    samples = λ p x y i j. refl;
  }

  pub are-shown : (ps : List ℕ) → ArePlaces c.frames ps → (m : Prediction) → PointsInto ps m → AreShown (setting_by across down c.frames.pool) c.frames.pool m
  are-shown ps stand (Intra modes) h = tt
  are-shown ps stand (Inter motion) h = λ n i. let p = h n i in
      subst (IsShown (setting_by across down c.frames.pool) c.frames.pool) (sym p.2) (shown (get_or ps p.0 0) (stand.each p.0 p.1))
  are-shown ps stand (Pcm bytes) h = tt

-- nothing is decoded
pub nothing-made : (across down places : ℕ) (making : Making) (o : Option Canvas) → 0 < across → HasCanvas across down places o → is_some o ≡ true →
    HasSamplesIn (setting_by across down (pool_of o)) making [] o
nothing-made across down places making None some h e = absurd (cc)
nothing-made across down places making (Some c) some h e =
    let d = h c refl in
    held-none (setting_by across down c.frames.pool) making.place making.slices c.lines c.frames.frame some d.lines (own-size across down places c d)

pub begun-holds : (width size : ℕ) (old new : Sequence) → ServesIn width size old → Keeps (width_of old.picture.near) [] new.picture.near →
    new.across ≡ old.across → new.size ≡ old.size → new.picture.next ≡ 0 → HoldsIn width size [] new
begun-holds width size old new v k a s n = record {
  keeps = subst (λ w. Keeps w [] new.picture.near) v.row k;
  columns = a ∙ v.columns;
  macroblocks = s ∙ v.macroblocks;
  next = n;
  past = λ m e. absurd (cc);
}

-- what is given by the slice's parameters
pub given-by : (across width : ℕ) (picture : List CodedMacroblock) (making : Making) (slice : Slice) (m : CodedMacroblock) (g : Coded) → across ≡ width →
    MakesSlice making slice → m.slice ≡ slice.context.number →
    g ≡ given width picture making.place (slice_settings (weights_by slice.weights) slice.context.constrained_intra slice.context.chroma_qp_index_offset) m →
    g ≡ given_by across picture making.place (making.slices m.slice) m
given-by across width picture making slice m g w h e is =
    let parameters : making.slices m.slice ≡
    record { constrained_intra = slice.context.constrained_intra; filter = slice.filter; weights = weights_by slice.weights } = ap making.slices e ∙
    h.parameters in
    rw (parameters, h.offset, w) is

pub filter-by : (making : Making) (slice : Slice) (m : CodedMacroblock) → MakesSlice making slice → m.slice ≡ slice.context.number →
    (making.slices m.slice).filter ≡ slice.filter
filter-by making slice m h e = ap (λ (p : Parameters). p.filter) (ap making.slices e ∙ h.parameters)

-- its modes refer to sides that there are
pub possible : (width : ℕ) (slice : SliceContext) (picture : List CodedMacroblock) (place : ℕ → ℕ) (weights : List (Option Weights)) (offset : ℤ)
    (m : CodedMacroblock) (c r : ℕ) (g : Coded) → length picture ≡ r * width + c → c < width → m.slice ≡ slice.number →
    read.IsPossible width slice picture m.prediction →
    g ≡ given width picture place (slice_settings weights slice.constrained_intra offset) m → IsPossible g.prediction g.available
possible width slice picture place weights offset m c r g n i e h is =
    subst (λ (x : Coded). IsPossible x.prediction x.available) (sym is) (given-allowed width slice picture place weights offset m c r n i e h).possible

-- a whole picture is decoded
pub whole-made : (width size : ℕ) (making : Making) (picture : List CodedMacroblock) (s : Sequence) (f : Option Frame) →
    HoldsMade width size (Some making) picture s → length picture ≡ size → ((c : Canvas) → s.canvas ≡ Some c → f ≡ Some c.frames.frame) →
    IsMadeOf (setting_of s) making picture f
whole-made width size making picture s f h n e = by s.canvas refl h.samples
  where
    count : length picture ≡ s.down * s.across
    count = n ∙ sym h.holds.macroblocks ∙ s.sound.size ∙ mul_comm s.across s.down

    by : (o : Option Canvas) → s.canvas ≡ o → HasSamplesIn (setting_of s) making picture o → IsMadeOf (setting_of s) making picture f
    by None is held = absurd held
    by (Some c) is held = rw (e c is) (held-whole (setting_of s) making.place making.slices c.lines c.frames.frame picture s.sound.wide.0 count held)
