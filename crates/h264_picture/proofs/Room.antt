-- The next macroblock of a picture has its place in the frames and the lines.
use Rattle.std.proofs.Common.{◌≡◌, ℕ, ◌+◌, ◌*◌, ◌/◌, ◌<◌, ◌≤◌, ◌==◌, Bool, true, false, List, length, get_or, vec_len, arith, ◌∙◌, sym, refl, ap, subst}
use Rattle.std.specs.Prelude.{nat_lt, if◌then◌else◌}
use Rattle.std.proofs.Math.Nat.{mul_comm}
use Rattle.std.proofs.lemmas.Nat.{mul-le}
use Rattle.std.proofs.lemmas.Bool.{eqb-true, eqb-false}
use Rattle.std.proofs.lemmas.Bool.Decides.{nat_tests}
use Rattle.h264_plane.specs.Samples.{IsSized}
use Rattle.h264_plane.specs.Frames.{plane_of, frame_at, IsFrame}
use Rattle.h264_plane.specs.declared.frame.Component.{Component}
use Rattle.h264_plane.specs.declared.frame.Component.TheVariants.{Y, Cb, Cr}
use Rattle.h264_plane.specs.declared.frame.Frame.{Frame}
use Rattle.h264_recon.specs.Lines.{store_of}
use Rattle.h264_recon.specs.Placed.{PointsInto}
use Rattle.h264_recon.specs.Pool.{HasRoom, AreUsable}
use Rattle.h264_recon.specs.Predicted.{Prediction, Intra, Inter, Pcm}
use Rattle.h264_recon.specs.declared.store.Lines.{Lines}
use Rattle.h264_picture.specs.declared.canvas.Canvas.{Canvas}
use Rattle.h264_picture.specs.declared.frames.Frames.{Frames}
use Rattle.h264_picture.specs.declared.picture.Picture.{Picture}
use Rattle.h264_picture.specs.Lent.{AreFrames, frame_within}
use Rattle.h264_picture.specs.Sound.{IsPlace, ArePlaces, IsSound, IsCanvas}

-- the frame that was moved out, and those that stand in the pool
pub own-frame : (w h : ℕ) (f : Frames) → AreFrames w h f → f.place < length f.pool → IsFrame f.frame w h
own-frame w h f a i = by (f.place == f.place) refl (a.each f.place i)
  where
    by : (t : Bool) → (f.place == f.place) ≡ t → IsFrame (if f.place == f.place then f.frame else frame_at f.pool f.place) w h → IsFrame f.frame w h
    by true e g = subst (λ (t : Bool). IsFrame (if t then f.frame else frame_at f.pool f.place) w h) e g
    by false e g = absurd (eqb-false f.place f.place e refl)

pub pool-frame : (w h : ℕ) (f : Frames) (n : ℕ) → AreFrames w h f → IsPlace f n → IsFrame (frame_at f.pool n) w h
pool-frame w h f n a p = by (n == f.place) refl (a.each n p.inside)
  where
    by : (t : Bool) → (n == f.place) ≡ t → IsFrame (if n == f.place then f.frame else frame_at f.pool n) w h → IsFrame (frame_at f.pool n) w h
    by true e g = absurd (p.other (eqb-true n f.place e))
    by false e g = subst (λ (t : Bool). IsFrame (if t then f.frame else frame_at f.pool n) w h) e g

resized-frame : (w h : ℕ) (f g : Frame) → ((p : Component) → IsSized (plane_of p g) (plane_of p f).width (plane_of p f).height) → IsFrame f w h → IsFrame g w h
resized-frame w h f g e s = record {
  y = record { columns = (e Y).columns ∙ s.y.columns; rows = (e Y).rows ∙ s.y.rows };
  cb = record { columns = (e Cb).columns ∙ s.cb.columns; rows = (e Cb).rows ∙ s.cb.rows };
  cr = record { columns = (e Cr).columns ∙ s.cr.columns; rows = (e Cr).rows ∙ s.cr.rows };
  columns = s.columns;
  rows = s.rows;
}

-- the frame that was moved out is written
resized : (w h : ℕ) (f g : Frames) → f.place < length f.pool →
    ((p : Component) → IsSized (plane_of p g.frame) (plane_of p f.frame).width (plane_of p f.frame).height) → g.pool ≡ f.pool → g.place ≡ f.place →
    AreFrames w h f → AreFrames w h g
resized w h f g i e p q a = record { each = λ k j. by k (rw p at j) (k == f.place) refl }
  where
    by : (k : ℕ) → k < length f.pool → (t : Bool) → (k == f.place) ≡ t → IsFrame (frame_within g k) w h
    by k j true z = let own = resized-frame w h f.frame g.frame e (own-frame w h f a i) in
        subst (λ (t : Bool). IsFrame (if t then g.frame else frame_at g.pool k) w h) (sym (ap (λ n. k == n) q ∙ z)) own
    by k j false z = let other = pool-frame w h f k a (record { inside = j; other = λ x. eqb-false k f.place z x }) in
        subst (λ (t : Bool). IsFrame (if t then g.frame else frame_at g.pool k) w h) (sym (ap (λ n. k == n) q ∙ z))
        (subst (λ (xs : List Frame). IsFrame (frame_at xs k) w h) (sym p) other)

-- a macroblock at this column and row lies in a frame
pub record HasOwn (c r : ℕ) (f : Frame) : Type 0 where
  pub y : (16 * c + 16 ≤ f.y.width) × (16 * r + 16 ≤ f.y.height)
  pub cb : (8 * c + 8 ≤ f.cb.width) × (8 * r + 8 ≤ f.cb.height)
  pub cr : (8 * c + 8 ≤ f.cr.width) × (8 * r + 8 ≤ f.cr.height)

pub half : (n : ℕ) → (16 * n) / 2 ≡ 8 * n
half n = omega arith

pub has-own : (w h c r : ℕ) (f : Frame) → c < w → r < h → IsFrame f (16 * w) (16 * h) → HasOwn c r f
has-own w h c r f i j s =
    let a = half w in let b = half h in
    let yw = s.y.columns in let yh = s.y.rows in
    let bw = s.cb.columns in let bh = s.cb.rows in
    let rw' = s.cr.columns in let rh = s.cr.rows in
    record { y = (omega arith, omega arith); cb = (omega arith, omega arith); cr = (omega arith, omega arith) }

module _ (across down count : ℕ) (picture : Picture) (s : IsSound across down count picture) (below : picture.next < count) where
  abbrev c : ℕ
  c = picture.position.column

  abbrev r : ℕ
  r = picture.position.row

  pub in-rows : r < down
  in-rows = by (nat_lt r down) refl
    where
      by : (t : Bool) → nat_lt r down ≡ t → r < down
      by true e = grind (arith, nat_tests)
      by false e =
          let d : down ≤ r = grind (arith, nat_tests) in
          let m : down * across ≤ r * across = mul-le down across r across d (omega arith) in
          let k : across * down ≡ down * across = mul_comm across down in
          let n = s.next in let z = s.size in
          absurd (omega arith)

  pub is-small : (c < 1024) × (r < 1024)
  is-small = let i = in-rows in let w = s.wide.1 in let h = s.tall.1 in let n = s.column in (omega arith, omega arith)

  pub small-sides : (across ≤ 1024) × (r ≤ 1024)
  small-sides = let i = in-rows in let w = s.wide.1 in let h = s.tall.1 in (omega arith, omega arith)

  module _ (places : ℕ) (canvas : Canvas) (d : IsCanvas across down places canvas) where
    abbrev f : Frames
    f = canvas.frames

    abbrev l : Lines
    l = canvas.lines

    pub own-room : HasOwn c r f.frame
    own-room = has-own across down c r f.frame s.column in-rows (own-frame (16 * across) (16 * down) f d.frames f.within.0)

    pub has-room : (n : ℕ) → IsPlace f n → HasRoom f.pool c r n
    has-room n p =
        let o = has-own across down c r (frame_at f.pool n) s.column in-rows (pool-frame (16 * across) (16 * down) f n d.frames p) in
        record { picture = p.inside; y = o.y; cb = o.cb; cr = o.cr }

    pub are-usable : (ps : List ℕ) → ArePlaces f ps → (m : Prediction) → PointsInto ps m → AreUsable f.pool c r m
    are-usable ps places (Intra modes) h = tt
    are-usable ps places (Inter motion) h = λ n i. let p = h n i in subst (HasRoom f.pool c r) (sym p.2) (has-room (get_or ps p.0 0) (places.each p.0 p.1))
    are-usable ps places (Pcm bytes) h = tt

    pub y-lines : 16 * c + 16 ≤ vec_len l.y.above
    y-lines = let n = d.lines Y in let i = s.column in omega arith

    pub cb-lines : 8 * c + 8 ≤ vec_len l.cb.above
    cb-lines = let n = d.lines Cb in let i = s.column in omega arith

    pub cr-lines : 8 * c + 8 ≤ vec_len l.cr.above
    cr-lines = let n = d.lines Cr in let i = s.column in omega arith

    pub more-lines : c + 1 < across → 16 * c + 20 ≤ vec_len l.y.above
    more-lines h = let n = d.lines Y in omega arith

-- lines and a frame of the same size, in their places
pub made : (across down places : ℕ) (canvas : Canvas) (l : Lines) (f : Frames) → IsCanvas across down places canvas →
    ((p : Component) → vec_len (store_of p l).above ≡ vec_len (store_of p canvas.lines).above) →
    ((p : Component) → IsSized (plane_of p f.frame) (plane_of p canvas.frames.frame).width (plane_of p canvas.frames.frame).height) →
    f.pool ≡ canvas.frames.pool → f.place ≡ canvas.frames.place → IsCanvas across down places (record { frames = f; lines = l })
made across down places canvas l f d h g p q = record {
  lines = λ k. h k ∙ d.lines k;
  frames = resized (16 * across) (16 * down) canvas.frames f canvas.frames.within.0 g p q d.frames;
  count = ap length p ∙ d.count;
}
