-- Prediction from the frames of a pool.
use Rattle.std.proofs.Common.{Bool, true, false, ◌≡◌, ℕ, ◌+◌, ◌*◌, ◌/◌, ◌<◌, List, slice_index, get_or, None, pos, ◌+ℤ◌, arith, refl, sym, ap, ◌∙◌}
use Rattle.std.proofs.lemmas.Nat.{mul-le}
use Rattle.h264_plane.specs.declared.frame.Component.{Component}
use Rattle.h264_plane.specs.declared.frame.Component.TheVariants.{Y, Cb, Cr}
use Rattle.h264_plane.specs.declared.frame.Frame.{Frame}
use Rattle.h264_plane.specs.Clip.{clip1}
use Rattle.h264_inter.proofs.Depends.{luma_depends, chroma_depends}
use Rattle.h264_plane.specs.Places.{side}
use Rattle.h264_scale.specs.Macroblock.{residual}
use Rattle.h264_recon.specs.Residuals.{IsAdded}
use Rattle.h264_recon.specs.Inter.{Setting, predicted_from, predicted_at, motion_at, no_motion, position_at}
use Rattle.h264_recon.specs.Constructed.{predicted_inter, weighted_inter, made_by, made, Coded}
use Rattle.h264_recon.specs.Weighing.{ArePlacesWeighted}
use Rattle.h264_recon.specs.Weights.{weights_at, weighted_if}
use Rattle.h264_recon.specs.Lines.{local, IsMadeFrom, chroma_plane}
use Rattle.h264_recon.specs.Pool.{HasRoom, HaveRoom, IsShown, AreShown, of_frames, from_pool}
use Rattle.h264_recon.specs.declared.macroblock.Motion.{Motion}
use Rattle.h264_recon.specs.Predicted.{Inter}
use Rattle.h264_recon.specs.declared.store.Store.{Store}

-- ---- the frame shows the reference picture

pub shown_at : (p : Component) (k : Setting) (frames : List Frame) (m : Motion) (x y : ℕ) → IsShown k frames m.picture → 0 < side p * k.across →
    0 < side p * k.down →
    of_frames p frames m x y ≡ predicted_at k m p x y
unfolding predicted_from
shown_at Y k frames m x y shown a b =
    rw ((shown.size Y).columns, (shown.size Y).rows) (luma_depends _ _ _ _ m.vector x y a b (shown.samples Y))
shown_at Cb k frames m x y shown a b =
    rw ((shown.size Cb).columns, (shown.size Cb).rows) (chroma_depends _ _ _ _ m.vector x y a b (shown.samples Cb))
shown_at Cr k frames m x y shown a b =
    rw ((shown.size Cr).columns, (shown.size Cr).rows) (chroma_depends _ _ _ _ m.vector x y a b (shown.samples Cr))

-- the room that the picture of a place's motion has
pub motion_room : (frames : List Frame) (c r : ℕ) (motion : List Motion) (n : ℕ) (m : Motion) (i : ℕ) → HaveRoom frames c r motion → n < 16 →
    m ≡ get_or motion n no_motion → i ≡ m.picture → HasRoom frames c r i
motion_room frames c r motion n m i room less em ei = rw (ei, em) (room n less)

-- ---- the samples

made_inter : (k : Setting) (c r : ℕ) (m : Coded) (p : Component) (s : ℕ → ℕ → ℕ) (x y : ℕ) (motion : List Motion) → m.prediction ≡ Inter motion →
    made k (position_at c r) m p s x y ≡ clip1 (pos (weighted_inter k (position_at c r) motion m.weights p x y) +ℤ residual m.levels p x y)
unfolding made_by
made_inter k c r m p s x y motion e = rw e refl

pub motion_inside : (p : Component) (x y : ℕ) → x < side p → y < side p → 4 * (4 * y / side p) + 4 * x / side p < 16
motion_inside Y x y i j = omega arith
motion_inside Cb x y i j = omega arith
motion_inside Cr x y i j = omega arith

side_some : (p : Component) → 0 < side p
side_some Y = omega arith
side_some Cb = omega arith
side_some Cr = omega arith

-- a macroblock of a picture makes it some samples wide and high
pub inside_some : (p : Component) (c w : ℕ) → c < w → 0 < side p * w
inside_some p c w a = let least = mul-le 1 1 (side p) w (side_some p) (omega arith) in omega (arith, least)

-- a prediction from the pool is that of the equations
pub inter_is : (k : Setting) (frames : List Frame) (c r : ℕ) (motion : List Motion) (p : Component) (x y : ℕ) → c < k.across → r < k.down →
    ((n : ℕ) → n < 16 → IsShown k frames (get_or motion n no_motion).picture) →
    x < side p → y < side p → from_pool frames motion (position_at c r) p x y ≡ predicted_inter k (position_at c r) motion p x y
unfolding predicted_inter
inter_is k frames c r motion p x y a b shown i j =
    shown_at p k frames (motion_at motion p x y) (side p * c + x) (side p * r + y) (shown _ (motion_inside p x y i j))
    (inside_some p c k.across a) (inside_some p r k.down b)

pub inter_made : (k : Setting) (frames : List Frame) (c r : ℕ) (m : Coded) (p : Component) (l : Store) (motion : List Motion)
    (predicted weighted own : List ℕ) → c < k.across → r < k.down →
    m.prediction ≡ Inter motion → AreShown k frames m.prediction →
    ((x y : ℕ) → x < side p → y < side p → slice_index predicted (side p * y + x) ≡ from_pool frames motion (position_at c r) p x y) →
    ((x y : ℕ) → x < side p → y < side p → slice_index weighted (side p * y + x) ≡
    weighted_if p (weights_at m.weights p x y) (slice_index predicted (side p * y + x))) →
    IsAdded m.levels p weighted own → IsMadeFrom k (position_at c r) m p l own
inter_made k frames c r m p l motion predicted weighted own a b e shown has weighs sum =
    let there : AreShown k frames (Inter motion) = rw e at shown in
    record {
      each = λ x y i j. sum.each x y i j
          ∙ ap (λ n. clip1 (pos n +ℤ residual m.levels p x y))
          (weighs x y i j ∙ ap (weighted_if p (weights_at m.weights p x y)) (has x y i j ∙ inter_is k frames c r motion p x y a b there i j))
          ∙ sym (made_inter k c r m p (local (side p) l c own) x y motion e);
    }

pub chroma_inter : (t : Bool) (k : Setting) (frames : List Frame) (c r : ℕ) (m : Coded) (l : Store) (motion : List Motion) (predicted weighted own : List ℕ) →
    c < k.across → r < k.down →
    m.prediction ≡ Inter motion → AreShown k frames m.prediction →
    ((x y : ℕ) → x < 8 → y < 8 → slice_index predicted (8 * y + x) ≡ from_pool frames motion (position_at c r) (chroma_plane t) x y) →
    ArePlacesWeighted 8 (chroma_plane t) (λ n. get_or m.weights n None) predicted weighted → IsAdded m.levels (chroma_plane t) weighted own →
    IsMadeFrom k (position_at c r) m (chroma_plane t) l own
chroma_inter true k frames c r m l motion predicted weighted own a b e shown has weighs sum =
    inter_made k frames c r m Cr l motion predicted weighted own a b e shown has weighs.each sum
chroma_inter false k frames c r m l motion predicted weighted own a b e shown has weighs sum =
    inter_made k frames c r m Cb l motion predicted weighted own a b e shown has weighs.each sum
