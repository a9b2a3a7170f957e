-- A macroblock part by part.
use Rattle.std.proofs.Common.{Bool, true, false, ◌≡◌, ◌⊎◌, inl, inr, ⊎_elim, ℕ, ◌+◌, ◌-◌, ◌*◌, ◌/◌, ◌<◌, ◌≤◌, ◌&&◌, nat_le, nat_lt, List, slice_index, get_or}
use Rattle.std.proofs.Common.{replicate, arith, refl, sym, ap, ◌∙◌, zero-add}
use Rattle.std.proofs.lemmas.Bool.{cases_lt, cond-true, cond-false}
use Rattle.std.proofs.lemmas.Bool.Decides.{nat_tests}
use Rattle.std.proofs.Math.Nat.{mul_comm}
use Rattle.std.proofs.lemmas.List.{get_or-replicate}
use Rattle.h264_plane.specs.Samples as plane
use Rattle.h264_plane.specs.Samples.{at, rows_of, with_block, ShowsSamples}
use Rattle.h264_plane.specs.Frames.{plane_of, frame_at}
use Rattle.h264_plane.specs.Places.{side}
use Rattle.h264_plane.specs.declared.frame.Component.{Component}
use Rattle.h264_plane.specs.declared.frame.Component.TheVariants.{Y, Cb, Cr}
use Rattle.h264_plane.specs.declared.frame.Frame.{Frame}
use Rattle.h264_inter.specs.Reference.{HasBlock}
use Rattle.h264_inter.specs.Luma.{predicted_luma}
use Rattle.h264_inter.specs.Chroma.{predicted_chroma}
use Rattle.h264_recon.specs.Inter.{predicted_from, motion_at, no_motion, position_at}
use Rattle.h264_recon.specs.Lines.{chroma_plane}
use Rattle.h264_recon.specs.Parts.{HasPart, IsPart, AreMade, ArePredicted, part_from}
use Rattle.h264_recon.specs.Pool.{of_frames, from_pool}
use Rattle.h264_recon.specs.declared.store.Samples.{Samples}
use Rattle.h264_recon.specs.declared.macroblock.Motion.{Motion}
use Rattle.h264_plane.proofs.Own.{moved}

-- the whole
pub whole_part : (n : ℕ) (f : ℕ → ℕ → ℕ) (own : List ℕ) → HasPart n own 0 0 f → HasBlock n n own f
whole_part n f own is = record { each = λ i j p q. is.each i j p q ∙ moved f _ _ i j (zero-add i) (zero-add j) }

-- ---- the motion of a part

-- of a macroblock that moves as a whole
pub luma_one : (m : Motion) (i j : ℕ) → i < 16 → j < 16 → m ≡ motion_at (replicate 16 m) Y (0 + i) (0 + j)
luma_one m i j a b = sym (get_or-replicate 16 (4 * (4 * (0 + j) / 16) + 4 * (0 + i) / 16) m no_motion (omega arith))

pub chroma_one : (t : Bool) (m : Motion) (i j : ℕ) → i < 8 → j < 8 → m ≡ motion_at (replicate 16 m) (chroma_plane t) (0 + i) (0 + j)
chroma_one true m i j a b = sym (get_or-replicate 16 (4 * (4 * (0 + j) / 8) + 4 * (0 + i) / 8) m no_motion (omega arith))
chroma_one false m i j a b = sym (get_or-replicate 16 (4 * (4 * (0 + j) / 8) + 4 * (0 + i) / 8) m no_motion (omega arith))

-- ---- a part from the pool

from_frame : (p : Component) (frames : List Frame) (motion : List Motion) (c r x y a b : ℕ) (m : Motion) (q : plane.Samples) → a ≡ side p * c + x →
    b ≡ side p * r + y →
    q ≡ plane_of p (frame_at frames m.picture) → m ≡ motion_at motion p x y →
    predicted_from p q.width q.height (at q) m a b ≡ from_pool frames motion (position_at c r) p x y
from_frame p frames motion c r x y a b m q ea eb eq em =
    rw (ea, eb, eq) (ap (λ (z : Motion). predicted_from p (plane_of p (frame_at frames z.picture)).width (plane_of p (frame_at frames z.picture)).height
    (at (plane_of p (frame_at frames z.picture))) z (side p * c + x) (side p * r + y)) em)

luma_is : (w h : ℕ) (s : ℕ → ℕ → ℕ) (m : Motion) (x y : ℕ) → predicted_luma w h s m.vector x y ≡ predicted_from Y w h s m x y
unfolding predicted_from
luma_is w h s m x y = refl

chroma_is : (t : Bool) (w h : ℕ) (s : ℕ → ℕ → ℕ) (m : Motion) (x y : ℕ) → predicted_chroma w h s m.vector x y ≡ predicted_from (chroma_plane t) w h s m x y
unfolding predicted_from
chroma_is true w h s m x y = refl
chroma_is false w h s m x y = refl

side_chroma : (t : Bool) → side (chroma_plane t) ≡ 8
side_chroma true = refl
side_chroma false = refl

pub luma_part : (n : ℕ) (frames : List Frame) (motion : List Motion) (c r x y a b : ℕ) (m : Motion) (f : Frame) (part : List ℕ) → a ≡ 16 * c + x →
    b ≡ 16 * r + y → f ≡ frame_at frames m.picture →
    ((i j : ℕ) → i < n → j < n → m ≡ motion_at motion Y (x + i) (y + j)) →
    HasBlock n n part (λ u v. predicted_luma f.y.width f.y.height (at f.y) m.vector (a + u) (b + v)) →
    HasPart n part x y (from_pool frames motion (position_at c r) Y)
luma_part n frames motion c r x y a b m f part ea eb ef same block = record {
  each = λ i j p q. block.each i j p q ∙ luma_is f.y.width f.y.height (at f.y) m (a + i) (b + j)
      ∙ from_frame Y frames motion c r (x + i) (y + j) (a + i) (b + j) m f.y (omega arith) (omega arith) (ap (λ (z : Frame). z.y) ef) (same i j p q);
}

pub chroma_part : (t : Bool) (n : ℕ) (frames : List Frame) (motion : List Motion) (c r x y a b : ℕ) (m : Motion) (f : Frame) (q : plane.Samples)
    (part : List ℕ) → a ≡ 8 * c + x → b ≡ 8 * r + y → f ≡ frame_at frames m.picture →
    q ≡ plane_of (chroma_plane t) f → ((i j : ℕ) → i < n → j < n → m ≡ motion_at motion (chroma_plane t) (x + i) (y + j)) →
    HasBlock n n part (λ u v. predicted_chroma q.width q.height (at q) m.vector (a + u) (b + v)) →
    HasPart n part x y (from_pool frames motion (position_at c r) (chroma_plane t))
chroma_part t n frames motion c r x y a b m f q part ea eb ef eq same block = record {
  each = λ i j d e.
      let column : a + i ≡ side (chroma_plane t) * c + (x + i) = rw (side_chroma t) (omega arith) in
      let row : b + j ≡ side (chroma_plane t) * r + (y + j) = rw (side_chroma t) (omega arith) in
      block.each i j d e ∙ chroma_is t q.width q.height (at q) m (a + i) (b + j)
      ∙ from_frame (chroma_plane t) frames motion c r (x + i) (y + j) (a + i) (b + j) m q column row (eq ∙ ap (λ (z : Frame). plane_of (chroma_plane t) z) ef)
      (same i j d e);
}

-- ---- parts one after another

in_test : (x y w h u v : ℕ) → x ≤ u → u < x + w → y ≤ v → v < y + h → (nat_le x u && nat_lt u (x + w) && nat_le y v && nat_lt v (y + h)) ≡ true
in_test x y w h u v a b c d = grind (arith, nat_tests)

out_test : (x y w h u v : ℕ) → (x ≤ u → u < x + w → y ≤ v → v < y + h → ⊥) → (nat_le x u && nat_lt u (x + w) && nat_le y v && nat_lt v (y + h)) ≡ false
out_test x y w h u v out = go (nat_le x u && nat_lt u (x + w) && nat_le y v && nat_lt v (y + h)) refl
  where
    go : (b : Bool) → (nat_le x u && nat_lt u (x + w) && nat_le y v && nat_lt v (y + h)) ≡ b →
        (nat_le x u && nat_lt u (x + w) && nat_le y v && nat_lt v (y + h)) ≡ false
    go true e = absurd (out (grind (arith, nat_tests)) (grind (arith, nat_tests)) (grind (arith, nat_tests)) (grind (arith, nat_tests)))
    go false e = e

-- a block that is put among the samples of a macroblock
pub part_of : (s x y w h : ℕ) (f g : ℕ → ℕ → ℕ) (block old new : List ℕ) → x + w ≤ s → y + h ≤ s →
    ShowsSamples (rows_of s s old) (rows_of s s new) (with_block w h x y block (at (rows_of s s old))) → HasBlock w h block g →
    ((i j : ℕ) → i < w → j < h → g i j ≡ f (x + i) (y + j)) →
    IsPart s (part_from x y w h) f old new
unfolding with_block
part_of s x y w h f g block old new wide high shows has same = record {
  here = λ u v a b c d.
      let i : x + (u - x) ≡ u = omega arith in
      let j : y + (v - y) ≡ v = omega arith in
      let place : s * v + u ≡ v * s + u = ap (λ z. z + u) (mul_comm s v) in
      ap (λ z. slice_index new z) place ∙ shows.samples u v (omega arith) (omega arith) ∙ cond-true _ _ _ (in_test x y w h u v a b c d)
      ∙ has.each (u - x) (v - y) (omega arith) (omega arith) ∙ same (u - x) (v - y) (omega arith) (omega arith) ∙ moved f _ _ u v i j;
  kept = λ u v a b out.
      let place : s * v + u ≡ v * s + u = ap (λ z. z + u) (mul_comm s v) in
      ap (λ z. slice_index new z) place ∙ shows.samples u v a b ∙ cond-false _ _ _ (out_test x y w h u v out) ∙ sym (ap (λ z. slice_index old z) place);
}

-- one more part of the samples that are wanted, f, over those of the places before it
made_more : (s d : ℕ) (index : ℕ → ℕ → ℕ) (k n x y w h : ℕ) (f g : ℕ → ℕ → ℕ) (old new : List ℕ) →
    ((u v : ℕ) → u < s → v < s → index (u / d) (v / d) < k → slice_index old (s * v + u) ≡ f u v) → IsPart s (part_from x y w h) g old new →
    ((u v : ℕ) → u < s → v < s → x ≤ u → u < x + w → y ≤ v → v < y + h → g u v ≡ f u v) →
    ((u v : ℕ) → u < s → v < s → index (u / d) (v / d) < k + n → (u < x) ⊎ ((x + w ≤ u) ⊎ ((v < y) ⊎ (y + h ≤ v))) → index (u / d) (v / d) < k) →
    (u v : ℕ) → u < s → v < s → index (u / d) (v / d) < k + n → slice_index new (s * v + u) ≡ f u v
made_more s d index k n x y w h f g old new made part same before u v a b less = ⊎_elim
    (λ (left : u < x). part.kept u v a b (λ e f g h. absurd (omega arith)) ∙ made u v a b (before u v a b less (inl left)))
    (λ (i : x ≤ u). ⊎_elim
    (λ (i' : u < x + w). ⊎_elim
    (λ (above : v < y). part.kept u v a b (λ e f g h. absurd (omega arith)) ∙ made u v a b (before u v a b less (inr (inr (inl above)))))
    (λ (j : y ≤ v). ⊎_elim
    (λ (j' : v < y + h). part.here u v i i' j j' ∙ same u v a b i i' j j')
    (λ (below : y + h ≤ v). part.kept u v a b (λ e f g h. absurd (omega arith)) ∙ made u v a b (before u v a b less (inr (inr (inr below)))))
    (cases_lt v (y + h)))
    (cases_lt v y))
    (λ (right : x + w ≤ u). part.kept u v a b (λ e f g h. absurd (omega arith)) ∙ made u v a b (before u v a b less (inr (inl right))))
    (cases_lt u (x + w)))
    (cases_lt u x)

-- a part of wa columns and hb rows of 4x4 places, from column a0 and row b0 on, comes after the first k places, and n follow before the next part
pub record IsNext (index : ℕ → ℕ → ℕ) (k n a0 b0 wa hb : ℕ) : Type 0 where
  pub earlier : (a b : ℕ) → a < 4 → b < 4 → index a b < k + n → (a < a0) ⊎ ((a0 + wa ≤ a) ⊎ ((b < b0) ⊎ (b0 + hb ≤ b))) → index a b < k

-- its places have this motion
pub record Moves (motion : List Motion) (m : Motion) (a0 b0 wa hb : ℕ) : Type 0 where
  pub each : (a b : ℕ) → a < 4 → b < 4 → a0 ≤ a → a < a0 + wa → b0 ≤ b → b < b0 + hb → m ≡ get_or motion (4 * b + a) no_motion

out_luma : (a0 b0 wa hb u v : ℕ) → (u < 4 * a0) ⊎ ((4 * a0 + 4 * wa ≤ u) ⊎ ((v < 4 * b0) ⊎ (4 * b0 + 4 * hb ≤ v))) →
    (u / 4 < a0) ⊎ ((a0 + wa ≤ u / 4) ⊎ ((v / 4 < b0) ⊎ (b0 + hb ≤ v / 4)))
out_luma a0 b0 wa hb u v (inl o) = inl (omega arith)
out_luma a0 b0 wa hb u v (inr (inl o)) = inr (inl (omega arith))
out_luma a0 b0 wa hb u v (inr (inr (inl o))) = inr (inr (inl (omega arith)))
out_luma a0 b0 wa hb u v (inr (inr (inr o))) = inr (inr (inr (omega arith)))

out_chroma : (a0 b0 wa hb u v : ℕ) → (u < 2 * a0) ⊎ ((2 * a0 + 2 * wa ≤ u) ⊎ ((v < 2 * b0) ⊎ (2 * b0 + 2 * hb ≤ v))) →
    (u / 2 < a0) ⊎ ((a0 + wa ≤ u / 2) ⊎ ((v / 2 < b0) ⊎ (b0 + hb ≤ v / 2)))
out_chroma a0 b0 wa hb u v (inl o) = inl (omega arith)
out_chroma a0 b0 wa hb u v (inr (inl o)) = inr (inl (omega arith))
out_chroma a0 b0 wa hb u v (inr (inr (inl o))) = inr (inr (inl (omega arith)))
out_chroma a0 b0 wa hb u v (inr (inr (inr o))) = inr (inr (inr (omega arith)))

pub part_more : (index : ℕ → ℕ → ℕ) (k n a0 b0 wa hb : ℕ) (frames : List Frame) (motion : List Motion) (m : Motion) (c r : ℕ) (old new : Samples) →
    AreMade index k frames motion (position_at c r) old → IsNext index k n a0 b0 wa hb → Moves motion m a0 b0 wa hb →
    IsPart 16 (part_from (4 * a0) (4 * b0) (4 * wa) (4 * hb)) (λ u v. of_frames Y frames m (16 * c + u) (16 * r + v)) old.y new.y →
    IsPart 8 (part_from (2 * a0) (2 * b0) (2 * wa) (2 * hb)) (λ u v. of_frames Cb frames m (8 * c + u) (8 * r + v)) old.cb new.cb →
    IsPart 8 (part_from (2 * a0) (2 * b0) (2 * wa) (2 * hb)) (λ u v. of_frames Cr frames m (8 * c + u) (8 * r + v)) old.cr new.cr →
    AreMade index (k + n) frames motion (position_at c r) new
part_more index k n a0 b0 wa hb frames motion m c r old new made next moves y cb cr = record {
  y = made_more 16 4 index k n _ _ _ _ (from_pool frames motion (position_at c r) Y) _ old.y new.y made.y y
      (λ u v a b e f g h.
      let place : 4 * (v / 4) + u / 4 ≡ 4 * (4 * v / 16) + 4 * u / 16 = omega arith in
      ap (λ z. of_frames Y frames z (16 * c + u) (16 * r + v))
      (moves.each (u / 4) (v / 4) (omega arith) (omega arith) (omega arith) (omega arith) (omega arith) (omega arith) ∙
      ap (λ z. get_or motion z no_motion) place))
      (λ u v a b less out. next.earlier (u / 4) (v / 4) (omega arith) (omega arith) less (out_luma a0 b0 wa hb u v out));
  cb = made_more 8 2 index k n _ _ _ _ (from_pool frames motion (position_at c r) Cb) _ old.cb new.cb made.cb cb
      (λ u v a b e f g h.
      let place : 4 * (v / 2) + u / 2 ≡ 4 * (4 * v / 8) + 4 * u / 8 = omega arith in
      ap (λ z. of_frames Cb frames z (8 * c + u) (8 * r + v))
      (moves.each (u / 2) (v / 2) (omega arith) (omega arith) (omega arith) (omega arith) (omega arith) (omega arith) ∙
      ap (λ z. get_or motion z no_motion) place))
      (λ u v a b less out. next.earlier (u / 2) (v / 2) (omega arith) (omega arith) less (out_chroma a0 b0 wa hb u v out));
  cr = made_more 8 2 index k n _ _ _ _ (from_pool frames motion (position_at c r) Cr) _ old.cr new.cr made.cr cr
      (λ u v a b e f g h.
      let place : 4 * (v / 2) + u / 2 ≡ 4 * (4 * v / 8) + 4 * u / 8 = omega arith in
      ap (λ z. of_frames Cr frames z (8 * c + u) (8 * r + v))
      (moves.each (u / 2) (v / 2) (omega arith) (omega arith) (omega arith) (omega arith) (omega arith) (omega arith) ∙
      ap (λ z. get_or motion z no_motion) place))
      (λ u v a b less out. next.earlier (u / 2) (v / 2) (omega arith) (omega arith) less (out_chroma a0 b0 wa hb u v out));
}

pub all_made : (index : ℕ → ℕ → ℕ) (k : ℕ) (frames : List Frame) (motion : List Motion) (c r : ℕ) (own : Samples) →
    ((a b : ℕ) → a < 4 → b < 4 → index a b < k) → AreMade index k frames motion (position_at c r) own → ArePredicted frames motion (position_at c r) own
all_made index k frames motion c r own all made = record {
  y = record { each = λ u v a b. made.y u v a b (all (u / 4) (v / 4) (omega arith) (omega arith)) };
  cb = record { each = λ u v a b. made.cb u v a b (all (u / 2) (v / 2) (omega arith) (omega arith)) };
  cr = record { each = λ u v a b. made.cr u v a b (all (u / 2) (v / 2) (omega arith) (omega arith)) };
}

pub none_made : (index : ℕ → ℕ → ℕ) (frames : List Frame) (motion : List Motion) (c r : ℕ) (own : Samples) → AreMade index 0 frames motion (position_at c r) own
none_made index frames motion c r own = record {
  y = λ u v a b less. absurd (omega arith);
  cb = λ u v a b less. absurd (omega arith);
  cr = λ u v a b less. absurd (omega arith);
}

-- ---- from the frame that a motion names

pub luma_from : (x y w h a b : ℕ) (frames : List Frame) (m : Motion) (f : Frame) (old new : List ℕ) → f ≡ frame_at frames m.picture →
    IsPart 16 (part_from x y w h) (λ u v. predicted_luma f.y.width f.y.height (at f.y) m.vector (a + u) (b + v)) old new →
    IsPart 16 (part_from x y w h) (λ u v. of_frames Y frames m (a + u) (b + v)) old new
luma_from x y w h a b frames m f old new ef part = record {
  here = λ u v i j k l. part.here u v i j k l ∙ luma_is f.y.width f.y.height (at f.y) m (a + u) (b + v) ∙
      ap (λ (z : Frame). predicted_from Y z.y.width z.y.height (at z.y) m (a + u) (b + v)) ef;
  kept = part.kept;
}

pub cb_from : (x y w h a b : ℕ) (frames : List Frame) (m : Motion) (f : Frame) (old new : List ℕ) → f ≡ frame_at frames m.picture →
    IsPart 8 (part_from x y w h) (λ u v. predicted_chroma f.cb.width f.cb.height (at f.cb) m.vector (a + u) (b + v)) old new →
    IsPart 8 (part_from x y w h) (λ u v. of_frames Cb frames m (a + u) (b + v)) old new
cb_from x y w h a b frames m f old new ef part = record {
  here = λ u v i j k l. part.here u v i j k l ∙ chroma_is false f.cb.width f.cb.height (at f.cb) m (a + u) (b + v) ∙
      ap (λ (z : Frame). predicted_from Cb z.cb.width z.cb.height (at z.cb) m (a + u) (b + v)) ef;
  kept = part.kept;
}

pub cr_from : (x y w h a b : ℕ) (frames : List Frame) (m : Motion) (f : Frame) (old new : List ℕ) → f ≡ frame_at frames m.picture →
    IsPart 8 (part_from x y w h) (λ u v. predicted_chroma f.cr.width f.cr.height (at f.cr) m.vector (a + u) (b + v)) old new →
    IsPart 8 (part_from x y w h) (λ u v. of_frames Cr frames m (a + u) (b + v)) old new
cr_from x y w h a b frames m f old new ef part = record {
  here = λ u v i j k l. part.here u v i j k l ∙ chroma_is true f.cr.width f.cr.height (at f.cr) m (a + u) (b + v) ∙
      ap (λ (z : Frame). predicted_from Cr z.cr.width z.cr.height (at z.cr) m (a + u) (b + v)) ef;
  kept = part.kept;
}
