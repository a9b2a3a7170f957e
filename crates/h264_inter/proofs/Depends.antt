-- Predicted samples depend on the reference picture's samples alone.
use Rattle.std.proofs.Common.{◌≡◌, ℕ, ◌-◌, ◌<◌, arith, ℤ, pos, ◌+ℤ◌, ◌-ℤ◌}
use Rattle.h264_plane.specs.Clip.{clip}
use Rattle.h264_inter.specs.Reference.{reference, whole}
use Rattle.h264_inter.specs.Luma.{quarter, predicted_luma}
use Rattle.h264_inter.specs.Chroma.{eighth, predicted_chroma}
use Rattle.h264_inter.specs.declared.vector.MotionVector.{MotionVector}
use Rattle.h264_inter.proofs.Copies.{clip_inside}
use Rattle.h264_inter.proofs.Same.{quarter_same}
use Rattle.h264_inter.proofs.Eighths.{eighth_same}

pub reference_same : (w h : ℕ) (s t : ℕ → ℕ → ℕ) (x y : ℤ) → 0 < w → 0 < h → ((i j : ℕ) → i < w → j < h → s i j ≡ t i j) →
    reference w h s x y ≡ reference w h t x y
unfolding reference
reference_same w h s t x y p q same = same (clip (w - 1) x) (clip (h - 1) y) (clip_inside w x p) (clip_inside h y q)

pub quarter_depends : (x y : ℕ) (f g : ℕ → ℕ → ℕ) → ((i j : ℕ) → i < 6 → j < 6 → f i j ≡ g i j) → quarter x y f ≡ quarter x y g
quarter_depends x y f g same = quarter_same x y f g (record { each = same })

pub eighth_depends : (x y : ℕ) (f g : ℕ → ℕ → ℕ) → ((i j : ℕ) → i < 2 → j < 2 → f i j ≡ g i j) → eighth x y f ≡ eighth x y g
eighth_depends x y f g same =
    eighth_same x y f g (same 0 0 (omega arith) (omega arith)) (same 1 0 (omega arith) (omega arith)) (same 0 1 (omega arith) (omega arith))
    (same 1 1 (omega arith) (omega arith))

pub luma_depends : (w h : ℕ) (s t : ℕ → ℕ → ℕ) (mv : MotionVector) (x y : ℕ) → 0 < w → 0 < h → ((i j : ℕ) → i < w → j < h → s i j ≡ t i j) →
    predicted_luma w h s mv x y ≡ predicted_luma w h t mv x y
unfolding predicted_luma
luma_depends w h s t mv x y p q same =
    quarter_depends _ _ _ _ (λ i j a b. reference_same w h s t (pos x +ℤ whole 2 mv.x +ℤ pos i -ℤ pos 2) (pos y +ℤ whole 2 mv.y +ℤ pos j -ℤ pos 2) p q same)

pub chroma_depends : (w h : ℕ) (s t : ℕ → ℕ → ℕ) (mv : MotionVector) (x y : ℕ) → 0 < w → 0 < h → ((i j : ℕ) → i < w → j < h → s i j ≡ t i j) →
    predicted_chroma w h s mv x y ≡ predicted_chroma w h t mv x y
unfolding predicted_chroma
chroma_depends w h s t mv x y p q same =
    eighth_depends _ _ _ _ (λ i j a b. reference_same w h s t (pos x +ℤ whole 3 mv.x +ℤ pos i) (pos y +ℤ whole 3 mv.y +ℤ pos j) p q same)
