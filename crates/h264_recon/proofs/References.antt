-- A picture depends on its references' samples alone.
use Rattle.std.proofs.Common.{◌≡◌, ℕ, ◌+◌, ◌*◌, ◌/◌, ◌<◌, List, pos, ◌+ℤ◌, refl, ap, ◌∙◌}
use Rattle.h264_plane.specs.Clip.{clip1}
use Rattle.h264_plane.specs.Places.{side}
use Rattle.h264_plane.specs.declared.frame.Component.{Component}
use Rattle.h264_plane.specs.declared.frame.Component.TheVariants.{Y, Cb, Cr}
use Rattle.h264_scale.specs.Macroblock.{residual}
use Rattle.h264_inter.proofs.Depends.{luma_depends, chroma_depends}
use Rattle.h264_recon.specs.Inter.{Setting, predicted_from, motion_at, position_at}
use Rattle.h264_recon.specs.Constructed.{Coded, window, predicted_inter, made_by, made, Constructed, SameReferences}
use Rattle.h264_recon.specs.declared.macroblock.Motion.{Motion}
use Rattle.h264_recon.specs.Predicted.{Prediction, Intra, Inter, Pcm}
use Rattle.h264_recon.specs.Weights.{weights_at, weighted_if}
use Rattle.h264_recon.proofs.Pool.{motion_inside, inside_some}

abbrev pub setting : ℕ → ℕ → (ℕ → Component → ℕ → ℕ → ℕ) → Setting
setting across down f = record { across = across; down = down; reference = f }

from_same : (p : Component) (w h : ℕ) (s t : ℕ → ℕ → ℕ) (m : Motion) (x y : ℕ) → 0 < w → 0 < h → ((i j : ℕ) → i < w → j < h → s i j ≡ t i j) →
    predicted_from p w h s m x y ≡ predicted_from p w h t m x y
unfolding predicted_from
from_same Y w h s t m x y a b same = luma_depends w h s t m.vector x y a b same
from_same Cb w h s t m x y a b same = chroma_depends w h s t m.vector x y a b same
from_same Cr w h s t m x y a b same = chroma_depends w h s t m.vector x y a b same

inter_same : (across down : ℕ) (f g : ℕ → Component → ℕ → ℕ → ℕ) (c r : ℕ) (motion : List Motion) (p : Component) (x y : ℕ) → c < across → r < down →
    x < side p → y < side p →
    SameReferences across down f g (Inter motion) →
    predicted_inter (setting across down f) (position_at c r) motion p x y ≡ predicted_inter (setting across down g) (position_at c r) motion p x y
unfolding predicted_inter
inter_same across down f g c r motion p x y a b i j same =
    from_same p (side p * across) (side p * down) _ _ (motion_at motion p x y) (side p * c + x) (side p * r + y) (inside_some p c across a)
    (inside_some p r down b)
    (λ u v d e. same (4 * (4 * y / side p) + 4 * x / side p) (motion_inside p x y i j) p u v d e)

made_same : (d : Prediction) (across down : ℕ) (f g : ℕ → Component → ℕ → ℕ → ℕ) (c r : ℕ) (m : Coded) (p : Component) (s : ℕ → ℕ → ℕ) (x y : ℕ) →
    c < across → r < down → x < side p → y < side p →
    SameReferences across down f g d → made_by d (setting across down f) (position_at c r) m p s x y ≡
    made_by d (setting across down g) (position_at c r) m p s x y
unfolding made_by
made_same (Intra modes) across down f g c r m p s x y a b i j same = refl
made_same (Inter motion) across down f g c r m p s x y a b i j same =
    ap (λ n. clip1 (pos (weighted_if p (weights_at m.weights p x y) n) +ℤ residual m.levels p x y)) (inter_same across down f g c r motion p x y a b i j same)
made_same (Pcm bytes) across down f g c r m p s x y a b i j same = refl

pub references_alone : (across down : ℕ) (f g : ℕ → Component → ℕ → ℕ → ℕ) (macroblock : ℕ → Coded) (u : Component → ℕ → ℕ → ℕ) →
    ((c r : ℕ) → c < across → r < down → SameReferences across down f g (macroblock (r * across + c)).prediction) →
    Constructed (setting across down f) macroblock u → Constructed (setting across down g) macroblock u
references_alone across down f g macroblock u same made = record {
  each = λ c r a b. record {
    each = λ p x y i j. (made.each c r a b).each p x y i j
        ∙ made_same (macroblock (r * across + c)).prediction across down f g c r (macroblock (r * across + c)) p (window (side p) (u p) c r) x y a b i j
        (same c r a b);
  };
}
