use Rattle.std.proofs.Common.{◌≡◌, ℕ, ◌+◌, ◌-◌, ◌*◌, ◌<◌, ◌≤◌, List, length, take, drop, slice_index, arith, ◌∙◌, length-take, length-drop}
use Rattle.std.proofs.lemmas.List.{get_or-take, get_or-drop}
use Rattle.std.proofs.lemmas.Bool.Decides.{nat_tests}
use Rattle.h264_plane.specs.Samples.{Samples, at, ShowsSamples, with_run, with_block}

pub block_none : (w x y : ℕ) (b : List ℕ) (s : ℕ → ℕ → ℕ) (u v : ℕ) → with_block w 0 x y b s u v ≡ s u v
unfolding with_block
block_none w x y b s u v = grind (arith, nat_tests)

-- one more row, over samples t that are those of n rows in range
step_at : (w n x y : ℕ) (b run : List ℕ) (s t : ℕ → ℕ → ℕ) (u v : ℕ) → length run ≡ w →
    ((k : ℕ) → k < w → slice_index run k ≡ slice_index b (w * n + k)) → t u v ≡ with_block w n x y b s u v →
    with_run x (y + n) run t u v ≡ with_block w (n + 1) x y b s u v
unfolding with_block with_run
step_at w n x y b run s t u v e same held = grind (arith, nat_tests, same (u - x))

pub block_more : (p q r : Samples) (w n x y : ℕ) (b run : List ℕ) → length run ≡ w →
    ((k : ℕ) → k < w → slice_index run k ≡ slice_index b (w * n + k)) →
    ShowsSamples p q (with_block w n x y b (at p)) → ShowsSamples q r (with_run x (y + n) run (at q)) →
    ShowsSamples p r (with_block w (n + 1) x y b (at p))
block_more p q r w n x y b run e same h g = record {
  width = g.width ∙ h.width;
  height = g.height ∙ h.height;
  samples = λ u v i j. g.samples u v (omega (arith, h.width)) (omega (arith, h.height)) ∙ step_at w n x y b run (at p) (at q) u v e same (h.samples u v i j);
}

-- the same where the row is a part of the block
pub block_row : (p q r : Samples) (w n x y : ℕ) (b : List ℕ) (k : ℕ) → k ≡ w → w * n + w ≤ length b →
    ShowsSamples p q (with_block w n x y b (at p)) → ShowsSamples q r (with_run x (y + n) (take k (drop (w * n) b)) (at q)) →
    ShowsSamples p r (with_block w (n + 1) x y b (at p))
block_row p q r w n x y b k e fits h g =
    block_more p q r w n x y b (take k (drop (w * n) b)) (simp (length-take, length-drop) (omega arith))
    (λ j i. let within : j < k = omega arith in get_or-take k (drop (w * n) b) j 0 within ∙ get_or-drop (w * n) b j 0) h g
