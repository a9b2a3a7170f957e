-- Lines of chroma, of which one sample on each side is written.
use Rattle.std.proofs.Common.{◌≡◌, ℕ, ◌+◌, ◌-◌, ◌/◌, ◌<◌, ◌≤◌, Bool, true, false, cond, ◌==◌, length, slice_index, arith, refl, sym, ap, ◌∙◌, ⊎_elim}
use Rattle.std.proofs.lemmas.Bool.Decides.{nat_tests}
use Rattle.h264_plane.specs.Samples.{Samples, at, look, ShowsSamples, with_run}
use Rattle.h264_deblock.specs.Line.{filtered, Line, Limits}
use Rattle.h264_deblock.specs.Edge.{taps, limits, edge_after, edge_at}
use Rattle.h264_deblock.specs.Inner.{SameInner, AreNearest, AreNearestWritten}
use Rattle.h264_deblock.specs.declared.inner.Nearest.{Nearest}
use Rattle.h264_deblock.specs.declared.edge_parameters.EdgeParameters.{EdgeParameters}
use Rattle.h264_deblock.proofs.Groups.{edge_shown}
use Rattle.h264_deblock.proofs.Lines.{lines_at, lines_beyond, inside_or_not}
use Rattle.h264_deblock.proofs.Local.{filtered_inner, outer, replaced_inner}
use Rattle.h264_deblock.proofs.Beside.{run_inside, run_outside}

-- two rows that are written
rows_here : (y w a b c d s : ℕ) → 4 ≤ y → a ≡ cond (w == y) d b → b ≡ cond (w == y - 1) c s → a ≡ cond (w + 1 == y) c (cond (w == y) d s)
rows_here y w a b c d s i e f = grind (arith, nat_tests)

pub nearest_rows : (p q r : Samples) (x y : ℕ) (near : Nearest) → 4 ≤ y → length near.p0 ≡ 8 → length near.q0 ≡ 8 →
    ShowsSamples p q (with_run x (y - 1) near.p0 (at p)) → ShowsSamples q r (with_run x y near.q0 (at q)) → AreNearestWritten false p r x y near
nearest_rows p q r x y near b m n f g = record {
  lines = λ k near_are. record {
    width = g.width ∙ f.width;
    height = g.height ∙ f.height;
    samples = λ u w i j.
        let e1 = f.samples u w i j in
        let e2 = g.samples u w (omega (arith, f.width)) (omega (arith, f.height)) in
        ⊎_elim
        (λ here.
        let z : u - x < 8 = omega (arith, here.0, here.1) in
        let place : x + (u - x) ≡ u = omega (arith, here.0) in
        let l = filtered true (k (u - x)) (taps (look false p u) y) in
        let a = near_are.p0 (u - x) z ∙ ap (λ c. (filtered true (k (u - x)) (taps (look false p c) y)).p0) place in
        let d = near_are.q0 (u - x) z ∙ ap (λ c. (filtered true (k (u - x)) (taps (look false p c) y)).q0) place in
        rows_here y w _ _ _ _ _ b (e2 ∙ run_inside 8 x y near.q0 (at q) u w n here.0 here.1) (e1 ∙ run_inside 8 x (y - 1) near.p0 (at p) u w m here.0 here.1)
        ∙ ap (λ c. cond (w + 1 == y) c (cond (w == y) (slice_index near.q0 (u - x)) (at p u w))) a
        ∙ ap (λ c. cond (w + 1 == y) l.p0 (cond (w == y) c (at p u w))) d
        ∙ sym (replaced_inner l (look false p u) y w b (outer (k (u - x)) (taps (look false p u) y)))
        ∙ sym (lines_at true k 8 x y (look false p) u w here.0 here.1))
        (λ away. e2 ∙ run_outside 8 x y near.q0 (at q) u w n away ∙ e1 ∙ run_outside 8 x (y - 1) near.p0 (at p) u w m away
        ∙ sym (lines_beyond true k 8 x y (look false p) u w away))
        (inside_or_not x 8 u);
  };
}

-- the lines of an edge that are read, filtered and written
pub edge_by_nearest : (v : Bool) (p q : Samples) (e : EdgeParameters) (along across : ℕ) (k : ℕ → Limits) (before : ℕ → Line) (after : Nearest) →
    ((n : ℕ) → n < 8 → SameInner (before n) (taps (look v p (along + n)) across)) → AreNearest after (λ n. filtered true (k n) (before n)) →
    ((n : ℕ) → n < 8 → k n ≡ limits e (n / 2)) → AreNearestWritten v p q along across after →
    ShowsSamples p q (edge_after v true e (edge_at along across) (at p))
edge_by_nearest v p q e along across k before after read filtering same put =
    edge_shown v true p q e 4 along across refl
    (put.lines (λ n. limits e (n / 2)) (record {
      p0 = λ n i. filtering.p0 n i ∙ (filtered_inner (k n) (before n) (taps (look v p (along + n)) across) (read n i)).p0
          ∙ ap (λ l. (filtered true l (taps (look v p (along + n)) across)).p0) (same n i);
      q0 = λ n i. filtering.q0 n i ∙ (filtered_inner (k n) (before n) (taps (look v p (along + n)) across) (read n i)).q0
          ∙ ap (λ l. (filtered true l (taps (look v p (along + n)) across)).q0) (same n i);
    }))
