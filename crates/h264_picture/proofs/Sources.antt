-- The samples of a picture depend on the samples of the pictures to which its macroblocks refer, and on the parameters of its slices, alone.
use Rattle.std.proofs.Common.{◌≡◌, ℕ, ◌+◌, ◌*◌, ◌-◌, ◌/◌, ◌%◌, ◌<◌, ◌≤◌, nat_lt, Bool, true, false, List, take, length, get_or, Option, Some, None, pos, ◌+ℤ◌}
use Rattle.std.proofs.Common.{refl, ap, sym, ◌∙◌, arith, inr, ⊎_elim, if◌then◌else◌}
use Rattle.std.specs.List.{slice_get}
use Rattle.std.specs.Option.{option_and_then}
use Rattle.std.proofs.lemmas.Bool.{cases_lt}
use Rattle.std.proofs.lemmas.Nat.{mul-le}
use Rattle.std.proofs.lemmas.Option.{slice_get-get_or, slice_get_past, slice_get_within}
use Rattle.h264_plane.specs.Clip.{clip1}
use Rattle.h264_plane.specs.declared.frame.Component.{Component}
use Rattle.h264_plane.specs.declared.frame.Component.TheVariants.{Y, Cb, Cr}
use Rattle.h264_plane.specs.Blocks.{number_of}
use Rattle.h264_plane.specs.Places.{side}
use Rattle.h264_plane.proofs.Raster.{side_least}
use Rattle.h264_near.specs.declared.motion.Motion as derived
use Rattle.h264_near.specs.Coded as coded
use Rattle.h264_near.specs.Coded.{CodedMacroblock}
use Rattle.h264_near.specs.Raster.{before, last_in, last_left}
use Rattle.h264_near.proofs.Places.{taken, length-taken, number-at-place}
use Rattle.h264_scale.specs.Macroblock.{residual}
use Rattle.h264_scale.specs.declared.levels.Levels.{Levels}
use Rattle.h264_inter.proofs.Depends.{luma_depends, chroma_depends}
use Rattle.h264_inter.specs.Luma.{predicted_luma}
use Rattle.h264_inter.specs.Chroma.{predicted_chroma}
use Rattle.h264_recon.specs.Inter.{Setting, predicted_from, no_motion, position_at}
use Rattle.h264_recon.specs.Constructed.{Coded, window, predicted_inter, made_by, made, Constructed}
use Rattle.h264_base.specs.declared.weight.Weights.{Weights}
use Rattle.h264_recon.specs.Given.{available, used_by, motion_of, motions_of, prediction_of, weights_of, given}
use Rattle.h264_recon.specs.Weights.{weights_at, weighted_if}
use Rattle.h264_recon.specs.Levels.{levels_of}
use Rattle.h264_recon.specs.declared.macroblock.Available.{Available}
use Rattle.h264_recon.specs.declared.macroblock.Motion.{Motion}
use Rattle.h264_recon.proofs.Pool.{motion_inside, inside_some}
use Rattle.h264_recon.proofs.Tables.{table-at}
use Rattle.h264_deblock.specs.declared.slice_filter.SliceFilter.{SliceFilter}
use Rattle.h264_deblock.specs.Filtering.{filtered_by, unfiltered}
use Rattle.h264_deblock.specs.CodedEdges.{plane_qp, edge_of, border, inner, edges_along, coded_edges}
use Rattle.h264_deblock.proofs.Macroblocks.{side_lines}
use Rattle.h264_picture.specs.Decoded.{Parameters, filters, nothing, macroblock_at, edges_if, edges_at}
use Rattle.h264_picture.specs.Sources.{Sources, IsDecodedFrom, IsSharedBy, AreSharedBy, AreShared}
use Rattle.h264_picture.proofs.Carried.{same-edges}
use Rattle.h264_picture.proofs.Prefix.{fits}
use Rattle.h264_plane.specs.Frames.{is_chroma}

-- ---- inter prediction

from-shared : (p : Component) (w h : ℕ) (f g : ℕ → ℕ → ℕ) (m n : Motion) (x y : ℕ) → 0 < w → 0 < h → m.vector ≡ n.vector →
    ((i j : ℕ) → i < w → j < h → f i j ≡ g i j) → predicted_from p w h f m x y ≡ predicted_from p w h g n x y
unfolding predicted_from
from-shared Y w h f g m n x y a b v same = luma_depends w h f g m.vector x y a b same ∙ ap (λ z. predicted_luma w h g z x y) v
from-shared Cb w h f g m n x y a b v same = chroma_depends w h f g m.vector x y a b same ∙ ap (λ z. predicted_chroma w h g z x y) v
from-shared Cr w h f g m n x y a b v same = chroma_depends w h f g m.vector x y a b same ∙ ap (λ z. predicted_chroma w h g z x y) v

module _ (across down : ℕ) (s t : Sources) where
  abbrev setting : Sources → Setting
  setting z = record { across = across; down = down; reference = z.reference }

  motion-shared : (p : Component) (c r x y : ℕ) (o : Option derived.Motion) → c < across → r < down → IsSharedBy across down s t o →
      predicted_from p (side p * across) (side p * down) (s.reference (motion_of s.place o).picture p) (motion_of s.place o) x y
      ≡ predicted_from p (side p * across) (side p * down) (t.reference (motion_of t.place o).picture p) (motion_of t.place o) x y
  motion-shared p c r x y None a b h = absurd h
  motion-shared p c r x y (Some m) a b h =
      from-shared p (side p * across) (side p * down) _ _ (motion_of s.place (Some m)) (motion_of t.place (Some m)) x y (inside_some p c across a)
      (inside_some p r down b) refl (λ i j. h p i j)

  inter-shared : (c r : ℕ) (motions : List (Option derived.Motion)) (p : Component) (x y : ℕ) → c < across → r < down → x < side p → y < side p →
      AreSharedBy across down s t (coded.Inter motions) →
      predicted_inter (setting s) (position_at c r) (motions_of s.place motions) p x y ≡
      predicted_inter (setting t) (position_at c r) (motions_of t.place motions) p x y
  unfolding predicted_inter motions_of
  inter-shared c r motions p x y a b i j h =
      let k = 4 * (4 * y / side p) + 4 * x / side p in
      let small : k < 16 = motion_inside p x y i j in
      let e = table-at 16 (λ k. motion_of s.place (get_or motions (number_of (k % 4) (k / 4)) None)) k no_motion small in
      let f = table-at 16 (λ k. motion_of t.place (get_or motions (number_of (k % 4) (k / 4)) None)) k no_motion small in
      rw (e, f) (motion-shared p c r (side p * c + x) (side p * r + y) (get_or motions (number_of (k % 4) (k / 4)) None) a b
      (h (number_of (k % 4) (k / 4)) (number-at-place k small)))

  -- ---- construction

  abbrev with_prediction : Sources → Available → Levels → List (Option Weights) → coded.Prediction → Coded
  with_prediction z a l ws prediction = record { available = a; prediction = prediction_of z.place prediction; levels = l; weights = ws }

  prediction-shared : (prediction : coded.Prediction) (a : Available) (l : Levels) (ws : List (Option Weights)) (c r : ℕ) (p : Component) (w : ℕ → ℕ → ℕ)
      (x y : ℕ) → c < across → r < down → x < side p → y < side p → AreSharedBy across down s t prediction →
      made_by (prediction_of s.place prediction) (setting s) (position_at c r) (with_prediction s a l ws prediction) p w x y ≡
      made_by (prediction_of t.place prediction) (setting t) (position_at c r) (with_prediction t a l ws prediction) p w x y
  unfolding made_by prediction_of
  prediction-shared (coded.Intra4x4 modes chroma) a l ws c r p w x y i j u v h = refl
  prediction-shared (coded.Intra16x16 mode chroma) a l ws c r p w x y i j u v h = refl
  prediction-shared (coded.Pcm samples) a l ws c r p w x y i j u v h = refl
  prediction-shared (coded.Inter motions) a l ws c r p w x y i j u v h =
      ap (λ n. clip1 (pos (weighted_if p (weights_at ws p x y) n) +ℤ residual l p x y)) (inter-shared c r motions p x y i j u v h)

  module _ (picture : List CodedMacroblock) (shared : AreShared across down s t picture) where
    macroblock-shared : (a : ℕ) → a < length picture → (c r : ℕ) (p : Component) (w : ℕ → ℕ → ℕ) (x y : ℕ) → c < across → r < down → x < side p → y < side p →
        made (setting s) (position_at c r) (macroblock_at s.slices s.place across picture a) p w x y ≡
        made (setting t) (position_at c r) (macroblock_at t.slices t.place across picture a) p w x y
    unfolding macroblock_at given
    macroblock-shared a long c r p w x y i j u v =
        let m = get_or picture a nothing in
        let at = slice_get-get_or picture a nothing long in
        rw (shared.parameters a m at) (prediction-shared m.prediction
        (used_by m.prediction (available across (take a picture) m.slice (t.slices m.slice).constrained_intra))
        (levels_of (t.slices m.slice).filter.chroma_qp_index_offset m) (weights_of (t.slices m.slice).weights m.prediction) c r p w x y i j u v
        (shared.references a m at))

    constructed-shared : (u : Component → ℕ → ℕ → ℕ) → length picture ≡ down * across →
        Constructed (setting s) (macroblock_at s.slices s.place across picture) u → Constructed (setting t) (macroblock_at t.slices t.place across picture) u
    constructed-shared u whole h = record {
      each = λ c r a b. record {
        each = λ p x y i j.
            let m = mul-le (r + 1) across down across (omega arith) (omega arith) in
            (h.each c r a b).each p x y i j ∙ macroblock-shared (r * across + c) (omega arith) c r p (window (side p) (u p) c r) x y a b i j;
      };
    }

-- ---- edges

module _ (f g : ℕ → SliceFilter) where
  abbrev IsAlike : CodedMacroblock → Type 0
  IsAlike m = f m.slice ≡ g m.slice

  abbrev IsAlikeIf : Option CodedMacroblock → Type 0
  IsAlikeIf None = Unit {0}
  IsAlikeIf (Some m) = IsAlike m

  abbrev AreAlike : List CodedMacroblock → Type 0
  AreAlike picture = (a : ℕ) (m : CodedMacroblock) → slice_get picture a ≡ Some m → IsAlike m

  qp-alike : (plane : Component) (m : CodedMacroblock) → IsAlike m → plane_qp f plane m ≡ plane_qp g plane m
  unfolding plane_qp
  qp-alike Y m h = refl
  qp-alike Cb m h = rw h refl
  qp-alike Cr m h = rw h refl

  edge-alike : (plane : Component) (vertical : Bool) (line : ℕ) (p q : CodedMacroblock) → IsAlike p → IsAlike q →
      edge_of f plane vertical line p q ≡ edge_of g plane vertical line p q
  unfolding edge_of
  edge-alike plane vertical line p q h k = rw (qp-alike plane p h, qp-alike plane q k, k) refl

  border-alike : (plane : Component) (vertical : Bool) (o : Option CodedMacroblock) (q : CodedMacroblock) → IsAlikeIf o → IsAlike q →
      border f plane vertical o q ≡ border g plane vertical o q
  unfolding border
  border-alike plane vertical None q h k = refl
  border-alike plane vertical (Some p) q h k = rw (edge-alike plane vertical 0 p q h k, k) refl

  inner-alike : (plane : Component) (vertical : Bool) (line : ℕ) (q : CodedMacroblock) → IsAlike q →
      inner f plane vertical line q ≡ inner g plane vertical line q
  unfolding inner
  inner-alike plane vertical line q k = rw (edge-alike plane vertical line q q k k, k) refl

  along-alike : (plane : Component) (vertical : Bool) (o : Option CodedMacroblock) (q : CodedMacroblock) → IsAlikeIf o → IsAlike q →
      edges_along f plane vertical o q ≡ edges_along g plane vertical o q
  unfolding edges_along
  along-alike Y vertical o q h k = rw (
    border-alike Y vertical o q h k,
    inner-alike Y vertical 1 q k,
    inner-alike Y vertical 2 q k,
    inner-alike Y vertical 3 q k,
  ) refl
  along-alike Cb vertical o q h k = rw (border-alike Cb vertical o q h k, inner-alike Cb vertical 2 q k) refl
  along-alike Cr vertical o q h k = rw (border-alike Cr vertical o q h k, inner-alike Cr vertical 2 q k) refl

  module _ (picture : List CodedMacroblock) (all : AreAlike picture) where
    at-alike : (a : ℕ) → IsAlikeIf (slice_get picture a)
    at-alike a = by (slice_get picture a) refl
      where
        by : (o : Option CodedMacroblock) → slice_get picture a ≡ o → IsAlikeIf o
        by None e = tt
        by (Some m) e = all a m e

    then-alike : (k : ℕ → ℕ) (o : Option ℕ) → IsAlikeIf (option_and_then (λ n. slice_get picture (k n)) o)
    then-alike k None = tt
    then-alike k (Some n) = at-alike (k n)

    left-alike : (width : ℕ) → IsAlikeIf (last_left width picture)
    unfolding last_left
    left-alike width = then-alike (λ c. length picture / width * width + c) (before (length picture % width))

    either-alike : (b : Bool) (o o' : Option CodedMacroblock) → IsAlikeIf o → IsAlikeIf o' → IsAlikeIf (if b then o else o')
    either-alike true o o' h k = h
    either-alike false o o' h k = k

    above-alike : (width c : ℕ) → IsAlikeIf (last_in width picture c)
    unfolding last_in
    above-alike width c = either-alike (nat_lt c (length picture % width)) _ _ (at-alike (length picture / width * width + c))
        (then-alike (λ r. r * width + c) (before (length picture / width)))

    coded-alike : (width : ℕ) (q : CodedMacroblock) (plane : Component) → IsAlike q → coded_edges f width picture q plane ≡ coded_edges g width picture q plane
    unfolding coded_edges
    coded-alike width q plane k = rw (
      along-alike plane true (last_left width picture) q (left-alike width) k,
      along-alike plane false (last_in width picture (length picture % width)) q (above-alike width (length picture % width)) k,
    ) refl

first-alike : (f g : ℕ → SliceFilter) (picture : List CodedMacroblock) (a : ℕ) → a ≤ length picture → AreAlike f g picture → AreAlike f g (take a picture)
first-alike f g picture a l all b m e = ⊎_elim
    (λ (q : b < a).
    let t = taken nothing picture a b q l in
    let same : Some (get_or picture b nothing) ≡ Some m = sym t ∙ e in
    all b m (slice_get-get_or picture b nothing (omega arith) ∙ same))
    (λ (q : a ≤ b). absurd (let n = slice_get_past (take a picture) b (let k = length-taken picture a l in omega arith) in let z : None ≡ Some m = sym n ∙
    e in cc))
    (cases_lt b a)

module _ (slices others : ℕ → Parameters) (width : ℕ) (picture : List CodedMacroblock)
    (all : (a : ℕ) (m : CodedMacroblock) → slice_get picture a ≡ Some m → slices m.slice ≡ others m.slice) where
  filters-alike : AreAlike (filters slices) (filters others) picture
  filters-alike a m e = ap (λ (p : Parameters). p.filter) (all a m e)

  edges-alike : (p : Component) (a : ℕ) → edges_at slices width picture p a ≡ edges_at others width picture p a
  unfolding edges_at
  edges-alike p a = by (slice_get picture a) refl
    where
      by : (o : Option CodedMacroblock) → slice_get picture a ≡ o → edges_if slices width (take a picture) o p ≡ edges_if others width (take a picture) o p
      by None e = refl
      by (Some m) e =
          let long : a < length picture = slice_get_within picture a m e in
          coded-alike (filters slices) (filters others) (take a picture) (first-alike (filters slices) (filters others) picture a (omega arith) filters-alike)
          width m p (filters-alike a m e)

filtered-alike : (k : Setting) (slices others : ℕ → Parameters) (picture : List CodedMacroblock) →
    ((a : ℕ) (m : CodedMacroblock) → slice_get picture a ≡ Some m → slices m.slice ≡ others m.slice) →
    (p : Component) (u : ℕ → ℕ → ℕ) (x y : ℕ) → x < side p * k.across → y < side p * k.down →
    filtered_by (k.down * k.across) (unfiltered k.across (side p) (is_chroma p) (edges_at slices k.across picture p) u) x y ≡
    filtered_by (k.down * k.across) (unfiltered k.across (side p) (is_chroma p) (edges_at others k.across picture p) u) x y
filtered-alike k slices others picture all p u x y i j =
    let e = k.down - 1 in
    let some : 0 < k.down = ⊎_elim (λ (q : 0 < k.down). q)
    (λ (q : k.down ≤ 0). let z : k.down ≡ 0 = omega arith in let n = ap (λ d. side p * d) z in absurd (omega arith)) (cases_lt 0 k.down) in
    let is : k.down ≡ e + 1 = omega arith in
    let tall : side p * k.down ≡ side p * e + side p = ap (λ d. side p * d) is ∙ (omega arith) in
    let count : k.down * k.across ≡ e * k.across + k.across = ap (λ d. d * k.across) is ∙ (omega arith) in
    let done = (same-edges k.across k.down (side p) (is_chroma p) (edges_at slices k.across picture p) (edges_at others k.across picture p) u (side_lines p)
    (side_least p) (fits k slices picture p) (fits k others picture p) k.across e (omega arith) (omega arith)).each
    (λ a l. edges-alike slices others k.across picture all p a) in
    ap (λ n. filtered_by n (unfiltered k.across (side p) (is_chroma p) (edges_at slices k.across picture p) u) x y) count
    ∙ done.each x y i (inr (omega arith, i))
    ∙ ap (λ n. filtered_by n (unfiltered k.across (side p) (is_chroma p) (edges_at others k.across picture p) u) x y) (sym count)

-- ---- the picture

pub decoded-shared : (across down : ℕ) (s t : Sources) (picture : List CodedMacroblock) (final : Component → ℕ → ℕ → ℕ) → AreShared across down s t picture →
    IsDecodedFrom across down s picture final → IsDecodedFrom across down t picture final
decoded-shared across down s t picture final shared h = record {
  whole = h.whole;
  u = h.u;
  constructed = constructed-shared across down s t picture shared h.u h.whole h.constructed;
  filtered = λ p x y i j. h.filtered p x y i j ∙ filtered-alike (setting across down s t s) s.slices t.slices picture shared.parameters p (h.u p) x y i j;
}
