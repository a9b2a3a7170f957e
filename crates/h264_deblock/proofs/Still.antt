-- A macroblock none of whose edges changes a sample.
use Rattle.std.proofs.Common.{◌≡◌, ℕ, zero, suc, ◌+◌, ◌*◌, ◌%◌, ◌<◌, ◌≤◌, Bool, true, false, IsTrue, List, [], ◌∷◌, length, get_or, Option, Some, None}
use Rattle.std.proofs.Common.{is_some, refl, arith, subst}
use Rattle.h264_plane.specs.Samples.{Samples, at, ShowsSamples, size_along, size_across}
use Rattle.h264_plane.specs.Places.{side}
use Rattle.h264_plane.specs.declared.frame.Component.{Component}
use Rattle.h264_plane.specs.declared.frame.Component.TheVariants.{Y, Cb, Cr}
use Rattle.h264_near.specs.Coded.{CodedMacroblock}
use Rattle.h264_near.specs.Raster.{last_in, last_left}
use Rattle.h264_deblock.specs.Edge.{lines_of, edge_at}
use Rattle.h264_deblock.specs.Filtering.{PlaneEdges, edges_after, edges_done}
use Rattle.h264_deblock.specs.Limits.{AreAll}
use Rattle.h264_deblock.specs.Steps.{NamedBorder as Border}
use Rattle.h264_deblock.specs.declared.edge_parameters.EdgeParameters.{EdgeParameters}
use Rattle.h264_deblock.specs.declared.edge_parameters.BoundaryStrength.TheVariants.{Zero}
use Rattle.h264_deblock.specs.declared.slice_filter.Deblocking.TheVariants.{Off}
use Rattle.h264_deblock.specs.declared.slice_filter.SliceFilter.{SliceFilter}
use Rattle.h264_deblock.specs.CodedEdges.{filters, plane_qp, coded_edges}
use Rattle.h264_deblock.specs.Steps.{inner_lines, still_line, border_of, border_edge, inner_edge, IsStill}
use Rattle.h264_deblock.proofs.Beside.{edge_off}
use Rattle.h264_deblock.proofs.CodedEdges.{luma-list, chroma-list, pair-is, inside, none-is}
use Rattle.h264_deblock.proofs.Macroblocks.{after_none, after_skip, after_more, before_edge, holds_self, edges_all}
use Rattle.h264_plane.specs.Frames.{is_chroma}

-- an edge that is not filtered, or has no bS but 0
abbrev IsOff : Option EdgeParameters → Type 0
IsOff None = Unit {0}
IsOff (Some e) = AreAll Zero e.strengths

stay : (k : ℕ) (v chroma : Bool) (es : List (Option EdgeParameters)) (a b : ℕ) (p : Samples) (s : ℕ → ℕ → ℕ) → ((j : ℕ) → j < k → IsOff (get_or es j None)) →
    (IsTrue (is_some (get_or es 0 None)) → 4 ≤ b) → a + lines_of chroma ≤ size_along v p → b + 4 * k ≤ size_across v p → ShowsSamples p p s →
    ShowsSamples p p (edges_after k v chroma es (edge_at a b) s)
stay zero v chroma es a b p s off first i j held = after_none v chroma es a b p p s held
stay (suc k) v chroma es a b p s off first i j held =
    let next : k + 1 ≡ suc k = omega arith in
    let before = stay k v chroma es a b p s (λ n h. off n (omega arith)) first i (omega (arith, j)) held in
    subst (λ z. ShowsSamples p p (edges_after z v chroma es (edge_at a b) s)) next (go (get_or es k None) refl before)
  where
    go : (o : Option EdgeParameters) → get_or es k None ≡ o → ShowsSamples p p (edges_after k v chroma es (edge_at a b) s) →
        ShowsSamples p p (edges_after (k + 1) v chroma es (edge_at a b) s)
    go None e held = after_skip k v chroma es a b p p s e held
    go (Some q) e held =
        let four : 4 ≤ b + 4 * k = before_edge b k es q first e in
        let zero-strengths : AreAll Zero q.strengths = subst IsOff e (off k (omega arith)) in
        after_more k v chroma es a b p p p s q e i four (omega (arith, j)) held (edge_off v chroma p q a (b + 4 * k) four zero-strengths)

all-zero : AreAll Zero still_line
all-zero zero h = refl
all-zero (suc zero) h = refl
all-zero (suc (suc zero)) h = refl
all-zero (suc (suc (suc zero))) h = refl
all-zero (suc (suc (suc (suc n)))) h = absurd (omega arith)

border-off : (chroma : Bool) (qp : ℕ) (f : SliceFilter) (b : Option Border) → IsStill b → IsOff (border_edge chroma qp f b)
border-off chroma qp f None h = tt
border-off chroma qp f (Some b) h = h

inner-off : (qp : ℕ) (f : SliceFilter) → IsOff (inner_edge qp f still_line)
inner-off qp f = go (filters f.deblocking true) refl
  where
    go : (t : Bool) → filters f.deblocking true ≡ t → IsOff (inner_edge qp f still_line)
    go true t = rw t all-zero
    go false t = rw t tt

abbrev luma-of : ℕ → SliceFilter → Option Border → List (Option EdgeParameters)
luma-of qp f b = border_edge false qp f b ∷ inner_edge qp f still_line ∷ inner_edge qp f still_line ∷ inner_edge qp f still_line ∷ []

abbrev chroma-of : ℕ → SliceFilter → Option Border → List (Option EdgeParameters)
chroma-of qp f b = border_edge true qp f b ∷ inner_edge qp f still_line ∷ []

luma-off : (qp : ℕ) (f : SliceFilter) (b : Option Border) → IsStill b → (j : ℕ) → j < 4 → IsOff (get_or (luma-of qp f b) j None)
luma-off qp f b h zero i = border-off false qp f b h
luma-off qp f b h (suc zero) i = inner-off qp f
luma-off qp f b h (suc (suc zero)) i = inner-off qp f
luma-off qp f b h (suc (suc (suc zero))) i = inner-off qp f
luma-off qp f b h (suc (suc (suc (suc n)))) i = absurd (omega arith)

chroma-off : (qp : ℕ) (f : SliceFilter) (b : Option Border) → IsStill b → (j : ℕ) → j < 2 → IsOff (get_or (chroma-of qp f b) j None)
chroma-off qp f b h zero i = border-off true qp f b h
chroma-off qp f b h (suc zero) i = inner-off qp f
chroma-off qp f b h (suc (suc n)) i = absurd (omega arith)

-- edges of which none changes a sample, in luma and in chroma
abbrev AreOff : ℕ → List (Option EdgeParameters) → Type 0
AreOff k es = (j : ℕ) → j < k → IsOff (get_or es j None)

luma-stays : (es fs : List (Option EdgeParameters)) (c r : ℕ) (p : Samples) → AreOff 4 es → AreOff 4 fs → (IsTrue (is_some (get_or es 0 None)) → 0 < c) →
    (IsTrue (is_some (get_or fs 0 None)) → 0 < r) →
    16 * c + 16 ≤ p.width → 16 * r + 16 ≤ p.height → ShowsSamples p p (edges_done 16 false (record { vertical = es; horizontal = fs }) c r (at p))
luma-stays es fs c r p oe of' ie if' i j =
    edges_all 16 false (record { vertical = es; horizontal = fs }) c r p p
    (stay 4 false false fs (16 * c) (16 * r) p (edges_after 4 true false es (edge_at (16 * r) (16 * c)) (at p)) of' (λ h. let z = if' h in omega (arith, z)) i
    (omega (arith, j))
    (stay 4 true false es (16 * r) (16 * c) p (at p) oe (λ h. let z = ie h in omega (arith, z)) j (omega (arith, i)) (holds_self p)))

chroma-stays : (es fs : List (Option EdgeParameters)) (c r : ℕ) (p : Samples) → AreOff 2 es → AreOff 2 fs → (IsTrue (is_some (get_or es 0 None)) → 0 < c) →
    (IsTrue (is_some (get_or fs 0 None)) → 0 < r) →
    8 * c + 8 ≤ p.width → 8 * r + 8 ≤ p.height → ShowsSamples p p (edges_done 8 true (record { vertical = es; horizontal = fs }) c r (at p))
chroma-stays es fs c r p oe of' ie if' i j =
    edges_all 8 true (record { vertical = es; horizontal = fs }) c r p p
    (stay 2 false true fs (8 * c) (8 * r) p (edges_after 2 true true es (edge_at (8 * r) (8 * c)) (at p)) of' (λ h. let z = if' h in omega (arith, z)) i
    (omega (arith, j))
    (stay 2 true true es (8 * r) (8 * c) p (at p) oe (λ h. let z = ie h in omega (arith, z)) j (omega (arith, i)) (holds_self p)))

-- no edge is filtered
four-off : AreOff 4 (None ∷ None ∷ None ∷ None ∷ [])
four-off zero h = tt
four-off (suc zero) h = tt
four-off (suc (suc zero)) h = tt
four-off (suc (suc (suc zero))) h = tt
four-off (suc (suc (suc (suc n)))) h = absurd (omega arith)

two-off : AreOff 2 (None ∷ None ∷ [])
two-off zero h = tt
two-off (suc zero) h = tt
two-off (suc (suc n)) h = absurd (omega arith)

none-first : (n : ℕ) → IsTrue false → 0 < n
none-first n h = absurd (cc)

pub off : (slices : ℕ → SliceFilter) (width : ℕ) (picture : List CodedMacroblock) (q : CodedMacroblock) (f : SliceFilter) → slices q.slice ≡ f →
    f.deblocking ≡ Off → (c r : ℕ) (plane : Component) (p : Samples) →
    side plane * c + side plane ≤ p.width → side plane * r + side plane ≤ p.height →
    ShowsSamples p p (edges_done (side plane) (is_chroma plane) (coded_edges slices width picture q plane) c r (at p))
off slices width picture q f is e c r Y p i j =
    subst (λ (e : PlaneEdges). ShowsSamples p p (edges_done 16 false e c r (at p))) (none-is slices width picture q f is e Y)
    (luma-stays _ _ c r p four-off four-off (none-first c) (none-first r) i j)
off slices width picture q f is e c r Cb p i j =
    subst (λ (e : PlaneEdges). ShowsSamples p p (edges_done 8 true e c r (at p))) (none-is slices width picture q f is e Cb)
    (chroma-stays _ _ c r p two-off two-off (none-first c) (none-first r) i j)
off slices width picture q f is e c r Cr p i j =
    subst (λ (e : PlaneEdges). ShowsSamples p p (edges_done 8 true e c r (at p))) (none-is slices width picture q f is e Cr)
    (chroma-stays _ _ c r p two-off two-off (none-first c) (none-first r) i j)

-- of a macroblock whose blocks nothing tells apart, and whose edges to others have no bS but 0
module _ (slices : ℕ → SliceFilter) (width : ℕ) (picture : List CodedMacroblock) (q : CodedMacroblock) (f : SliceFilter) (left above : Option Border)
    (is : slices q.slice ≡ f) (o : (n : ℕ) → (slices n).chroma_qp_index_offset ≡ f.chroma_qp_index_offset)
    (el : left ≡ border_of f true (last_left width picture) q) (ea : above ≡ border_of f false (last_in width picture (length picture % width)) q)
    (ev : still_line ∷ still_line ∷ still_line ∷ [] ≡ inner_lines true q) (eh : still_line ∷ still_line ∷ still_line ∷ [] ≡ inner_lines false q)
    (sl : IsStill left) (sa : IsStill above) (c r : ℕ) (il : IsTrue (is_some left) → 0 < c) (ia : IsTrue (is_some above) → 0 < r) where
  luma-done : (qp : ℕ) (p : Samples) → 16 * c + 16 ≤ p.width → 16 * r + 16 ≤ p.height →
      ShowsSamples p p (edges_done 16 false (record { vertical = luma-of qp f left; horizontal = luma-of qp f above }) c r (at p))
  luma-done qp p i j =
      luma-stays (luma-of qp f left) (luma-of qp f above) c r p (luma-off qp f left sl) (luma-off qp f above sa)
      (inside c (luma-of qp f left) _ false qp f left refl il) (inside r (luma-of qp f above) _ false qp f above refl ia) i j

  chroma-done : (qp : ℕ) (p : Samples) → 8 * c + 8 ≤ p.width → 8 * r + 8 ≤ p.height →
      ShowsSamples p p (edges_done 8 true (record { vertical = chroma-of qp f left; horizontal = chroma-of qp f above }) c r (at p))
  chroma-done qp p i j =
      chroma-stays (chroma-of qp f left) (chroma-of qp f above) c r p (chroma-off qp f left sl) (chroma-off qp f above sa)
      (inside c (chroma-of qp f left) _ true qp f left refl il) (inside r (chroma-of qp f above) _ true qp f above refl ia) i j

  pub still : (plane : Component) (p : Samples) → side plane * c + side plane ≤ p.width → side plane * r + side plane ≤ p.height →
      ShowsSamples p p (edges_done (side plane) (is_chroma plane) (coded_edges slices width picture q plane) c r (at p))
  still Y p i j =
      let qp = plane_qp slices Y q in
      subst (λ (e : PlaneEdges). ShowsSamples p p (edges_done 16 false e c r (at p)))
      (pair-is slices width picture q Y _ _ (luma-list slices true (last_left width picture) q f qp left (still_line ∷ still_line ∷ still_line ∷ []) is o el
      ev refl) (luma-list slices false (last_in width picture (length picture % width)) q f qp above (still_line ∷ still_line ∷ still_line ∷ []) is o ea
      eh refl))
      (luma-done qp p i j)
  still Cb p i j =
      let qp = plane_qp slices Cb q in
      subst (λ (e : PlaneEdges). ShowsSamples p p (edges_done 8 true e c r (at p)))
      (pair-is slices width picture q Cb _ _ (chroma-list slices true (last_left width picture) q f qp left (still_line ∷ still_line ∷ still_line ∷ []) is o
      el ev Cb refl refl) (chroma-list slices false (last_in width picture (length picture % width)) q f qp above
      (still_line ∷ still_line ∷ still_line ∷ []) is o ea eh Cb refl refl))
      (chroma-done qp p i j)
  still Cr p i j =
      let qp = plane_qp slices Cr q in
      subst (λ (e : PlaneEdges). ShowsSamples p p (edges_done 8 true e c r (at p)))
      (pair-is slices width picture q Cr _ _ (chroma-list slices true (last_left width picture) q f qp left (still_line ∷ still_line ∷ still_line ∷ []) is o
      el ev Cr refl refl) (chroma-list slices false (last_in width picture (length picture % width)) q f qp above
      (still_line ∷ still_line ∷ still_line ∷ []) is o ea eh Cr refl refl))
      (chroma-done qp p i j)
