-- The edges of a macroblock by the strengths that the code has.
use Rattle.std.proofs.Common.{◌≡◌, ℕ, zero, suc, ◌<◌, ◌≤◌, Bool, true, false, List, [], ◌∷◌, length, get_or, refl, sym, ap, subst, arith}
use Rattle.std.proofs.lemmas.List.{get_or_default}
use Rattle.h264_plane.specs.Samples.{Samples, at, ShowsSamples}
use Rattle.h264_deblock.specs.Edge.{edge_at}
use Rattle.h264_deblock.specs.CodedEdges.{filters}
use Rattle.h264_deblock.specs.Filtering.{AreInside, edge_or, edges_done}
use Rattle.h264_deblock.specs.Steps.{side_qp, inner_edge}
use Rattle.h264_deblock.specs.Words.{named_border, zeros, AreWords}
use Rattle.h264_deblock.specs.Marks.{AreMarks, luma_by, chroma_by, luma_list, chroma_list}
use Rattle.h264_deblock.specs.declared.by_level.Marks.{Marks}
use Rattle.h264_deblock.specs.declared.slice_filter.SliceFilter.{SliceFilter}
use Rattle.h264_deblock.specs.Level.{names, IsWord}
use Rattle.h264_deblock.proofs.CodedEdges.{inside}
use Rattle.h264_deblock.proofs.Macroblocks.{or_none, or_some}
use Rattle.h264_deblock.proofs.Numbers.{some-named, zero-edge}

pub luma-inside : (m : Marks) (c r qp : ℕ) (f : SliceFilter) → AreMarks m c r → AreInside c r (luma_by qp f m)
luma-inside m c r qp f a = record {
  vertical = inside c (luma_list qp f m.left m.inner.vertical) _ false qp f (named_border m.left) refl (λ h. a.columns (some-named m.left h));
  horizontal = inside r (luma_list qp f m.above m.inner.horizontal) _ false qp f (named_border m.above) refl (λ h. a.rows (some-named m.above h));
}

pub chroma-inside : (m : Marks) (c r qp : ℕ) (f : SliceFilter) → AreMarks m c r → AreInside c r (chroma_by qp f m)
chroma-inside m c r qp f a = record {
  vertical = inside c (chroma_list qp f m.left m.inner.vertical) _ true qp f (named_border m.left) refl (λ h. a.columns (some-named m.left h));
  horizontal = inside r (chroma_list qp f m.above m.inner.horizontal) _ true qp f (named_border m.above) refl (λ h. a.rows (some-named m.above h));
}

-- a word, whatever stands for those past the last one
pub word-at : (words : List (List ℕ)) (n : ℕ) (other : List ℕ) → AreWords words → n < 3 → length words ≡ 3 → IsWord (get_or words n other)
word-at words n other a h l = subst (λ w. IsWord w) (get_or_default words n [] other (omega arith)) (a n h)

pub edge-at : (qp : ℕ) (f : SliceFilter) (words : List (List ℕ)) (n : ℕ) (other : List ℕ) → n < 3 → length words ≡ 3 →
    inner_edge qp f (names (get_or words n other)) ≡ inner_edge qp f (names (get_or words n []))
edge-at qp f words n other h l = ap (λ w. inner_edge qp f (names w)) (sym (get_or_default words n [] other (omega arith)))

-- the same quantisation parameter and the same filter
pub luma-same : (old new : Samples) (m : Marks) (c r n own qp : ℕ) (g f : SliceFilter) → n ≡ side_qp false own g.chroma_qp_index_offset → own ≡ qp → g ≡ f →
    ShowsSamples old new (edges_done 16 false (luma_by n g m) c r (at old)) →
    ShowsSamples old new (edges_done 16 false (luma_by (side_qp false qp f.chroma_qp_index_offset) f m) c r (at old))
luma-same old new m c r n own qp g f e o i held =
    subst (λ (z : SliceFilter). ShowsSamples old new (edges_done 16 false (luma_by (side_qp false qp z.chroma_qp_index_offset) z m) c r (at old))) i
    (subst (λ (z : ℕ). ShowsSamples old new (edges_done 16 false (luma_by (side_qp false z g.chroma_qp_index_offset) g m) c r (at old))) o
    (subst (λ (z : ℕ). ShowsSamples old new (edges_done 16 false (luma_by z g m) c r (at old))) e held))

pub chroma-same : (old new : Samples) (m : Marks) (c r n own qp : ℕ) (g f : SliceFilter) → n ≡ side_qp true own g.chroma_qp_index_offset → own ≡ qp → g ≡ f →
    ShowsSamples old new (edges_done 8 true (chroma_by n g m) c r (at old)) →
    ShowsSamples old new (edges_done 8 true (chroma_by (side_qp true qp f.chroma_qp_index_offset) f m) c r (at old))
chroma-same old new m c r n own qp g f e o i held =
    subst (λ (z : SliceFilter). ShowsSamples old new (edges_done 8 true (chroma_by (side_qp true qp z.chroma_qp_index_offset) z m) c r (at old))) i
    (subst (λ (z : ℕ). ShowsSamples old new (edges_done 8 true (chroma_by (side_qp true z g.chroma_qp_index_offset) g m) c r (at old))) o
    (subst (λ (z : ℕ). ShowsSamples old new (edges_done 8 true (chroma_by z g m) c r (at old))) e held))

-- an inner edge of no bS but 0
pub still-edge : (v chroma : Bool) (p : Samples) (qp : ℕ) (f : SliceFilter) (words : List (List ℕ)) (n along across : ℕ) → words ≡
    zeros ∷ zeros ∷ zeros ∷ [] → n < 3 → 4 ≤ across →
    ShowsSamples p p (edge_or (inner_edge qp f (names (get_or words n []))) v chroma (edge_at along across) (at p))
still-edge v chroma p qp f words n along across e h before = go (filters f.deblocking true) refl
  where
    zero-at : (k : ℕ) → k < 3 → get_or words k [] ≡ zeros
    zero-at zero i = rw e refl
    zero-at (suc zero) i = rw e refl
    zero-at (suc (suc zero)) i = rw e refl
    zero-at (suc (suc (suc k))) i = absurd (omega arith)

    go : (t : Bool) → filters f.deblocking true ≡ t →
        ShowsSamples p p (edge_or (inner_edge qp f (names (get_or words n []))) v chroma (edge_at along across) (at p))
    go true t = rw t (or_some _ _ _ _ _ _ _ (zero-edge v chroma p _ along across (get_or words n []) before (zero-at n h) refl))
    go false t = rw t (or_none _ _ _ _ _)
