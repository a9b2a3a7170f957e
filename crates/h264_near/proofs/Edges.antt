-- What edges say is what their macroblocks say.
use Rattle.std.proofs.Common.{◌≡◌, ℕ, zero, suc, ◌+◌, ◌*◌, ◌<◌, Bool, List, [], ◌∷◌, length, get_or, set, Option, Some, None, refl, ap, sym, ◌∙◌, arith, lit<}
use Rattle.std.specs.Option.{option_and_then}
use Rattle.std.specs.List.{slice_get}
use Rattle.std.proofs.lemmas.Option.{slice_get-get_or}
use Rattle.h264_near.specs.declared.context.Contexts.{Contexts}
use Rattle.h264_near.specs.declared.context.Edge.{Edge}
use Rattle.h264_intra.specs.declared.luma4.Intra4x4PredMode.TheVariants.{Vertical}
use Rattle.h264_plane.specs.Blocks.{number_of}
use Rattle.h264_near.specs.Coded.{CodedMacroblock, chroma_number_of, total_part, chroma_part, mode_part, motion_part}
use Rattle.h264_near.specs.Along.{edge_total, edge_chroma, edge_mode, edge_motion}
use Rattle.h264_near.specs.Keeps.{AreContexts, Borders, IsEdge, Lower, Right}
use Rattle.h264_plane.proofs.Below.{below_4}

module _ (luma : ℕ → ℕ) (chroma : ℕ → ℕ → ℕ) where
  pub total-is : (slice x y k : ℕ) (edge : Option Edge) (m : Option CodedMacroblock) → k < 4 → luma k ≡ number_of x y → IsEdge (Borders luma chroma) edge m →
      edge_total slice k edge ≡ option_and_then (total_part slice x y) m
  unfolding total_part
  total-is slice x y k None None h e i = refl
  total-is slice x y k None (Some m) h e i = absurd i
  total-is slice x y k (Some edge) None h e i = absurd i
  total-is slice x y k (Some edge) (Some m) h e i = rw (i.slice, sym e, i.totals k h) refl

  pub chroma-is : (slice c x y k : ℕ) (edge : Option Edge) (m : Option CodedMacroblock) → c < 2 → k < 2 → chroma c k ≡ chroma_number_of c x y →
      IsEdge (Borders luma chroma) edge m → edge_chroma slice c k edge ≡ option_and_then (chroma_part slice c x y) m
  unfolding chroma_part
  chroma-is slice c x y k None None g h e i = refl
  chroma-is slice c x y k None (Some m) g h e i = absurd i
  chroma-is slice c x y k (Some edge) None g h e i = absurd i
  chroma-is slice c x y k (Some edge) (Some m) g h e i = rw (i.slice, sym e, i.chroma_totals c k g h) refl

  pub mode-is : (slice : ℕ) (constrained : Bool) (x y k : ℕ) (edge : Option Edge) (m : Option CodedMacroblock) → k < 4 → luma k ≡ number_of x y →
      IsEdge (Borders luma chroma) edge m → edge_mode slice constrained k edge ≡ option_and_then (mode_part slice constrained x y) m
  unfolding mode_part
  mode-is slice constrained x y k None None h e i = refl
  mode-is slice constrained x y k None (Some m) h e i = absurd i
  mode-is slice constrained x y k (Some edge) None h e i = absurd i
  mode-is slice constrained x y k (Some edge) (Some m) h e i = rw (i.slice, i.intra, sym e, i.modes k h) refl

  pub motion-is : (slice x y k : ℕ) (edge : Option Edge) (m : Option CodedMacroblock) → k < 4 → luma k ≡ number_of x y → IsEdge (Borders luma chroma) edge m →
      edge_motion slice k edge ≡ option_and_then (motion_part slice x y) m
  unfolding motion_part
  motion-is slice x y k None None h e i = refl
  motion-is slice x y k None (Some m) h e i = absurd i
  motion-is slice x y k (Some edge) None h e i = absurd i
  motion-is slice x y k (Some edge) (Some m) h e i = rw (i.slice, sym e, i.motions k h) refl

-- the last row and the last column of a whole macroblock
module _ (c : Contexts) (m : CodedMacroblock) (s : AreContexts c m) (all : length c.totals ≡ 16) (chroma : length c.chroma_totals ≡ 8) where
  total-at : (n : ℕ) → n < 16 → slice_get m.totals n ≡ Some (get_or c.totals n 0)
  total-at n h = rw s.totals (slice_get-get_or c.totals n 0 (omega arith))

  chroma-at : (n : ℕ) → n < 8 → slice_get m.chroma_totals n ≡ Some (get_or c.chroma_totals n 0)
  chroma-at n h = rw s.chroma_totals (slice_get-get_or c.chroma_totals n 0 (omega arith))

  -- from the numbers of four and of two blocks
  pub borders : (luma : ℕ → ℕ) (part : ℕ → ℕ → ℕ) (e : Edge) → ((k : ℕ) → k < 4 → luma k < 16) → ((b k : ℕ) → b < 2 → k < 2 → part b k < 8)
      → e.slice ≡ c.slice → e.intra ≡ c.intra → e.qp ≡ c.qp
      → ((k : ℕ) → k < 4 → get_or e.totals k 0 ≡ get_or c.totals (luma k) 0)
      → ((b k : ℕ) → b < 2 → k < 2 → get_or e.chroma (b * 2 + k) 0 ≡ get_or c.chroma_totals (part b k) 0)
      → ((k : ℕ) → k < 4 → get_or e.modes k Vertical ≡ get_or c.modes (luma k) Vertical)
      → ((k : ℕ) → k < 4 → get_or e.motions k None ≡ get_or c.motions (luma k) None)
      → Borders luma part e m
  borders luma part e few small es ei eq et eb em ev = record {
    slice = s.slice ∙ sym es;
    intra = s.intra ∙ sym ei;
    qp = s.qp ∙ sym eq;
    totals = λ k h. total-at (luma k) (few k h) ∙ ap Some (sym (et k h));
    chroma_totals = λ b k g h. chroma-at (part b k) (small b k g h) ∙ ap Some (sym (eb b k g h));
    modes = λ k h. s.modes (luma k) (few k h) ∙ ap Some (sym (em k h));
    motions = λ k h. s.motions (luma k) (few k h) ∙ ap Some (sym (ev k h));
  }

pub by-two-two : (P : ℕ → ℕ → Type 0) → P 0 0 → P 0 1 → P 1 0 → P 1 1 → (c k : ℕ) → c < 2 → k < 2 → P c k
by-two-two P a b c d zero zero g h = a
by-two-two P a b c d zero (suc zero) g h = b
by-two-two P a b c d (suc zero) zero g h = c
by-two-two P a b c d (suc zero) (suc zero) g h = d
by-two-two P a b c d zero (suc (suc k)) g h = absurd (omega arith)
by-two-two P a b c d (suc zero) (suc (suc k)) g h = absurd (omega arith)
by-two-two P a b c d (suc (suc n)) k g h = absurd (omega arith)

module _ (c : Contexts) (m : CodedMacroblock) (s : AreContexts c m) (all : length c.totals ≡ 16) (chroma : length c.chroma_totals ≡ 8) where
  pub lower-edge : (e : Edge) → e.slice ≡ c.slice → e.intra ≡ c.intra → e.qp ≡ c.qp
      → e.totals ≡ get_or c.totals 10 0 ∷ get_or c.totals 11 0 ∷ get_or c.totals 14 0 ∷ get_or c.totals 15 0 ∷ []
      → e.chroma ≡ get_or c.chroma_totals 2 0 ∷ get_or c.chroma_totals 3 0 ∷ get_or c.chroma_totals 6 0 ∷ get_or c.chroma_totals 7 0 ∷ []
      → e.modes ≡ get_or c.modes 10 Vertical ∷ get_or c.modes 11 Vertical ∷ get_or c.modes 14 Vertical ∷ get_or c.modes 15 Vertical ∷ []
      → e.motions ≡ get_or c.motions 10 None ∷ get_or c.motions 11 None ∷ get_or c.motions 14 None ∷ get_or c.motions 15 None ∷ []
      → Lower e m
  unfolding number_of chroma_number_of
  lower-edge e es ei eq et eb em ev = borders c m s all chroma (λ k. number_of k 3) (λ c k. chroma_number_of c k 1) e
      (below_4 (λ k. number_of k 3 < 16) (lit< tt) (lit< tt) (lit< tt) (lit< tt))
      (by-two-two (λ c k. chroma_number_of c k 1 < 8) (lit< tt) (lit< tt) (lit< tt) (lit< tt)) es ei eq
      (below_4 (λ k. get_or e.totals k 0 ≡ get_or c.totals (number_of k 3) 0) (rw et refl) (rw et refl) (rw et refl) (rw et refl))
      (by-two-two (λ b k. get_or e.chroma (b * 2 + k) 0 ≡ get_or c.chroma_totals (chroma_number_of b k 1) 0) (rw eb refl) (rw eb refl) (rw eb refl)
      (rw eb refl))
      (below_4 (λ k. get_or e.modes k Vertical ≡ get_or c.modes (number_of k 3) Vertical) (rw em refl) (rw em refl) (rw em refl) (rw em refl))
      (below_4 (λ k. get_or e.motions k None ≡ get_or c.motions (number_of k 3) None) (rw ev refl) (rw ev refl) (rw ev refl) (rw ev refl))

  pub right-edge : (e : Edge) → e.slice ≡ c.slice → e.intra ≡ c.intra → e.qp ≡ c.qp
      → e.totals ≡ get_or c.totals 5 0 ∷ get_or c.totals 7 0 ∷ get_or c.totals 13 0 ∷ get_or c.totals 15 0 ∷ []
      → e.chroma ≡ get_or c.chroma_totals 1 0 ∷ get_or c.chroma_totals 3 0 ∷ get_or c.chroma_totals 5 0 ∷ get_or c.chroma_totals 7 0 ∷ []
      → e.modes ≡ get_or c.modes 5 Vertical ∷ get_or c.modes 7 Vertical ∷ get_or c.modes 13 Vertical ∷ get_or c.modes 15 Vertical ∷ []
      → e.motions ≡ get_or c.motions 5 None ∷ get_or c.motions 7 None ∷ get_or c.motions 13 None ∷ get_or c.motions 15 None ∷ []
      → Right e m
  unfolding number_of chroma_number_of
  right-edge e es ei eq et eb em ev = borders c m s all chroma (λ k. number_of 3 k) (λ c k. chroma_number_of c 1 k) e
      (below_4 (λ k. number_of 3 k < 16) (lit< tt) (lit< tt) (lit< tt) (lit< tt))
      (by-two-two (λ c k. chroma_number_of c 1 k < 8) (lit< tt) (lit< tt) (lit< tt) (lit< tt)) es ei eq
      (below_4 (λ k. get_or e.totals k 0 ≡ get_or c.totals (number_of 3 k) 0) (rw et refl) (rw et refl) (rw et refl) (rw et refl))
      (by-two-two (λ b k. get_or e.chroma (b * 2 + k) 0 ≡ get_or c.chroma_totals (chroma_number_of b 1 k) 0) (rw eb refl) (rw eb refl) (rw eb refl)
      (rw eb refl))
      (below_4 (λ k. get_or e.modes k Vertical ≡ get_or c.modes (number_of 3 k) Vertical) (rw em refl) (rw em refl) (rw em refl) (rw em refl))
      (below_4 (λ k. get_or e.motions k None ≡ get_or c.motions (number_of 3 k) None) (rw ev refl) (rw ev refl) (rw ev refl) (rw ev refl))

-- an edge where there is a macroblock
pub edge-there : (borders : Edge → CodedMacroblock → Type 0) (o : Option Edge) (m : CodedMacroblock) → IsEdge borders o (Some m) → (e : Edge) × (o ≡ Some e) ×
    borders e m
edge-there borders None m i = absurd i
edge-there borders (Some e) m i = (e, refl, i)

-- four elements that were written one by one
pub four-set : {A : Type 0} (xs : List A) (a b c d : A) → length xs ≡ 4 → set (set (set (set xs 0 a) 1 b) 2 c) 3 d ≡ a ∷ b ∷ c ∷ d ∷ []
four-set [] a b c d h = absurd (omega arith)
four-set (w ∷ []) a b c d h = absurd (omega arith)
four-set (w ∷ x ∷ []) a b c d h = absurd (omega arith)
four-set (w ∷ x ∷ y ∷ []) a b c d h = absurd (omega arith)
four-set (w ∷ x ∷ y ∷ z ∷ []) a b c d h = refl
four-set (w ∷ x ∷ y ∷ z ∷ v ∷ xs) a b c d h = absurd (omega arith)
