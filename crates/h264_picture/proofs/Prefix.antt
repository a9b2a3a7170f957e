-- What is said of a macroblock depends on the coded picture up to it.
use Rattle.std.proofs.Common.{◌≡◌, ℕ, ◌+◌, ◌*◌, ◌<◌, ◌≤◌, List, [], ◌∷◌, ◌++◌, length, take, get_or, refl, ap, sym, ◌∙◌, arith, ⊎_elim}
use Rattle.std.proofs.lemmas.Bool.{cases_lt}
use Rattle.std.proofs.lemmas.List.{take-append-le, get_or_append_left, get_or_at}
use Rattle.std.proofs.lemmas.Option.{slice_get_past, slice_get-get_or}
use Rattle.std.proofs.Math.Seq.{take-append_seam}
use Rattle.h264_plane.specs.declared.frame.Component.{Component}
use Rattle.h264_near.specs.Coded.{CodedMacroblock}
use Rattle.h264_near.proofs.Places.{front, seam, length-taken}
use Rattle.h264_recon.specs.Constructed.{Coded, IsWithin}
use Rattle.h264_recon.specs.Given.{given}
use Rattle.h264_recon.specs.Inter.{Setting}
use Rattle.h264_recon.proofs.Within.{within, used-within}
use Rattle.h264_deblock.specs.CodedEdges.{coded_edges}
use Rattle.h264_deblock.specs.Filtering.{AreInside, Fits}
use Rattle.h264_deblock.proofs.Within.{edges-inside}
use Rattle.h264_picture.specs.Decoded.{Parameters, filters, given_by, nothing, macroblock_at, edges_at}

module _ (slices : ℕ → Parameters) (place : ℕ → ℕ) (width : ℕ) (picture : List CodedMacroblock) where
  -- earlier macroblocks stay
  pub macroblock-stays : (more : List CodedMacroblock) (a : ℕ) → a < length picture →
      macroblock_at slices place width (picture ++ more) a ≡ macroblock_at slices place width picture a
  unfolding macroblock_at
  macroblock-stays more a h =
      let t : take a (picture ++ more) ≡ take a picture = take-append-le a picture more (omega arith) in
      let g : get_or (picture ++ more) a nothing ≡ get_or picture a nothing = get_or_append_left picture more nothing a h in
      rw (t, g) refl

  pub edges-stay : (more : List CodedMacroblock) (p : Component) (a : ℕ) → a < length picture →
      edges_at slices width (picture ++ more) p a ≡ edges_at slices width picture p a
  unfolding edges_at
  edges-stay more p a h =
      let t : take a (picture ++ more) ≡ take a picture = take-append-le a picture more (omega arith) in
      rw (t, front picture more a h) refl

  -- the next one is given by those before and itself
  pub macroblock-next : (m : CodedMacroblock) (a : ℕ) → length picture ≡ a →
      macroblock_at slices place width (picture ++ m ∷ []) a ≡ given_by width picture place (slices m.slice) m
  unfolding macroblock_at
  macroblock-next m a e =
      let t : take a (picture ++ m ∷ []) ≡ picture = ap (λ n. take n (picture ++ m ∷ [])) (sym e) ∙ take-append_seam picture (m ∷ []) in
      let g : get_or (picture ++ m ∷ []) a nothing ≡ m = get_or_at picture m [] nothing a e in
      rw (t, g) refl

  pub edges-next : (m : CodedMacroblock) (p : Component) (a : ℕ) → length picture ≡ a →
      edges_at slices width (picture ++ m ∷ []) p a ≡ coded_edges (filters slices) width picture m p
  unfolding edges_at
  edges-next m p a e =
      let t : take a (picture ++ m ∷ []) ≡ picture = ap (λ n. take n (picture ++ m ∷ [])) (sym e) ∙ take-append_seam picture (m ∷ []) in
      rw (t, seam picture m [] a (sym e)) refl

-- ---- what is available, and which edges are filtered, lies in the picture

pub within-at : (k : Setting) (slices : ℕ → Parameters) (place : ℕ → ℕ) (picture : List CodedMacroblock) (c r : ℕ) → c < k.across →
    r * k.across + c < length picture → IsWithin (macroblock_at slices place k.across picture (r * k.across + c)).available k.across c r
unfolding macroblock_at given
within-at k slices place picture c r i h =
    let m = get_or picture (r * k.across + c) nothing in
    used-within m.prediction _ k.across c r
    (within k.across (take (r * k.across + c) picture) m.slice (slices m.slice).constrained_intra c r (length-taken picture (r * k.across + c) (omega arith)) i)

pub within-next : (w : ℕ) (picture : List CodedMacroblock) (place : ℕ → ℕ) (s : Parameters) (m : CodedMacroblock) (g : Coded) (c r : ℕ) → g ≡
    given_by w picture place s m → length picture ≡ r * w + c → c < w → IsWithin g.available w c r
unfolding given
within-next w picture place s m g c r is e k = rw is (used-within m.prediction _ w c r (within w picture m.slice s.constrained_intra c r e k))

fit : (slices : ℕ → Parameters) (w : ℕ) (picture : List CodedMacroblock) (p : Component) (c r : ℕ) → c < w →
    AreInside c r (edges_at slices w picture p (r * w + c))
unfolding edges_at
fit slices w picture p c r k = ⊎_elim
    (λ (q : r * w + c < length picture).
    rw (slice_get-get_or picture (r * w + c) nothing q)
    (edges-inside (filters slices) w (take (r * w + c) picture) (get_or picture (r * w + c) nothing) p c r (length-taken picture (r * w + c) (omega arith)) k))
    (λ (q : length picture ≤ r * w + c).
    rw (slice_get_past picture (r * w + c) q) (record { vertical = λ h. absurd (grind (arith, h)); horizontal = λ h. absurd (grind (arith, h)) }))
    (cases_lt (r * w + c) (length picture))

pub fits : (k : Setting) (slices : ℕ → Parameters) (picture : List CodedMacroblock) (p : Component) → Fits k.across k.down (edges_at slices k.across picture p)
fits k slices picture p = record { each = λ c r i j. fit slices k.across picture p c r i }
