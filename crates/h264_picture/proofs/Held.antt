-- From a picture of which nothing is decoded, macroblock by macroblock, to its samples.
use Rattle.std.proofs.Common.{◌≡◌, ℕ, ◌+◌, ◌*◌, ◌/◌, ◌%◌, ◌<◌, ◌≤◌, List, [], ◌∷◌, ◌++◌, length, vec_len, refl, sym, ◌∙◌, subst, arith, inl, ⊎_elim}
use Rattle.std.proofs.Common.{length-append}
use Rattle.std.proofs.lemmas.Bool.{cases_lt}
use Rattle.std.proofs.lemmas.Nat.{mul-le}
use Rattle.h264_plane.specs.Samples.{at, IsSized, ShowsSamples}
use Rattle.h264_plane.specs.Frames.{plane_of, is_chroma}
use Rattle.h264_plane.specs.Places.{side, Agree}
use Rattle.h264_plane.specs.declared.frame.Component.{Component}
use Rattle.h264_plane.specs.declared.frame.Frame.{Frame}
use Rattle.h264_plane.proofs.Raster.{next_place, side_least}
use Rattle.h264_near.specs.Coded.{CodedMacroblock}
use Rattle.h264_near.proofs.Places.{quotient, remainder}
use Rattle.h264_recon.specs.Inter.{Setting}
use Rattle.h264_recon.specs.Constructed.{Coded, IsMade, IsAllowed, IsPossible}
use Rattle.h264_recon.specs.Lines.{AreStored, store_of}
use Rattle.h264_recon.specs.Step.{HasMacroblock, joined}
use Rattle.h264_recon.specs.declared.store.Lines.{Lines}
use Rattle.h264_recon.proofs.Step.{stored_wrap, stored_none, stored_moves, joined_before}
use Rattle.h264_deblock.specs.Filtering.{PlaneEdges, edges_done, IsOf}
use Rattle.h264_deblock.specs.CodedEdges.{coded_edges}
use Rattle.h264_deblock.proofs.Macroblocks.{side_lines, reached_more, reached_wrap, local}
use Rattle.h264_picture.specs.Decoded.{Parameters, filters, given_by, macroblock_at, edges_at, IsDecoded}
use Rattle.h264_picture.specs.Held.{IsSolved, IsHeld, AreReached}
use Rattle.h264_picture.proofs.Prefix.{macroblock-stays, edges-stay, macroblock-next, edges-next, within-at, within-next, fits}
use Rattle.h264_picture.proofs.Carried.{agree-earlier, made-carries, same-edges}

-- ---- nothing is decoded

pub held-none : (k : Setting) (place : ℕ → ℕ) (slices : ℕ → Parameters) (lines : Lines) (frame : Frame) → 0 < k.across →
    ((p : Component) → vec_len (store_of p lines).above ≡ side p * k.across) → IsOf k.across k.down frame → IsHeld k place slices lines frame []
held-none k place slices lines frame some sized size =
    let column : 0 % k.across ≡ 0 = remainder 0 k.across 0 0 some (omega arith) in
    let row : 0 / k.across ≡ 0 = quotient 0 k.across 0 0 some (omega arith) in
    let u : Component → ℕ → ℕ → ℕ = λ p x y. 0 in
    let stored : AreStored k.across 0 0 u lines = λ p. stored_none (side p) k.across (u p) (store_of p lines) (sized p) in
    let reached : AreReached k (edges_at slices k.across []) u 0 0 frame =
    λ p. record { each = λ x y i b. ⊎_elim (λ z. absurd (omega arith)) (λ z. absurd (omega (arith, z.1))) b } in
    record {
      u = u;
      solved = λ c r i h. absurd (omega arith);
      stored = rw (column, row) stored;
      reached = rw (column, row) reached;
      size = size;
    }

-- ---- one macroblock

-- what was reached by the edges so far was reached by those of a longer picture
edges-more : (k : Setting) (place : ℕ → ℕ) (slices : ℕ → Parameters) (picture more : List CodedMacroblock) (u : Component → ℕ → ℕ → ℕ) (c r : ℕ) (f : Frame) →
    length picture ≡ r * k.across + c → c < k.across → r < k.down →
    AreReached k (edges_at slices k.across picture) u c r f → AreReached k (edges_at slices k.across (picture ++ more)) u c r f
edges-more k place slices picture more u c r f n i j reached = λ p. record {
  each = λ x y a b. (reached p).each x y a b
      ∙ ((same-edges k.across k.down (side p) (is_chroma p) (edges_at slices k.across picture p) (edges_at slices k.across (picture ++ more) p) (u p)
      (side_lines p) (side_least p)
      (fits k slices picture p) (fits k slices (picture ++ more) p) c r (omega arith) j).each
      (λ d l. sym (edges-stay slices place k.across picture more p d (omega arith)))).each x y a b;
}

-- and over samples that agree with u before the macroblock
samples-moved : (k : Setting) (slices : ℕ → Parameters) (picture : List CodedMacroblock) (u v : Component → ℕ → ℕ → ℕ) (c r : ℕ) (f : Frame) → c < k.across →
    r < k.down → ((p : Component) → Agree (side p) k.across c r (u p) (v p)) →
    AreReached k (edges_at slices k.across picture) u c r f → AreReached k (edges_at slices k.across picture) v c r f
samples-moved k slices picture u v c r f i j agree reached = λ p. record {
  each = λ x y a b. (reached p).each x y a b
      ∙ ((local k.across k.down (side p) (is_chroma p) (edges_at slices k.across picture p) (u p) (v p) (side_lines p) (side_least p)
      (fits k slices picture p) c r (omega arith) j).each (agree p)).each x y a b;
}

-- the macroblock is constructed, and its edges are filtered
filtered-more : (k : Setting) (slices : ℕ → Parameters) (picture : List CodedMacroblock) (u : Component → ℕ → ℕ → ℕ) (e : Component → PlaneEdges) (c r : ℕ)
    (before put after : Frame) → c < k.across → r < k.down → IsOf k.across k.down before →
    ((p : Component) → edges_at slices k.across picture p (r * k.across + c) ≡ e p) → HasMacroblock c r u before put →
    ((p : Component) → ShowsSamples (plane_of p put) (plane_of p after) (edges_done (side p) (is_chroma p) (e p) c r (at (plane_of p put)))) →
    AreReached k (edges_at slices k.across picture) u c r before → AreReached k (edges_at slices k.across picture) u (c + 1) r after
filtered-more k slices picture u e c r before put after i j size here shown filtered reached = λ p.
    reached_more k.across k.down (side p) (is_chroma p) (edges_at slices k.across picture p) (u p) c r (plane_of p before) (plane_of p put) (plane_of p after)
    (side_lines p) (side_least p) (fits k slices picture p) i j
    (size p).columns (size p).rows (reached p) (shown p) (rw (here p) (filtered p))

-- the equations so far, over samples that agree with others before this macroblock and meet its own
solved-next : (k : Setting) (place : ℕ → ℕ) (slices : ℕ → Parameters) (picture : List CodedMacroblock) (m : CodedMacroblock) (u v : Component → ℕ → ℕ → ℕ)
    (c r : ℕ) → length picture ≡ r * k.across + c → c < k.across →
    ((d s : ℕ) → d < k.across → s * k.across + d < length picture → IsSolved k d s (macroblock_at slices place k.across picture (s * k.across + d)) u) →
    ((p : Component) → Agree (side p) k.across c r (u p) (v p)) → IsSolved k c r (given_by k.across picture place (slices m.slice) m) v →
    (d s : ℕ) → d < k.across → s * k.across + d < length (picture ++ m ∷ []) →
    IsSolved k d s (macroblock_at slices place k.across (picture ++ m ∷ []) (s * k.across + d)) v
solved-next k place slices picture m u v c r n i solved agree own d s j h =
    let long = length-append picture (m ∷ []) in
    ⊎_elim
    (λ (q : s * k.across + d < length picture).
    let before = solved d s j q in
    rw (macroblock-stays slices place k.across picture (m ∷ []) (s * k.across + d) q)
    (record {
      made = made-carries k d s (macroblock_at slices place k.across picture (s * k.across + d)) u v j (within-at k slices place picture d s j q)
          before.possible
          (λ p. agree-earlier (side p) k.across d s c r (u p) (v p) j i (omega arith) (agree p)) before.made;
      possible = before.possible;
    }))
    (λ (q : length picture ≤ s * k.across + d).
    let same : s * k.across + d ≡ r * k.across + c = omega arith in
    let at = one d s c r same j i in
    let is = macroblock-next slices place k.across picture m (s * k.across + d) (omega arith) in
    rw (is, at.0, at.1) own)
    (cases_lt (s * k.across + d) (length picture))
  where
    one : (d s c r : ℕ) → s * k.across + d ≡ r * k.across + c → d < k.across → c < k.across → (d ≡ c) × (s ≡ r)
    one d s c r e a b = (
      sym (remainder (s * k.across + d) k.across s d a refl) ∙ remainder (s * k.across + d) k.across r c b e,
      sym (quotient (s * k.across + d) k.across s d a refl) ∙ quotient (s * k.across + d) k.across r c b e,
    )

held-next : (k : Setting) (place : ℕ → ℕ) (slices : ℕ → Parameters) (picture : List CodedMacroblock) (m : CodedMacroblock) (u v : Component → ℕ → ℕ → ℕ)
    (lines : Lines) (frame : Frame) (c r : ℕ) →
    length picture ≡ r * k.across + c → c < k.across →
    ((d s : ℕ) → d < k.across → s * k.across + d < length picture → IsSolved k d s (macroblock_at slices place k.across picture (s * k.across + d)) u) →
    ((p : Component) → Agree (side p) k.across c r (u p) (v p)) → IsSolved k c r (given_by k.across picture place (slices m.slice) m) v →
    AreStored k.across (c + 1) r v lines → AreReached k (edges_at slices k.across (picture ++ m ∷ [])) v (c + 1) r frame → IsOf k.across k.down frame →
    IsHeld k place slices lines frame (picture ++ m ∷ [])
held-next k place slices picture m u v lines frame c r n i solved agree own stored reached size =
    let long : length (picture ++ m ∷ []) ≡ length picture + 1 = length-append picture (m ∷ []) in
    record {
      u = v;
      solved = solved-next k place slices picture m u v c r n i solved agree own;
      stored = rw long (next_place (λ a b. AreStored k.across a b v lines) k.across (length picture) c r n i
          (λ z p. stored_wrap (side p) k.across r (v p) (store_of p lines) (z p)) stored);
      reached = rw long (next_place (λ a b. AreReached k (edges_at slices k.across (picture ++ m ∷ [])) v a b frame) k.across (length picture) c r n i
          (λ z p. reached_wrap k.across (side p) (is_chroma p) (edges_at slices k.across (picture ++ m ∷ []) p) (v p) r (plane_of p frame) (z p)) reached);
      size = size;
    }

-- one macroblock, by what its construction and its filter promise
pub held-step : (k : Setting) (place : ℕ → ℕ) (slices : ℕ → Parameters) (picture : List CodedMacroblock) (m : CodedMacroblock) (g : Coded) (old new : Lines)
    (before put after : Frame) (c r : ℕ) →
    length picture ≡ r * k.across + c → c < k.across → r < k.down → g ≡ given_by k.across picture place (slices m.slice) m →
    IsPossible g.prediction g.available → ((p : Component) → IsSized (plane_of p after) (plane_of p before).width (plane_of p before).height) →
    ((u : Component → ℕ → ℕ → ℕ) → IsAllowed g k.across c r → AreStored k.across c r u old → IsMade k c r g (joined c r put u)) →
    ((u : Component → ℕ → ℕ → ℕ) → IsAllowed g k.across c r → IsMade k c r g u → AreStored k.across c r u old → AreStored k.across (c + 1) r u new ×
    HasMacroblock c r u before put) →
    ((p : Component) → ShowsSamples (plane_of p put) (plane_of p after)
    (edges_done (side p) (is_chroma p) (coded_edges (filters slices) k.across picture m p) c r (at (plane_of p put)))) →
    IsHeld k place slices old before picture → IsHeld k place slices new after (picture ++ m ∷ [])
held-step k place slices picture m g old new before put after c r n i j is possible size some step filtered held =
    let column : length picture % k.across ≡ c = remainder (length picture) k.across r c i n in
    let row : length picture / k.across ≡ r = quotient (length picture) k.across r c i n in
    let stored : AreStored k.across c r held.u old = rw (column, row) at held.stored in
    let reached : AreReached k (edges_at slices k.across picture) held.u c r before = rw (column, row) at held.reached in
    let allowed : IsAllowed g k.across c r = record { within = within-next k.across picture place (slices m.slice) m g c r is n i; possible = possible } in
    let v : Component → ℕ → ℕ → ℕ = joined c r put held.u in
    let agree : (p : Component) → Agree (side p) k.across c r (held.u p) (v p) = joined_before k.across c r put held.u in
    let made : IsMade k c r g v = some held.u allowed stored in
    let kept : AreStored k.across c r v old = λ p. stored_moves (side p) k.across c r (held.u p) (v p) (store_of p old) (side_least p) i (agree p) (stored p) in
    let done = step v allowed made kept in
    let all = picture ++ m ∷ [] in
    let over : AreReached k (edges_at slices k.across all) v c r before =
    samples-moved k slices all held.u v c r before i j agree (edges-more k place slices picture (m ∷ []) held.u c r before n i j reached) in
    let here : (p : Component) → edges_at slices k.across all p (r * k.across + c) ≡ coded_edges (filters slices) k.across picture m p =
    λ p. edges-next slices place k.across picture m p (r * k.across + c) n in
    let own : IsSolved k c r g v = record { made = made; possible = possible } in
    held-next k place slices picture m held.u v new after c r n i held.solved agree (subst (λ x. IsSolved k c r x v) is own) done.0
    (filtered-more k slices all v (coded_edges (filters slices) k.across picture m) c r before put after i j held.size here done.1 filtered over)
    (λ p. record { columns = (size p).columns ∙ (held.size p).columns; rows = (size p).rows ∙ (held.size p).rows })

-- ---- the whole picture

pub held-whole : (k : Setting) (place : ℕ → ℕ) (slices : ℕ → Parameters) (lines : Lines) (frame : Frame) (picture : List CodedMacroblock) → 0 < k.across →
    length picture ≡ k.down * k.across →
    IsHeld k place slices lines frame picture → IsDecoded k place slices picture (λ p. at (plane_of p frame))
held-whole k place slices lines frame picture some n held =
    let column : length picture % k.across ≡ 0 = remainder (length picture) k.across k.down 0 some (omega arith) in
    let row : length picture / k.across ≡ k.down = quotient (length picture) k.across k.down 0 some (omega arith) in
    let reached : AreReached k (edges_at slices k.across picture) held.u 0 k.down frame = rw (column, row) at held.reached in
    let count : k.down * k.across + 0 ≡ k.down * k.across = omega arith in
    record {
      whole = n;
      u = held.u;
      constructed = record {
        each = λ c r i j.
            (held.solved c r i (let m = mul-le (r + 1) k.across k.down k.across (omega arith) (omega arith) in omega arith)).made;
      };
      filtered = λ p x y i j. rw count at ((reached p).each x y i (inl j));
    }
