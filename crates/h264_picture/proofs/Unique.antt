-- The samples of a picture are those of its coded macroblocks.
use Rattle.std.proofs.Common.{◌≡◌, ℕ, ◌+◌, ◌*◌, ◌-◌, ◌<◌, ◌≤◌, List, length, refl, ap, sym, ◌∙◌, arith, inr, ⊎_elim}
use Rattle.std.proofs.lemmas.Bool.{cases_lt}
use Rattle.std.proofs.lemmas.Nat.{mul-le}
use Rattle.h264_plane.specs.declared.frame.Component.{Component}
use Rattle.h264_near.specs.Coded.{CodedMacroblock}
use Rattle.h264_plane.specs.Places.{side}
use Rattle.h264_recon.specs.Inter.{Setting}
use Rattle.h264_plane.specs.Places.{Agree}
use Rattle.h264_recon.specs.Constructed.{IsPossible}
use Rattle.h264_recon.proofs.Existence.{some_picture}
use Rattle.h264_recon.proofs.Unique.{unique}
use Rattle.h264_plane.proofs.Raster.{side_least}
use Rattle.h264_deblock.specs.Filtering.{filtered_by, unfiltered}
use Rattle.h264_deblock.proofs.Macroblocks.{local}
use Rattle.h264_deblock.proofs.Macroblocks.{side_lines}
use Rattle.h264_picture.specs.Decoded.{Parameters, macroblock_at, edges_at, IsDecoded}
use Rattle.h264_picture.proofs.Prefix.{within-at, fits}
use Rattle.h264_plane.specs.Frames.{is_chroma}

pub one_decoded : (k : Setting) (place : ℕ → ℕ) (slices : ℕ → Parameters) (picture : List CodedMacroblock) (f g : Component → ℕ → ℕ → ℕ) →
    ((c r : ℕ) → c < k.across → r < k.down →
    IsPossible (macroblock_at slices place k.across picture (r * k.across + c)).prediction
    (macroblock_at slices place k.across picture (r * k.across + c)).available) →
    IsDecoded k place slices picture f → IsDecoded k place slices picture g → (p : Component) (x y : ℕ) → x < side p * k.across → y < side p * k.down →
    f p x y ≡ g p x y
one_decoded k place slices picture f g possible a b p x y i j =
    let same = unique k (macroblock_at slices place k.across picture) a.u b.u
    (λ c r d e. record {
      within = within-at k slices place picture c r d
          (let m = mul-le (r + 1) k.across k.down k.across (omega arith) (omega arith) in let w = a.whole in omega arith);
      possible = possible c r d e;
    }) a.constructed b.constructed p in
    let e = k.down - 1 in
    let some : 0 < k.down = ⊎_elim (λ (q : 0 < k.down). q)
    (λ (q : k.down ≤ 0). let z : k.down ≡ 0 = omega arith in let n = ap (λ d. side p * d) z in absurd (omega arith)) (cases_lt 0 k.down) in
    let is : k.down ≡ e + 1 = omega arith in
    let tall : side p * k.down ≡ side p * e + side p = ap (λ d. side p * d) is ∙ (omega arith) in
    let count : k.down * k.across ≡ e * k.across + k.across = ap (λ d. d * k.across) is ∙ (omega arith) in
    let before : Agree (side p) k.across k.across e (a.u p) (b.u p) = record {
      each = λ u v l z. same u v l (⊎_elim (λ (q : v < side p * e). omega arith) (λ q. omega (arith, q.0)) z);
    } in
    let done = (local k.across k.down (side p) (is_chroma p) (edges_at slices k.across picture p) (a.u p) (b.u p) (side_lines p) (side_least p)
    (fits k slices picture p) k.across e (omega arith) (omega arith)).each before in
    a.filtered p x y i j
    ∙ ap (λ n. filtered_by n (unfiltered k.across (side p) (is_chroma p) (edges_at slices k.across picture p) (a.u p)) x y) count
    ∙ done.each x y i (inr (omega arith, i))
    ∙ ap (λ n. filtered_by n (unfiltered k.across (side p) (is_chroma p) (edges_at slices k.across picture p) (b.u p)) x y) (sym count)
    ∙ sym (b.filtered p x y i j)

pub some_decoded : (k : Setting) (place : ℕ → ℕ) (slices : ℕ → Parameters) (picture : List CodedMacroblock) → length picture ≡ k.down * k.across →
    ((c r : ℕ) → c < k.across → r < k.down →
    IsPossible (macroblock_at slices place k.across picture (r * k.across + c)).prediction
    (macroblock_at slices place k.across picture (r * k.across + c)).available) →
    (final : Component → ℕ → ℕ → ℕ) × IsDecoded k place slices picture final
some_decoded k place slices picture whole possible =
    let s = some_picture k (macroblock_at slices place k.across picture)
    (λ c r d e. record {
      within = within-at k slices place picture c r d (let m = mul-le (r + 1) k.across k.down k.across (omega arith) (omega arith) in omega arith);
      possible = possible c r d e;
    }) in (
      (λ p x y. filtered_by (k.down * k.across) (unfiltered k.across (side p) (is_chroma p) (edges_at slices k.across picture p) (s.0 p)) x y),
      record { whole = whole; u = s.0; constructed = s.1; filtered = λ p x y i j. refl },
    )
