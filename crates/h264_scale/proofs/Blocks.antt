-- Matrices by their rows, and by their entries.
use Rattle.std.proofs.Common.{add-one, ◌≡◌, ◌↔◌, ◌+◌, ◌*◌, ℤ, ℕ, ◌<◌, refl, sym, ap, ◌∙◌, arith, pos, ◌*ℤ◌, true, false, List, ◌∷◌, length, drop, get_or}
use Rattle.std.proofs.Common.{Result, Ok, Err, MatchResult, IfOk, IsOk, IsTrue}
use Rattle.std.proofs.lemmas.Int.{ints}
use Rattle.std.proofs.lemmas.Grind.{elements}
use Rattle.std.proofs.lemmas.List.{get_or-take, get_or-drop}
use borrow.Rule.Slice.PartMut.{mid_of}
use Rattle.std.proofs.lemmas.Bool.{false≢true}
use Rattle.h264_scale.specs.Residual.{fits16, all_entries, scaled, residual_fits, residual_at, HasEntries, coefficient, d_of, d_with_dc}
use Rattle.h264_scale.specs.Fours.{four, block_of, dc_only, with_dc, four_fits, block_fits, four_fits_last, block_fits_last, scaled_block}
use Rattle.h264_scale.specs.Fours.{block_residual_fits, block_residual, factor_at}
use Rattle.h264_scale.specs.declared.fours.Four.{Four}
use Rattle.h264_scale.specs.declared.fours.Block.{Block}
use Rattle.h264_scale.specs.declared.transform.TransformRange.{TransformRange}
use Rattle.h264_scale.proofs.Scaled.{scaled_is}
use Rattle.h264_plane.proofs.Below.{below_4}
use Rattle.h264_scale.proofs.Within.{four_of, rows}

pub rows_of_block : {a b c d a' b' c' d' : Four} → a ≡ a' → b ≡ b' → c ≡ c' → d ≡ d' → rows a b c d ≡ rows a' b' c' d'
rows_of_block p q r s = rw (p, q, r, s) refl

-- matrices with the same sixteen entries
pub block_is : (m n : ℕ → ℕ → ℤ) → ((i j : ℕ) → i < 4 → j < 4 → m i j ≡ n i j) → block_of m ≡ block_of n
block_is m n same =
    let row : (i : ℕ) → i < 4 → four (m i 0) (m i 1) (m i 2) (m i 3) ≡ four (n i 0) (n i 1) (n i 2) (n i 3) =
    λ i p. four_of (same i 0 p (omega arith)) (same i 1 p (omega arith)) (same i 2 p (omega arith)) (same i 3 p (omega arith)) in
    rw (row 0 (omega arith), row 1 (omega arith), row 2 (omega arith), row 3 (omega arith)) refl

pub block_fits_is : (m : ℕ → ℕ → ℤ) → block_fits (block_of m) ≡ all_entries fits16 m
unfolding block_fits four_fits
block_fits_is m = refl

-- the range, by matrices and by entries
pub plain_fits : (m : ℕ → ℕ → ℤ) → block_residual_fits (block_of m) ≡ residual_fits m
unfolding block_residual_fits residual_fits block_fits four_fits block_fits_last four_fits_last
plain_fits m = refl

-- the residual, by matrices and by entries
pub plain_entries : (m : ℕ → ℕ → ℤ) → HasEntries (block_residual (block_of m)) (residual_at m)
unfolding block_residual residual_at
plain_entries m =
    let r = block_residual (block_of m) in
    record {
      each = λ i j p q. below_4 (λ k. get_or r (4 * k + j) (pos 0) ≡ residual_at m k j)
          (below_4 (λ k. get_or r (4 * 0 + k) (pos 0) ≡ residual_at m 0 k) refl refl refl refl j q)
          (below_4 (λ k. get_or r (4 * 1 + k) (pos 0) ≡ residual_at m 1 k) refl refl refl refl j q)
          (below_4 (λ k. get_or r (4 * 2 + k) (pos 0) ≡ residual_at m 2 k) refl refl refl refl j q)
          (below_4 (λ k. get_or r (4 * 3 + k) (pos 0) ≡ residual_at m 3 k) refl refl refl refl j q)
          i p;
    }

-- what the transform of a matrix answers
abbrev pub Answers : Result (List ℤ) TransformRange → (ℕ → ℕ → ℤ) → Type 0
Answers r m = (IsOk r ↔ IsTrue (residual_fits m)) × IfOk r (λ l. HasEntries l (residual_at m))

pub answers : (r : Result (List ℤ) TransformRange) (b : Block) (m : ℕ → ℕ → ℤ) → b ≡ block_of m →
    MatchResult r (λ l. (block_residual_fits b ≡ true) × (l ≡ block_residual b)) (λ _. block_residual_fits b ≡ false) → Answers r m
answers (Ok l) b m e h =
    let fits : residual_fits m ≡ true = sym (plain_fits m) ∙ ap block_residual_fits (sym e) ∙ h.0 in
    ((λ _. fits, λ _. refl), rw (h.1, e) (plain_entries m))
answers (Err x) b m e h =
    let fits : residual_fits m ≡ false = sym (plain_fits m) ∙ ap block_residual_fits (sym e) ∙ h in
    ((λ q. absurd (false≢true q), λ q. absurd (false≢true (sym fits ∙ q))), tt)

-- scaling by matrices and by entries
pub scaled_block_is : (qp : ℕ) (m : ℕ → ℕ → ℤ) → scaled_block qp (block_of m) ≡ block_of (λ i j. scaled qp i j (m i j))
scaled_block_is qp m = block_is (λ i j. m i j *ℤ pos (factor_at qp i j)) (λ i j. scaled qp i j (m i j)) (λ i j p q. sym (scaled_is qp i j (m i j)))

-- a block whose DC was scaled apart: what stands there before does not matter
pub with_dc_is : (x dc : ℤ) (l : List ℤ) (qp : ℕ) (b c : Block) → with_dc (pos 0) c ≡ block_of (coefficient (pos 0 ∷ l)) → b ≡ scaled_block qp c →
    x ≡ dc → with_dc x b ≡ block_of (d_with_dc dc l qp)
with_dc_is x dc l qp b c e f same =
    let m = coefficient (pos 0 ∷ l) in
    ap (λ z. with_dc z b) same ∙ ap (with_dc dc) f ∙ ap (λ z. with_dc dc (scaled_block qp z)) e ∙ ap (with_dc dc) (scaled_block_is qp m)

-- ---- a DC alone

pub zero_times : (n : ℕ) → pos 0 *ℤ pos n ≡ pos 0
zero_times n = omega (arith, ints)

none_at : (l : List ℤ) → ((k : ℕ) → k < 15 → get_or l (k + 1) (pos 0) ≡ pos 0) → (k n : ℕ) → k < 15 → get_or l (k + 1) (pos 0) *ℤ pos n ≡ pos 0
none_at l none k n p = ap (λ z. z *ℤ pos n) (none k p) ∙ zero_times n

pub dc_only_is : (l : List ℤ) (qp : ℕ) (x : ℤ) → ((k : ℕ) → k < 15 → get_or l (k + 1) (pos 0) ≡ pos 0) → x ≡ get_or l 0 (pos 0) *ℤ pos (factor_at qp 0 0) →
    dc_only x ≡ block_of (d_of l qp)
dc_only_is l qp x none e =
    let at = none_at l none in
    let f = factor_at qp in
    ap dc_only e
    ∙ sym (rows_of_block
    (four_of refl (at 0 (f 0 1) (omega arith)) (at 4 (f 0 2) (omega arith)) (at 5 (f 0 3) (omega arith)))
    (four_of (at 1 (f 1 0) (omega arith)) (at 3 (f 1 1) (omega arith)) (at 6 (f 1 2) (omega arith)) (at 11 (f 1 3) (omega arith)))
    (four_of (at 2 (f 2 0) (omega arith)) (at 7 (f 2 1) (omega arith)) (at 10 (f 2 2) (omega arith)) (at 12 (f 2 3) (omega arith)))
    (four_of (at 8 (f 3 0) (omega arith)) (at 9 (f 3 1) (omega arith)) (at 13 (f 3 2) (omega arith)) (at 14 (f 3 3) (omega arith))))
    ∙ scaled_block_is qp (coefficient l)

pub dc_only_with : (x dc : ℤ) (l : List ℤ) (qp : ℕ) → ((k : ℕ) → k < 15 → get_or l k (pos 0) ≡ pos 0) → x ≡ dc → dc_only x ≡ block_of (d_with_dc dc l qp)
dc_only_with x dc l qp none e =
    let first : pos 0 ≡ get_or (pos 0 ∷ l) 0 (pos 0) *ℤ pos (factor_at qp 0 0) = sym (zero_times (factor_at qp 0 0)) in
    ap dc_only e ∙ ap (with_dc dc) (dc_only_is (pos 0 ∷ l) qp (pos 0) (λ k p. rw add-one (none k p)) first)

-- levels that are 0 after the first
pub none_after : (l : List ℤ) → length l ≡ 16 → ((k : ℕ) → k < length (mid_of 1 15 l) → get_or (mid_of 1 15 l) k (pos 0) ≡ pos 0) → (k : ℕ) → k < 15 →
    get_or l (k + 1) (pos 0) ≡ pos 0
none_after l e none k p =
    let whole : length (mid_of 1 15 l) ≡ 15 = grind (arith, elements) in
    let there : k < length (mid_of 1 15 l) = omega (arith, whole, p) in
    let place : 1 + k ≡ k + 1 = omega arith in
    sym (get_or-take 15 (drop 1 l) k (pos 0) p ∙ get_or-drop 1 l k (pos 0) ∙ ap (λ n. get_or l n (pos 0)) place) ∙ none k there
