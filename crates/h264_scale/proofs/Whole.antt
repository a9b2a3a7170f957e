-- The residual of a macroblock, block by block, and its range.
use Rattle.std.proofs.Common.{◌≡◌, ⊎_elim, ℕ, zero, suc, ◌+◌, ◌*◌, ◌/◌, ◌%◌, ◌<◌, ◌≤◌, Bool, true, false, ◌&&◌, List, [], get_or, replicate, IsTrue, ℤ, pos}
use Rattle.std.proofs.Common.{arith, refl, sym, ap, ◌∙◌, add-one}
use Rattle.std.proofs.lemmas.Bool.{cases_lt, false≢true, false_from_ne_true, and_from}
use Rattle.h264_plane.specs.declared.frame.Component.TheVariants.{Y, Cb, Cr}
use Rattle.h264_plane.specs.Blocks.{number_of, column_of, row_of}
use Rattle.h264_scale.specs.Residual.{residual_at, residual_fits, d_of, d_with_dc, HasEntries}
use Rattle.h264_scale.specs.Dc.{dc16_at, dc2_at, HasEntries2}
use Rattle.h264_scale.specs.Macroblock.{luma_d, chroma_d, block_d, residual, all_below, luma_dc_fits, chroma_dc_fits, luma_blocks_fit, chroma_blocks_fit}
use Rattle.h264_scale.specs.Macroblock.{luma_fits, chroma_fits, levels_fit}
use Rattle.h264_scale.specs.declared.levels.LumaLevels.{LumaLevels}
use Rattle.h264_scale.specs.declared.levels.LumaLevels.TheVariants as luma
use Rattle.h264_scale.specs.declared.levels.LumaWithDc.{LumaWithDc}
use Rattle.h264_scale.specs.declared.levels.ChromaLevels.{ChromaLevels}
use Rattle.h264_scale.specs.declared.levels.ChromaLevels.TheVariants as chroma
use Rattle.h264_scale.specs.declared.levels.ChromaWithDc.{ChromaWithDc}
use Rattle.h264_scale.specs.declared.levels.Levels.{Levels}
use Rattle.h264_scale.proofs.Blocks.{plain_fits, plain_entries, dc_only_is, dc_only_with, zero_times}
use Rattle.h264_scale.specs.Fours.{dc_only, block_of, block_residual_fits, block_residual, factor_at}
use Rattle.std.proofs.lemmas.List.{get_or-replicate}
use Rattle.h264_scale.proofs.Small.{flat_fits, flat_is, zero_last}

-- ---- the levels of a block

pub d_of_blocks : (qp x y : ℕ) (levels : List (List ℤ)) (l : List ℤ) → l ≡ get_or levels (number_of x y) [] → d_of l qp ≡ luma_d qp (luma.Blocks levels) x y
unfolding luma_d
d_of_blocks qp x y levels l e = ap (λ z. d_of z qp) e

pub d_of_dc16 : (qp x y : ℕ) (levels : LumaWithDc) (l dcs : List ℤ) (dc : ℤ) → x < 4 → y < 4 → l ≡ get_or levels.ac (number_of x y) [] →
    dc ≡ get_or dcs (4 * y + x) (pos 0) →
    HasEntries dcs (dc16_at levels.dc qp) → d_with_dc dc l qp ≡ luma_d qp (luma.WithDc levels) x y
unfolding luma_d
d_of_dc16 qp x y levels l dcs dc p q e same dcs_are =
    ap (λ z. d_with_dc z l qp) (same ∙ dcs_are.each y x q p) ∙ ap (λ z. d_with_dc (dc16_at levels.dc qp y x) z qp) e

pub d_of_dc2 : (qp x y : ℕ) (levels : ChromaWithDc) (l dcs : List ℤ) (dc : ℤ) → x < 2 → y < 2 → l ≡ get_or levels.ac (2 * y + x) [] →
    dc ≡ get_or dcs (2 * y + x) (pos 0) →
    HasEntries2 dcs (dc2_at levels.dc qp) → d_with_dc dc l qp ≡ chroma_d qp (chroma.WithDc levels) x y
unfolding chroma_d
d_of_dc2 qp x y levels l dcs dc p q e same dcs_are =
    ap (λ z. d_with_dc z l qp) (same ∙ dcs_are.each y x q p) ∙ ap (λ z. d_with_dc (dc2_at levels.dc qp y x) z qp) e

-- ---- the range, block by block

pub all_none : (p : ℕ → Bool) → all_below 0 p ≡ true
unfolding all_below
all_none p = refl

pub and_first : (a b : Bool) → a ≡ false → (a && b) ≡ false
and_first a b p = grind arith

pub and_second : (a b : Bool) → b ≡ false → (a && b) ≡ false
and_second a b p = grind arith

pub all_more : (n : ℕ) (p : ℕ → Bool) → all_below n p ≡ true → p n ≡ true → all_below (n + 1) p ≡ true
unfolding all_below
all_more n p h g = rw (add-one n) (and_from (all_below n p) (p n) h g)

pub all_stop : (n k : ℕ) (p : ℕ → Bool) → k < n → p k ≡ false → all_below n p ≡ false
unfolding all_below
all_stop zero k p i e = absurd (let f : ⊥ = omega arith in f)
all_stop (suc n) k p i e = ⊎_elim
    (λ (below : k < n). and_first (all_below n p) (p n) (all_stop n k p below e))
    (λ (here : n ≤ k). let same : n ≡ k = omega arith in and_second (all_below n p) (p n) (ap p same ∙ e))
    (cases_lt k n)

-- what an answer says of a test
pub refused : (b : Bool) → (IsTrue b → false ≡ true) → b ≡ false
refused b h = false_from_ne_true b (λ q. false≢true (h q))

pub never : (b : Bool) → b ≡ false → (false ≡ true → IsTrue b) × (IsTrue b → false ≡ true)
never b e = (λ q. absurd (false≢true q), λ q. absurd (false≢true (sym e ∙ q)))

pub always : (b : Bool) → b ≡ true → (true ≡ true → IsTrue b) × (IsTrue b → true ≡ true)
always b e = (λ _. e, λ _. refl)

-- the range of a plane
pub luma_whole : (qp : ℕ) (l : LumaLevels) → luma_dc_fits qp l ≡ true → all_below 16 (λ b. residual_fits (luma_d qp l (column_of b) (row_of b))) ≡ true →
    luma_fits qp l ≡ true
unfolding luma_fits luma_blocks_fit
luma_whole qp l p q = and_from _ _ p q

pub luma_dc_unfit : (qp : ℕ) (l : LumaLevels) → luma_dc_fits qp l ≡ false → luma_fits qp l ≡ false
unfolding luma_fits
luma_dc_unfit qp l p = and_first (luma_dc_fits qp l) _ p

pub luma_unfit : (qp : ℕ) (l : LumaLevels) (b : ℕ) → b < 16 → residual_fits (luma_d qp l (column_of b) (row_of b)) ≡ false → luma_fits qp l ≡ false
unfolding luma_fits luma_blocks_fit
luma_unfit qp l b i p = and_second (luma_dc_fits qp l) _ (all_stop 16 b (λ k. residual_fits (luma_d qp l (column_of k) (row_of k))) i p)

pub chroma_whole : (qp : ℕ) (l : ChromaLevels) → chroma_dc_fits qp l ≡ true → all_below 4 (λ b. residual_fits (chroma_d qp l (b % 2) (b / 2))) ≡ true →
    chroma_fits qp l ≡ true
unfolding chroma_fits chroma_blocks_fit
chroma_whole qp l p q = and_from _ _ p q

pub chroma_dc_unfit : (qp : ℕ) (l : ChromaLevels) → chroma_dc_fits qp l ≡ false → chroma_fits qp l ≡ false
unfolding chroma_fits
chroma_dc_unfit qp l p = and_first (chroma_dc_fits qp l) _ p

pub chroma_unfit : (qp : ℕ) (l : ChromaLevels) (b : ℕ) → b < 4 → residual_fits (chroma_d qp l (b % 2) (b / 2)) ≡ false → chroma_fits qp l ≡ false
unfolding chroma_fits chroma_blocks_fit
chroma_unfit qp l b i p = and_second (chroma_dc_fits qp l) _ (all_stop 4 b (λ k. residual_fits (chroma_d qp l (k % 2) (k / 2))) i p)

-- and of all planes
pub levels_whole : (l : Levels) → luma_fits l.qp l.luma ≡ true → chroma_fits l.qp_cb l.cb ≡ true → chroma_fits l.qp_cr l.cr ≡ true → levels_fit l ≡ true
unfolding levels_fit
levels_whole l p q r = and_from _ _ (and_from _ _ p q) r

pub levels_luma : (l : Levels) → luma_fits l.qp l.luma ≡ false → levels_fit l ≡ false
unfolding levels_fit
levels_luma l p = and_first _ (chroma_fits l.qp_cr l.cr) (and_first _ (chroma_fits l.qp_cb l.cb) p)

pub levels_cb : (l : Levels) → chroma_fits l.qp_cb l.cb ≡ false → levels_fit l ≡ false
unfolding levels_fit
levels_cb l p = and_first _ (chroma_fits l.qp_cr l.cr) (and_second (luma_fits l.qp l.luma) _ p)

-- ---- levels that are all 0

no_levels : (qp : ℕ) → dc_only (pos 0) ≡ block_of (d_of [] qp)
no_levels qp = dc_only_is [] qp (pos 0) (λ k p. refl) (sym (zero_times (factor_at qp 0 0)))

no_dc : (qp : ℕ) → dc_only (pos 0) ≡ block_of (d_with_dc (pos 0) (replicate 15 (pos 0)) qp)
no_dc qp = dc_only_with (pos 0) (pos 0) (replicate 15 (pos 0)) qp (λ k p. get_or-replicate 15 k (pos 0) (pos 0) p) refl

nothing_fits : (m : ℕ → ℕ → ℤ) → dc_only (pos 0) ≡ block_of m → residual_fits m ≡ true
nothing_fits m e = sym (plain_fits m) ∙ ap block_residual_fits (sym e) ∙ flat_fits (pos 0) zero_last

nothing_at : (m : ℕ → ℕ → ℤ) → dc_only (pos 0) ≡ block_of m → (i j : ℕ) → i < 4 → j < 4 → residual_at m i j ≡ pos 0
nothing_at m e i j p q =
    sym ((plain_entries m).each i j p q) ∙ ap (λ b. get_or (block_residual b) (4 * i + j) (pos 0)) (sym e)
    ∙ ap (λ l. get_or l (4 * i + j) (pos 0)) (sym (flat_is (pos 0) (pos 0) refl)) ∙ get_or-replicate 16 (4 * i + j) (pos 0) (pos 0) (omega arith)

pub none_fit : (qp : ℕ) → residual_fits (d_of [] qp) ≡ true
none_fit qp = nothing_fits (d_of [] qp) (no_levels qp)

pub none_residual : (qp i j : ℕ) → i < 4 → j < 4 → residual_at (d_of [] qp) i j ≡ pos 0
none_residual qp = nothing_at (d_of [] qp) (no_levels qp)

pub no_dc_fits : (qp : ℕ) → residual_fits (d_with_dc (pos 0) (replicate 15 (pos 0)) qp) ≡ true
no_dc_fits qp = nothing_fits (d_with_dc (pos 0) (replicate 15 (pos 0)) qp) (no_dc qp)

pub no_dc_residual : (qp i j : ℕ) → i < 4 → j < 4 → residual_at (d_with_dc (pos 0) (replicate 15 (pos 0)) qp) i j ≡ pos 0
no_dc_residual qp = nothing_at (d_with_dc (pos 0) (replicate 15 (pos 0)) qp) (no_dc qp)

pub all_to : (n : ℕ) (p : ℕ → Bool) → ((k : ℕ) → k < n → p k ≡ true) → all_below n p ≡ true
unfolding all_below
all_to zero p h = refl
all_to (suc n) p h = and_from (all_below n p) (p n) (all_to n p (λ k i. h k (omega (arith, i)))) (h n (omega arith))

all_of : (n : ℕ) (p : ℕ → Bool) → ((k : ℕ) → p k ≡ true) → all_below n p ≡ true
unfolding all_below
all_of zero p h = refl
all_of (suc n) p h = and_from (all_below n p) (p n) (all_of n p h) (h n)

pub not_coded_luma_fits : (qp : ℕ) → luma_fits qp luma.NotCoded ≡ true
unfolding luma_d luma_dc_fits
not_coded_luma_fits qp = luma_whole qp luma.NotCoded refl (all_of 16 _ (λ b. none_fit qp))

pub not_coded_chroma_fits : (qp : ℕ) → chroma_fits qp chroma.NotCoded ≡ true
unfolding chroma_d chroma_dc_fits
not_coded_chroma_fits qp = chroma_whole qp chroma.NotCoded refl (all_of 4 _ (λ b. none_fit qp))

pub not_coded_chroma : (qp x y i j : ℕ) → i < 4 → j < 4 → residual_at (chroma_d qp chroma.NotCoded x y) i j ≡ pos 0
unfolding chroma_d
not_coded_chroma qp x y i j p q = none_residual qp i j p q

pub no_luma : (l : Levels) (x y : ℕ) → l.luma ≡ luma.NotCoded → residual l Y x y ≡ pos 0
unfolding residual block_d luma_d
no_luma l x y e = ap (λ z. residual_at (luma_d l.qp z (x / 4) (y / 4)) (y % 4) (x % 4)) e ∙ none_residual l.qp (y % 4) (x % 4) (omega arith) (omega arith)

pub no_cb : (l : Levels) (x y : ℕ) → l.cb ≡ chroma.NotCoded → residual l Cb x y ≡ pos 0
unfolding residual block_d chroma_d
no_cb l x y e = ap (λ z. residual_at (chroma_d l.qp_cb z (x / 4) (y / 4)) (y % 4) (x % 4)) e ∙ none_residual l.qp_cb (y % 4) (x % 4) (omega arith) (omega arith)

pub no_cr : (l : Levels) (x y : ℕ) → l.cr ≡ chroma.NotCoded → residual l Cr x y ≡ pos 0
unfolding residual block_d chroma_d
no_cr l x y e = ap (λ z. residual_at (chroma_d l.qp_cr z (x / 4) (y / 4)) (y % 4) (x % 4)) e ∙ none_residual l.qp_cr (y % 4) (x % 4) (omega arith) (omega arith)
