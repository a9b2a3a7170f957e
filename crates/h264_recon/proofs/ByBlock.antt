-- The residual of a macroblock, added block by block.
use Rattle.std.proofs.Common.{◌≡◌, ◌≢◌, ◌⊎◌, inl, inr, ⊎_elim, ℕ, ◌+◌, ◌*◌, ◌/◌, ◌%◌, ◌<◌, ◌≤◌, List, [], slice_index, replicate, ℤ, pos, ◌+ℤ◌, arith}
use Rattle.std.proofs.Common.{refl, sym, ap, ◌∙◌}
use Rattle.std.proofs.lemmas.Bool.{cases_lt, cases_eq}
use Rattle.h264_plane.specs.Clip.{clip1}
use Rattle.h264_plane.specs.Blocks.{number_of, column_of, row_of}
use Rattle.h264_plane.specs.declared.frame.Component.TheVariants.{Y, Cb, Cr}
use Rattle.h264_plane.proofs.Raster.{index_back, index_once}
use Rattle.h264_scale.specs.Residual.{residual_at, d_of, d_with_dc, HasEntries}
use Rattle.h264_scale.specs.Macroblock.{luma_d, chroma_d, block_d, residual}
use Rattle.h264_scale.specs.declared.levels.ChromaLevels.TheVariants as chroma
use Rattle.h264_scale.specs.declared.levels.Levels.{Levels}
use Rattle.h264_scale.proofs.Blocks.{plain_entries}
use Rattle.h264_scale.proofs.Whole.{none_residual, no_dc_residual, not_coded_chroma}
use Rattle.h264_recon.specs.Residuals.{place, raster, IsAdded, IsBlockAdded, AreBlocksAdded}

-- ---- one block

-- without levels it has no residual
no_levels : (qp i j : ℕ) → i < 4 → j < 4 → residual_at (d_of (replicate 16 (pos 0)) qp) i j ≡ pos 0
no_levels qp i j p q = sym ((plain_entries (d_of (replicate 16 (pos 0)) qp)).each i j p q) ∙ (plain_entries (d_of [] qp)).each i j p q ∙
    none_residual qp i j p q

pub none_plain : (qp : ℕ) → HasEntries [] (residual_at (d_of (replicate 16 (pos 0)) qp))
none_plain qp = record { each = λ i j p q. sym (no_levels qp i j p q) }

pub none_coded : (qp : ℕ) → HasEntries [] (residual_at (d_of [] qp))
none_coded qp = record { each = λ i j p q. sym (none_residual qp i j p q) }

pub none_with_dc : (qp : ℕ) → HasEntries [] (residual_at (d_with_dc (pos 0) (replicate 15 (pos 0)) qp))
none_with_dc qp = record { each = λ i j p q. sym (no_dc_residual qp i j p q) }

-- samples that stay as they are
pub record Stay (n : ℕ) (old new : List ℕ) : Type 0 where
  pub clipped : (k : ℕ) → k < n → slice_index new k ≡ clip1 (pos (slice_index old k) +ℤ pos 0)
  pub same : (k : ℕ) → k < n → slice_index new k ≡ slice_index old k

-- ---- one block after the other

pub none_added : (n : ℕ) (number : ℕ → ℕ → ℕ) (f : ℕ → ℕ → ℕ → ℕ → ℤ) (own : List ℕ) → AreBlocksAdded n 0 number f own own
none_added n number f own = record {
  each = λ x y i j p q d e less. absurd (omega arith);
  rest = λ x y i j p q d e most. refl;
}

apart : (number : ℕ → ℕ → ℕ) (x y u v b : ℕ) → number x y ≡ b → number u v ≢ b → (u ≢ x) ⊎ (v ≢ y)
apart number x y u v b e other =
    ⊎_elim
    (λ (same : u ≡ x). ⊎_elim
    (λ (same' : v ≡ y). let s : number u v ≡ number x y = rw (same, same') refl in absurd (other (s ∙ e)))
    (λ differ. inr differ) (cases_eq v y))
    (λ differ. inl differ) (cases_eq u x)

added_more : (n b : ℕ) (number : ℕ → ℕ → ℕ) (f : ℕ → ℕ → ℕ → ℕ → ℤ) (x y : ℕ) (old own new : List ℕ) → number x y ≡ b →
    ((u v : ℕ) → 4 * u + 4 ≤ n → 4 * v + 4 ≤ n → number u v ≡ b → (u ≡ x) × (v ≡ y)) → AreBlocksAdded n b number f old own →
    IsBlockAdded n own new x y (f x y) →
    AreBlocksAdded n (b + 1) number f old new
added_more n b number f x y old own new e once done put = record {
  each = λ u v i j p q d d' less. ⊎_elim
      (λ (earlier : number u v < b).
      put.kept u v i j p q d d' (apart number x y u v b e (λ same. absurd (omega arith))) ∙ done.each u v i j p q d d' earlier)
      (λ (here : b ≤ number u v).
      let same = once u v p q (omega arith) in
      let kept = done.rest u v i j p q d d' here in
      rw (same.0, same.1) (put.here i j d d' ∙ ap (λ z. clip1 (pos z +ℤ f x y j i)) (rw (same.0, same.1) at kept)))
      (cases_lt (number u v) b);
  rest = λ u v i j p q d d' most. put.kept u v i j p q d d' (apart number x y u v b e (λ same. absurd (omega arith))) ∙
      done.rest u v i j p q d d' (omega arith);
}

pub luma_more : (b : ℕ) (f : ℕ → ℕ → ℕ → ℕ → ℤ) (old own new : List ℕ) → b < 16 → AreBlocksAdded 16 b number_of f old own →
    IsBlockAdded 16 own new (column_of b) (row_of b) (f (column_of b) (row_of b)) →
    AreBlocksAdded 16 (b + 1) number_of f old new
luma_more b f old own new p done put =
    added_more 16 b number_of f (column_of b) (row_of b) old own new (index_back b p) (λ u v i j e. index_once b u v (omega arith) (omega arith) e) done put

raster_once : (b u v : ℕ) → b < 4 → 4 * u + 4 ≤ 8 → 4 * v + 4 ≤ 8 → raster u v ≡ b → (u ≡ b % 2) × (v ≡ b / 2)
raster_once b u v p i j e = (omega arith, omega arith)

raster_back : (b : ℕ) → b < 4 → raster (b % 2) (b / 2) ≡ b
raster_back b p = omega arith

pub chroma_more : (b : ℕ) (f : ℕ → ℕ → ℕ → ℕ → ℤ) (old own new : List ℕ) → b < 4 → AreBlocksAdded 8 b raster f old own →
    IsBlockAdded 8 own new (b % 2) (b / 2) (f (b % 2) (b / 2)) →
    AreBlocksAdded 8 (b + 1) raster f old new
chroma_more b f old own new p done put = added_more 8 b raster f (b % 2) (b / 2) old own new (raster_back b p) (λ u v i j e. raster_once b u v p i j e) done put

-- ---- a whole plane

pub luma_added : (l : Levels) (old new : List ℕ) → AreBlocksAdded 16 16 number_of (λ x y. residual_at (luma_d l.qp l.luma x y)) old new → IsAdded l Y old new
unfolding residual block_d number_of
luma_added l old new made = record {
  each = λ x y i j.
      let there : 16 * y + x ≡ place 16 (x / 4) (y / 4) (x % 4) (y % 4) = omega arith in
      ap (slice_index new) there ∙ made.each (x / 4) (y / 4) (x % 4) (y % 4) (omega arith) (omega arith) (omega arith) (omega arith) (omega arith)
      ∙ ap (λ z. clip1 (pos (slice_index old z) +ℤ residual_at (luma_d l.qp l.luma (x / 4) (y / 4)) (y % 4) (x % 4))) (sym there);
}

pub cb_added : (l : Levels) (old new : List ℕ) → AreBlocksAdded 8 4 raster (λ x y. residual_at (chroma_d l.qp_cb l.cb x y)) old new → IsAdded l Cb old new
unfolding residual block_d
cb_added l old new made = record {
  each = λ x y i j.
      let there : 8 * y + x ≡ place 8 (x / 4) (y / 4) (x % 4) (y % 4) = omega arith in
      ap (slice_index new) there ∙ made.each (x / 4) (y / 4) (x % 4) (y % 4) (omega arith) (omega arith) (omega arith) (omega arith) (omega arith)
      ∙ ap (λ z. clip1 (pos (slice_index old z) +ℤ residual_at (chroma_d l.qp_cb l.cb (x / 4) (y / 4)) (y % 4) (x % 4))) (sym there);
}

pub cr_added : (l : Levels) (old new : List ℕ) → AreBlocksAdded 8 4 raster (λ x y. residual_at (chroma_d l.qp_cr l.cr x y)) old new → IsAdded l Cr old new
unfolding residual block_d
cr_added l old new made = record {
  each = λ x y i j.
      let there : 8 * y + x ≡ place 8 (x / 4) (y / 4) (x % 4) (y % 4) = omega arith in
      ap (slice_index new) there ∙ made.each (x / 4) (y / 4) (x % 4) (y % 4) (omega arith) (omega arith) (omega arith) (omega arith) (omega arith)
      ∙ ap (λ z. clip1 (pos (slice_index old z) +ℤ residual_at (chroma_d l.qp_cr l.cr (x / 4) (y / 4)) (y % 4) (x % 4))) (sym there);
}

pub luma_stays : (l : Levels) (old new : List ℕ) → Stay 256 old new → ((x y : ℕ) → x < 16 → y < 16 → residual l Y x y ≡ pos 0) → IsAdded l Y old new
luma_stays l old new stay none = record {
  each = λ x y i j. stay.clipped (16 * y + x) (omega arith) ∙ ap (λ z. clip1 (pos (slice_index old (16 * y + x)) +ℤ z)) (sym (none x y i j));
}

pub cb_stays : (l : Levels) (old new : List ℕ) → Stay 64 old new → ((x y : ℕ) → residual l Cb x y ≡ pos 0) → IsAdded l Cb old new
cb_stays l old new stay none = record {
  each = λ x y i j. stay.clipped (8 * y + x) (omega arith) ∙ ap (λ z. clip1 (pos (slice_index old (8 * y + x)) +ℤ z)) (sym (none x y));
}

pub cr_stays : (l : Levels) (old new : List ℕ) → Stay 64 old new → ((x y : ℕ) → residual l Cr x y ≡ pos 0) → IsAdded l Cr old new
cr_stays l old new stay none = record {
  each = λ x y i j. stay.clipped (8 * y + x) (omega arith) ∙ ap (λ z. clip1 (pos (slice_index old (8 * y + x)) +ℤ z)) (sym (none x y));
}

pub plane_stays : (qp : ℕ) (old new : List ℕ) → Stay 64 old new → AreBlocksAdded 8 4 raster (λ x y. residual_at (chroma_d qp chroma.NotCoded x y)) old new
plane_stays qp old new stay = record {
  each = λ x y i j p q d e less. stay.clipped (place 8 x y i j) (omega arith)
      ∙ ap (λ z. clip1 (pos (slice_index old (place 8 x y i j)) +ℤ z)) (sym (not_coded_chroma qp x y j i e d));
  rest = λ x y i j p q d e most. absurd (omega arith);
}
