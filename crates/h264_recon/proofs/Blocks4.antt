-- One more Intra_4x4 block.
use Rattle.std.proofs.Common.{◌≡◌, ◌≢◌, ◌⊎◌, inl, inr, ⊎_elim, ℕ, ◌+◌, ◌*◌, ◌<◌, ◌≤◌, IsTrue, List, ℤ, pos, ◌+ℤ◌, arith, sym, ap, ◌∙◌}
use Rattle.std.proofs.lemmas.Bool.{cases_lt, cases_eq}
use Rattle.h264_intra.specs.Luma4.{is_possible4}
use Rattle.h264_intra.specs.declared.luma4.Intra4x4PredMode.{Intra4x4PredMode}
use Rattle.h264_intra.proofs.Depends.{predicted4_same}
use Rattle.h264_plane.specs.Clip.{clip1}
use Rattle.h264_plane.specs.Blocks.{number_of, column_of, row_of}
use Rattle.h264_plane.proofs.Raster.{index_back}
use Rattle.h264_recon.specs.Blocks.{sides4_of}
use Rattle.h264_recon.specs.Constructed.{mode_at}
use Rattle.h264_recon.specs.Around.{SidesAgree, BlocksAgree}
use Rattle.h264_recon.specs.Lines.{local}
use Rattle.h264_recon.specs.Residuals.{IsBlockAdded}
use Rattle.h264_recon.specs.Blocks4.{sample4, AreMade4, IsPut4, intra4}
use Rattle.h264_recon.specs.declared.macroblock.Available.{Available}
use Rattle.h264_recon.specs.declared.store.Store.{Store}
use Rattle.h264_recon.proofs.Local.{local_own, local_sides}
use Rattle.h264_recon.proofs.Sides.{block_sides}

index_once : (x y u v : ℕ) → x < 4 → y < 4 → u < 4 → v < 4 → number_of x y ≡ number_of u v → (x ≡ u) × (y ≡ v)
unfolding number_of
index_once x y u v p q a b e = (omega arith, omega arith)

index_other : (x y u v : ℕ) → number_of x y < number_of u v → (x ≢ u) ⊎ (y ≢ v)
unfolding number_of
index_other x y u v less = ⊎_elim (λ (same : x ≡ u). inr (λ (same' : y ≡ v). absurd (omega arith))) (λ n. inl n) (cases_eq x u)

sample4_same : (modes : List Intra4x4PredMode) (a : Available) (residual : ℕ → ℕ → ℕ → ℕ → ℤ) (s t : ℕ → ℕ → ℕ) (x y i j : ℕ) → x < 4 → y < 4 → i < 4 → j < 4 →
    IsTrue (is_possible4 (mode_at modes x y) (sides4_of a x y)) → SidesAgree 16 a s t → BlocksAgree 16 (number_of x y) s t →
    sample4 (intra4 modes a residual) s x y i j ≡ sample4 (intra4 modes a residual) t x y i j
sample4_same modes a residual s t x y i j p q d e ok sides blocks =
    ap (λ n. clip1 (pos n +ℤ residual x y j i))
    (predicted4_same (mode_at modes x y) (sides4_of a x y) _ _ i j ok d e (block_sides a s t x y p q sides blocks))

-- the samples of blocks other than one that was written
others_agree : (l : Store) (c x y : ℕ) (old new : List ℕ) (f : ℕ → ℕ → ℕ) (b : ℕ) → b ≤ number_of x y → IsPut4 old new x y f →
    BlocksAgree 16 b (local 16 l c old) (local 16 l c new)
others_agree l c x y old new f b most put = record {
  each = λ u v i j p q d e less.
      local_own 16 l c old (4 * u + i) (4 * v + j)
      ∙ sym (put.kept u v i j (omega arith) (omega arith) d e (index_other u v x y (omega arith)))
      ∙ sym (local_own 16 l c new (4 * u + i) (4 * v + j));
}

pub block_more : (x y : ℕ) (modes : List Intra4x4PredMode) (a : Available) (residual : ℕ → ℕ → ℕ → ℕ → ℤ) (l : Store) (c : ℕ) (old new : List ℕ)
    (f : ℕ → ℕ → ℕ) → x < 4 → y < 4 →
    ((x y : ℕ) → x < 4 → y < 4 → IsTrue (is_possible4 (mode_at modes x y) (sides4_of a x y))) →
    AreMade4 (number_of x y) (intra4 modes a residual) l c old → IsPut4 old new x y f →
    ((i j : ℕ) → i < 4 → j < 4 → f i j ≡ sample4 (intra4 modes a residual) (local 16 l c old) x y i j) →
    AreMade4 (number_of x y + 1) (intra4 modes a residual) l c new
block_more x y modes a residual l c old new f p q ok done put is = record {
  each = λ u v i j p' q' d e less. ⊎_elim
      (λ (earlier : number_of u v < number_of x y).
      put.kept u v i j p' q' d e (index_other u v x y earlier)
      ∙ done.each u v i j p' q' d e earlier
      ∙ sample4_same modes a residual (local 16 l c old) (local 16 l c new) u v i j p' q' d e (ok u v p' q') (local_sides 16 a l c old new)
      (others_agree l c x y old new f (number_of u v) (omega arith) put))
      (λ (here : number_of x y ≤ number_of u v).
      let same = index_once u v x y p' q' p q (omega arith) in
      rw (same.0, same.1) (put.here i j d e ∙ is i j d e
      ∙ sample4_same modes a residual (local 16 l c old) (local 16 l c new) x y i j p q d e (ok x y p q) (local_sides 16 a l c old new)
      (others_agree l c x y old new f (number_of x y) (omega arith) put)))
      (cases_lt (number_of u v) (number_of x y));
}

-- at block number b
pub block_next : (b : ℕ) (modes : List Intra4x4PredMode) (a : Available) (residual : ℕ → ℕ → ℕ → ℕ → ℤ) (l : Store) (c : ℕ) (old new : List ℕ)
    (f : ℕ → ℕ → ℕ) → b < 16 →
    ((x y : ℕ) → x < 4 → y < 4 → IsTrue (is_possible4 (mode_at modes x y) (sides4_of a x y))) →
    AreMade4 b (intra4 modes a residual) l c old → IsPut4 old new (column_of b) (row_of b) f →
    ((i j : ℕ) → i < 4 → j < 4 → f i j ≡ sample4 (intra4 modes a residual) (local 16 l c old) (column_of b) (row_of b) i j) →
    AreMade4 (b + 1) (intra4 modes a residual) l c new
unfolding column_of row_of
block_next b modes a residual l c old new f p ok done put is =
    let back = index_back b p in
    let before : AreMade4 (number_of (column_of b) (row_of b)) (intra4 modes a residual) l c old = rw back done in
    rw back at (block_more (column_of b) (row_of b) modes a residual l c old new f (omega arith) (omega arith) ok before put is)

-- a block that is predicted, and then has its residual added
pub put_added : (x y : ℕ) (old own new : List ℕ) (f : ℕ → ℕ → ℕ) (g : ℕ → ℕ → ℤ) → IsPut4 old own x y f → IsBlockAdded 16 own new x y g →
    IsPut4 old new x y (λ i j. clip1 (pos (f i j) +ℤ g j i))
put_added x y old own new f g put added = record {
  here = λ i j p q. added.here i j p q ∙ ap (λ z. clip1 (pos z +ℤ g j i)) (put.here i j p q);
  kept = λ u v i j p q d e other. added.kept u v i j (omega arith) (omega arith) d e other ∙ put.kept u v i j p q d e other;
}
