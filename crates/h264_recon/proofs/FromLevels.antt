-- The residual of a macroblock by the levels that it has.
use Rattle.std.proofs.Common.{◌≡◌, ◌≢◌, ◌↔◌, ℕ, zero, suc, ◌+◌, ◌*◌, ◌/◌, ◌%◌, ◌<◌, Bool}
use Rattle.std.proofs.Common.{true, false, ◌&&◌, IsTrue, IsOk, IfOk, Result, Ok, Err, List, [], get_or, replicate}
use Rattle.std.proofs.Common.{ℤ, pos, arith, refl, sym, ap, ◌∙◌}
use Rattle.h264_plane.specs.Blocks.{number_of, column_of, row_of}
use Rattle.h264_plane.specs.declared.frame.Component.TheVariants.{Y}
use Rattle.h264_plane.proofs.Raster.{index_back}
use Rattle.h264_mbsyntax.specs.Stored.{shown}
use Rattle.h264_mbsyntax.specs.declared.macroblock.Kind.{Kind}
use Rattle.h264_mbsyntax.specs.declared.macroblock.Kind.TheVariants as kind
use Rattle.h264_mbsyntax.specs.declared.macroblock.Macroblock.{Macroblock}
use Rattle.std.proofs.lemmas.Bool.{false≢true}
use Rattle.h264_scale.specs.Residual.{d_of, d_with_dc, residual_at, residual_fits, HasEntries}
use Rattle.h264_scale.specs.Dc.{dc16_at, dc16_fits, dc2_at, HasEntries2}
use Rattle.h264_scale.specs.Macroblock.{luma_d, chroma_d, luma_dc_fits, luma_fits, chroma_fits, levels_fit, block_d, residual}
use Rattle.h264_scale.specs.declared.levels.LumaLevels.{LumaLevels}
use Rattle.h264_scale.specs.declared.levels.Levels.{Levels}
use Rattle.h264_scale.specs.declared.levels.LumaLevels.TheVariants as luma
use Rattle.h264_scale.specs.declared.levels.ChromaLevels.{ChromaLevels}
use Rattle.h264_scale.specs.declared.levels.ChromaLevels.TheVariants as chroma
use Rattle.h264_scale.proofs.Whole.{d_of_blocks, d_of_dc16, d_of_dc2, luma_whole, levels_whole, not_coded_luma_fits, not_coded_chroma_fits, all_to, none_fit}
use Rattle.h264_scale.proofs.Whole.{none_residual}
use Rattle.h264_recon.specs.Levels.{are_zero, luma_blocks, chroma_blocks}
use Rattle.h264_recon.specs.ReadLevels.{luma_by, luma_read, luma16_read, chroma_read, chroma_by, is_pcm, levels_in, d_in, AreBlocksOf}
use Rattle.h264_recon.specs.Residuals.{IsChromaOf}
use Rattle.h264_recon.specs.declared.scaled.ReadLevels.{ReadLevels}
use Rattle.h264_recon.specs.Table.{table}
use Rattle.h264_recon.specs.declared.scaled.PlainBlocks.{PlainBlocks}
use Rattle.h264_recon.specs.declared.scaled.BlocksWithDc.{BlocksWithDc}
use Rattle.h264_recon.specs.declared.scaled.LumaBlocks.TheVariants.{NotCoded, Plain, WithDc}
use Rattle.h264_recon.proofs.Tables.{table-at}
use Rattle.h264_near.specs.Coded.{are_blank}

-- a plane whose DC levels are 0, and which has no others
pub uncoded : (t t' : List ℕ) (d d' : List ℤ) (ac : List (List ℤ)) (b : Bool) → b ≡ true → b ≡ (are_zero d && are_blank t) → d ≡ d' → t ≡ t' →
    chroma.NotCoded ≡ chroma_blocks t' d' ac
unfolding chroma_blocks
uncoded t t' d d' ac b p is e f =
    let none : (are_zero d && are_blank t) ≡ true = sym is ∙ p in
    rw (sym e, sym f, none) refl

pub coded_chroma : (t : List ℕ) (d d' : List ℤ) (ac : List (List ℤ)) (b : Bool) → b ≡ false → b ≡ (are_zero d && are_blank t) → d ≡ d' →
    chroma.WithDc (record { dc = d; ac = ac }) ≡ chroma_blocks t d' ac
unfolding chroma_blocks
coded_chroma t d d' ac b n is e =
    let some : (are_zero d && are_blank t) ≡ false = sym is ∙ n in
    rw (sym e, some) refl

pub shown-some : (size n : ℕ) (l : List ℤ) → n ≢ 0 → shown size n l ≡ l
shown-some size zero l h = absurd (h refl)
shown-some size (suc n) l h = refl

-- ---- luma blocks by the levels that were read

pub blank_of : (qp : ℕ) (mb : Macroblock) → are_blank mb.contexts.totals ≡ true → AreBlocksOf qp NotCoded (luma_read mb)
unfolding luma_blocks luma_d luma_dc_fits
blank_of qp mb e = record { dc = rw e refl; each = λ x y p q. rw e refl }

pub uncoded_of : (qp : ℕ) → AreBlocksOf qp NotCoded luma.NotCoded
unfolding luma_d luma_dc_fits
uncoded_of qp = record { dc = refl; each = λ x y p q. refl }

pub plain_of : (qp : ℕ) (mb : Macroblock) (b : PlainBlocks) → b.totals.now ≡ mb.contexts.totals → b.levels.now ≡ mb.residual.luma →
    are_blank mb.contexts.totals ≡ false → AreBlocksOf qp (Plain b) (luma_read mb)
unfolding luma_blocks luma_dc_fits number_of
plain_of qp mb b e f some = rw (e, f, some) (record {
  dc = refl;
  each = λ x y p q.
      let levels : ℕ → List ℤ = λ k. shown 16 (get_or mb.contexts.totals k 0) (get_or mb.residual.luma k (replicate 16 (pos 0))) in
      d_of_blocks qp x y (table 16 levels) (levels (number_of x y)) (sym (table-at 16 levels (number_of x y) [] (omega arith)));
})

pub dc16_of : (qp : ℕ) (mb : Macroblock) (b : BlocksWithDc) → b.totals.now ≡ mb.contexts.totals → b.levels.now ≡ mb.residual.luma_ac →
    HasEntries b.dc (dc16_at (shown 16 mb.residual.luma_dc_total mb.residual.luma_dc) qp) →
    dc16_fits (shown 16 mb.residual.luma_dc_total mb.residual.luma_dc) qp ≡ true → AreBlocksOf qp (WithDc b) (luma16_read mb)
unfolding luma_dc_fits number_of
dc16_of qp mb b e f has fits = rw (e, f) (record {
  dc = fits;
  each = λ x y p q.
      let levels : ℕ → List ℤ = λ k. shown 15 (get_or mb.contexts.totals k 0) (get_or mb.residual.luma_ac k (replicate 15 (pos 0))) in
      d_of_dc16 qp x y _ (levels (number_of x y)) b.dc _ p q (sym (table-at 16 levels (number_of x y) [] (omega arith))) refl has;
})

pub plain_at : (qp b : ℕ) (p : PlainBlocks) (l : List ℤ) → b < 16 → l ≡ get_or p.levels.now b (replicate 16 (pos 0)) →
    d_of (shown 16 (get_or p.totals.now b 0) l) qp ≡ d_in qp (Plain p) (column_of b) (row_of b)
plain_at qp b p l i e =
    ap (λ z. d_of (shown 16 (get_or p.totals.now b 0) z) qp) e
    ∙ ap (λ n. d_of (shown 16 (get_or p.totals.now n 0) (get_or p.levels.now n (replicate 16 (pos 0)))) qp) (sym (index_back b i))

pub with_dc_at : (qp b : ℕ) (w : BlocksWithDc) (dc : ℤ) (l : List ℤ) → b < 16 → dc ≡ get_or w.dc (4 * row_of b + column_of b) (pos 0) →
    l ≡ get_or w.levels.now b (replicate 15 (pos 0)) →
    d_with_dc dc (shown 15 (get_or w.totals.now b 0) l) qp ≡ d_in qp (WithDc w) (column_of b) (row_of b)
with_dc_at qp b w dc l i same e =
    ap (λ z. d_with_dc z (shown 15 (get_or w.totals.now b 0) l) qp) same
    ∙ ap (λ z. d_with_dc (get_or w.dc (4 * row_of b + column_of b) (pos 0)) (shown 15 (get_or w.totals.now b 0) z) qp) e
    ∙ ap (λ n. d_with_dc (get_or w.dc (4 * row_of b + column_of b) (pos 0))
    (shown 15 (get_or w.totals.now n 0) (get_or w.levels.now n (replicate 15 (pos 0)))) qp) (sym (index_back b i))

-- ---- macroblocks of which no block has a level

pub uncoded_fits : (qp : ℕ) (l : LumaLevels) → AreBlocksOf qp NotCoded l → luma_fits qp l ≡ true
unfolding column_of row_of
uncoded_fits qp l h = luma_whole qp l h.dc
    (all_to 16 _ (λ b p. ap residual_fits (sym (h.each (column_of b) (row_of b) (omega arith) (omega arith))) ∙ none_fit qp))

pub uncoded_luma : (l : Levels) → AreBlocksOf l.qp NotCoded l.luma → (x y : ℕ) → x < 16 → y < 16 → residual l Y x y ≡ pos 0
unfolding residual block_d
uncoded_luma l h x y p q =
    ap (λ d. residual_at d (y % 4) (x % 4)) (sym (h.each (x / 4) (y / 4) (omega arith) (omega arith))) ∙
    none_residual l.qp (y % 4) (x % 4) (omega arith) (omega arith)

-- ---- chroma

pub chroma_of : {A E : Type 0} (qp qp' : ℕ) (v l : ChromaLevels) (r : Result A E) (old new : List ℕ) → IsChromaOf qp v r old new → qp ≡ qp' → v ≡ l →
    IsChromaOf qp' l r old new
chroma_of qp qp' v l r old new h q e = rw (sym q, sym e) h

pub plane_at : (qp c b : ℕ) (mb : Macroblock) (d dcs : List ℤ) (dc : ℤ) → b < 4 → dc ≡ get_or dcs (2 * (b / 2) + b % 2) (pos 0) →
    HasEntries2 dcs (dc2_at d qp) →
    d_with_dc dc (shown 15 (get_or mb.contexts.chroma_totals (4 * c + b) 0) (get_or mb.residual.chroma_ac (4 * c + b) (replicate 15 (pos 0)))) qp
    ≡ chroma_d qp (chroma.WithDc (record {
      dc = d;
      ac = table 4 (λ k. shown 15 (get_or mb.contexts.chroma_totals (4 * c + k) 0) (get_or mb.residual.chroma_ac (4 * c + k) (replicate 15 (pos 0))));
    }))
    (b % 2) (b / 2)
plane_at qp c b mb d dcs dc i same has =
    let levels : ℕ → List ℤ = λ k. shown 15 (get_or mb.contexts.chroma_totals (4 * c + k) 0)
    (get_or mb.residual.chroma_ac (4 * c + k) (replicate 15 (pos 0))) in
    let back : 2 * (b / 2) + b % 2 ≡ b = omega arith in
    d_of_dc2 qp (b % 2) (b / 2) _ (levels b) dcs dc (omega arith) (omega arith)
    (sym (table-at 4 levels b [] i) ∙ ap (λ n. get_or (table 4 levels) n []) (sym back)) same has

pub pcm_cb : (r : ReadLevels) → is_pcm r.read.now.kind ≡ true → (levels_in r).cb ≡ chroma.NotCoded
unfolding levels_in chroma_by
pcm_cb r e = rw e refl

pub pcm_cr : (r : ReadLevels) → is_pcm r.read.now.kind ≡ true → (levels_in r).cr ≡ chroma.NotCoded
unfolding levels_in chroma_by
pcm_cr r e = rw e refl

pub coded_cb : (r : ReadLevels) → is_pcm r.read.now.kind ≡ false → chroma_read 0 r.read.now ≡ (levels_in r).cb
unfolding levels_in chroma_by
coded_cb r e = rw e refl

pub coded_cr : (r : ReadLevels) → is_pcm r.read.now.kind ≡ false → chroma_read 1 r.read.now ≡ (levels_in r).cr
unfolding levels_in chroma_by
coded_cr r e = rw e refl

-- ---- what is answered

pub whenever : {A E P : Type 0} (r : Result A E) → P → IfOk r (λ u. P)
whenever (Ok v) p = p
whenever (Err e) p = tt

pub if_so : {A E P Q : Type 0} (r : Result A E) → (P → Q) → IfOk r (λ u. P) → IfOk r (λ u. Q)
if_so (Ok v) f p = f p
if_so (Err e) f p = tt

pub both_so : {A E P Q R : Type 0} (r : Result A E) → (P → Q → R) → IfOk r (λ u. P) → IfOk r (λ u. Q) → IfOk r (λ u. R)
both_so (Ok v) f p q = f p q
both_so (Err e) f p q = tt

pub one_more : {A E : Type 0} (r : Result A E) (a b : Bool) → a ≡ true → (IsOk r ↔ IsTrue b) → (IsOk r ↔ IsTrue (a && b))
one_more r a b e h = rw e h

pub two_more : {A E : Type 0} (r : Result A E) (a b d : Bool) → a ≡ true → (IsOk r ↔ IsTrue (b && d)) → (IsOk r ↔ IsTrue (a && b && d))
two_more r a b d e h = rw e h

-- ---- I_PCM

no_luma : (k : Kind) (mb : Macroblock) → is_pcm k ≡ true → luma_by k mb ≡ luma.NotCoded
unfolding luma_by
no_luma kind.Intra4x4 mb e = absurd (false≢true e)
no_luma (kind.Intra16x16 mode) mb e = absurd (false≢true e)
no_luma kind.Pcm mb e = refl
no_luma (kind.Inter partition) mb e = absurd (false≢true e)

pub pcm_luma : (r : ReadLevels) → is_pcm r.read.now.kind ≡ true → (levels_in r).luma ≡ luma.NotCoded
unfolding levels_in
pcm_luma r e = no_luma r.read.now.kind r.read.now e

pub pcm_fits : (r : ReadLevels) → is_pcm r.read.now.kind ≡ true → levels_fit (levels_in r) ≡ true
pcm_fits r e =
    let l = levels_in r in
    levels_whole l (ap (luma_fits l.qp) (pcm_luma r e) ∙ not_coded_luma_fits l.qp) (ap (chroma_fits l.qp_cb) (pcm_cb r e) ∙ not_coded_chroma_fits l.qp_cb)
    (ap (chroma_fits l.qp_cr) (pcm_cr r e) ∙ not_coded_chroma_fits l.qp_cr)

-- ---- one plane after the other

pub levels_last : (l : Levels) → luma_fits l.qp l.luma ≡ true → chroma_fits l.qp_cb l.cb ≡ true → levels_fit l ≡ chroma_fits l.qp_cr l.cr
unfolding levels_fit
levels_last l p q = rw (p, q) refl
