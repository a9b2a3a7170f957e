-- The levels of a macroblock that was read are those of the coded macroblock.
use Rattle.std.proofs.Common.{◌≡◌, ℕ, ◌+◌, ◌*◌, ◌<◌, ◌≤◌, Bool, List, [], get_or, Option, take, drop, replicate, ℤ, pos, refl, ap, sym, ◌∙◌, arith}
use Rattle.h264_tables.specs.ChromaQp.{chroma_qp_of}
use Rattle.h264_intra.specs.declared.luma4.Intra4x4PredMode.{Intra4x4PredMode}
use Rattle.h264_intra.specs.declared.luma16.Intra16x16PredMode.{Intra16x16PredMode}
use Rattle.h264_intra.specs.declared.chroma.IntraChromaPredMode.{IntraChromaPredMode}
use Rattle.h264_near.specs.Coded as coded
use Rattle.h264_near.specs.Coded.{CodedMacroblock}
use Rattle.h264_mbsyntax.specs.Stored.{shown}
use Rattle.h264_mbsyntax.specs.Holds as holds
use Rattle.h264_mbsyntax.specs.declared.macroblock.Kind.{Kind}
use Rattle.h264_mbsyntax.specs.declared.macroblock.Kind.TheVariants as kind
use Rattle.h264_mbsyntax.specs.declared.macroblock.Macroblock.{Macroblock}
use Rattle.h264_recon.specs.ReadLevels.{luma_by, chroma_by, is_pcm, levels_in}
use Rattle.h264_recon.specs.declared.scaled.ReadLevels.{ReadLevels}
use Rattle.h264_scale.specs.declared.levels.LumaLevels.{LumaLevels}
use Rattle.h264_scale.specs.declared.levels.LumaLevels.TheVariants as luma
use Rattle.h264_scale.specs.declared.levels.ChromaLevels.{ChromaLevels}
use Rattle.h264_scale.specs.declared.levels.ChromaLevels.TheVariants as chroma
use Rattle.h264_scale.specs.declared.levels.Levels.{Levels}
use Rattle.h264_recon.specs.Constructed.{Coded}
use Rattle.h264_base.specs.declared.weight.Weights.{Weights}
use Rattle.h264_recon.specs.Given.{available, used_by, prediction_of, weights_of, given, slice_settings}
use Rattle.h264_recon.specs.Table.{table}
use Rattle.h264_recon.specs.declared.macroblock.Available.{Available}
use Rattle.h264_recon.specs.Predicted.{Prediction}
use Rattle.h264_recon.specs.Levels.{blocks_from, luma_blocks, luma_levels, chroma_blocks, chroma_levels, levels_of}
use Rattle.h264_recon.proofs.Tables.{table-ext, element}

pub blocks : (size b n most : ℕ) (totals : List ℕ) (stands ls : List (List ℤ)) → b + n ≤ most → holds.Levels size most totals stands ls →
    table n (λ k. shown size (get_or totals (b + k) 0) (get_or stands (b + k) (replicate size (pos 0)))) ≡ blocks_from b n ls
blocks size b n most totals stands ls h l = table-ext n _ _ (λ k i. sym (element ls (b + k) _ [] (l.each (b + k) (omega arith))))

pub all-blocks : (size n : ℕ) (totals : List ℕ) (stands ls : List (List ℤ)) → holds.Levels size n totals stands ls →
    table n (λ k. shown size (get_or totals k 0) (get_or stands k (replicate size (pos 0)))) ≡ blocks_from 0 n ls
all-blocks size n totals stands ls l = table-ext n _ _ (λ k i. let e : 0 + k ≡ k = omega arith in rw e (sym (element ls k _ [] (l.each k i))))

-- ---- luma, by the prediction

pub luma-4x4 : (p : coded.Prediction) (r : coded.Residual) (modes : List Intra4x4PredMode) (mode : IntraChromaPredMode) (totals ts : List ℕ)
    (ls : List (List ℤ)) (v : LumaLevels) → p ≡ coded.Intra4x4 modes mode → v ≡ luma_blocks ts ls → totals ≡ ts → ls ≡ blocks_from 0 16 r.luma →
    v ≡ luma_levels p totals r
unfolding luma_levels
luma-4x4 p r modes mode totals ts ls v e is t l = rw (e, is, t, l) refl

pub luma-inter : (p : coded.Prediction) (r : coded.Residual) (motions : _) (totals ts : List ℕ) (ls : List (List ℤ)) (v : LumaLevels) → p ≡
    coded.Inter motions → v ≡ luma_blocks ts ls → totals ≡ ts → ls ≡ blocks_from 0 16 r.luma → v ≡ luma_levels p totals r
unfolding luma_levels
luma-inter p r motions totals ts ls v e is t l = rw (e, is, t, l) refl

pub luma-16x16 : (p : coded.Prediction) (r : coded.Residual) (mode : Intra16x16PredMode) (chroma : IntraChromaPredMode) (totals : List ℕ) (dc : List ℤ)
    (ac : List (List ℤ)) → p ≡ coded.Intra16x16 mode chroma → dc ≡ r.luma_dc → ac ≡ blocks_from 0 16 r.luma →
    luma.WithDc (record { dc = dc; ac = ac }) ≡ luma_levels p totals r
unfolding luma_levels
luma-16x16 p r mode chroma totals dc ac e d l = rw (e, d, l) refl

pub luma-pcm : (p : coded.Prediction) (r : coded.Residual) (samples totals : List ℕ) → p ≡ coded.Pcm samples → luma.NotCoded ≡ luma_levels p totals r
unfolding luma_levels
luma-pcm p r samples totals e = rw e refl

-- ---- chroma

plane : (c : ℕ) (r : coded.Residual) (totals ts : List ℕ) (dc : List ℤ) (ac : List (List ℤ)) (v : ChromaLevels) → v ≡
    chroma_blocks (take 4 (drop (4 * c) ts)) dc ac → totals ≡ ts → dc ≡ get_or r.chroma_dc c [] → ac ≡ blocks_from (4 * c) 4 r.chroma →
    v ≡ chroma_blocks (take 4 (drop (4 * c) totals)) (get_or r.chroma_dc c []) (blocks_from (4 * c) 4 r.chroma)
plane c r totals ts dc ac v is t d a = is ∙ ap (λ z. chroma_blocks (take 4 (drop (4 * c) z)) dc ac) (sym t) ∙
    ap (λ z. chroma_blocks (take 4 (drop (4 * c) totals)) z ac) d ∙ ap (chroma_blocks (take 4 (drop (4 * c) totals)) (get_or r.chroma_dc c [])) a

pub chroma-4x4 : (c : ℕ) (p : coded.Prediction) (r : coded.Residual) (modes : List Intra4x4PredMode) (mode : IntraChromaPredMode) (totals ts : List ℕ)
    (dc : List ℤ) (ac : List (List ℤ)) (v : ChromaLevels) → p ≡ coded.Intra4x4 modes mode → v ≡ chroma_blocks (take 4 (drop (4 * c) ts)) dc ac → totals ≡ ts →
    dc ≡ get_or r.chroma_dc c [] → ac ≡ blocks_from (4 * c) 4 r.chroma → v ≡ chroma_levels c p totals r
unfolding chroma_levels
chroma-4x4 c p r modes mode totals ts dc ac v e is t d a = rw e (plane c r totals ts dc ac v is t d a)

pub chroma-16x16 : (c : ℕ) (p : coded.Prediction) (r : coded.Residual) (mode : Intra16x16PredMode) (chroma_mode : IntraChromaPredMode) (totals ts : List ℕ)
    (dc : List ℤ) (ac : List (List ℤ)) (v : ChromaLevels) → p ≡ coded.Intra16x16 mode chroma_mode → v ≡ chroma_blocks (take 4 (drop (4 * c) ts)) dc ac →
    totals ≡ ts → dc ≡ get_or r.chroma_dc c [] → ac ≡ blocks_from (4 * c) 4 r.chroma → v ≡ chroma_levels c p totals r
unfolding chroma_levels
chroma-16x16 c p r mode chroma_mode totals ts dc ac v e is t d a = rw e (plane c r totals ts dc ac v is t d a)

pub chroma-inter : (c : ℕ) (p : coded.Prediction) (r : coded.Residual) (motions : _) (totals ts : List ℕ) (dc : List ℤ) (ac : List (List ℤ))
    (v : ChromaLevels) → p ≡ coded.Inter motions → v ≡ chroma_blocks (take 4 (drop (4 * c) ts)) dc ac → totals ≡ ts → dc ≡ get_or r.chroma_dc c [] →
    ac ≡ blocks_from (4 * c) 4 r.chroma → v ≡ chroma_levels c p totals r
unfolding chroma_levels
chroma-inter c p r motions totals ts dc ac v e is t d a = rw e (plane c r totals ts dc ac v is t d a)

pub chroma-pcm : (c : ℕ) (p : coded.Prediction) (r : coded.Residual) (samples totals : List ℕ) → p ≡ coded.Pcm samples →
    chroma.NotCoded ≡ chroma_levels c p totals r
unfolding chroma_levels
chroma-pcm c p r samples totals e = rw e refl

-- ---- together

abbrev pub bundle : LumaLevels → ChromaLevels → ChromaLevels → ℕ → ℕ → Levels
bundle l cb cr qp qc = record { luma = l; cb = cb; cr = cr; qp = qp; qp_cb = qc; qp_cr = qc }

pub levels-are : (offset : ℤ) (m : CodedMacroblock) (l : LumaLevels) (cb cr : ChromaLevels) (qp qc : ℕ) → l ≡ luma_levels m.prediction m.totals m.residual →
    cb ≡ chroma_levels 0 m.prediction m.chroma_totals m.residual → cr ≡ chroma_levels 1 m.prediction m.chroma_totals m.residual →
    m.qp ≡ qp → qc ≡ chroma_qp_of qp offset → bundle l cb cr qp qc ≡ levels_of offset m
unfolding levels_of
levels-are offset m l cb cr qp qc a b d q e =
    let f : qc ≡ chroma_qp_of m.qp offset = e ∙ ap (λ n. chroma_qp_of n offset) (sym q) in
    let l' = luma_levels m.prediction m.totals m.residual in
    let cb' = chroma_levels 0 m.prediction m.chroma_totals m.residual in
    let cr' = chroma_levels 1 m.prediction m.chroma_totals m.residual in
    ap (λ z. bundle z cb cr qp qc) a ∙ ap (λ z. bundle l' z cr qp qc) b ∙ ap (λ z. bundle l' cb' z qp qc) d ∙ ap (λ z. bundle l' cb' cr' z qc) (sym q) ∙
    ap (λ z. bundle l' cb' cr' m.qp z) f

-- ---- the whole macroblock

abbrev assembled : Available → Prediction → Levels → List (Option Weights) → Coded
assembled a p l ws = record { available = a; prediction = p; levels = l; weights = ws }

pub given-is : (w : ℕ) (xs : List CodedMacroblock) (place : ℕ → ℕ) (weights : List (Option Weights)) (constrained : Bool) (offset : ℤ) (m : CodedMacroblock)
    (a : Available) (p : Prediction) (ws : List (Option Weights)) →
    a ≡ used_by m.prediction (available w xs m.slice constrained) → p ≡ prediction_of place m.prediction → ws ≡ weights_of weights m.prediction →
    assembled a p (levels_of offset m) ws ≡ given w xs place (slice_settings weights constrained offset) m
unfolding given
given-is w xs place weights constrained offset m a p ws e f g =
    let sides = used_by m.prediction (available w xs m.slice constrained) in
    ap (λ z. assembled z p (levels_of offset m) ws) e ∙ ap (λ z. assembled sides z (levels_of offset m) ws) f
    ∙ ap (assembled sides (prediction_of place m.prediction) (levels_of offset m)) g

-- ---- the levels that were read

luma-is : (k : Kind) (mb : Macroblock) (m : CodedMacroblock) → holds.IsPrediction k mb m.prediction → holds.HasLuma k mb m → m.totals ≡ mb.contexts.totals →
    luma_by k mb ≡ luma_levels m.prediction m.totals m.residual
unfolding luma_by
luma-is kind.Intra4x4 mb m p l t = luma-4x4 m.prediction m.residual _ _ _ _ _ _ p refl t (all-blocks 16 16 _ _ _ l.0)
luma-is (kind.Intra16x16 mode) mb m p l t = luma-16x16 m.prediction m.residual _ _ _ _ _ p (sym l.1) (all-blocks 15 16 _ _ _ l.0)
luma-is kind.Pcm mb m p l t = luma-pcm m.prediction m.residual _ _ p
luma-is (kind.Inter partition) mb m p l t = luma-inter m.prediction m.residual _ _ _ _ _ p.0 refl t (all-blocks 16 16 _ _ _ l.0)

chroma-is : (k : Kind) (c : ℕ) (mb : Macroblock) (m : CodedMacroblock) → c < 2 → holds.IsPrediction k mb m.prediction → holds.HasChroma k mb m →
    m.chroma_totals ≡ mb.contexts.chroma_totals → chroma_by (is_pcm k) c mb ≡ chroma_levels c m.prediction m.chroma_totals m.residual
unfolding chroma_by
chroma-is kind.Intra4x4 c mb m i p l t =
    chroma-4x4 c m.prediction m.residual _ _ _ _ _ _ _ p refl t (sym (element m.residual.chroma_dc c _ [] (l.0.each c i)))
    (blocks 15 (4 * c) 4 8 _ _ _ (omega arith) l.1)
chroma-is (kind.Intra16x16 mode) c mb m i p l t =
    chroma-16x16 c m.prediction m.residual _ _ _ _ _ _ _ p refl t (sym (element m.residual.chroma_dc c _ [] (l.0.each c i)))
    (blocks 15 (4 * c) 4 8 _ _ _ (omega arith) l.1)
chroma-is kind.Pcm c mb m i p l t = chroma-pcm c m.prediction m.residual _ _ p
chroma-is (kind.Inter partition) c mb m i p l t =
    chroma-inter c m.prediction m.residual _ _ _ _ _ _ p.0 refl t (sym (element m.residual.chroma_dc c _ [] (l.0.each c i)))
    (blocks 15 (4 * c) 4 8 _ _ _ (omega arith) l.1)

pub levels-read : (r : ReadLevels) (m : CodedMacroblock) → holds.HoldsMacroblock r.read.now m → levels_in r ≡ levels_of r.chroma_qp_index_offset m
unfolding levels_in
levels-read r m h =
    let mb = r.read.now in
    levels-are r.chroma_qp_index_offset m _ _ _ mb.qp _ (luma-is mb.kind mb m h.prediction h.luma h.contexts.totals)
    (chroma-is mb.kind 0 mb m (omega arith) h.prediction h.chroma h.contexts.chroma_totals)
    (chroma-is mb.kind 1 mb m (omega arith) h.prediction h.chroma h.contexts.chroma_totals) h.qp refl
