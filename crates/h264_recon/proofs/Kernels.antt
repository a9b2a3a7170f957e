-- What the code constructs meets the equations.
use Rattle.std.proofs.Common.{◌≡◌, ℕ, ◌+◌, ◌*◌, ◌/◌, ◌%◌, Bool, true, false, List, slice_index, pos, ◌+ℤ◌, arith, refl, sym, ap, ◌∙◌}
use Rattle.h264_plane.specs.declared.frame.Component.{Component}
use Rattle.h264_plane.specs.declared.frame.Component.TheVariants.{Y, Cb, Cr}
use Rattle.h264_intra.specs.Filters.{HasSamples}
use Rattle.h264_intra.specs.Luma16.{predicted16}
use Rattle.h264_intra.specs.Chroma.{predicted_chroma}
use Rattle.h264_intra.specs.declared.luma4.Intra4x4PredMode.{Intra4x4PredMode}
use Rattle.h264_intra.specs.declared.luma16.Intra16x16PredMode.{Intra16x16PredMode}
use Rattle.h264_intra.specs.declared.chroma.IntraChromaPredMode.{IntraChromaPredMode}
use Rattle.h264_plane.specs.Clip.{clip1}
use Rattle.h264_plane.specs.Blocks.{number_of}
use Rattle.h264_recon.specs.Blocks.{sides_of}
use Rattle.h264_scale.specs.Residual.{residual_at}
use Rattle.h264_scale.specs.Macroblock.{luma_d, block_d, residual}
use Rattle.h264_recon.specs.Inter.{Setting, position_at}
use Rattle.h264_recon.specs.Constructed.{predicted_luma, predicted_intra, pcm_sample, made_by, made, Coded}
use Rattle.h264_recon.specs.Lines.{local, IsMadeFrom, AreMadeFrom, IsLumaMade, IsChromaMade, chroma_plane, pcm_list, store_of, intra_chroma}
use Rattle.h264_recon.specs.Blocks4.{place4, AreMade4, intra4}
use Rattle.h264_scale.specs.declared.levels.Levels.{Levels}
use Rattle.h264_recon.specs.declared.macroblock.Available.{Available}
use Rattle.h264_recon.specs.declared.macroblock.IntraLuma.{IntraLuma}
use Rattle.h264_recon.specs.declared.macroblock.IntraLuma.TheVariants.{Blocks, Whole}
use Rattle.h264_recon.specs.declared.macroblock.IntraModes.{IntraModes}
use Rattle.h264_recon.specs.Predicted.{PcmSamples, Intra, Pcm}
use Rattle.h264_recon.specs.Residuals.{IsAdded}
use Rattle.h264_recon.specs.declared.store.Lines.{Lines}
use Rattle.h264_recon.specs.declared.store.Samples.{Samples}
use Rattle.h264_recon.specs.declared.store.Store.{Store}

made_intra : (k : Setting) (c r : ℕ) (m : Coded) (p : Component) (s : ℕ → ℕ → ℕ) (x y : ℕ) (modes : IntraModes) → m.prediction ≡ Intra modes →
    made k (position_at c r) m p s x y ≡ clip1 (pos (predicted_intra modes m.available p s x y) +ℤ residual m.levels p x y)
unfolding made_by
made_intra k c r m p s x y modes e = rw e refl

made_pcm : (k : Setting) (c r : ℕ) (m : Coded) (p : Component) (s : ℕ → ℕ → ℕ) (x y : ℕ) (bytes : PcmSamples) → m.prediction ≡ Pcm bytes →
    made k (position_at c r) m p s x y ≡ pcm_sample bytes p x y
unfolding made_by
made_pcm k c r m p s x y bytes e = rw e refl

-- Intra_4x4
pub blocks_made : (luma : IntraLuma) (modes : List Intra4x4PredMode) (a : Available) (levels : Levels) (c : ℕ) (l : Store) (own : List ℕ) → luma ≡
    Blocks modes →
    AreMade4 16 (intra4 modes a (λ x y. residual_at (luma_d levels.qp levels.luma x y))) l c own → IsLumaMade luma a levels c l own
unfolding predicted_luma residual block_d number_of
blocks_made luma modes a levels c l own e made = record {
  each = λ x y i j.
      let place : place4 (x / 4) (y / 4) (x % 4) (y % 4) ≡ 16 * y + x = omega arith in
      rw e (ap (λ n. slice_index own n) (sym place)
      ∙ made.each (x / 4) (y / 4) (x % 4) (y % 4) (omega arith) (omega arith) (omega arith) (omega arith) (omega arith));
}

-- Intra_16x16
pub whole_made : (luma : IntraLuma) (mode : Intra16x16PredMode) (a : Available) (levels : Levels) (c : ℕ) (l : Store) (predicted own : List ℕ) → luma ≡
    Whole mode →
    HasSamples 16 predicted (predicted16 mode (sides_of a) (local 16 l c own)) → IsAdded levels Y predicted own → IsLumaMade luma a levels c l own
unfolding predicted_luma
whole_made luma mode a levels c l predicted own e has sum = record {
  each = λ x y i j. rw e (sum.each x y i j ∙ ap (λ n. clip1 (pos n +ℤ residual levels Y x y)) (has.each x y i j));
}

pub luma_made : (k : Setting) (c r : ℕ) (m : Coded) (l : Store) (own : List ℕ) (modes : IntraModes) → m.prediction ≡ Intra modes →
    IsLumaMade modes.luma m.available m.levels c l own → IsMadeFrom k (position_at c r) m Y l own
unfolding predicted_intra
luma_made k c r m l own modes e made = record {
  each = λ x y i j. made.each x y i j ∙ sym (made_intra k c r m Y (local 16 l c own) x y modes e);
}

-- chroma
pub mode_made : (b : Bool) (mode : IntraChromaPredMode) (a : Available) (levels : Levels) (c : ℕ) (l : Store) (predicted own : List ℕ) →
    HasSamples 8 predicted (predicted_chroma mode (sides_of a) (local 8 l c own)) → IsAdded levels (chroma_plane b) predicted own →
    IsChromaMade (intra_chroma mode a levels) (chroma_plane b) c l own
mode_made true mode a levels c l predicted own has sum = record {
  each = λ x y i j. sum.each x y i j ∙ ap (λ n. clip1 (pos n +ℤ residual levels Cr x y)) (has.each x y i j);
}
mode_made false mode a levels c l predicted own has sum = record {
  each = λ x y i j. sum.each x y i j ∙ ap (λ n. clip1 (pos n +ℤ residual levels Cb x y)) (has.each x y i j);
}

pub chroma_made : (b : Bool) (k : Setting) (c r : ℕ) (m : Coded) (l : Store) (own : List ℕ) (modes : IntraModes) → m.prediction ≡ Intra modes →
    IsChromaMade (intra_chroma modes.chroma m.available m.levels) (chroma_plane b) c l own →
    IsMadeFrom k (position_at c r) m (chroma_plane b) l own
unfolding predicted_intra
chroma_made true k c r m l own modes e made = record {
  each = λ x y i j. made.each x y i j ∙ sym (made_intra k c r m Cr (local 8 l c own) x y modes e);
}
chroma_made false k c r m l own modes e made = record {
  each = λ x y i j. made.each x y i j ∙ sym (made_intra k c r m Cb (local 8 l c own) x y modes e);
}

-- I_PCM
pub luma_pcm : (k : Setting) (c r : ℕ) (m : Coded) (l : Store) (bytes : PcmSamples) → m.prediction ≡ Pcm bytes → IsMadeFrom k (position_at c r) m Y l bytes.y
luma_pcm k c r m l bytes e = record { each = λ x y i j. sym (made_pcm k c r m Y (local 16 l c bytes.y) x y bytes e) }

pub chroma_pcm : (b : Bool) (k : Setting) (c r : ℕ) (m : Coded) (l : Store) (bytes : PcmSamples) (own : List ℕ) → m.prediction ≡ Pcm bytes →
    own ≡ pcm_list b bytes →
    IsMadeFrom k (position_at c r) m (chroma_plane b) l own
chroma_pcm true k c r m l bytes own e is = rw is (record { each = λ x y i j. sym (made_pcm k c r m Cr (local 8 l c bytes.cr) x y bytes e) })
chroma_pcm false k c r m l bytes own e is = rw is (record { each = λ x y i j. sym (made_pcm k c r m Cb (local 8 l c bytes.cb) x y bytes e) })

-- ---- all planes

pub made_all : (k : Setting) (c r : ℕ) (m : Coded) (lines : Lines) (own : Samples) → IsMadeFrom k (position_at c r) m Y (store_of Y lines) own.y →
    IsMadeFrom k (position_at c r) m Cb (store_of Cb lines) own.cb → IsMadeFrom k (position_at c r) m Cr (store_of Cr lines) own.cr →
    AreMadeFrom k (position_at c r) m lines own
made_all k c r m lines own a b d Y = a
made_all k c r m lines own a b d Cb = b
made_all k c r m lines own a b d Cr = d

pub intra_all : (k : Setting) (c r : ℕ) (m : Coded) (lines : Lines) (own : Samples) (modes : IntraModes) (a : Available) (l : Levels) → m.prediction ≡
    Intra modes → m.available ≡ a → m.levels ≡ l →
    IsLumaMade modes.luma a l c (store_of Y lines) own.y → IsChromaMade (intra_chroma modes.chroma a l) Cb c (store_of Cb lines) own.cb →
    IsChromaMade (intra_chroma modes.chroma a l) Cr c (store_of Cr lines) own.cr → AreMadeFrom k (position_at c r) m lines own
intra_all k c r m lines own modes a l e f g y cb cr =
    made_all k c r m lines own (luma_made k c r m (store_of Y lines) own.y modes e (rw (f, g) y))
    (chroma_made false k c r m (store_of Cb lines) own.cb modes e (rw (f, g) cb))
    (chroma_made true k c r m (store_of Cr lines) own.cr modes e (rw (f, g) cr))

pub pcm_all : (k : Setting) (c r : ℕ) (m : Coded) (lines : Lines) (own : Samples) (bytes : PcmSamples) → m.prediction ≡ Pcm bytes → own.y ≡ bytes.y →
    own.cb ≡ bytes.cb → own.cr ≡ bytes.cr → AreMadeFrom k (position_at c r) m lines own
pcm_all k c r m lines own bytes e y cb cr =
    made_all k c r m lines own (rw y (luma_pcm k c r m (store_of Y lines) bytes e)) (chroma_pcm false k c r m (store_of Cb lines) bytes own.cb e cb)
    (chroma_pcm true k c r m (store_of Cr lines) bytes own.cr e cr)

-- the bottom rows of stores whose left columns were brought up
pub same_above : (old new : Lines) → new.y ≡ store_of Y old → new.cb ≡ store_of Cb old → new.cr ≡ store_of Cr old →
    (p : Component) → (store_of p new).above ≡ (store_of p old).above
same_above old new a b d Y = ap (λ (s : Store). s.above) a
same_above old new a b d Cb = ap (λ (s : Store). s.above) b
same_above old new a b d Cr = ap (λ (s : Store). s.above) d
