-- The prediction that was read is that of the coded macroblock.
use Rattle.std.proofs.Common.{◌≡◌, ℕ, List, Option, refl}
use Rattle.h264_intra.specs.declared.luma4.Intra4x4PredMode.{Intra4x4PredMode}
use Rattle.h264_intra.specs.declared.luma16.Intra16x16PredMode.{Intra16x16PredMode}
use Rattle.h264_intra.specs.declared.chroma.IntraChromaPredMode.{IntraChromaPredMode}
use Rattle.h264_near.specs.declared.motion.Motion as derived
use Rattle.h264_near.specs.Coded as coded
use Rattle.h264_recon.specs.declared.macroblock.Motion.{Motion}
use Rattle.h264_recon.specs.Predicted.{PcmSamples, Intra, Inter, Pcm, pcm_of}
use Rattle.h264_recon.specs.declared.macroblock.IntraLuma.TheVariants.{Blocks, Whole}
use Rattle.h264_recon.specs.Given.{motions_of, prediction_of}

pub intra-4x4 : (place : ℕ → ℕ) (p : coded.Prediction) (modes : List Intra4x4PredMode) (chroma : IntraChromaPredMode) → p ≡ coded.Intra4x4 modes chroma →
    Intra (record { luma = Blocks modes; chroma = chroma }) ≡ prediction_of place p
unfolding prediction_of
intra-4x4 place p modes chroma e = rw e refl

pub intra-16x16 : (place : ℕ → ℕ) (p : coded.Prediction) (mode : Intra16x16PredMode) (chroma : IntraChromaPredMode) → p ≡ coded.Intra16x16 mode chroma →
    Intra (record { luma = Whole mode; chroma = chroma }) ≡ prediction_of place p
unfolding prediction_of
intra-16x16 place p mode chroma e = rw e refl

pub from-pcm : (place : ℕ → ℕ) (p : coded.Prediction) (samples : List ℕ) (a : PcmSamples) → p ≡ coded.Pcm samples → a ≡ pcm_of samples →
    Pcm a ≡ prediction_of place p
unfolding prediction_of
from-pcm place p samples a e f = rw (e, f) refl

pub from-inter : (place : ℕ → ℕ) (p : coded.Prediction) (motions : List (Option derived.Motion)) (a : List Motion) → p ≡ coded.Inter motions →
    a ≡ motions_of place motions → Inter a ≡ prediction_of place p
unfolding prediction_of
from-inter place p motions a e f = rw (e, f) refl
