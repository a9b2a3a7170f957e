-- Skipped macroblocks: they refer to a picture that there is, and have no levels.
use Rattle.std.proofs.Common.{◌≡◌, ℕ, suc, zero, List, replicate, Option, Some, None, true, ℤ, refl}
use Rattle.std.specs.List.{AllByRecursion}
use Rattle.h264_near.specs.Coded.{CodedMacroblock}
use Rattle.h264_near.specs.declared.motion.Motion.{Motion}
use Rattle.h264_near.specs.declared.motion.Vector.{Vector}
use Rattle.h264_vectors.specs.declared.slice.SliceContext.{SliceContext}
use Rattle.h264_vectors.specs.Derived.{picture_of, has_picture, motion_of}
use Rattle.h264_mbsyntax.specs.Macroblock.{coded}
use Rattle.std.specs.Option.{is_some, unwrap_or}
use Rattle.h264_mbsyntax.specs.Residual.{no_coefficients, no_chroma, no_block}
use Rattle.h264_mbsyntax.specs.Possible.{Refers, IsPossible}
use Rattle.h264_mbsyntax.specs.Slice.{skipped_of}
use Rattle.h264_scale.specs.declared.levels.Levels.{Levels}
use Rattle.h264_scale.proofs.Whole.{no_luma, no_cb, no_cr}
use Rattle.h264_plane.specs.declared.frame.Component.TheVariants.{Y, Cb, Cr}
use Rattle.h264_recon.specs.Residuals.{HasNoResidual}
use Rattle.h264_recon.specs.Levels.{levels_of, luma_levels, luma_blocks, chroma_levels, chroma_blocks}
use Rattle.h264_picture.specs.Levels.{AreNone}

refers : (slice : SliceContext) (v : Vector) → has_picture slice 0 ≡ true → Refers slice (Some (motion_of slice 0 v))
unfolding motion_of
refers slice v h = by (picture_of slice 0) h
  where
    by : (o : Option ℕ) → is_some o ≡ true → o ≡ Some (unwrap_or o 0)
    by None e = cc
    by (Some n) e = refl

all-refer : (slice : SliceContext) (m : Option Motion) (n : ℕ) → Refers slice m → AllByRecursion (Refers slice) (replicate n m)
all-refer slice m zero h = tt
all-refer slice m (suc n) h = (h, all-refer slice m n h)

pub skipped-possible : (width : ℕ) (slice : SliceContext) (picture : List CodedMacroblock) (v : Vector) → has_picture slice 0 ≡ true →
    IsPossible width slice picture (skipped_of slice picture v).prediction
unfolding skipped_of coded
skipped-possible width slice picture v h = all-refer slice (Some (motion_of slice 0 v)) 16 (refers slice v h)

pub skipped-none : (offset : ℤ) (slice : SliceContext) (picture : List CodedMacroblock) (v : Vector) → AreNone (levels_of offset (skipped_of slice picture v))
unfolding levels_of skipped_of coded no_coefficients no_chroma no_block luma_levels luma_blocks chroma_levels chroma_blocks
skipped-none offset slice picture v = record { y = refl; cb = refl; cr = refl }

-- no levels, no residual
pub none-residuals : (l : Levels) → AreNone l → HasNoResidual l
none-residuals l n Y = λ x y. no_luma l x y n.y
none-residuals l n Cb = λ x y. no_cb l x y n.cb
none-residuals l n Cr = λ x y. no_cr l x y n.cr
