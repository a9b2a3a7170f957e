-- The blocks of a picture refer to pictures that are held.
use Rattle.std.proofs.Common.{◌≡◌, true, List, [], ◌∷◌, ◌++◌, take, get_or, Option, Some, None, ap, ◌∙◌, arith}
use Rattle.std.specs.List.{slice_get}
use Rattle.std.specs.Option.{is_some}
use Rattle.h264_near.specs.declared.motion.Motion.{Motion}
use Rattle.h264_near.specs.Coded.{CodedMacroblock, Prediction, Intra4x4, Intra16x16, Pcm, Inter}
use Rattle.h264_mbsyntax.specs.Possible.{Refers, IsPossible}
use Rattle.h264_mbsyntax.specs.OfSlice.{IsDerived}
use Rattle.h264_verify.specs.Pictures.{CodedSlice, CodedPicture, held_in}
use Rattle.h264_verify.specs.Lists.{context_in}
use Rattle.h264_verify.specs.Decoding.{slices_of, EachSlice}
use Rattle.h264_verify.specs.Predicting.{RefersTo, PredictsFrom, ArePredicted}
use Rattle.h264_verify.proofs.samples.FamiliesInPicture.{AreReadSlices, macroblocks_of, last-of, found, context-length, named-at, inside-at, motion-at, some-at}
use Rattle.h264_verify.proofs.samples.NamedSizes.{AreRead, IsRead, named-held}

each-any : (slices : List CodedSlice) → EachSlice (λ s. Unit {0}) slices
each-any [] = tt
each-any (s ∷ slices) = (tt, each-any slices)

-- each picture of these with those before it
pub read-at : (later : List CodedPicture) (p : CodedPicture) (ps : List CodedPicture) → AreRead (later ++ p ∷ ps) → IsRead p ps
read-at [] p ps r = r.0
read-at (q ∷ later) p ps r = read-at later p ps r.1

module _ (p : CodedPicture) (ps : List CodedPicture) (read : AreReadSlices p.first ps (slices_of p)) where
  block-held : (s : CodedSlice) (o : Option Motion) → Refers (context_in (p ∷ ps) s) o → is_some o ≡ true → RefersTo (held_in (p ∷ ps)) o
  block-held s None r t = cc
  block-held s (Some m) r t =
      let references = (context_in (p ∷ ps) s).references in
      let inside = inside-at references m.ref_idx m.picture r in
      let long = context-length (p ∷ ps) s in
      let named = named-held (p ∷ ps) s m.ref_idx m.picture (omega (arith, inside, long)) (named-at references m.ref_idx m.picture r) in
      named.1

  prediction-held : (s : CodedSlice) (before : List CodedMacroblock) (prediction : Prediction) →
      IsPossible p.first.sps.frame_size.width (context_in (p ∷ ps) s) before prediction → IsDerived prediction → PredictsFrom (held_in (p ∷ ps)) prediction
  prediction-held s before (Intra4x4 modes chroma) h k = tt
  prediction-held s before (Intra16x16 mode chroma) h k = tt
  prediction-held s before (Pcm samples) h k = tt
  prediction-held s before (Inter motions) h k =
      λ b l. block-held s (get_or motions b None) (motion-at (context_in (p ∷ ps) s) motions b h) (some-at motions b k l)

  pub are-predicted : ArePredicted p ps
  are-predicted a m e =
      let same = last-of p.first p.later in
      let f = found p.first ps (λ s. Unit {0}) (slices_of p) read (each-any (slices_of p)) a m
      (ap (λ (all : List CodedMacroblock). slice_get all a) same ∙ e) in
      prediction-held f.slice (take a (macroblocks_of (slices_of p))) m.prediction f.is.possible f.is.derived
