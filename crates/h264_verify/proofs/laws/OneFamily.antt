-- A stream has one family of frames.
use Rattle.std.proofs.Common.{ℕ, false, List, [], ◌∷◌, length, inl, inr, sym, subst, Some}
use Rattle.h264_verify.specs.Units.{extent_at}
use Rattle.h264_base.specs.declared.mode.Target.{Target}
use Rattle.h264_verify.specs.declared.state.Depth.TheVariants as depths
use Rattle.h264_sps.specs.declared.sps.FrameSize.{FrameSize}
use Rattle.h264_plane.specs.declared.frame.Frame.{Frame}
use Rattle.h264_base.specs.declared.summary.Summary.{Summary}
use Rattle.h264_verify.specs.Telling.{Told, AreDecoded}
use Rattle.h264_verify.specs.History.{History}
use Rattle.h264_verify.specs.Pictures.{CodedPicture, goes_on, runs_of, ended_pictures}
use Rattle.h264_verify.specs.Decoding.{slices_of}
use Rattle.h264_verify.specs.Verdict.{AreLegal, Holds}
use Rattle.h264_verify.specs.Family.{HaveSameSamples, AreSameOn}
use Rattle.h264_verify.proofs.samples.FamiliesInSlice.{each-slice}
use Rattle.h264_verify.proofs.samples.FamiliesInPicture.{alike}
use Rattle.h264_verify.proofs.laws.LegalUnits.{legal-read}
use Rattle.h264_verify.proofs.laws.ToldInOrder.{HaveFrames, InOrder, HoldsAtEnds, ended_at, in-fact, in-frames, legal-in, whole-in-order}
use Rattle.h264_verify.proofs.samples.NamedSizes.{AreRead, HasSize, names-size}

-- ---- two families

module _ (frames others : ℕ → Frame) where
  same-at : (pictures : List CodedPicture) → AreSameOn frames others pictures → (n : ℕ) (size : FrameSize) → HasSize pictures n size →
      HaveSameSamples frames others n size
  same-at [] s n size h = absurd h
  same-at (p ∷ ps) s n size (inl h) = subst (λ k. HaveSameSamples frames others k size) (sym h.0)
      (subst (λ z. HaveSameSamples frames others (length ps) z) h.1 s.0)
  same-at (p ∷ ps) s n size (inr h) = same-at ps s.1 n size h

  pub same-on : (pictures : List CodedPicture) → AreRead pictures → HaveFrames (Some frames) pictures → HaveFrames (Some others) pictures →
      AreSameOn frames others pictures
  same-on [] r h k = tt
  same-on (p ∷ ps) r h k =
      let rest = same-on ps r.1 h.1 k.1 in (
        alike frames others p ps (frames (length ps)) (others (length ps)) h.0 k.0 r.0.slices
            (each-slice (λ s names i n l e. same-at ps rest n p.first.sps.frame_size (names i n l e)) (slices_of p) (names-size p ps r.0 r.1)),
        rest,
      )

-- the slices of the pictures were read, whatever they met at their ends
pub read-ends : (target : Target) → HoldsAtEnds AreRead (extent_at depths.Full target)
read-ends target before told l m on = legal-read target before told l

module _ (frames others : ℕ → Frame) where
  -- what is told of a stream in order makes the two the same of the pictures that have ended
  pub told-family : (told : List Told) (done : List CodedPicture) → InOrder AreRead [] told done → AreDecoded (Some frames) told →
      AreDecoded (Some others) told → AreSameOn frames others done
  told-family told done t d e =
      same-on frames others done (in-fact AreRead told [] done t tt) (in-frames AreRead (Some frames) told [] done t tt d)
      (in-frames AreRead (Some others) told [] done t tt e)

  -- of all pictures of a stream
  pub one-family : (target : Target) (bytes : List ℕ) (told : List Told) (summary : Summary) (h : Holds (extent_at depths.Full target) bytes told summary) →
      AreDecoded (Some frames) told → AreDecoded (Some others) told → AreSameOn frames others (runs_of h.units)
  one-family target bytes told summary h =
      told-family told (runs_of h.units) (whole-in-order AreRead (extent_at depths.Full target) (read-ends target) bytes told summary h)

  -- of the pictures that have ended in units that are legal
  pub legal-family : (target : Target) (before : History) (told : List Told) → AreLegal (extent_at depths.Full target) before told →
      AreDecoded (Some frames) told → AreDecoded (Some others) told → AreSameOn frames others (ended_pictures (goes_on before) false (runs_of before))
  legal-family target before told l =
      told-family told (ended_at depths.Full before) (legal-in AreRead (extent_at depths.Full target) (read-ends target) before told l)
