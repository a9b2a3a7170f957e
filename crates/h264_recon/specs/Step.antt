-- One macroblock in place: the frame and the stores. A working form.
use Rattle.std.specs.Prelude.{◌≡◌, ℕ, ◌*◌, List}
use Rattle.h264_plane.specs.Samples.{at, ShowsSamples, with_block}
use Rattle.h264_plane.specs.Frames.{plane_of}
use Rattle.h264_plane.specs.declared.frame.Component.{Component}
use Rattle.h264_plane.specs.declared.frame.Frame.{Frame}
use Rattle.h264_plane.specs.Places.{side, with_own, Grid}
use Rattle.h264_recon.specs.Lines.{samples_of, store_of, IsSaved}
use Rattle.h264_recon.specs.declared.store.Lines.{Lines}

-- lists are placed in the planes at the macroblock
abbrev pub ArePlaced : ℕ → ℕ → (Component → List ℕ) → Frame → Frame → Type 0
ArePlaced c r own old new = (p : Component) →
    ShowsSamples (plane_of p old) (plane_of p new) (with_block (side p) (side p) (side p * c) (side p * r) (own p) (at (plane_of p old)))

-- the borders of the samples that were made last are kept in the stores
pub record AreSaved (c : ℕ) (old new : Lines) : Type 0 where
  pub borders : (p : Component) → IsSaved (side p) c (store_of p old) (store_of p new) (samples_of old.last p)
  pub last : new.last ≡ old.last

-- the planes have the samples u at the macroblock, and each other sample is what it was
abbrev pub HasMacroblock : ℕ → ℕ → (Component → Grid) → Frame → Frame → Type 0
HasMacroblock c r u old new = (p : Component) → ShowsSamples (plane_of p old) (plane_of p new) (with_own (side p) c r (u p) (at (plane_of p old)))

-- the samples u with the macroblock as the frame has it
abbrev pub joined : ℕ → ℕ → Frame → (Component → Grid) → Component → Grid
joined c r frame u p = with_own (side p) c r (at (plane_of p frame)) (u p)
