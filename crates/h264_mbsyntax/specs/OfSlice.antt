-- What the macroblocks are that slice data give (7.3.4, 7.4.4, 7.4.5). To be read beside the standard.
use Rattle.std.specs.Prelude.{◌≡◌, ℕ, ◌≤◌, true, List, ◌++◌, map, replicate, take, length, Some, slice_get}
use Rattle.std.specs.Option.{is_some}
use Rattle.h264_near.specs.Coded.{CodedMacroblock, Prediction, Intra4x4, Intra16x16, Pcm, Inter}
use Rattle.h264_vectors.specs.declared.slice.SliceContext.{SliceContext}
use Rattle.h264_mbsyntax.specs.Possible.{IsPossible}

-- each of the sixteen blocks of an inter macroblock has its reference and its vector
abbrev pub IsDerived : Prediction → Type 0
IsDerived (Intra4x4 modes chroma) = Unit {0}
IsDerived (Intra16x16 mode chroma) = Unit {0}
IsDerived (Pcm samples) = Unit {0}
IsDerived (Inter motions) = map is_some motions ≡ replicate 16 true

-- A macroblock of this slice after these: it has the slice's number, what it refers to is there, and all its blocks are derived.
pub record IsOfSlice (width : ℕ) (slice : SliceContext) (before : List CodedMacroblock) (m : CodedMacroblock) : Type 0 where
  pub number : m.slice ≡ slice.number
  pub possible : IsPossible width slice before m.prediction
  pub derived : IsDerived m.prediction

-- the macroblocks of a picture up to the end of a slice: those before it, and then macroblocks of this slice
pub record AreOfSlice (width : ℕ) (slice : SliceContext) (before after : List CodedMacroblock) : Type 0 where
  pub own : List CodedMacroblock
  pub joined : after ≡ before ++ own
  pub each : (a : ℕ) (m : CodedMacroblock) → length before ≤ a → slice_get after a ≡ Some m → IsOfSlice width slice (take a after) m
