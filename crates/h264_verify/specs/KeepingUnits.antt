-- What is kept of the units so far. A working form: it ties values of the program to the list of units.
use Rattle.std.specs.Prelude.{◌≡◌, length, Bool, false}
use Rattle.h264_verify.specs.declared.state.State.{State}
use Rattle.h264_verify.specs.declared.state.Depth.{Depth}
use Rattle.h264_verify.specs.History.{History, maps_of}
use Rattle.h264_verify.specs.Pictures.{goes_on, runs_of}
use Rattle.h264_verify.specs.Keeping.{KeepsSlices, KeepsFrames, WhereMade}
use Rattle.h264_verify.specs.Telling.{Family}

pub record KeepsWithin (depth : Depth) (frames : Family) (before : History) (ended : Bool) (state : State) : Type 0 where
  pub units : state.units ≡ length before
  pub sets : state.sets ≡ maps_of before
  pub slices : KeepsSlices before ended state.slices
  pub decoder : WhereMade depth (KeepsFrames frames (goes_on before) ended (runs_of before)) state.decoder

abbrev pub Keeps : Depth → Family → History → State → Type 0
Keeps depth frames before state = KeepsWithin depth frames before false state

-- there are units and frames of which this is kept
pub record KeepsSome (depth : Depth) (ended : Bool) (state : State) : Type 0 where
  pub frames : Family
  pub before : History
  pub keeps : KeepsWithin depth frames before ended state
