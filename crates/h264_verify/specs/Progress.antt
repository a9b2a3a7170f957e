-- What a session is to its callers. A working form.
use Rattle.std.specs.Prelude.{◌≡◌, true, Option, None, List, ℕ, []}
use Rattle.h264_verify.specs.declared.state.Depth.{Depth}
use Rattle.h264_verify.specs.declared.state.Terms.{Terms}
use Rattle.h264_base.specs.declared.stop.Stop.{Stop}
use Rattle.h264_units.specs.Stream.{NalUnit, Next}
use Rattle.h264_verify.specs.Memory.{is_read}
use Rattle.h264_units.specs.Splitting.{Splitting, at_start}
use Rattle.h264_verify.specs.declared.state.State.{State}
use Rattle.h264_verify.specs.KeepingUnits.{Keeps}
use Rattle.h264_verify.specs.Telling.{Family, IsFamilyFor}

-- what its splitter holds, what is kept of the units taken, and whether it has stopped
pub record Progress : Type 0 where
  pub terms : Terms
  pub split : Splitting
  pub state : State
  pub stop : Option Stop

-- a session that has not stopped
abbrev pub going : Terms → Splitting → State → Progress
going terms split state = record { terms = terms; split = split; state = state; stop = None }

-- where the input ends here, it leaves a unit, which is read in this mode
pub record LastIsRead (depth : Depth) (split : Splitting) : Type 0 where
  pub unit : NalUnit
  pub rest : List ℕ
  pub next : Next split.at split.rest unit rest
  pub read : is_read depth unit ≡ true

-- before the first byte nothing was kept
pub record IsFresh (terms : Terms) (session : Progress) : Type 0 where
  pub terms_is : session.terms ≡ terms
  pub split : session.split ≡ at_start
  pub keeps : (frames : Family) → IsFamilyFor session.terms.purpose frames → Keeps session.terms.depth frames [] session.state
  pub stop : session.stop ≡ None
