-- Parameter sets that some unit gives (7.3.2.1.1, 7.3.2.2). To be read beside the standard.
use Rattle.std.specs.Prelude.{ℕ, List}
use Rattle.h264_base.specs.declared.mode.Target.{Target}
use Rattle.h264_base.specs.Body.{Body}
use Rattle.h264_base.specs.Grammar.{Grammar, Element, Derives}
use Rattle.h264_sps.specs.declared.sps.Sps.{Sps}
use Rattle.h264_sps.specs.Sps.{sps}
use Rattle.h264_pps.specs.declared.Pps.{Pps}
use Rattle.h264_pps.specs.Pps.{pps}

-- a body derives it as this structure, with every rule of the structure met
pub record IsAccepted {A : Type 0} (g : Grammar A) (v : A) : Type 0 where
  pub body : Body
  pub from : ℕ
  pub elements : List Element
  pub to : ℕ
  pub derives : Derives g body from elements to v

abbrev pub IsAcceptedSps : Target → Sps → Type 0
IsAcceptedSps target s = IsAccepted (sps target) s

abbrev pub IsAcceptedPps : Target → Pps → Type 0
IsAcceptedPps target p = IsAccepted (pps target) p
