-- Rules that are checked one after another. To be read beside the standard.
use Rattle.std.specs.Prelude.{ℕ, Bool, List, [], ◌∷◌, Result, Ok, Err, if◌then◌else◌}
use Rattle.h264_base.specs.declared.rule.Rule.{Rule}
use Rattle.h264_base.specs.declared.stop.Stop.{Stop}
use Rattle.h264_base.specs.declared.stop.Stop.TheVariants.{No}

-- a rule that is checked: the stream bit that it names, and whether it is met
pub record Demand : Type 0 where
  pub rule : Rule
  pub bit : ℕ
  pub met : Bool

-- The first of these rules that is not met, as an answer.
abbrev pub judged : List Demand → Result (Unit {0}) Stop
judged [] = Ok tt
judged (d ∷ ds) = if d.met then judged ds else Err (No d.bit d.rule)
