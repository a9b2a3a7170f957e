-- What a test of a feature says. A working form.
use Rattle.std.specs.Prelude.{◌≡◌, ℕ, Bool, IsTrue, IsFalse, Result, Ok, Err}
use Rattle.h264_base.specs.declared.stop.Feature.{Feature}
use Rattle.h264_base.specs.declared.stop.Stop.{Stop}
use Rattle.h264_base.specs.declared.stop.Stop.TheVariants.{Outside}

abbrev pub SupportsBy : Feature → ℕ → Bool → Result (Unit {0}) Stop → Type 0
SupportsBy feature bit holds (Ok x) = IsTrue holds
SupportsBy feature bit holds (Err e) = IsFalse holds × (e ≡ Outside bit feature)

-- it is supported, or this feature is named at this bit
pub record Supports (feature : Feature) (bit : ℕ) (holds : Bool) (result : Result (Unit {0}) Stop) : Type 0 where
  pub supports : SupportsBy feature bit holds result
