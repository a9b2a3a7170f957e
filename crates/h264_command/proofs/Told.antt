-- What a device took of a text, where it has not failed.
use Rattle.std.proofs.Common.{◌≡◌, ℕ, Bool, true, false, ◌⊎◌, inl, inr, List, Option, Err, refl, sym, ◌∙◌}
use Rattle.std.proofs.lemmas.Bool.{false≢true}
use Rattle.h264_base.specs.declared.stop.Stop.TheVariants.{Memory}
use Rattle.h264_lines.specs.Sent.{Sends, Takes}
use Rattle.h264_report.specs.Written.{status_of}

pub taken : (written : Bool) {old new : Option (List ℕ)} {text : List ℕ} (failed : Bool) → Takes written old new text → (written ≡ false → failed ≡ true) →
    failed ≡ false → Sends old new text
taken true failed t f none = t
taken false failed t f none = absurd (false≢true (sym none ∙ f refl))

-- it holds nothing back, or it has failed
pub nothing-held : (written holds failed : Bool) → (written ≡ true → holds ≡ false) → (written ≡ false → failed ≡ true) → (holds ≡ false) ⊎ (failed ≡ true)
nothing-held true holds failed h f = inl (h refl)
nothing-held false holds failed h f = inr (f refl)

-- want of memory is no 0
pub never-zero : {A : Type 0} (written : Bool) (status : ℕ) → status ≡ status_of written (Err Memory) → status ≡ 0 → A
never-zero true status is zero = absurd (cc)
never-zero false status is zero = absurd (cc)
