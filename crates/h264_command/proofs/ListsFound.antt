-- What is found of words that name files by lists.
use Rattle.std.proofs.Common.{◌≡◌, ◌||◌, ap₂, codes, sym, refl, List, Bool, true, false}
use Rattle.std.specs.Prelude.{is_some}
use Rattle.clap.specs.Words.{Row, Text, all_of, first_of, takes}
use Rattle.clap.specs.declared.error.kind.ErrorKind.{ErrorKind}
use Rattle.clap.specs.declared.error.kind.ErrorKind.TheVariants.{OutOfMemory}
use Rattle.h264_words.specs.Words.{IsRefusedBy, IsTakenBy, program}
use Rattle.h264_command.specs.Lists.{lists_files}

not-true : (b : Bool) → (b ≡ true → ⊥) → b ≡ false
not-true true never = absurd (never refl)
not-true false never = refl

-- an error that is no want of memory refuses the words
pub refused-by : (words : List Text) (k : ErrorKind) → (takes program words ≡ true → k ≡ OutOfMemory) → (IsTakenBy program words → k ≡ OutOfMemory) →
    (k ≡ OutOfMemory → ⊥) → IsRefusedBy program words
refused-by words k passes taken other = record { fault = λ t. other (taken t); fails = not-true _ (λ t. other (passes t)) }

-- lists of files are found where one of the three is
pub lists-by : (rows : List Row) (lists folders pattern : Bool) → is_some (all_of (codes "files0-from") rows) ≡ lists →
    is_some (all_of (codes "recursive") rows) ≡ folders → is_some (first_of (codes "glob") rows) ≡ pattern → lists || (folders || pattern) ≡ lists_files rows
lists-by rows lists folders pattern p q r = sym (ap₂ (λ x y. x || y) p (ap₂ (λ x y. x || y) q r))
