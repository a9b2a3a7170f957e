-- What a parse says of the words that a command line takes.
use Rattle.std.proofs.Common.{◌≡◌, ◌⊎◌, ◌∙◌, ap, subst, true, List, [], Result, Ok, Err, IfOk, IfErr, inl, inr}
use Rattle.clap.specs.Words.{App, Text, fault_of, is_simple_and_free, kind_of, FailsBy, IsAmong, Kinds}
use Rattle.clap.specs.declared.error.Error.{Error}
use Rattle.clap.specs.declared.error.kind.ErrorKind.{ErrorKind}
use Rattle.clap.specs.declared.error.kind.ErrorKind.TheVariants.{OutOfMemory}
use Rattle.h264_words.specs.Words.{IsTakenBy}

-- an error of this kind is for want of memory, or has one of these kinds
abbrev IsOfKind : Kinds → ErrorKind → Type 0
IsOfKind kinds k = (k ≡ OutOfMemory) ⊎ IsAmong k kinds

memory-alone : (kinds : Kinds) (k : ErrorKind) → IsOfKind kinds k → kinds ≡ [] → k ≡ OutOfMemory
memory-alone kinds k (inl short) none = short
memory-alone kinds k (inr among) none = absurd (rw none at among)

module _ (a app : App) (words : List Text) (same : a ≡ app) (free : is_simple_and_free app ≡ true) where
  -- the command line takes words that are parsed
  pub taken-at : (is_simple_and_free a ≡ true → fault_of a words ≡ []) → IsTakenBy app words
  taken-at parsed = subst (λ (x : App). fault_of x words ≡ []) same (parsed (ap is_simple_and_free same ∙ free))

  -- words that it takes fail for want of memory alone
  pub short-at : (k : ErrorKind) → (is_simple_and_free a ≡ true → IsOfKind (fault_of a words) k) → IsTakenBy app words → k ≡ OutOfMemory
  short-at k fails = memory-alone _ k (subst (λ (x : App). IsOfKind (fault_of x words) k) same (fails (ap is_simple_and_free same ∙ free)))

  -- the same of a parse as a whole
  pub parsed-taken : {T : Type 0} (r : Result T Error) → (is_simple_and_free a ≡ true → FailsBy (fault_of a words) r) → IfOk r (λ _. IsTakenBy app words)
  parsed-taken (Ok v) fails = taken-at fails
  parsed-taken (Err e) fails = tt

  pub taken-or-short : {T : Type 0} (r : Result T Error) → (is_simple_and_free a ≡ true → FailsBy (fault_of a words) r) →
      IfErr r (λ e. IsTakenBy app words → kind_of e ≡ OutOfMemory)
  taken-or-short (Ok v) fails = tt
  taken-or-short (Err e) fails = short-at (kind_of e) fails
