-- A file that was opened, and maybe once more.
use Rattle.std.proofs.Common.{◌≡◌, ℕ, ◌+◌, inl, inr, ⊎_elim, arith, List, Option, ap, ◌∙◌, subst}
use Rattle.std.specs.Io.KnownBytes.{Keeps}
use Rattle.h264_command.specs.Commands.{IsExcused, OutputSpan}
use Rattle.h264_command.specs.Files.{HasReadAll, IsUnread}
use Rattle.h264_report.specs.declared.judging.Ending.{Ending}

-- a read that failed since the count of failures was the same, however often the file was read until then
pub read-after : {failures failures' failures'' reads' reads'' : ℕ} (reads : ℕ) → failures' ≡ failures → IsUnread failures' reads' failures'' reads'' →
    IsUnread failures reads failures'' reads''
read-after reads kept (inl e) = inl (e ∙ ap (λ n. n + 1) kept)
read-after reads kept (inr m) =
    inr (λ n r. inr (⊎_elim (λ h. absurd (omega (arith, h.1))) (λ f. f) (m 0 (inl (omega arith, omega arith)))))

-- what is told of it is excused since then too
pub excused-since : {failures failures' failures'' reads' reads'' : ℕ} (reads : ℕ) {ending : Ending} {out err : OutputSpan} → failures' ≡ failures →
    IsExcused (IsUnread failures' reads' failures'' reads'') (HasReadAll failures' failures'') ending out err →
    IsExcused (IsUnread failures reads failures'' reads'') (HasReadAll failures failures'') ending out err
excused-since reads kept h = record {
  failures = h.failures;
  read = λ e. read-after reads kept (h.read e);
  read_told = ⊎_elim (λ e. inl (e ∙ kept)) (λ told. inr told) h.read_told;
}

-- what files of any name hold stays known where the opener stays the same after it was opened by
pub held-still : {O : Type 0} (holds : O → List ℕ → Option (List ℕ)) {opener opener' opener'' : O} → opener'' ≡ opener' →
    ((other : List ℕ) → holds opener' other ≡ holds opener other) → (other : List ℕ) → holds opener'' other ≡ holds opener other
held-still holds same held other = ap (λ o. holds o other) same ∙ held other

module _ {O : Type 0} (holds : O → List ℕ → Option (List ℕ)) (opener : O) {name given : List ℕ} (left : Option (List ℕ)) where
  -- what an open file gives is what the file of the name holds that the words give
  pub opened-as : name ≡ given → Keeps (holds opener name) left → Keeps (holds opener given) left
  opened-as is k = subst (λ n. Keeps (holds opener n) left) is k

  -- and after a second opening
  pub opened-again : {opener' : O} → ((other : List ℕ) → holds opener' other ≡ holds opener other) → name ≡ given → Keeps (holds opener' name) left →
      Keeps (holds opener given) left
  opened-again same is k = opened-as is (subst (λ held. Keeps held left) (same name) k)
