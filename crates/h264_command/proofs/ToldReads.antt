-- What is told of failed reads.
use Rattle.std.proofs.Common.{◌≡◌, ℕ, ◌+◌, ◌-◌, ◌<◌, ◌≤◌, ◌^◌, zero, suc, min, ◌⊎◌, inl, inr, ⊎_elim, Bool, true, false, cond, List, [], ◌∷◌, ◌++◌, fold}
use Rattle.std.proofs.Common.{Result, Ok, Err, IsErrOf, refl, sym, ap, ◌∙◌, subst, arith}
use Rattle.std.specs.Prelude.{nat_lt}
use Rattle.std.specs.List.{count_by}
use Rattle.std.proofs.lemmas.Bool.{lt-ltb}
use Rattle.h264_base.specs.declared.stop.Stop.{Stop}
use Rattle.h264_base.specs.declared.stop.Stop.TheVariants.{No, Outside, Memory, Read, Write}
use Rattle.h264_lines.specs.Answer.{told_of}
use Rattle.h264_base.specs.declared.summary.Summary.{Summary}
use Rattle.h264_command.specs.Files.{IsUnread, TellsFailure, TellsUnread, one_more}
use Rattle.h264_command.specs.More.{FileDone, TellUnread, says_failure, says_read}

-- ---- counts of files

fold-last : {A X : Type 0} (g : A → X → A) (a : A) (xs : List X) (x : X) → fold g a (xs ++ x ∷ []) ≡ g (fold g a xs) x
fold-last g a [] x = refl
fold-last g a (y ∷ ys) x = fold-last g (g a y) ys x

count-last : {X : Type 0} (p : X → Bool) (xs : List X) (x : X) → count_by p (xs ++ x ∷ []) ≡ count_by p xs + cond (p x) 1 0
count-last p xs x = let none : ℕ = 0 in fold-last (λ n y. n + cond (p y) 1 0) none xs x

says-no-read : (answer : Result Summary Stop) → (IsErrOf answer Read → ⊥) → says_read answer ≡ false
says-no-read (Ok summary) never = refl
says-no-read (Err (No bit rule)) never = refl
says-no-read (Err (Outside bit feature)) never = refl
says-no-read (Err Memory) never = refl
says-no-read (Err Read) never = absurd (never refl)
says-no-read (Err Write) never = refl

says-a-failure : (answer : Result Summary Stop) → IsErrOf answer Read ⊎ IsErrOf answer Write → says_failure answer ≡ true
says-a-failure answer (inl e) = ap says_failure e
says-a-failure answer (inr e) = ap says_failure e

at-most-one : (b : Bool) → cond b 1 0 ≤ 1
at-most-one true = omega arith
at-most-one false = omega arith

-- a file that could not be read, of which nothing was counted before
failed-once : (reads' failures' : ℕ) → IsUnread 0 0 failures' reads' → 0 < failures'
failed-once reads' failures' (inl e) = omega (arith, e)
failed-once reads' failures' (inr h) = ⊎_elim (λ n. absurd (omega (arith, n.1))) (λ f. f) (h 0 (inl (omega arith, omega arith)))

tells-both : (unread failures reads : ℕ) (files : List FileDone) (f : FileDone) (m : ℕ) → (cond (says_read f.done.ending.answer) 1 0 ≤ m) →
    m ≤ cond (says_failure f.done.ending.answer) 1 0 → TellUnread unread files →
    TellUnread (unread + m) (files ++ f ∷ [])
tells-both unread failures reads files f m low high t =
    let R : FileDone → Bool = λ g. says_read g.done.ending.answer in
    let F : FileDone → Bool = λ g. says_failure g.done.ending.answer in
    let reads = count-last R files f in
    let all = count-last F files f in
    let before = t.read in
    let after = t.told in
    record { read = omega (arith, reads, low, before); told = omega (arith, all, high, after) }

-- one file more was closed
pub tells-more : (unread failures reads : ℕ) (files : List FileDone) (f : FileDone) → TellUnread unread files →
    (IsErrOf f.done.ending.answer Read → IsUnread 0 0 failures reads) → TellsFailure 0 failures f.done.ending.answer →
    unread < 2 ^ 64 - 1 → TellUnread (one_more (nat_lt 0 failures) unread) (files ++ f ∷ [])
tells-more unread zero reads files f t read told below =
    let none : says_read f.done.ending.answer ≡ false =
    says-no-read f.done.ending.answer (λ e. let h : 0 < 0 = failed-once reads 0 (read e) in omega (arith, h)) in
    let low : cond (says_read f.done.ending.answer) 1 0 ≤ 0 = rw none (omega arith) in
    let same : unread + 0 ≡ unread = omega arith in
    subst (λ n. TellUnread n (files ++ f ∷ [])) same (tells-both unread 0 reads files f 0 low (omega arith) t)
tells-more unread (suc k) reads files f t read told below =
    let some : says_failure f.done.ending.answer ≡ true = ⊎_elim (λ e. absurd (omega (arith, e))) (λ e. says-a-failure f.done.ending.answer e) told in
    let high : 1 ≤ cond (says_failure f.done.ending.answer) 1 0 = rw some (omega arith) in
    let some_more : nat_lt 0 (suc k) ≡ true = lt-ltb 0 (suc k) (omega arith) in
    let below_most : unread + 1 ≡ min (unread + 1) (2 ^ 64 - 1) = omega (arith, below) in
    let same : unread + 1 ≡ one_more (nat_lt 0 (suc k)) unread = rw some_more below_most in
    subst (λ n. TellUnread n (files ++ f ∷ [])) same (tells-both unread (suc k) reads files f 1 (at-most-one (says_read f.done.ending.answer)) high t)

pub tells-none : TellUnread 0 []
tells-none = record { read = omega arith; told = omega arith }

-- one file more was closed, with the counts as a loop has them
pub tells-next : {unread failures reads failures' reads' unread' : ℕ} (files : List FileDone) (f : FileDone) → TellUnread unread files →
    (IsErrOf f.done.ending.answer Read → IsUnread failures reads failures' reads') →
    TellsFailure failures failures' f.done.ending.answer → failures ≡ 0 → reads ≡ 0 → unread' ≡ one_more (nat_lt 0 failures') unread → unread < 2 ^ 64 - 1 →
    TellUnread unread' (files ++ f ∷ [])
tells-next {unread} {failures} {reads} {failures'} {reads'} {unread'} files f t read told none unseen is below =
    subst (λ n. TellUnread n (files ++ f ∷ [])) (sym is) (tells-more unread failures' reads' files f t
    (λ e. subst (λ r. IsUnread 0 r failures' reads') unseen (subst (λ n. IsUnread n reads failures' reads') none (read e)))
    (subst (λ n. TellsFailure n failures' f.done.ending.answer) none told) below)

-- the count of those that were closed grows by one at most
pub grows-by-one : {unread unread' i : ℕ} (more : Bool) → unread' ≡ one_more more unread → unread ≤ i → unread' ≤ i + 1
grows-by-one true is below = omega (arith, is, below)
grows-by-one false is below = omega (arith, is, below)

-- ---- what is told of one file

-- a read that failed is told of the answer that is told, or that a write failed
pub told-kept : (broke_off : Bool) {raw said final : Result Summary Stop} {failures failures' : ℕ} → said ≡ told_of broke_off raw →
    (said ≡ Err Read → final ≡ Err Read) → (said ≡ Err Write → final ≡ Err Write) →
    TellsUnread failures failures' raw → TellsFailure failures failures' final
told-kept broke_off told read write (inl quiet) = inl quiet
told-kept true told read write (inr e) = inr (inr (write told))
told-kept false told read write (inr e) = inr (inl (read (told ∙ ap (told_of false) e)))

-- it is told since the opening
pub told-since : {failures failures' failures'' : ℕ} {answer : Result Summary Stop} → failures' ≡ failures → TellsFailure failures' failures'' answer →
    TellsFailure failures failures'' answer
told-since kept h = ⊎_elim (λ quiet. inl (quiet ∙ kept)) (λ e. inr e) h
