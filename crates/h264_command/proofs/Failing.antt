-- What holds of a result that is no Ok.
use Rattle.std.proofs.Common.{◌≡◌, ℕ, ◌+◌, inl, inr, ⊎_elim, arith, Bool, false, List, Result, Ok, Err, IfOk, OnOk, OnErr, sym, ap, ◌∙◌}
use Rattle.std.specs.Result.{is_err}
use Rattle.std.proofs.lemmas.Bool.{true≢false}
use Rattle.h264_base.specs.declared.stop.Stop.{Stop}
use Rattle.h264_base.specs.declared.stop.Stop.TheVariants.{Read, Write}
use Rattle.h264_base.specs.declared.summary.Summary.{Summary}
use Rattle.h264_command.specs.Files.{HasFailedToRead, was_read_by}

pub no-value : {T E : Type 0} (P : T → Type 0) (r : Result T E) → OnOk r ⊥ → IfOk r P
no-value P (Ok x) h = absurd h
no-value P (Err e) h = tt

pub no-ok : {T E : Type 0} (P : Type 0) (r : Result T E) → OnOk r ⊥ → OnOk r P
no-ok P (Ok x) h = absurd h
no-ok P (Err e) h = tt

pub on-error : {T E : Type 0} (P : Type 0) (r : Result T E) → P → OnErr r P
on-error P (Ok x) h = tt
on-error P (Err e) h = h

-- nothing is noted of what was given
pub given-kept : (before : List ℕ) (ended : Bool) → Unit {0} → Unit {0}
given-kept before ended given = given

-- a failure was counted
pub counted : (n reads' failures failures' : ℕ) → failures' ≡ failures + 1 → was_read_by reads' failures' (n + 1)
counted n reads' failures failures' e = inr (omega (arith, e))

-- a failed read is no failed write
pub not-write : {A : Type 0} (answer : Result Summary Stop) → answer ≡ Err Read → answer ≡ Err Write → A
not-write answer r w = absurd (let d = sym r ∙ w in cc)

-- what holds of a value holds where the result is no error
pub opened : {T E : Type 0} (r : Result T E) (P : Type 0) → is_err r ≡ false → OnOk r P → P
opened (Ok x) P e h = h
opened (Err x) P e h = absurd (true≢false e)

-- a read that failed after the opening
pub read-since : {f f' f'' : ℕ} {was was' : ℕ → Type 0} (was'' : ℕ → Type 0) → f' ≡ f → ((n : ℕ) → was n → was' n) → HasFailedToRead f' f'' was' was'' →
    HasFailedToRead f f'' was was''
read-since was'' kept reads h = ⊎_elim (λ e. inl (e ∙ ap (λ n. n + 1) kept)) (λ m. inr (λ n r. m n (reads n r))) h
