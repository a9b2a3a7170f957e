use Rattle.std.proofs.Common.{◌≡◌, ℕ, ◌⊎◌, inl, inr, Result, Ok, Err, refl, sym, ap, ◌∙◌, ◌+◌, ◌++◌, [], true, false, OnOk}
use Rattle.h264_base.specs.declared.stop.Stop.{Stop}
use Rattle.h264_base.specs.declared.stop.Stop.TheVariants.{Memory, Read, Write}
use Rattle.std.proofs.lemmas.List.{append-nil}
use Rattle.h264_verify.proofs.laws.AfterLegal.{err-same}
use Rattle.h264_verify.proofs.language.OutcomesPlayed.{err-as, told-as, told-after}
use Rattle.h264_verify.proofs.session.SourceGives.{gives-none}
use Rattle.h264_verify.proofs.laws.OneVerdict.{none-judged}
use Rattle.h264_verify.proofs.session.SessionSteps.{comes-after, comes-as, comes-judged}
use Rattle.h264_verify.specs.Units.{terms_of}
use Rattle.h264_verify.proofs.running.run.Goals as goal

on-any : {X P : Type 0} (r : Result X Stop) → P → OnOk r P
on-any (Ok x) p = p
on-any (Err stop) p = tt

pub returns-in-Err-clause-verdict : goal.returns-in-Err-clause-verdict
returns-in-Err-clause-verdict g c = rw c.in-Err.ensures.err
    (λ bytes h frames x. none-judged (terms_of c.args.mode c.args.target) _ _ bytes frames _ x)

pub returns-in-Err-clause-some : goal.returns-in-Err-clause-some
returns-in-Err-clause-some g c = rw c.in-Err.ensures.err (
  [],
  false,
  gives-none g.R.Source.left g.R.Source.gave g.R.Source.failures _,
  tt,
  λ frames x. none-judged (terms_of c.args.mode c.args.target) _ _ [] frames _ x,
)

pub returns-in-Err-read_all-clause-verdict : goal.returns-in-Err-read_all-clause-verdict
returns-in-Err-read_all-clause-verdict g c = λ bytes h frames x.
    let f = c.in-Ok.ensures.fed frames x in
    let s = c.in-Err-read_all.ensures.stops in
    let left = s.1.first bytes h in
    comes-judged f (comes-as f (sym left.1) (s.2 _ _ _ _ f left.0))

pub returns-in-Err-read_all-clause-some : goal.returns-in-Err-read_all-clause-some
returns-in-Err-read_all-clause-some g c =
    let s = c.in-Err-read_all.ensures.stops in (
      s.0,
      false,
      s.1,
      tt,
      λ frames x. let f = c.in-Ok.ensures.fed frames x in comes-judged f (comes-as f (append-nil s.0) (s.2 _ _ _ _ f [])),
    )

pub returns-in-Err-read_all-clause-read : goal.returns-in-Err-read_all-clause-read
returns-in-Err-read_all-clause-read g c = λ h. c.in-Err-read_all.ensures.read (err-as _ _ h)

pub returns-in-Ok-read_all-clause-read : goal.returns-in-Ok-read_all-clause-read
returns-in-Ok-read_all-clause-read g c = λ h. absurd (c.conclude.ensures.no_read h)

pub returns-in-Ok-read_all-clause-verdict : goal.returns-in-Ok-read_all-clause-verdict
returns-in-Ok-read_all-clause-verdict g c = λ bytes h frames x.
    let f = c.in-Ok.ensures.fed frames x in
    let s = c.in-Ok-read_all.ensures.fed in
    let goes = s.2 _ _ _ _ f in
    let left = s.1.first bytes h in
    comes-judged f (comes-as f (sym (left.1 ∙ ap (λ l. s.0 ++ l) (left.2 refl) ∙ append-nil s.0))
    (comes-after f goes (c.conclude.ensures.comes _ _ _ _ goes.fed)))

pub returns-in-Ok-read_all-clause-some : goal.returns-in-Ok-read_all-clause-some
returns-in-Ok-read_all-clause-some g c =
    let s = c.in-Ok-read_all.ensures.fed in (
      s.0,
      true,
      s.1,
      on-any _ refl,
      λ frames x.
          let f = c.in-Ok.ensures.fed frames x in
          let goes = s.2 _ _ _ _ f in
          comes-judged f (comes-after f goes (c.conclude.ensures.comes _ _ _ _ goes.fed)),
    )

pub returns-in-Ok-read_all-clause-write : goal.returns-in-Ok-read_all-clause-write
returns-in-Ok-read_all-clause-write g c = λ h. c.conclude.ensures.write h ∙ ap (λ n. n + 1) c.in-Ok-read_all.ensures.kept.1

-- the source told its failures, and none was told
quiet-source : {X : Type 0} {a b : ℕ} (x : X) → (a ≡ b) ⊎ (let r : Result X Stop = Ok x in r ≡ Err Read) → a ≡ b
quiet-source x (inl e) = e
quiet-source x (inr e) = cc

read-not-memory : Read ≡ Memory → ⊥
read-not-memory e = cc

write-not-memory : Write ≡ Memory → ⊥
write-not-memory e = cc

-- want of memory is no failure
not-told : {X : Type 0} {a b : ℕ} (r : Result X Stop) (stop : Stop) → (stop ≡ Memory → ⊥) → (a ≡ b) ⊎ (r ≡ Err stop) → r ≡ Err Memory → a ≡ b
not-told r stop n (inl e) h = e
not-told {X} r stop n (inr e) h = absurd (n (err-same {A = X} stop Memory (sym e ∙ h)))

pub returns-in-Err-read_all-clause-read_told : goal.returns-in-Err-read_all-clause-read_told
returns-in-Err-read_all-clause-read_told g c = told-as _ c.in-Err-read_all.ensures.read_told

pub returns-in-Err-read_all-clause-write_told : goal.returns-in-Err-read_all-clause-write_told
returns-in-Err-read_all-clause-write_told g c = told-as _ c.in-Err-read_all.ensures.write_told

pub returns-in-Err-read_all-clause-memory : goal.returns-in-Err-read_all-clause-memory
returns-in-Err-read_all-clause-memory g c =
    λ h. (
      not-told _ Read read-not-memory (told-as _ c.in-Err-read_all.ensures.read_told) h,
      not-told _ Write write-not-memory (told-as _ c.in-Err-read_all.ensures.write_told) h,
    )

pub returns-in-Ok-read_all-clause-read_told : goal.returns-in-Ok-read_all-clause-read_told
returns-in-Ok-read_all-clause-read_told g c = inl (quiet-source _ c.in-Ok-read_all.ensures.read_told)

pub returns-in-Ok-read_all-clause-write_told : goal.returns-in-Ok-read_all-clause-write_told
returns-in-Ok-read_all-clause-write_told g c = told-after c.in-Ok-read_all.ensures.kept.1 c.conclude.ensures.write_told

pub returns-in-Ok-read_all-clause-memory : goal.returns-in-Ok-read_all-clause-memory
returns-in-Ok-read_all-clause-memory g c =
    λ h. (
      quiet-source _ c.in-Ok-read_all.ensures.read_told,
      not-told _ Write write-not-memory (told-after c.in-Ok-read_all.ensures.kept.1 c.conclude.ensures.write_told) h,
    )
