use Rattle.std.proofs.Common.{◌≡◌, ◌++◌, Bool, true, IsFalse, Result, Ok, Err, [], inl, inr, refl, rules, take, sym, ap}
use Rattle.std.proofs.lemmas.List.{append-nil}
use Rattle.std.proofs.lemmas.Result.{err_from_is_err_and}
use Rattle.h264_base.specs.declared.stop.Stop.{Stop}
use Rattle.h264_base.specs.declared.stop.Stop.TheVariants.{Read, Write}
use Rattle.h264_verify.proofs.language.OutcomesPlayed.{err-as, told-as}
use Rattle.h264_verify.proofs.session.SessionSteps.{goes-none, comes-as}
use Rattle.h264_verify.proofs.session.SessionRest.{comes-read}
use Rattle.h264_verify.proofs.session.SourceGives.{gives-failed, gives-interrupted, gives-piece, gives-end}
use Rattle.h264_verify.proofs.running.turn.Goals as goal

-- what excludes one another
read-not-write : (let r : Result Bool Stop = Err Read in r ≡ Err Write) → ⊥
read-not-write h = cc

well-not-stopped : (more : Bool) (stop : Stop) → (let r : Result Bool Stop = Ok more in r ≡ Err stop) → ⊥
well-not-stopped more stop h = cc

true-not-false : IsFalse true → ⊥
true-not-false h = cc

pub returns-in-Err : goal.returns-in-Err
returns-in-Err g c = record {
  more = tt;
  end = tt;
  stops = (
    [],
    gives-failed g.R.Source.left g.R.Source.gave g.R.Source.failures _ _ c.in-Err.ensures.gave_failed c.in-Err.ensures.failed,
    λ terms bytes frames told f later. comes-as f (ap (λ l. l ++ later) (sym (append-nil bytes))) (comes-read f later _ _ _),
  );
  kept = tt;
  again = c.read.ensures.again;
  read = λ h. c.in-Err.ensures.failed;
  read_told = inr refl;
  write = λ h. absurd (read-not-write h);
  write_told = inl refl;
  piece = search rules;
}

pub returns-in-Ok-None : goal.returns-in-Ok-None
returns-in-Ok-None g c = record {
  more = λ h. (
    [],
    gives-interrupted g.R.Source.left g.R.Source.gave g.R.Source.failures _ _ (rw c.in-Ok-None.field-0-is at c.in-Ok-None.ensures.gave_none)
        (rw c.in-Ok-None.field-0-is at c.in-Ok-None.ensures.interrupted),
    λ terms bytes frames told f. goes-none f _,
  );
  end = λ h. absurd (true-not-false h);
  stops = tt;
  kept = (c.requires.runs, refl, c.in-Ok-None.ensures.kept);
  again = c.read.ensures.again;
  read = λ h. absurd (well-not-stopped true Read h);
  read_told = inl c.in-Ok-None.ensures.kept;
  write = λ h. absurd (well-not-stopped true Write h);
  write_told = inl refl;
  piece = search rules;
}

pub returns-in_err-advance-in-Ok-Some : goal.returns-in_err-advance-in-Ok-Some
returns-in_err-advance-in-Ok-Some g c =
    let p = err_from_is_err_and c.from_residual.result c.from_residual.ensures.1 in
    rw (p.1, p.2) (record {
      more = tt;
      end = tt;
      stops = (
        take c.in-Ok-Some.n c.read.new.piece,
        gives-piece g.R.Source.left g.R.Source.gave g.R.Source.failures _ _ c.read.new.piece c.in-Ok-Some.n
            (rw c.in-Ok-Some.field-0-is at c.in-Ok-Some.ensures.gave) (rw c.in-Ok-Some.field-0-is at c.in-Ok-Some.ensures.bytes) c.if-n-eq0.false,
        rw c.front.ensures at c.in_err-advance-in-Ok-Some.ensures.stops,
      );
      kept = tt;
      again = c.read.ensures.again;
      read = λ h. absurd (c.in_err-advance-in-Ok-Some.ensures.no_read (err-as _ _ h));
      read_told = inl c.in-Ok-Some.ensures.kept;
      write = λ h. c.in_err-advance-in-Ok-Some.ensures.write (err-as _ _ h);
      write_told = told-as _ c.in_err-advance-in-Ok-Some.ensures.write_told;
      piece = search rules;
    })

pub returns-in_ok-advance-in-Ok-Some : goal.returns-in_ok-advance-in-Ok-Some
returns-in_ok-advance-in-Ok-Some g c = record {
  more = λ h. (
    take c.in-Ok-Some.n c.read.new.piece,
    gives-piece g.R.Source.left g.R.Source.gave g.R.Source.failures _ _ c.read.new.piece c.in-Ok-Some.n
        (rw c.in-Ok-Some.field-0-is at c.in-Ok-Some.ensures.gave) (rw c.in-Ok-Some.field-0-is at c.in-Ok-Some.ensures.bytes) c.if-n-eq0.false,
    rw c.front.ensures at c.in_ok-advance-in-Ok-Some.ensures.goes,
  );
  end = λ h. absurd (true-not-false h);
  stops = tt;
  kept = (c.in_ok-advance-in-Ok-Some.ensures.going, c.in_ok-advance-in-Ok-Some.ensures.kept, c.in-Ok-Some.ensures.kept);
  again = c.read.ensures.again;
  read = λ h. absurd (well-not-stopped true Read h);
  read_told = inl c.in-Ok-Some.ensures.kept;
  write = λ h. absurd (well-not-stopped true Write h);
  write_told = inl c.in_ok-advance-in-Ok-Some.ensures.kept;
  piece = search rules;
}

pub returns-then-n-eq0-clause-end : goal.returns-then-n-eq0-clause-end
returns-then-n-eq0-clause-end g c = λ h. (
  refl,
  refl,
  gives-end g.R.Source.left g.R.Source.gave g.R.Source.failures _ _ c.read.new.piece c.in-Ok-Some.n
      (rw c.in-Ok-Some.field-0-is at c.in-Ok-Some.ensures.gave) (rw c.in-Ok-Some.field-0-is at c.in-Ok-Some.ensures.bytes) c.if-n-eq0.true
      (rw c.in-Ok-Some.field-0-is at c.in-Ok-Some.ensures.end),
)
