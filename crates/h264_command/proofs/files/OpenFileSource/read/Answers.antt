use Rattle.std.proofs.Common.{ap}
use Rattle.h264_command.proofs.Failing.{no-value, no-ok, on-error, given-kept, counted}
use Rattle.h264_command.proofs.files.OpenFileSource.read.Goals as goal

pub returns-then-self-ge-MOST_READS : goal.returns-then-self-ge-MOST_READS
returns-then-self-ge-MOST_READS g c =
    let e = ap (λ s. s.failures) c.fail.ensures.others in
    let none = c.fail.ensures.err in
    record {
      again = λ n _. counted n _ c.args.self.now.failures _ e;
      fits = no-value _ _ none;
      bytes = no-value _ _ none;
      end = no-value _ _ none;
      interrupted = no-value _ _ none;
      gave = no-value _ _ none;
      gave_none = no-value _ _ none;
      gave_failed = on-error _ _ given-kept;
      kept = no-ok _ _ none;
      failed = on-error _ _ e;
    }

pub returns-in_default : goal.returns-in_default
returns-in_default g c =
    let e = ap (λ s. s.failures) c.fail-in_default.ensures.others in
    let none = c.fail-in_default.ensures.err in
    record {
      again = λ n _. counted n _ c.args.self.now.failures _ e;
      fits = no-value _ _ none;
      bytes = no-value _ _ none;
      end = no-value _ _ none;
      interrupted = no-value _ _ none;
      gave = no-value _ _ none;
      gave_none = no-value _ _ none;
      gave_failed = on-error _ _ given-kept;
      kept = no-ok _ _ none;
      failed = on-error _ _ e;
    }

pub returns-in-Err : goal.returns-in-Err
returns-in-Err g c =
    let e = ap (λ s. s.failures) c.fail-in-Err.ensures.others in
    let none = c.fail-in-Err.ensures.err in
    record {
      again = λ n _. counted n _ c.args.self.now.failures _ e;
      fits = no-value _ _ none;
      bytes = no-value _ _ none;
      end = no-value _ _ none;
      interrupted = no-value _ _ none;
      gave = no-value _ _ none;
      gave_none = no-value _ _ none;
      gave_failed = on-error _ _ given-kept;
      kept = no-ok _ _ none;
      failed = on-error _ _ e;
    }
