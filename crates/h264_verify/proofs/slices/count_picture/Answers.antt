use Rattle.std.proofs.Common.{◌≡◌, ℕ, Option, Some, None, Result, Ok, Err, if◌then◌else◌, refl, ap}
use Rattle.std.specs.Option.{is_some, ok_or}
use Rattle.std.proofs.lemmas.Result.{err_from_is_err_and}
use Rattle.h264_base.specs.declared.rule.Rule.TheVariants.{Count as CountRule}
use Rattle.h264_base.specs.declared.stop.Stop.{Stop}
use Rattle.h264_base.specs.declared.stop.Stop.TheVariants.{No}
use Rattle.h264_poc.specs.declared.picture.Count.{Count}
use Rattle.h264_verify.proofs.slices.count_picture.Goals as goal

-- the counts of a picture, and the rule that they are in range
count-broken : (o : Option Count) (bit : ℕ) (e : Stop) → (let r : Result Count Stop = Err e in r ≡ ok_or o (No bit CountRule)) →
    (let r : Result (Unit {0}) Stop = Err e in r ≡ (if is_some o then Ok tt else Err (No bit CountRule)))
count-broken None bit e h = let k : e ≡ No bit CountRule = cc in ap (λ (x : Stop). let r : Result (Unit {0}) Stop = Err x in r) k
count-broken (Some x) bit e h = cc

count-met : (o : Option Count) (bit : ℕ) (x : Count) → (let r : Result Count Stop = Ok x in r ≡ ok_or o (No bit CountRule)) →
    (let r : Result (Unit {0}) Stop = Ok tt in r ≡ (if is_some o then Ok tt else Err (No bit CountRule))) × (Some x ≡ o)
count-met None bit x h = cc
count-met (Some y) bit x h = (refl, let k : x ≡ y = cc in ap (λ (c : Count). let o : Option Count = Some c in o) k)

pub returns-in_err-next-clause-judged : goal.returns-in_err-next-clause-judged
returns-in_err-next-clause-judged c =
    let p = err_from_is_err_and c.from_residual.result c.from_residual.ensures.1 in
    rw (p.1, p.2) (λ pictures k. count-broken _ _ _ (rw c.picture_of.ensures at (c.in_err-next.ensures.counts pictures k)))

pub returns-clause-judged : goal.returns-clause-judged
returns-clause-judged c = λ pictures k. (count-met _ _ _ (rw c.picture_of.ensures at (c.in_ok-next.ensures.counts pictures k))).0

pub returns-clause-kept : goal.returns-clause-kept
returns-clause-kept c = λ pictures k. rw c.picture_of.ensures at (c.in_ok-next.ensures.kept pictures k)

pub returns-clause-count : goal.returns-clause-count
returns-clause-count c = λ pictures k. (count-met _ _ _ (rw c.picture_of.ensures at (c.in_ok-next.ensures.counts pictures k))).1
