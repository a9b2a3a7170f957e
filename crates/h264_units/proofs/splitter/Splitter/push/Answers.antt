use Rattle.std.proofs.Common.{ℕ, List, ◌+◌, ◌-◌, ◌<◌, ◌++◌, take, subst, rules}
use Rattle.h264_units.specs.Stream.{IsUndecided}
use Rattle.h264_units.specs.Splitting.{Splitting, HasNonZero}
use Rattle.h264_units.specs.Scanned.{Plans}
use Rattle.h264_units.proofs.Plans.{takes-some, least-taken, grows-some}
use Rattle.h264_units.proofs.splitter.Splitter.push.Goals as goal

pub returns-clause-some : goal.returns-clause-some
returns-clause-some c = λ w e more. takes-some _ _ _ _ _ c.in-Ok.ensures.ok more

pub returns-clause-ok : goal.returns-clause-ok
returns-clause-ok c =
    let i = c.self.inside in
    let plans = subst (λ (b : List ℕ). Plans i.phase i.lead b c.args.piece.now c.in-Ok.plan) c.as_slice.ensures.value c.in-Ok.ensures.ok in
    record {
      within = search rules;
      at_is = search rules;
      rest_is = search rules;
      all = search rules;
      undecided = search rules;
      least = λ w more. subst (λ (s : Splitting). IsUndecided (s.rest ++ take (c.in-Ok.plan.taken - 1) c.args.piece.now)) c.self.view_is
          (least-taken i.phase i.lead i.body.items c.args.piece.now c.in-Ok.plan plans w);
      ended_is = search rules;
      stop_is = search rules;
    }

pub returns-then-is_err-clause-err : goal.returns-then-is_err-clause-err
returns-then-is_err-clause-err c = λ stop.
    let i = c.self.inside in
    let plans = subst (λ (b : List ℕ). Plans i.phase i.lead b c.args.piece.now c.in-Ok.plan) c.as_slice.ensures.value c.in-Ok.ensures.ok in
    let grows : 0 < c.in-Ok.plan.zeros + c.in-Ok.plan.kept = search rules in (
      search rules,
      subst (λ (s : Splitting). HasNonZero (s.rest ++ c.args.piece.now)) c.self.view_is
          (grows-some i.phase i.lead i.body.items c.args.piece.now c.in-Ok.plan plans grows),
    )
