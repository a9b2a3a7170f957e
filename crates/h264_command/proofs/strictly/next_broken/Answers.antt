use Rattle.std.proofs.Common.{◌≡◌, List, Option, None, Some, refl, sym, ◌∙◌, arith, false, get_or}
use Rattle.h264_strict.specs.declared.strict_rule.TheConstants.{EVERY_STRICT_RULE}
use Rattle.h264_strict.specs.declared.strict_rule.StrictRule.TheVariants as rules
use Rattle.h264_command.specs.declared.strictly.Broken.{Broken}
use Rattle.h264_command.proofs.StrictTold.{next-kept, next-taken, next-of-all, none-of-all, not-between, not-broken}
use Rattle.h264_command.proofs.strictly.next_broken.Goals as goal
use Rattle.h264_command.proofs.strictly.next_broken.Goals.{then-is_between, else-is_between}

pub loop-rule-preserved-in_default : goal.loop-rule-preserved-in_default
loop-rule-preserved-in_default c =
    next-kept c.args.further.now c.args.last c.loop-rule.next EVERY_STRICT_RULE c.loop-rule.rule-index rules.ReservedBits c.loop-rule-test.true
    c.loop-rule.invariant (not-broken c.args.further.now c.args.last c.loop-rule.next _ (sym c.places.ensures.at ∙ c.in_default.is))

pub loop-rule-preserved : goal.loop-rule-preserved
loop-rule-preserved c =
    let further = c.args.further.now in
    let i = c.loop-rule.rule-index in
    let broken : Broken = record { rule = get_or EVERY_STRICT_RULE i rules.ReservedBits; places = c.in-Some.places } in
    let at = sym c.places.ensures.at ∙ c.in-Some.is in
    elim c.if-is_between.branch [
      | then-is_between w ↦ let said = c.is_between.ensures.yes w.if-is_between.true in
          rw w.next-is (next-taken further c.args.last c.loop-rule.next EVERY_STRICT_RULE i rules.ReservedBits broken c.loop-rule-test.true
          c.loop-rule.invariant refl at said.0 said.1)
      | else-is_between w ↦ rw w.next-is (next-kept further c.args.last c.loop-rule.next EVERY_STRICT_RULE i rules.ReservedBits c.loop-rule-test.true
          c.loop-rule.invariant (not-between further c.args.last c.loop-rule.next broken at (c.is_between.ensures.no w.if-is_between.false)))
    ]

pub returns-clause-next : goal.returns-clause-next
returns-clause-next c =
    let last : c.loop-rule.rule-index ≡ 43 = (let t = c.loop-rule-test.false in let e = c.loop-rule.auto.rule-index-end in omega arith) in
    next-of-all c.args.further.now c.args.last c.loop-rule.next (rw last at c.loop-rule.invariant)

pub returns-clause-none : goal.returns-clause-none
returns-clause-none c =
    let last : c.loop-rule.rule-index ≡ 43 = (let t = c.loop-rule-test.false in let e = c.loop-rule.auto.rule-index-end in omega arith) in
    none-of-all c.args.further.now c.args.last c.loop-rule.next (rw last at c.loop-rule.invariant)
