use Rattle.std.proofs.Common.{◌≡◌, sym, ◌∙◌, ap, arith}
use Rattle.std.proofs.lemmas.Bool.{false≢true}
use Rattle.std.proofs.lemmas.List.Elements.{All-more}
use Rattle.h264_strict.specs.StrictRules.{label_of as further_label_of}
use Rattle.h264_strict.specs.declared.strict_rule.TheConstants.{EVERY_STRICT_RULE}
use Rattle.h264_words.specs.Labels.{folded}
use Rattle.h264_words.proofs.EachLabel.{each-further}
use Rattle.h264_words.proofs.labels.further_like.Goals as goal

pub loop-rule-preserved : goal.loop-rule-preserved
loop-rule-preserved c =
    All-more (λ rule. folded (further_label_of rule) ≡ folded c.args.label.now → ⊥) EVERY_STRICT_RULE c.loop-rule.rule-index _ c.loop-rule-test.true
    c.loop-rule.invariant
    (λ same. false≢true (sym c.if-eq_ignore_ascii_case.false ∙ c.eq_ignore_ascii_case.ensures.test.1 (ap folded c.label.ensures ∙ same)))

pub returns-clause-none : goal.returns-clause-none
returns-clause-none c rule =
    let last : c.loop-rule.rule-index ≡ 43 = (let t = c.loop-rule-test.false in let e = c.loop-rule.auto.rule-index-end in omega arith) in
    each-further (λ x. folded (further_label_of x) ≡ folded c.args.label.now → ⊥) (rw last at c.loop-rule.invariant) rule
