use Rattle.std.proofs.Common.{◌≡◌, sym, ◌∙◌, ap, arith}
use Rattle.std.proofs.lemmas.Bool.{false≢true}
use Rattle.std.proofs.lemmas.List.Elements.{All-more}
use Rattle.h264_base.specs.Feature.{text_of}
use Rattle.h264_words.specs.declared.labels.TheConstants.{FEATURES}
use Rattle.h264_words.specs.Labels.{folded}
use Rattle.h264_words.proofs.EachLabel.{each-feature}
use Rattle.h264_words.proofs.labels.feature_like.Goals as goal

pub loop-feature-preserved : goal.loop-feature-preserved
loop-feature-preserved c =
    All-more (λ feature. folded (text_of feature) ≡ folded c.args.label.now → ⊥) FEATURES c.loop-feature.feature-index _ c.loop-feature-test.true
    c.loop-feature.invariant
    (λ same. false≢true (sym c.if-eq_ignore_ascii_case.false ∙ c.eq_ignore_ascii_case.ensures.test.1 (ap folded c.text.ensures ∙ same)))

pub returns-clause-none : goal.returns-clause-none
returns-clause-none c feature =
    let last : c.loop-feature.feature-index ≡ 3 = (let t = c.loop-feature-test.false in let e = c.loop-feature.auto.feature-index-end in omega arith) in
    each-feature (λ x. folded (text_of x) ≡ folded c.args.label.now → ⊥) (rw last at c.loop-feature.invariant) feature
