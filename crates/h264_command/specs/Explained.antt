-- What `explain` tells of rules, features and further rules. To be read beside docs/OUTPUT.md.
use Rattle.std.specs.Prelude.{◌≡◌, ℕ, Bool, true, false, List, ◌++◌, codes, map, flat_map}
use Rattle.h264_base.specs.Rule.{label_of, clause_of}
use Rattle.h264_base.specs.Feature.{text_of}
use Rattle.h264_base.specs.declared.rule.Rule.{Rule as RuleOf}
use Rattle.h264_base.specs.declared.stop.Feature.{Feature as FeatureOf}
use Rattle.h264_pages.specs.Json.{escaped}
use Rattle.h264_pages.specs.declared.rules.RuleEntry.{RuleEntry}
use Rattle.h264_pages.specs.declared.rules.FeatureEntry.{FeatureEntry}
use Rattle.h264_strict.specs.StrictRules.{label_of as further_label_of, clause_of as further_clause_of}
use Rattle.h264_strict.specs.declared.strict_rule.StrictRule.{StrictRule}
use Rattle.h264_strict.specs.declared.strict_entries.StrictEntry.{StrictEntry}
use Rattle.h264_words.specs.Labels.{folded}
use Rattle.h264_command.specs.declared.explaining.Entry.{Entry}
use Rattle.h264_command.specs.declared.explaining.Entry.TheVariants.{Rule, Feature, Further}

-- the label of an entry
abbrev pub label_in : Entry → List ℕ
label_in (Rule e) = label_of e.rule
label_in (Feature e) = text_of e.feature
label_in (Further e) = further_label_of e.rule

-- No rule, no feature and no further rule has this label.
abbrev pub IsNoLabel : List ℕ → Type 0
IsNoLabel label =
    ((rule : RuleOf) → label_of rule ≡ label → ⊥) × ((feature : FeatureOf) → text_of feature ≡ label → ⊥)
    × ((rule : StrictRule) → further_label_of rule ≡ label → ⊥)

-- LABEL (clause C), and lines of what breaks it, of the bit and of the usual cause
abbrev pub rule_lines : RuleEntry → List ℕ
rule_lines e =
    label_of e.rule ++ (codes " (clause " ++ (clause_of e.rule ++ (codes ")\nbreaks: " ++ (e.breaks.now ++ (codes "\nbit: " ++ (e.bit.now
    ++ (codes "\ncause: " ++ (e.cause.now ++ codes "\n"))))))))

-- FEATURE (outside), and lines of what stands in the stream, of the bit and of what to do
abbrev pub feature_lines : FeatureEntry → List ℕ
feature_lines e =
    text_of e.feature ++ (codes " (outside)\nstands: " ++ (e.stands.now ++ (codes "\nbit: " ++ (e.bit.now
    ++ (codes "\nadvice: " ++ (e.advice.now ++ codes "\n"))))))

-- {"kind":"rule","label":L,"clause":C,"breaks":B,"bit":N,"cause":W}
abbrev pub rule_object : RuleEntry → List ℕ
rule_object e =
    codes "{\"kind\":\"rule\",\"label\":\"" ++ (label_of e.rule ++ (codes "\",\"clause\":\"" ++ (clause_of e.rule ++ (codes "\",\"breaks\":\""
    ++ (escaped e.breaks.now ++ (codes "\",\"bit\":\"" ++ (escaped e.bit.now ++ (codes "\",\"cause\":\"" ++ (escaped e.cause.now ++ codes "\"}\n")))))))))

-- {"kind":"feature","label":L,"stands":S,"bit":N,"advice":A}
abbrev pub feature_object : FeatureEntry → List ℕ
feature_object e =
    codes "{\"kind\":\"feature\",\"label\":\"" ++ (text_of e.feature ++ (codes "\",\"stands\":\"" ++ (escaped e.stands.now ++ (codes "\",\"bit\":\""
    ++ (escaped e.bit.now ++ (codes "\",\"advice\":\"" ++ (escaped e.advice.now ++ codes "\"}\n")))))))

-- LABEL (--strict, clause C), and lines of what breaks it, of the bit, of the usual cause and of what is wrong in its example
abbrev pub strict_lines : StrictEntry → List ℕ
strict_lines e =
    further_label_of e.rule ++ (codes " (--strict, clause " ++ (further_clause_of e.rule ++ (codes ")\nbreaks: " ++ (e.breaks.now ++ (codes "\nbit: "
    ++ (e.bit.now ++ (codes "\ncause: " ++ (e.cause.now ++ (codes "\nexample: " ++ (e.example.now ++ codes "\n"))))))))))

-- {"kind":"strict rule","label":L,"clause":C,"breaks":B,"bit":N,"cause":W,"example":E}
abbrev pub strict_front : StrictEntry → List ℕ
strict_front e =
    codes "{\"kind\":\"strict rule\",\"label\":\"" ++ (further_label_of e.rule ++ (codes "\",\"clause\":\"" ++ (further_clause_of e.rule
    ++ (codes "\",\"breaks\":\"" ++ (escaped e.breaks.now ++ (codes "\",\"bit\":\"" ++ (escaped e.bit.now ++ codes "\"")))))))

abbrev pub strict_object : StrictEntry → List ℕ
strict_object e =
    strict_front e ++ (codes ",\"cause\":\"" ++ (escaped e.cause.now ++ (codes "\",\"example\":\"" ++ (escaped e.example.now ++ codes "\"}\n"))))

-- an entry, in lines or as an object
abbrev pub entry_text : (json : Bool) → Entry → List ℕ
entry_text true (Rule e) = rule_object e
entry_text true (Feature e) = feature_object e
entry_text true (Further e) = strict_object e
entry_text false (Rule e) = rule_lines e
entry_text false (Feature e) = feature_lines e
entry_text false (Further e) = strict_lines e

-- This text has the entry of each of these labels, in their order, whatever the case of their letters.
pub record IsExplained (json : Bool) (labels : List (List ℕ)) (text : List ℕ) : Type 0 where
  pub entries : List Entry
  pub are_theirs : map (λ e. folded (label_in e)) entries ≡ map folded labels
  pub text_is : text ≡ flat_map (entry_text json) entries
