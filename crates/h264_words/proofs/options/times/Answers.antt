use Rattle.std.proofs.Common.{◌≡◌, ℕ, length, List, Bor, refl, sym, ap, ◌∙◌, arith}
use Rattle.std.specs.List.{count_by}
use Rattle.std.specs.Str.{bytes_eq}
use Rattle.std.proofs.lemmas.List.{take_all}
use Rattle.std.proofs.lemmas.List.Sums.{count_by_more_yes, count_by_more_no}
use Rattle.h264_words.proofs.Given.{count-map}
use Rattle.h264_words.proofs.options.times.Goals.{then-eq, else-eq}
use Rattle.h264_words.proofs.options.times.Goals as goal

pub loop-file-init : goal.loop-file-init
loop-file-init c = refl

pub loop-file-preserved : goal.loop-file-preserved
loop-file-preserved c =
    let is : Bor (List ℕ) → _ = λ f. bytes_eq f.now c.args.name.now in
    let before = c.loop-file.invariant in
    elim c.if-eq.branch [
      | then-eq w ↦
          let more = count_by_more_yes is c.args.files.now c.loop-file.file-index _ c.loop-file-test.true (sym c.eq.ensures ∙ w.if-eq.true) in
          let here = w.count-is in
          omega (arith, before, more, here, w.saturating_add-count.ensures)
      | else-eq w ↦
          let more = count_by_more_no is c.args.files.now c.loop-file.file-index _ c.loop-file-test.true (sym c.eq.ensures ∙ w.if-eq.false) in
          let here = w.count-is in
          omega (arith, before, more, here)
    ]

pub returns : goal.returns
returns c =
    let is : Bor (List ℕ) → _ = λ f. bytes_eq f.now c.args.name.now in
    let at : length c.args.files.now ≡ c.loop-file.file-index = let t = c.loop-file-test.false in let a = c.loop-file.auto.file-index-end in omega arith in
    let all = ap (count_by is) (take_all c.loop-file.file-index c.args.files.now (omega (arith, at))) in
    let every = count-map (λ t. bytes_eq t c.args.name.now) (λ f. f.now) c.args.files.now in
    let i = c.loop-file.invariant in
    record {
      once = ((λ h. omega (arith, i, all, every, h)), (λ h. omega (arith, i, all, every, h)));
      again = ((λ h. omega (arith, i, all, every, h)), (λ h. omega (arith, i, all, every, h)));
    }
