use Rattle.std.proofs.Common.{◌++◌, [], length, take, drop, refl, sym, ap, ◌∙◌, arith}
use Rattle.std.proofs.lemmas.List.{append_assoc, take-append-drop, length-append, length-drop}
use Rattle.h264_compare.proofs.Matching.{compares-none, compares-more, compares-lacks, compares-is}
use Rattle.h264_compare.proofs.comparing.Comparison.compare_part.Goals as goal

pub loop-init : goal.loop-init
loop-init g c = (record { first = []; whole = refl; compares = compares-none c.know_range.ensures }, refl, omega arith)

pub returns-in-Err : goal.returns-in-Err
returns-in-Err g c =
    let i = c.loop.invariant.0 in
    let e = c.in-Err.ensures in
    compares-is (sym i.whole) (compares-lacks c.loop.rest.now c.in-Err.lack i.compares e.numbers e.kept e.ended)

pub loop-preserved : goal.loop-preserved
loop-preserved g c =
    let i = c.loop.invariant.0 in
    let rest = c.loop.rest.now in
    let n = c.in-Ok.matched.count in
    let count = c.in-Ok.ensures.count in
    let long = ap length i.whole ∙ length-append i.first rest in
    let next = length-drop n rest in
    let place = c.loop.invariant.1 in
    let left = c.loop.invariant.2 in
    rw c.after-rest.ensures (
      record {
        first = i.first ++ take n rest;
        whole = i.whole ∙ ap (λ l. i.first ++ l) (sym (take-append-drop n rest)) ∙ sym (append_assoc i.first (take n rest) (drop n rest));
        compares = compares-more c.loop.at (omega (arith, place, long)) i.compares c.in-Ok.ensures.compares;
      },
      omega (arith, place, next, count.0, count.1),
      omega (arith, left, next, count.0, count.1),
    )
