use Rattle.std.proofs.Common.{◌≡◌, ◌+◌, ◌<◌, ◌≤◌, ℕ, inl, inr, subst, arith}
use Rattle.std.proofs.lemmas.Bool.{cases_lt}
use Rattle.h264_rbsp.specs.Found.{IsFound}
use Rattle.h264_rbsp.proofs.Searches.{after-other}
use Rattle.h264_rbsp.proofs.scan.next_after_zeros.Goals as goal
use Rattle.h264_rbsp.proofs.scan.next_after_zeros.Goals.{then-bytes-place-eq0, else-bytes-place-eq0}

pub loop-place-init : goal.loop-place-init
loop-place-init c = record {
  low = c.after_high-place.ensures.from.0;
  high = c.after_high-place.ensures.from.1;
  none = λ place low high. c.after_high-place.ensures.none c.args.least place low high;
}

pub loop-place-preserved : goal.loop-place-preserved
loop-place-preserved c =
    let p = c.loop-place.place in
    let bytes = c.args.bytes.now in
    let least = c.args.least in
    let low : c.args.start + 2 ≤ p = c.loop-place.invariant.low in
    let next = c.after_high-place-in-loop-place in
    let on : p + c.if-bytes-place-eq0.step ≤ next.result = next.ensures.from.0 in
    let none-here : IsFound bytes least p → ⊥ = c.is_found.ensures.other c.if-is_found.false in
    let passed : (place : ℕ) → p ≤ place → place < p + c.if-bytes-place-eq0.step → IsFound bytes least place →
    ⊥ = λ place from to f. elim c.if-bytes-place-eq0.branch [
      | then-bytes-place-eq0 w ↦ let e : place ≡ p = omega (arith, w.step-is) in none-here (subst (λ q. IsFound bytes least q) e f)
      | else-bytes-place-eq0 w ↦ after-other bytes least p place w.if-bytes-place-eq0.false none-here from (omega (arith, w.step-is)) f
    ] in
    record {
      low = omega arith;
      high = next.ensures.from.1;
      none = λ place from to f. elim (cases_lt place p) [
        | inl h ↦ c.loop-place.invariant.none place from h f
        | inr h ↦ elim (cases_lt place (p + c.if-bytes-place-eq0.step)) [
          | inl k ↦ passed place h k f
          | inr k ↦ next.ensures.none least place k to f
        ]
      ];
    }
