use Rattle.std.proofs.Common.{◌≡◌, ◌+◌, ◌-◌, ◌<◌, ◌≤◌, drop, take, length, get_or, subst, sym, ◌∙◌, ap, arith}
use Rattle.std.proofs.lemmas.List.{length-drop, get_or-drop}
use Rattle.h264_units.specs.Stream.{IsInner}
use Rattle.h264_units.proofs.Scans.{inner-three}
use Rattle.h264_units.proofs.scan.inner_run.Goals as goal

pub loop-end-preserved : goal.loop-end-preserved
loop-end-preserved c =
    let start = c.args.start in
    let end = c.loop-end.end in
    let piece = c.args.piece.now in
    let low : start ≤ end = c.loop-end.invariant.low in
    let more : end + 2 < length piece = c.loop-end-test.true in
    let high : 1 < get_or piece (end + 2) 0 = c.if-piece-end-gt1.true in
    let n : length (drop start piece) ≡ length piece - start = length-drop start piece in
    let at : start + (end - start + 2) ≡ end + 2 = omega arith in
    let here : get_or (drop start piece) (end - start + 2) 0 ≡ get_or piece (end + 2) 0 = get_or-drop start piece (end - start + 2) 0 ∙
    ap (λ k. get_or piece k 0) at in
    let three : end - start + 3 ≡ end + 3 - start = omega arith in
    record {
      low = omega arith;
      high = omega arith;
      inner = subst (λ m. IsInner (take m (drop start piece))) three
          (inner-three (drop start piece) (end - start) c.loop-end.invariant.inner (omega arith) (subst (λ b. 1 < b) (sym here) high));
    }
