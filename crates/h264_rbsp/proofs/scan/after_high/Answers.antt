use Rattle.std.proofs.Common.{◌<◌, ◌≤◌, inl, inr, length, arith}
use Rattle.std.proofs.lemmas.Bool.{cases_lt}
use Rattle.h264_rbsp.proofs.Searches.{after-high}
use Rattle.h264_rbsp.proofs.scan.after_high.Goals as goal

pub loop-place-preserved : goal.loop-place-preserved
loop-place-preserved c =
    let p = c.loop-place.place in
    let low : c.args.start ≤ p = c.loop-place.invariant.low in
    let within : p < length c.args.bytes.now = c.loop-place-test.true in
    record {
      low = omega arith;
      high = omega arith;
      none = λ least place from to f. elim (cases_lt place p) [
        | inl h ↦ c.loop-place.invariant.none least place from h f
        | inr h ↦ after-high c.args.bytes.now least p place c.if-bytes-place-gt3.true h to f
      ];
    }
