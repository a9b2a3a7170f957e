use Rattle.std.proofs.Common.{◌≡◌, ◌+◌, ◌<◌, ◌∙◌, ◌++◌, ◌∷◌, [], ap, arith, length, drop}
use Rattle.h264_rbsp.specs.Rbsp.{rbsp_bytes, dropped_from}
use Rattle.h264_rbsp.proofs.Unescapes.{all-bytes, all-dropped, last-bytes, last-dropped, longer, more-bytes, more-dropped}
use Rattle.h264_rbsp.proofs.unescape.unescaped.Goals as goal

pub returns-then-place-payload-clause-bytes : goal.returns-then-place-payload-clause-bytes
returns-then-place-payload-clause-bytes c =
    let s = c.loop-start in
    let place = c.next_after_zeros-place in
    c.in_ok-extend_from_slice.ensures.items ∙
    last-bytes c.args.payload.now s.start s.bytes.items s.dropped.items s.invariant.bytes s.invariant.dropped place.result s.invariant.high
    place.ensures.none c.if-place-payload.true

pub returns-then-place-payload-clause-dropped : goal.returns-then-place-payload-clause-dropped
returns-then-place-payload-clause-dropped c =
    let s = c.loop-start in
    let place = c.next_after_zeros-place in
    last-dropped c.args.payload.now s.start s.bytes.items s.dropped.items s.invariant.bytes s.invariant.dropped place.result s.invariant.high
    place.ensures.none c.if-place-payload.true

pub returns-clause-bytes : goal.returns-clause-bytes
returns-clause-bytes c =
    let s = c.loop-start in
    all-bytes c.args.payload.now s.start s.bytes.items s.dropped.items s.invariant.bytes s.invariant.dropped c.loop-start-test.false

pub returns-clause-dropped : goal.returns-clause-dropped
returns-clause-dropped c =
    let s = c.loop-start in
    all-dropped c.args.payload.now s.start s.bytes.items s.dropped.items s.invariant.bytes s.invariant.dropped c.loop-start-test.false

pub loop-start-preserved : goal.loop-start-preserved
loop-start-preserved c =
    let s = c.loop-start in
    let place = c.next_after_zeros-place in
    let lt : place.result < length c.args.payload.now = omega arith in
    let found = place.ensures.found lt in
    let items = c.in_ok-extend_from_slice.ensures.items in
    let now = c.extend_from_slice.new.self in
    let size = longer c.args.payload.now s.start s.bytes.items s.dropped.items s.invariant.bytes s.invariant.dropped place.result s.invariant.high
    place.ensures.none found.0 found.1 in
    let len : c.len.result ≡ length now.items = omega (arith, now.ok, c.len.ensures) in
    record {
      high = omega arith;
      short = omega (arith, ap length items, size);
      bytes = ap (λ l. l ++ rbsp_bytes (drop (place.result + 1) c.args.payload.now)) items
          ∙ more-bytes c.args.payload.now s.start s.bytes.items s.dropped.items s.invariant.bytes s.invariant.dropped place.result s.invariant.high
          place.ensures.none found.0 found.1;
      dropped = ap (λ l. l ++ dropped_from (length now.items) (drop (place.result + 1) c.args.payload.now))
          (c.in_ok-push.ensures.ok ∙ ap (λ n. s.dropped.items ++ n ∷ []) len)
          ∙ ap (λ l. (s.dropped.items ++ length l ∷ []) ++ dropped_from (length l) (drop (place.result + 1) c.args.payload.now)) items
          ∙ more-dropped c.args.payload.now s.start s.bytes.items s.dropped.items s.invariant.bytes s.invariant.dropped place.result s.invariant.high
          place.ensures.none found.0 found.1;
    }
