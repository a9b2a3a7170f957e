use Rattle.std.proofs.Common.{◌≡◌, ◌+◌, ◌*◌, length, rules, get_or, arith, ◌∙◌, pos, negsuc}
use Rattle.h264_inter.proofs.SignedLanes.{weight_handed, small_handed}
use Rattle.h264_inter.proofs.Strips.{sample_is, taps_of_pairs}
use Rattle.h264_inter.proofs.luma_blocks.every_other.Goals as goal

pub pair_sums-first-requires-clause-even : goal.pair_sums-first-requires-clause-even
pair_sums-first-requires-clause-even c k p =
    weight_handed c.args.taps.now.first (2 * k) (pos 1) (c.requires.taps.first k p).0 (omega arith) (omega arith)

pub pair_sums-first-requires-clause-odd : goal.pair_sums-first-requires-clause-odd
pair_sums-first-requires-clause-odd c k p =
    weight_handed c.args.taps.now.first (2 * k + 1) (negsuc 4) (c.requires.taps.first k p).1 (omega arith) (omega arith)

pub pair_sums-middle-requires-clause-even : goal.pair_sums-middle-requires-clause-even
pair_sums-middle-requires-clause-even c k p =
    weight_handed c.args.taps.now.middle (2 * k) (pos 20) (c.requires.taps.middle k p).0 (omega arith) (omega arith)

pub pair_sums-middle-requires-clause-odd : goal.pair_sums-middle-requires-clause-odd
pair_sums-middle-requires-clause-odd c k p =
    weight_handed c.args.taps.now.middle (2 * k + 1) (pos 20) (c.requires.taps.middle k p).1 (omega arith) (omega arith)

pub pair_sums-last-requires-clause-even : goal.pair_sums-last-requires-clause-even
pair_sums-last-requires-clause-even c k p =
    weight_handed c.args.taps.now.last (2 * k) (negsuc 4) (c.requires.taps.last k p).0 (omega arith) (omega arith)

pub pair_sums-last-requires-clause-odd : goal.pair_sums-last-requires-clause-odd
pair_sums-last-requires-clause-odd c k p =
    weight_handed c.args.taps.now.last (2 * k + 1) (pos 1) (c.requires.taps.last k p).1 (omega arith) (omega arith)

pub sum_rounded-requires-clause-a : goal.sum_rounded-requires-clause-a
sum_rounded-requires-clause-a c k p =
    let long : length c.pair_sums-first.result ≡ 8 = search rules in
    let size = c.pair_sums-first.ensures.size k p in
    rw (small_handed c.pair_sums-first.result k 1530 long p size (omega arith)) (omega (arith, size))

pub sum_rounded-requires-clause-b : goal.sum_rounded-requires-clause-b
sum_rounded-requires-clause-b c k p =
    let long : length c.pair_sums-middle.result ≡ 8 = search rules in
    let size = c.pair_sums-middle.ensures.size k p in
    rw (small_handed c.pair_sums-middle.result k 10200 long p size (omega arith)) (omega (arith, size))

pub sum_rounded-requires-clause-c : goal.sum_rounded-requires-clause-c
sum_rounded-requires-clause-c c k p =
    let long : length c.pair_sums-last.result ≡ 8 = search rules in
    let size = c.pair_sums-last.ensures.size k p in
    rw (small_handed c.pair_sums-last.result k 1530 long p size (omega arith)) (omega (arith, size))

pub returns-clause-each : goal.returns-clause-each
returns-clause-each c k q =
    let a = c.args in
    let p = a.p.now in
    let y = a.y + a.r in
    let z = a.x + (2 * k + a.c) in
    let first : length c.pair_sums-first.result ≡ 8 = search rules in
    let middle : length c.pair_sums-middle.result ≡ 8 = search rules in
    let last : length c.pair_sums-last.result ≡ 8 = search rules in
    c.sum_rounded.ensures k q ∙ taps_of_pairs p z y (get_or c.load16.result (2 * k) 0) (get_or c.load16.result (2 * k + 1) 0)
    (get_or c.load16-2.result (2 * k) 0)
    (get_or c.load16-2.result (2 * k + 1) 0) (get_or c.load16-3.result (2 * k) 0) (get_or c.load16-3.result (2 * k + 1) 0) _ _ _
    (small_handed c.pair_sums-first.result k 1530 first q (c.pair_sums-first.ensures.size k q) (omega arith) ∙ c.pair_sums-first.ensures.each k q)
    (small_handed c.pair_sums-middle.result k 10200 middle q (c.pair_sums-middle.ensures.size k q) (omega arith) ∙ c.pair_sums-middle.ensures.each k q)
    (small_handed c.pair_sums-last.result k 1530 last q (c.pair_sums-last.ensures.size k q) (omega arith) ∙ c.pair_sums-last.ensures.each k q)
    (sample_is p c.load16.result a.x a.c z 0 y (2 * k) c.load16.ensures (omega (arith, q)) (omega arith))
    (sample_is p c.load16.result a.x a.c z 1 y (2 * k + 1) c.load16.ensures (omega (arith, q)) (omega arith))
    (sample_is p c.load16-2.result a.x (a.c + 2) z 2 y (2 * k) c.load16-2.ensures (omega (arith, q)) (omega arith))
    (sample_is p c.load16-2.result a.x (a.c + 2) z 3 y (2 * k + 1) c.load16-2.ensures (omega (arith, q)) (omega arith))
    (sample_is p c.load16-3.result a.x (a.c + 4) z 4 y (2 * k) c.load16-3.ensures (omega (arith, q)) (omega arith))
    (sample_is p c.load16-3.result a.x (a.c + 4) z 5 y (2 * k + 1) c.load16-3.ensures (omega (arith, q)) (omega arith))
