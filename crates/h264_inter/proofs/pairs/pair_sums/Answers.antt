use Rattle.std.proofs.Common.{◌≡◌, ◌+◌, ◌*◌, length, rules, get_or, arith}
use Rattle.std.proofs.lemmas.Simd.{Each1-get_or}
use Rattle.h264_inter.proofs.SignedLanes.{weight_is, pair_is, pair_size}
use Rattle.h264_inter.proofs.pairs.pair_sums.Goals as goal

pub weighted-requires-clause-first : goal.weighted-requires-clause-first
weighted-requires-clause-first g c k p =
    let all : length c.args.w ≡ 16 = search rules in
    let long : length c.even_weights.result ≡ 8 = search rules in
    rw (weight_is c.args.w c.even_weights.result (2 * k) k _ (omega (arith, all, p)) (omega (arith, long, p)) (c.requires.even k p) c.requires.small.0
    (c.even_weights.ensures k p)) c.requires.small.0

pub weighted-requires-clause-second : goal.weighted-requires-clause-second
weighted-requires-clause-second g c k p =
    let all : length c.args.w ≡ 16 = search rules in
    let long : length c.odd_weights.result ≡ 8 = search rules in
    rw (weight_is c.args.w c.odd_weights.result (2 * k + 1) k _ (omega (arith, all, p)) (omega (arith, long, p)) (c.requires.odd k p) c.requires.small.1
    (c.odd_weights.ensures k p)) c.requires.small.1

pub returns-clause-each : goal.returns-clause-each
returns-clause-each g c k p =
    let all : length c.args.w ≡ 16 = search rules in
    let evens : length c.even_weights.result ≡ 8 = search rules in
    let odds : length c.odd_weights.result ≡ 8 = search rules in
    let long : length c.weighted.result ≡ 8 = search rules in
    let low = (Each1-get_or _ c.args.v (2 * k) 0 (omega (arith, p, c.fits-v.0)) c.fits-v.1).fits in
    let high = (Each1-get_or _ c.args.v (2 * k + 1) 0 (omega (arith, p, c.fits-v.0)) c.fits-v.1).fits in
    let first = weight_is c.args.w c.even_weights.result (2 * k) k _ (omega (arith, all, p)) (omega (arith, evens, p)) (c.requires.even k p)
    c.requires.small.0 (c.even_weights.ensures k p) in
    let second = weight_is c.args.w c.odd_weights.result (2 * k + 1) k _ (omega (arith, all, p)) (omega (arith, odds, p)) (c.requires.odd k p)
    c.requires.small.1 (c.odd_weights.ensures k p) in
    let is = c.weighted.ensures k p in
    pair_is c.weighted.result k (get_or c.args.v (2 * k) 0) (get_or c.args.v (2 * k + 1) 0) _ _ _ _ long p (omega (arith, low)) (omega (arith, high)) first
    second
    c.requires.small.0 c.requires.small.1 (rw (← c.even_samples.ensures k p, ← c.odd_samples.ensures k p) is)

pub returns-clause-size : goal.returns-clause-size
returns-clause-size g c k p =
    let low = (Each1-get_or _ c.args.v (2 * k) 0 (omega (arith, p, c.fits-v.0)) c.fits-v.1).fits in
    let high = (Each1-get_or _ c.args.v (2 * k + 1) 0 (omega (arith, p, c.fits-v.0)) c.fits-v.1).fits in
    rw (returns-clause-each g c k p) (pair_size (get_or c.args.v (2 * k) 0) (get_or c.args.v (2 * k + 1) 0) _ _ (omega (arith, low)) (omega (arith, high)))
