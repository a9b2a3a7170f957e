use Rattle.std.proofs.Common.{arith}
use Rattle.h264_dpb.proofs.Taken.{all-taken}
use Rattle.h264_dpb.proofs.places.free_place.Goals as goal

pub returns-clause-some : goal.returns-clause-some
returns-clause-some c = λ fewer.
    let all = all-taken c.args.entries.now c.args.first c.args.count (λ k i j. c.loop-place.invariant.taken k i (omega arith)) in
    absurd (omega (arith, fewer, all))

pub returns-clause-first : goal.returns-clause-first
returns-clause-first c = λ free some. let taken = c.loop-place.invariant.taken c.args.first (omega arith) (omega arith) in cc
