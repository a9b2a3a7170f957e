use Rattle.std.proofs.Common.{◌≡◌, ◌<◌, ℕ, length, rules, arith, w16}
use Rattle.h264_inter.proofs.SignedLanes.{three_of, three_at, three_lane, all_natural, natural_read}
use Rattle.h264_inter.proofs.pairs.sum_rounded.Goals as goal

pub overflow_cast-result : goal.overflow_cast-result
overflow_cast-result c =
    let r = c.args in
    let a : length r.a ≡ 8 = search rules in
    let b : length r.b ≡ 8 = search rules in
    let d : length r.c ≡ 8 = search rules in
    let at = λ (k : ℕ) (p : k < 8). three_lane r.a r.b r.c k a b d p (c.requires.a k p) (c.requires.b k p) (c.requires.c k p) in
    all_natural (three_of r.a r.b r.c) (three_at r.a r.b r.c) ((at 0 (omega arith)).long) at

pub returns : goal.returns
returns c k p =
    let r = c.args in
    let a : length r.a ≡ 8 = search rules in
    let b : length r.b ≡ 8 = search rules in
    let d : length r.c ≡ 8 = search rules in
    natural_read w16 (three_of r.a r.b r.c) k _ (three_lane r.a r.b r.c k a b d p (c.requires.a k p) (c.requires.b k p) (c.requires.c k p))
