use Rattle.std.proofs.Common.{rules, ◌≡◌, ◌+◌, arith, refl}
use Rattle.std.proofs.lemmas.Result.{err_from_is_err_and}
use Rattle.std.proofs.lemmas.Int.{to_z-of_z}
use Rattle.std.specs.Int.{w16}
use mir.Val.{SFits}
use Rattle.h264_bits.proofs.Held.{held-fixed, stopped-as, given}
use Rattle.h264_cavlc.proofs.token.read_trailing_one.Goals as goal

pub returns-in_err-tell_one : goal.returns-in_err-tell_one
returns-in_err-tell_one g c =
    let p = err_from_is_err_and c.from_residual.result c.from_residual.ensures.1 in
    let r = c.args.bits.now in
    let none : r.at + 0 ≡ r.at = omega arith in
    let m = rw (c.in-Some.ensures.kept, none) at c.in_err-tell_one.ensures.meets in
    rw (p.1, p.2, c.in-Some.ensures.kept) (stopped-as r refl
    (m (held-fixed 1 r.body.bytes r.at c.in-Some.front c.in-Some.ensures.value c.in-Some.ensures.together.inside)))

pub returns-in-Some : goal.returns-in-Some
returns-in-Some g c =
    let r = c.args.bits.now in
    let none : r.at + 0 ≡ r.at = omega arith in
    let m = rw (c.in-Some.ensures.kept, none) at c.in_ok-tell_one.ensures.meets in
    let fits : SFits w16 c.one_of.result = search rules in
    rw (c.pass_by.ensures, c.in-Some.ensures.kept, to_z-of_z w16 c.one_of.result fits, c.one_of.ensures)
    (given (m (held-fixed 1 r.body.bytes r.at c.in-Some.front c.in-Some.ensures.value c.in-Some.ensures.together.inside)))
