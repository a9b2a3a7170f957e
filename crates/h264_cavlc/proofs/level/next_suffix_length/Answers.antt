use Rattle.std.proofs.Common.{◌≡◌, ℕ, zero, suc, ◌+◌, ◌*◌, ◌-◌, ◌^◌, ◌<◌, ◌≤◌, ◌&&◌, get_or, max, nat_lt, arith, rules, if◌then◌else◌}
use Rattle.std.proofs.lemmas.Bool.Decides.{nat_tests}
use Rattle.std.specs.Prelude.{unsigned_abs}
use Rattle.h264_cavlc.specs.Level.{next_suffix_length}
use Rattle.h264_cavlc.specs.declared.level.TheConstants.{GREATEST}
use Rattle.h264_cavlc.proofs.level.next_suffix_length.Goals as goal

raised : (s n : ℕ) → s ≤ 6 → n ≤ 32768 → get_or GREATEST s 0 < n →
    max s 1 + 1 ≡ (if nat_lt (3 * 2 ^ (max s 1 - 1)) n && nat_lt (max s 1) 6 then max s 1 + 1 else max s 1)
raised zero n few small more = grind (arith, nat_tests)
raised (suc zero) n few small more = grind (arith, nat_tests)
raised (suc (suc zero)) n few small more = grind (arith, nat_tests)
raised (suc (suc (suc zero))) n few small more = grind (arith, nat_tests)
raised (suc (suc (suc (suc zero)))) n few small more = grind (arith, nat_tests)
raised (suc (suc (suc (suc (suc zero))))) n few small more = grind (arith, nat_tests)
raised (suc (suc (suc (suc (suc (suc zero)))))) n few small more = absurd (omega arith)
raised (suc (suc (suc (suc (suc (suc (suc s))))))) n few small more = absurd (omega arith)

stays : (s n : ℕ) → s ≤ 6 → n ≤ get_or GREATEST s 0 → max s 1 ≡ (if nat_lt (3 * 2 ^ (max s 1 - 1)) n && nat_lt (max s 1) 6 then max s 1 + 1 else max s 1)
stays zero n few less = grind (arith, nat_tests)
stays (suc zero) n few less = grind (arith, nat_tests)
stays (suc (suc zero)) n few less = grind (arith, nat_tests)
stays (suc (suc (suc zero))) n few less = grind (arith, nat_tests)
stays (suc (suc (suc (suc zero)))) n few less = grind (arith, nat_tests)
stays (suc (suc (suc (suc (suc zero))))) n few less = grind (arith, nat_tests)
stays (suc (suc (suc (suc (suc (suc zero)))))) n few less = grind (arith, nat_tests)
stays (suc (suc (suc (suc (suc (suc (suc s))))))) n few less = absurd (omega arith)

pub returns-then-unsigned_abs-suffix_length-clause-length : goal.returns-then-unsigned_abs-suffix_length-clause-length
unfolding next_suffix_length
returns-then-unsigned_abs-suffix_length-clause-length c =
    let size : c.unsigned_abs.result ≡ unsigned_abs c.args.level = search rules in
    rw (c.max-used.ensures, ← size) (raised c.args.suffix_length c.unsigned_abs.result c.requires c.unsigned_abs.ensures.bound
    c.if-unsigned_abs-suffix_length.true)

pub returns-else-unsigned_abs-suffix_length-clause-length : goal.returns-else-unsigned_abs-suffix_length-clause-length
unfolding next_suffix_length
returns-else-unsigned_abs-suffix_length-clause-length c =
    let size : c.unsigned_abs.result ≡ unsigned_abs c.args.level = search rules in
    rw (c.max-used.ensures, ← size) (stays c.args.suffix_length c.unsigned_abs.result c.requires c.if-unsigned_abs-suffix_length.false)
