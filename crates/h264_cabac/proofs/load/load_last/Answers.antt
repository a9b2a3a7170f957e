use Rattle.std.proofs.Common.{rules, arith, ◌≡◌, ◌<◌, ◌≤◌, ◌^◌, ◌+◌, ◌*◌, refl}
use Rattle.std.specs.Prelude.{slice_index}
use Rattle.h264_bits.specs.Peek.{peek_at}
use Rattle.h264_bits.proofs.Peeks.{peek-more, peek-below, pow-few}
use Rattle.h264_cabac.proofs.load.load_last.Goals as goal

pub loop-j-init : goal.loop-j-init
unfolding peek_at
loop-j-init c = refl

pub overflow_mul-word : goal.overflow_mul-word
overflow_mul-word c = let b = peek-below (8 * c.loop-j.j) c.args.bytes.now (8 * c.args.k) in let t = c.loop-j-test.true in
    let p : 2 ^ (8 * c.loop-j.j) ≤ 2 ^ 24 = (pow-few (8 * c.loop-j.j) 24 (omega arith)).1 in search rules

pub loop-j-preserved : goal.loop-j-preserved
loop-j-preserved c =
    let n : 8 * (c.loop-j.j + 1) ≡ 8 * c.loop-j.j + 8 = omega arith in
    let byte : c.unwrap_or-byte.result ≡ slice_index c.args.bytes.now (c.args.k + c.loop-j.j) = search rules in
    rw (n, peek-more c.args.bytes.now c.args.k c.loop-j.j (8 * c.loop-j.j) refl (search rules)) (let i = c.loop-j.invariant in cc)

pub overflow_add-word : goal.overflow_add-word
overflow_add-word c = let b = peek-below (8 * c.loop-j.j) c.args.bytes.now (8 * c.args.k) in let t = c.loop-j-test.true in
    let p : 2 ^ (8 * c.loop-j.j) ≤ 2 ^ 24 = (pow-few (8 * c.loop-j.j) 24 (omega arith)).1 in
    let byte : c.unwrap_or-byte.result ≡ slice_index c.args.bytes.now (c.args.k + c.loop-j.j) = search rules in
    let small : slice_index c.args.bytes.now (c.args.k + c.loop-j.j) < 256 = search rules in search rules
