use Rattle.std.proofs.Common.{rules, arith, SFits, w32, w64, to_z, of_z, ◌≡◌, ◌∙◌, ℤ, pos, ◌+ℤ◌}
use Rattle.std.proofs.lemmas.Int.{ints}
use Rattle.h264_picture.proofs.context.slice_qp.Goals as goal
use Rattle.h264_recon.proofs.Kept.{kept32}

-- two numbers of 32 bits and 26 fit 64 bits
summed : (a b : ℤ) → SFits w32 a → SFits w32 b →
    to_z w64 (of_z w64 (to_z w64 (of_z w64 (pos 26 +ℤ to_z w64 (of_z w64 a))) +ℤ to_z w64 (of_z w64 b))) ≡ (pos 26 +ℤ a) +ℤ b
summed a b p q =
    let first : to_z w64 (of_z w64 a) ≡ a = omega (arith, ints) in
    let second : to_z w64 (of_z w64 b) ≡ b = omega (arith, ints) in
    let part : to_z w64 (of_z w64 (pos 26 +ℤ a)) ≡ pos 26 +ℤ a = omega (arith, ints) in
    let all : to_z w64 (of_z w64 ((pos 26 +ℤ a) +ℤ b)) ≡ (pos 26 +ℤ a) +ℤ b = omega (arith, ints) in
    rw (first, second, part) all

pub returns-clause-here : goal.returns-clause-here
returns-clause-here c =
    let a = c.args.pps.now.pic_init_qp_minus26 in
    let b = c.args.header.now.slice_qp_delta.value in
    let p : SFits w32 a = search rules in
    let q : SFits w32 b = search rules in
    rw (c.from-init.ensures ∙ kept32 a p, c.from-delta.ensures ∙ kept32 b q, summed a b p q) at c.clip_51.ensures.here
