use Rattle.std.proofs.Common.{◌≡◌, ◌+◌, ◌*◌, ◌/◌, ◌%◌, slice_index, arith, sym, ap, ◌∙◌}
use Rattle.h264_plane.specs.Samples.{at}
use Rattle.h264_deblock.proofs.Turns.{at_first, at_second}
use Rattle.h264_deblock.proofs.columns.columns_of.Goals as goal

pub returns-clause-first : goal.returns-clause-first
returns-clause-first c k j n i =
    let a = c.args in
    let place : (16 * k + n) % 8 * 16 + (16 * k + n) / 8 ≡ 16 * n + 2 * k = omega arith in
    let column : 2 * k / 2 ≡ k = omega arith in
    let even : 2 * k % 2 ≡ 0 = omega arith in
    c.turned.ensures (16 * k + n) (omega arith) ∙ ap (slice_index c.read_in_turn.result) place ∙ c.read_in_turn.ensures n i (2 * k) (omega arith)
    ∙ sym (at_first _ _ (2 * k) even) ∙ ap (λ z. at a.a.now (a.x + z) (a.y + n)) column

pub returns-clause-second : goal.returns-clause-second
returns-clause-second c k j n i =
    let a = c.args in
    let place : (16 * k + (8 + n)) % 8 * 16 + (16 * k + (8 + n)) / 8 ≡ 16 * n + (2 * k + 1) = omega arith in
    let column : (2 * k + 1) / 2 ≡ k = omega arith in
    let odd : (2 * k + 1) % 2 ≡ 1 = omega arith in
    c.turned.ensures (16 * k + (8 + n)) (omega arith) ∙ ap (slice_index c.read_in_turn.result) place ∙ c.read_in_turn.ensures n i (2 * k + 1) (omega arith)
    ∙ sym (at_second _ _ (2 * k + 1) odd) ∙ ap (λ z. at a.b.now (a.x + z) (a.z + n)) column
