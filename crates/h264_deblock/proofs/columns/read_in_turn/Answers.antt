use Rattle.std.proofs.Common.{◌≡◌, ℕ, ◌+◌, ◌*◌, ◌/◌, ◌<◌, slice_index, arith, ◌∙◌, ⊎_elim}
use Rattle.std.proofs.lemmas.Bool.{cases_eq}
use Rattle.h264_plane.specs.Samples.{at}
use Rattle.h264_deblock.specs.Rows.{in_turn}
use Rattle.h264_deblock.proofs.InBlocks.{row_inside}
use Rattle.h264_deblock.proofs.columns.read_in_turn.Goals as goal

pub pair_in_turn-pair-requires-clause-first : goal.pair_in_turn-pair-requires-clause-first
pair_in_turn-pair-requires-clause-first c =
    let a = c.args in
    let t = c.loop-v-test.true in
    let rows = c.requires.a_rows in
    let inside = row_inside a.a.now.width a.a.now.height a.y c.loop-v.v a.x 8 (omega arith) c.requires.a_columns in
    let place = c.loop-v.invariant.first in
    let whole = c.samples-first.ensures.whole in
    omega arith

pub pair_in_turn-pair-requires-clause-second : goal.pair_in_turn-pair-requires-clause-second
pair_in_turn-pair-requires-clause-second c =
    let a = c.args in
    let t = c.loop-v-test.true in
    let rows = c.requires.b_rows in
    let inside = row_inside a.b.now.width a.b.now.height a.z c.loop-v.v a.x 8 (omega arith) c.requires.b_columns in
    let place = c.loop-v.invariant.second in
    let whole = c.samples-second.ensures.whole in
    omega arith

pub loop-v-preserved : goal.loop-v-preserved
loop-v-preserved c =
    let a = c.args in
    let v = c.loop-v.v in
    let here : (u : ℕ) → u < 16 → slice_index c.pair_in_turn-pair.result u ≡
    in_turn (at a.a.now (a.x + u / 2) (a.y + v)) (at a.b.now (a.x + u / 2) (a.z + v)) u = (λ u s.
    let first : c.loop-v.i + u / 2 ≡ (a.y + v) * a.a.now.width + (a.x + u / 2) = (let e = c.loop-v.invariant.first in omega arith) in
    let second : c.loop-v.j + u / 2 ≡ (a.z + v) * a.b.now.width + (a.x + u / 2) = (let e = c.loop-v.invariant.second in omega arith) in
    rw (← first, ← second, ← c.samples-first.ensures.same, ← c.samples-second.ensures.same) (c.pair_in_turn-pair.ensures u s)) in
    record {
      size = c.put_sixteen.array_long;
      first = (let e = c.loop-v.invariant.first in let w = c.width-i.ensures.value in grind arith);
      second = (let e = c.loop-v.invariant.second in let w = c.width-j.ensures.value in grind arith);
      above = λ b below u s. ⊎_elim
          (λ (same : b ≡ v). rw same (c.put_sixteen.ensures.put u s ∙ here u s))
          (λ other. c.put_sixteen.ensures.kept (16 * b + u) (omega arith) ∙ c.loop-v.invariant.above b (omega arith) u s)
          (cases_eq b v);
    }
