use Rattle.std.proofs.Common.{◌≡◌, ◌+◌, ◌<◌, length, slice_index, get_or, pos, ◌+ℤ◌, drop, arith, rules, ap, ◌∙◌, get_or-take, get_or-drop, length-drop}
use Rattle.std.proofs.Common.{length-take-le}
use Rattle.h264_plane.specs.Clip.{clip1}
use Rattle.h264_recon.proofs.Rows.{handed_on, handed_small}
use Rattle.h264_recon.proofs.sum.add_rows.Goals as goal

pub constructed-requires : goal.constructed-requires
constructed-requires c = record { small = λ k p. rw (handed_small c.args.residual.now k c.requires.eight p (c.requires.small k p)) (c.requires.small k p) }

pub returns-clause-first : goal.returns-clause-first
returns-clause-first c i p =
    let a = c.args in
    let r = a.residual.now in
    let rows = c.constructed.result in
    let k : i < 8 = omega (arith, p) in
    let long : length rows ≡ 8 = search rules in
    c.put_run-2.ensures.before (a.first + i) (omega (arith, c.requires.apart, p))
    ∙ c.put_run.ensures.here i (omega (arith, length-take-le 4 rows (omega (arith, long)), p))
    ∙ get_or-take 4 rows i 0 p
    ∙ c.constructed.ensures i k
    ∙ ap (λ z. clip1 (pos z +ℤ get_or (handed_on r) i (pos 0))) (c.beside-rows.ensures.first i p ∙ c.four.ensures i p)
    ∙ ap (λ z. clip1 (pos (slice_index a.samples.now (a.first + i)) +ℤ z)) (handed_small r i c.requires.eight k (c.requires.small i k))

pub returns-clause-second : goal.returns-clause-second
returns-clause-second c i p =
    let a = c.args in
    let r = a.residual.now in
    let rows = c.constructed.result in
    let k : 4 + i < 8 = omega (arith, p) in
    let long : length rows ≡ 8 = search rules in
    let rest : length (drop 4 rows) ≡ 4 = omega (arith, length-drop 4 rows, long) in
    c.put_run-2.ensures.here i (omega (arith, length-take-le 4 (drop 4 rows) (omega (arith, rest)), p))
    ∙ get_or-take 4 (drop 4 rows) i 0 p
    ∙ get_or-drop 4 rows i 0
    ∙ c.constructed.ensures (4 + i) k
    ∙ ap (λ z. clip1 (pos z +ℤ get_or (handed_on r) (4 + i) (pos 0))) (c.beside-rows.ensures.second i p ∙ c.four-2.ensures i p)
    ∙ ap (λ z. clip1 (pos (slice_index a.samples.now (a.second + i)) +ℤ z)) (handed_small r (4 + i) c.requires.eight k (c.requires.small (4 + i) k))
