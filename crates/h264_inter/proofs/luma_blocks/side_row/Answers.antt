use Rattle.std.proofs.Common.{◌≡◌, ◌≢◌, ℕ, ◌+◌, ◌<◌, get_or, arith, ap, ◌∙◌}
use Rattle.h264_plane.specs.Samples.{at}
use Rattle.h264_inter.specs.Luma.{across, down, half, mean}
use Rattle.h264_inter.proofs.Moved.{partner_left, partner_right, place_d, place_h, place_n, place_e_or_g, place_p, place_r}
use Rattle.h264_inter.proofs.luma_blocks.side_row.Goals as goal

pub returns-then-this-eq1-2 : goal.returns-then-this-eq1-2
unfolding down
returns-then-this-eq1-2 g c k q =
    let a = c.args in
    let w = λ (i j : ℕ). at a.p.now (a.x + k + i) (a.y + j) in
    let two = c.requires.column ∙ partner_left g.row.X (omega arith) in
    let inside : k < 16 = omega (arith, q, c.requires.size) in
    place_d g.row.X g.row.Y (get_or c.down_row-h.result k 0) _ w c.if-this-eq0-3.true c.if-this-eq1-2.true
    (c.mean16-then-this-eq1-2.ensures k inside ∙ ap (λ n. mean n (get_or c.down_row-h.result k 0)) (c.samples_row-then-this-eq1-2.ensures k q))
    (c.down_row-h.ensures a.p.now a.x a.c a.y c.requires.windows k q ∙ ap (λ n. half (down w n)) two)

pub returns-then-this-eq2-2 : goal.returns-then-this-eq2-2
unfolding down
returns-then-this-eq2-2 g c k q =
    let a = c.args in
    let w = λ (i j : ℕ). at a.p.now (a.x + k + i) (a.y + j) in
    let two = c.requires.column ∙ partner_left g.row.X (omega arith) in
    let inside : k < 16 = omega (arith, q, c.requires.size) in
    place_h g.row.X g.row.Y _ w c.if-this-eq0-3.true c.if-this-eq2-2.true
    (c.down_row-h.ensures a.p.now a.x a.c a.y c.requires.windows k q ∙ ap (λ n. half (down w n)) two)

pub returns-else-this-eq2-2 : goal.returns-else-this-eq2-2
unfolding down
returns-else-this-eq2-2 g c k q =
    let a = c.args in
    let w = λ (i j : ℕ). at a.p.now (a.x + k + i) (a.y + j) in
    let two = c.requires.column ∙ partner_left g.row.X (omega arith) in
    let three : g.row.Y ≡ 3 = omega arith in
    let inside : k < 16 = omega (arith, q, c.requires.size) in
    place_n g.row.X g.row.Y (get_or c.down_row-h.result k 0) _ w c.if-this-eq0-3.true three
    (c.mean16-else-this-eq2-2.ensures k inside ∙ ap (λ n. mean n (get_or c.down_row-h.result k 0)) (c.samples_row-else-this-eq2-2.ensures k q))
    (c.down_row-h.ensures a.p.now a.x a.c a.y c.requires.windows k q ∙ ap (λ n. half (down w n)) two)

pub returns-then-this-eq1-3 : goal.returns-then-this-eq1-3
unfolding across down
returns-then-this-eq1-3 g c k q =
    let a = c.args in
    let not_2 : g.row.X ≢ 2 = grind arith in
    let inside : k < 16 = omega (arith, q, c.requires.size) in
    place_e_or_g g.row.X g.row.Y a.c _ _ _ (λ i j. at a.p.now (a.x + k + i) (a.y + j)) c.requires.parts.0 c.if-this-eq0-3.false not_2 c.if-this-eq1-3.true
    c.requires.column (c.mean16-then-this-eq1-3.ensures k inside) (c.across_row.ensures k q)
    (c.down_row-h.ensures a.p.now a.x a.c a.y c.requires.windows k q)

pub returns-then-this-eq1-4 : goal.returns-then-this-eq1-4
unfolding across down
returns-then-this-eq1-4 g c k q =
    let a = c.args in
    let w = λ (i j : ℕ). at a.p.now (a.x + k + i) (a.y + j) in
    let two = c.requires.column ∙ partner_left g.row.X (omega arith) in
    let three : g.row.Y ≡ 3 = grind arith in
    let inside : k < 16 = omega (arith, q, c.requires.size) in
    place_p g.row.X g.row.Y _ _ _ w c.if-this-eq1-4.true three (c.mean16-then-this-eq1-4.ensures k inside)
    (c.down_row-h.ensures a.p.now a.x a.c a.y c.requires.windows k q ∙ ap (λ n. half (down w n)) two)
    (c.across_row-s.ensures k q)

pub returns-else-this-eq1-4 : goal.returns-else-this-eq1-4
unfolding across down
returns-else-this-eq1-4 g c k q =
    let a = c.args in
    let w = λ (i j : ℕ). at a.p.now (a.x + k + i) (a.y + j) in
    let x : g.row.X ≡ 3 = grind arith in
    let y : g.row.Y ≡ 3 = grind arith in
    let inside : k < 16 = omega (arith, q, c.requires.size) in
    place_r g.row.X g.row.Y _ _ _ w x y (c.mean16-else-this-eq1-4.ensures k inside) (c.across_row-s.ensures k q)
    (c.down_row-h.ensures a.p.now a.x a.c a.y c.requires.windows k q ∙ ap (λ n. half (down w n)) (c.requires.column ∙ partner_right g.row.X x))
