use Rattle.std.proofs.Common.{◌≡◌, ℕ, ◌+◌, List, get_or, pos, slice_index, arith, ap, ◌∙◌}
use Rattle.h264_plane.specs.Samples.{at}
use Rattle.h264_inter.specs.Luma.{across, down, half, six}
use Rattle.h264_inter.proofs.Places.{place_i, place_k, place_f, place_j, place_q}
use Rattle.h264_inter.proofs.Strips.{lower}
use Rattle.h264_inter.proofs.Moved.{partner_left, partner_right}
use Rattle.h264_inter.proofs.luma_blocks.middle8.Goals as goal

pub returns-then-this-eq1 : goal.returns-then-this-eq1
unfolding down
returns-then-this-eq1 g c p x d y column across samples k q =
    let w = λ (i j : ℕ). at p (x + k + i) (y + j) in
    let two : g.row.Y ≡ 2 = grind arith in
    ap (λ (l : List ℕ). slice_index l k) c.bytes.ensures
    ∙ place_i g.row.X g.row.Y _ _ _ w c.if-this-eq1.true two (c.mean8.ensures.each k q)
    (c.h8.ensures.each p x d y samples k q ∙ ap (λ n. half (down w n)) (column ∙ partner_left g.row.X (omega arith)))
    (c.j8-j.ensures.each p x d y across k q)

pub returns-then-this-eq3 : goal.returns-then-this-eq3
unfolding down
returns-then-this-eq3 g c p x d y column across samples k q =
    let w = λ (i j : ℕ). at p (x + k + i) (y + j) in
    let two : g.row.Y ≡ 2 = grind arith in
    ap (λ (l : List ℕ). slice_index l k) c.bytes-then-this-eq3.ensures
    ∙ place_k g.row.X g.row.Y _ _ _ w c.if-this-eq3.true two (c.mean8-then-this-eq3.ensures.each k q)
    (c.h8-then-this-eq3.ensures.each p x d y samples k q ∙ ap (λ n. half (down w n)) (column ∙ partner_right g.row.X c.if-this-eq3.true))
    (c.j8-j.ensures.each p x d y across k q)

pub returns-then-this-eq1-2 : goal.returns-then-this-eq1-2
unfolding across
returns-then-this-eq1-2 g c p x d y column rows samples k q =
    let w = λ (i j : ℕ). at p (x + k + i) (y + j) in
    let two : g.row.X ≡ 2 = grind arith in
    ap (λ (l : List ℕ). slice_index l k) c.bytes-then-this-eq1-2.ensures
    ∙ place_f g.row.X g.row.Y _ _ _ w two c.if-this-eq1-2.true (c.mean8-then-this-eq1-2.ensures.each k q)
    (c.half8.ensures.each k q ∙ ap half (lower (get_or c.args.across.g k 0) (six (λ i. pos (w i 2))) (rows.g.each k q)))
    (c.j8-j.ensures.each p x d y rows k q)

pub returns-then-this-eq2 : goal.returns-then-this-eq2
returns-then-this-eq2 g c p x d y column rows samples k q =
    let two : g.row.X ≡ 2 = grind arith in
    ap (λ (l : List ℕ). slice_index l k) c.bytes-then-this-eq2.ensures
    ∙ place_j g.row.X g.row.Y _ (λ i j. at p (x + k + i) (y + j)) two c.if-this-eq2.true (c.j8-j.ensures.each p x d y rows k q)

pub returns-else-this-eq2 : goal.returns-else-this-eq2
unfolding across
returns-else-this-eq2 g c p x d y column rows samples k q =
    let w = λ (i j : ℕ). at p (x + k + i) (y + j) in
    let two : g.row.X ≡ 2 = grind arith in
    let three : g.row.Y ≡ 3 = grind arith in
    ap (λ (l : List ℕ). slice_index l k) c.bytes-else-this-eq2.ensures
    ∙ place_q g.row.X g.row.Y _ _ _ w two three (c.mean8-else-this-eq2.ensures.each k q)
    (c.half8-else-this-eq2.ensures.each k q ∙ ap half (lower (get_or c.args.across.h k 0) (six (λ i. pos (w i 3))) (rows.h.each k q)))
    (c.j8-j.ensures.each p x d y rows k q)
