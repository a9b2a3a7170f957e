use Rattle.std.proofs.Common.{◌≡◌, ◌+◌, ◌*◌, ◌<◌, ℕ, ℤ, List, slice_index, get_or, pos, ◌+ℤ◌, arith, ap, ◌∙◌}
use Rattle.h264_plane.specs.Clip.{clip1}
use Rattle.h264_recon.proofs.Rows.{part_at, rows_added}
use Rattle.h264_recon.proofs.sum.add_block.Goals as goal

pub add_rows-requires-clause-small : goal.add_rows-requires-clause-small
add_rows-requires-clause-small c k p =
    let r = c.args.residual.now in
    rw (part_at 0 8 r k (pos 0) p) (c.requires.small.each (0 + k) (omega (arith, c.told-residual, p)))

pub add_rows-requires-2-clause-small : goal.add_rows-requires-2-clause-small
add_rows-requires-2-clause-small c k p =
    let r = c.args.residual.now in
    rw (part_at 8 8 r k (pos 0) p) (c.requires.small.each (8 + k) (omega (arith, c.told-residual, p)))

pub returns-clause-here : goal.returns-clause-here
returns-clause-here c i j p q =
    let a = c.args in
    let r = a.residual.now in
    let old = a.samples.now in
    let own = c.add_rows.new.samples in
    let first = c.add_rows.ensures in
    let second = c.add_rows-2.ensures in
    let more = λ (start m n : ℕ) (k : m < 8) (e : start + m ≡ n). part_at start 8 r m (pos 0) k ∙ ap (λ z. get_or r z (pos 0)) e in
    let at = λ (l : List ℕ) (k : ℕ) (y z : ℤ) (e : y ≡ z). ap (λ v. clip1 (pos (slice_index l k) +ℤ v)) e in
    rows_added a.place a.across old own c.add_rows-2.new.samples r c.requires.wide
    (λ m l. first.first m l ∙ at old (a.place + m) _ _ (more 0 m m (omega (arith, l)) (omega arith)))
    (λ m l. first.second m l ∙ at old (a.place + a.across + m) _ _ (more 0 (4 + m) (4 + m) (omega (arith, l)) (omega arith)))
    first.kept
    (λ m l. second.first m l ∙ at own (a.place + 2 * a.across + m) _ _ (more 8 m (8 + m) (omega (arith, l)) (omega arith)))
    (λ m l. second.second m l ∙ at own (a.place + 3 * a.across + m) _ _ (more 8 (4 + m) (12 + m) (omega (arith, l)) (omega arith)))
    second.kept i j p q
