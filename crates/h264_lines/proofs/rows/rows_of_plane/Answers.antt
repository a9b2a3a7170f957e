use Rattle.std.proofs.Common.{◌+◌, ◌*◌, length, take, drop, refl, ap, ap₂, ◌∙◌, arith}
use Rattle.std.proofs.lemmas.Nat.{mul-le}
use Rattle.h264_lines.proofs.PlaneRows.{rows_of_samples}
use Rattle.h264_lines.proofs.rows.rows_of_plane.Goals as goal

pub run_of-requires : goal.run_of-requires
run_of-requires c =
    let p = c.args.plane.now in
    let most = mul-le (c.args.top + c.args.n) p.width p.height p.width c.requires (omega arith) in
    let width = c.width-width.ensures.value in
    let whole = c.samples.ensures.whole in
    rw width (omega (arith, most, whole))

pub returns : goal.returns
returns c =
    let p = c.args.plane.now in
    let most = mul-le (c.args.top + c.args.n) p.width p.height p.width c.requires (omega arith) in
    let whole = c.samples.ensures.whole in
    let same = ap length c.samples.ensures.same in
    c.run_of.ensures ∙ ap₂ (λ l w. take (c.args.n * w) (drop (c.args.top * w) l)) c.samples.ensures.same c.width-width.ensures.value
    ∙ rows_of_samples p c.args.top c.args.n (c.args.n * p.width) refl (omega (arith, most, whole, same))
