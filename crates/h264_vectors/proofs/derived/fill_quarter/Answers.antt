use Rattle.std.proofs.Common.{rules, refl, sym, ◌∙◌}
use Rattle.h264_vectors.proofs.Quarters.{none-filled, one-filled}
use Rattle.h264_vectors.proofs.derived.fill_quarter.Goals as goal

pub returns-then-not-lies : goal.returns-then-not-lies
returns-then-not-lies c =
    let x = sym c.lies.ensures ∙ c.if-not-lies.true in
    none-filled c.args.motions.now c.args.part c.args.q c.args.motion c.requires.whole (rw x refl)

pub returns-then-not-lies-2 : goal.returns-then-not-lies-2
returns-then-not-lies-2 c =
    let x = sym c.lies.ensures ∙ c.if-not-lies.false in
    let y = sym c.lies-2.ensures ∙ c.if-not-lies-2.true in
    none-filled c.args.motions.now c.args.part c.args.q c.args.motion c.requires.whole (rw (x, y) refl)

pub returns : goal.returns
returns c =
    let x = sym c.lies.ensures ∙ c.if-not-lies.false in
    let y = sym c.lies-2.ensures ∙ c.if-not-lies-2.false in
    one-filled c.args.motions.now c.args.part c.args.q c.args.motion (search rules) c.requires.quarter c.requires.whole (rw (x, y) refl)
