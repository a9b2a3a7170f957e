use Rattle.std.proofs.Common.{arith, ◌∙◌, sym, ap}
use Rattle.std.proofs.lemmas.Bool.{false≢true}
use Rattle.h264_units.specs.Scanned.{zeros_gained}
use Rattle.h264_units.proofs.Plans.{long-refused, bare-refused, plans-inside, length-longer}
use Rattle.h264_units.proofs.plan.plan_inside.Goals as goal
use Rattle.h264_units.proofs.plan.plan_inside.Goals.{else-length-eq0-via-then-length-eq0+else-waits, else-length-eq0-via-else-length-eq0}

pub returns-then-length-gt-UNIT_LIMIT-clause-err : goal.returns-then-length-gt-UNIT_LIMIT-clause-err
returns-then-length-gt-UNIT_LIMIT-clause-err c =
    let s = c.scan_unit-taken.ensures.scans in
    let l = length-longer c.args.at c.args.held c.args.lead c.args.body.now c.args.piece.now _ _ s in
    let k = c.kept-kept.ensures in
    let z = c.gained-zeros.ensures ∙ ap (zeros_gained c.args.held) k in
    long-refused c.args.at c.args.held c.args.lead c.args.body.now c.args.piece.now _ _ s c.requires.sound.1 (omega (arith, l, k, z)) c.requires.fits

pub returns-then-waits-clause-err : goal.returns-then-waits-clause-err
returns-then-waits-clause-err c =
    let s = c.scan_unit-taken.ensures.scans in
    let l = length-longer c.args.at c.args.held c.args.lead c.args.body.now c.args.piece.now _ _ s in
    let k = c.kept-kept.ensures in
    let z = c.gained-zeros.ensures ∙ ap (zeros_gained c.args.held) k in
    bare-refused c.args.at c.args.held c.args.lead c.args.body.now c.args.piece.now _ _ s (sym c.if-waits.ensures) (omega (arith, l, k, z)) c.requires.fits

pub returns-clause-ok : goal.returns-clause-ok
returns-clause-ok c =
    plans-inside c.args.at c.args.held c.args.lead c.args.body.now c.args.piece.now _ _ c.scan_unit-taken.ensures.scans _ _
    c.kept-kept.ensures c.gained-zeros.ensures c.requires.sound.1 c.requires.sound.0 (omega arith)
    (λ w none. elim c.else-length-eq0.branch [
      | else-length-eq0-via-then-length-eq0+else-waits b ↦ false≢true (b.if-waits.ensures ∙ w)
      | else-length-eq0-via-else-length-eq0 b ↦ b.if-length-eq0.false (omega (arith, none, c.from.ensures))
    ])
    c.scan_unit-taken.ensures.all c.scan_unit-taken.ensures.some
