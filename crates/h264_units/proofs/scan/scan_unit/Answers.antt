use Rattle.std.proofs.Common.{arith, refl, subst}
use Rattle.h264_units.specs.declared.scan.Phase.TheVariants.{Inside}
use Rattle.h264_units.specs.Scanned.{Scans}
use Rattle.h264_units.proofs.Scans.{scans-end, scans-zero, scans-others}
use Rattle.h264_units.proofs.scan.scan_unit.Goals as goal
use Rattle.h264_units.proofs.scan.scan_unit.Goals.{else-byte-lt2-via-then-byte-lt2+else-zeros-eq2, else-byte-lt2-via-else-byte-lt2}

pub returns-then-zeros-eq2-clause-scans : goal.returns-then-zeros-eq2-clause-scans
returns-then-zeros-eq2-clause-scans c =
    scans-end c.args.held c.args.piece.now c.loop-i.i _ c.loop-i-test.true refl
    (subst (λ z. Scans c.args.held c.args.piece.now c.loop-i.i (Inside z)) c.if-zeros-eq2.true c.loop-i.invariant) c.if-byte-lt2.true

pub loop-i-preserved-then-byte-eq0 : goal.loop-i-preserved-then-byte-eq0
loop-i-preserved-then-byte-eq0 c =
    scans-zero c.args.held c.args.piece.now c.loop-i.i _ c.loop-i-test.true refl c.loop-i.zeros c.loop-i.invariant c.if-byte-eq0.true
    (elim c.else-byte-lt2.branch [ else-byte-lt2-via-then-byte-lt2+else-zeros-eq2 w ↦ omega arith | else-byte-lt2-via-else-byte-lt2 w ↦ omega arith ])

pub loop-i-preserved : goal.loop-i-preserved
loop-i-preserved c =
    scans-others c.args.held c.args.piece.now c.loop-i.i _ c.loop-i-test.true refl c.loop-i.zeros c.inner_run-i.result c.loop-i.invariant c.if-byte-eq0.false
    (λ low. elim c.else-byte-lt2.branch [
      | else-byte-lt2-via-then-byte-lt2+else-zeros-eq2 w ↦ w.if-zeros-eq2.false
      | else-byte-lt2-via-else-byte-lt2 w ↦ absurd
          (omega arith)
    ])
    c.inner_run-i.ensures.within c.inner_run-i.ensures.inner
