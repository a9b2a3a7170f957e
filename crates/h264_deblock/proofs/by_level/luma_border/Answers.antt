use Rattle.std.proofs.Common.{refl}
use Rattle.h264_deblock.specs.Level.{names}
use Rattle.h264_deblock.proofs.Macroblocks.{or_none, or_some}
use Rattle.h264_deblock.proofs.Numbers.{zero-edge}
use Rattle.h264_deblock.proofs.by_level.luma_border.Goals as goal

pub returns-in_default : goal.returns-in_default
returns-in_default g c = rw c.in_default.is (or_none _ _ _ _ _)

pub returns-then-is_zero : goal.returns-then-is_zero
returns-then-is_zero g c =
    let before = c.requires.before (rw c.in-Some.is refl) in
    rw c.in-Some.is (or_some _ _ _ _ _ _ _ (zero-edge _ _ c.args.plane.now _ c.args.along c.args.across c.in-Some.border.strengths before
    (c.is_zero.ensures c.if-is_zero.true) refl))

pub edge-requires-clause-before : goal.edge-requires-clause-before
edge-requires-clause-before g c = c.requires.before (rw c.in-Some.is refl)

pub edge-requires-clause-word : goal.edge-requires-clause-word
edge-requires-clause-word g c = c.requires.word _ c.in-Some.is

pub returns : goal.returns
returns g c = rw c.in-Some.is (or_some _ _ _ _ _ _ _ (c.edge.ensures _ (c.level_beside-level.ensures.here (names c.in-Some.border.strengths)) refl))
