use Rattle.std.proofs.Common.{refl}
use Rattle.h264_deblock.specs.Level.{names}
use Rattle.h264_deblock.proofs.Macroblocks.{or_none, or_some}
use Rattle.h264_deblock.proofs.Numbers.{zero-edge}
use Rattle.h264_deblock.proofs.by_level.pair_border.Goals as goal

pub returns-in_default-clause-cb : goal.returns-in_default-clause-cb
returns-in_default-clause-cb g c = rw c.in_default.is (or_none _ _ _ _ _)

pub returns-in_default-clause-cr : goal.returns-in_default-clause-cr
returns-in_default-clause-cr g c = rw c.in_default.is (or_none _ _ _ _ _)

pub returns-then-is_zero-clause-cb : goal.returns-then-is_zero-clause-cb
returns-then-is_zero-clause-cb g c =
    let before = c.requires.before (rw c.in-Some.is refl) in
    rw c.in-Some.is (or_some _ _ _ _ _ _ _ (zero-edge _ _ c.args.cb.now _ c.args.along c.args.across c.in-Some.border.strengths before
    (c.is_zero.ensures c.if-is_zero.true) refl))

pub returns-then-is_zero-clause-cr : goal.returns-then-is_zero-clause-cr
returns-then-is_zero-clause-cr g c =
    let before = c.requires.before (rw c.in-Some.is refl) in
    rw c.in-Some.is (or_some _ _ _ _ _ _ _ (zero-edge _ _ c.args.cr.now _ c.args.along c.args.across c.in-Some.border.strengths before
    (c.is_zero.ensures c.if-is_zero.true) refl))

pub edge_pair-requires-clause-before : goal.edge_pair-requires-clause-before
edge_pair-requires-clause-before g c = c.requires.before (rw c.in-Some.is refl)

pub edge_pair-requires-clause-word : goal.edge_pair-requires-clause-word
edge_pair-requires-clause-word g c = c.requires.word _ c.in-Some.is

pub returns-clause-cb : goal.returns-clause-cb
returns-clause-cb g c = rw c.in-Some.is (or_some _ _ _ _ _ _ _
    (c.edge_pair.ensures.cb _ (c.level_beside-level.ensures.here (names c.in-Some.border.strengths)) refl))

pub returns-clause-cr : goal.returns-clause-cr
returns-clause-cr g c = rw c.in-Some.is (or_some _ _ _ _ _ _ _
    (c.edge_pair.ensures.cr _ (c.level_beside-level.ensures.here (names c.in-Some.border.strengths)) refl))
