use Rattle.std.proofs.Common.{refl, arith}
use Rattle.h264_deblock.specs.Marks.{luma_by, chroma_by}
use Rattle.h264_deblock.proofs.Macroblocks.{eight_edges, four_edges}
use Rattle.h264_deblock.proofs.Marked.{luma-inside, chroma-inside, word-at, edge-at}
use Rattle.h264_deblock.proofs.by_level.by_turns.Goals as goal

pub luma_border-requires-clause-before : goal.luma_border-requires-clause-before
luma_border-requires-clause-before c h = let i = c.requires.marks.columns h in omega (arith, i)

pub luma_border-requires-clause-word : goal.luma_border-requires-clause-word
luma_border-requires-clause-word c = c.requires.marks.left

pub luma_border-requires-2-clause-before : goal.luma_border-requires-2-clause-before
luma_border-requires-2-clause-before c h = let i = c.requires.marks.rows h in omega (arith, i)

pub luma_border-requires-2-clause-word : goal.luma_border-requires-2-clause-word
luma_border-requires-2-clause-word c = c.requires.marks.above

pub luma_inner-requires-clause-word : goal.luma_inner-requires-clause-word
luma_inner-requires-clause-word c = word-at c.args.marks.now.inner.vertical 0 _ c.requires.marks.vertical (omega arith) (omega arith)

pub luma_inner-requires-2-clause-word : goal.luma_inner-requires-2-clause-word
luma_inner-requires-2-clause-word c = word-at c.args.marks.now.inner.vertical 1 _ c.requires.marks.vertical (omega arith) (omega arith)

pub luma_inner-requires-3-clause-word : goal.luma_inner-requires-3-clause-word
luma_inner-requires-3-clause-word c = word-at c.args.marks.now.inner.vertical 2 _ c.requires.marks.vertical (omega arith) (omega arith)

pub luma_inner-requires-4-clause-word : goal.luma_inner-requires-4-clause-word
luma_inner-requires-4-clause-word c = word-at c.args.marks.now.inner.horizontal 0 _ c.requires.marks.horizontal (omega arith) (omega arith)

pub luma_inner-requires-5-clause-word : goal.luma_inner-requires-5-clause-word
luma_inner-requires-5-clause-word c = word-at c.args.marks.now.inner.horizontal 1 _ c.requires.marks.horizontal (omega arith) (omega arith)

pub luma_inner-requires-6-clause-word : goal.luma_inner-requires-6-clause-word
luma_inner-requires-6-clause-word c = word-at c.args.marks.now.inner.horizontal 2 _ c.requires.marks.horizontal (omega arith) (omega arith)

pub returns-clause-y : goal.returns-clause-y
returns-clause-y c =
    let a = c.args in
    eight_edges (luma_by a.of_luma.now.qp a.of_luma.now.filter.now a.marks.now) a.column a.row a.frame.now.y c.luma_border.new.plane c.luma_inner.new.plane
    c.luma_inner-2.new.plane c.luma_inner-3.new.plane
    c.luma_border-2.new.plane c.luma_inner-4.new.plane c.luma_inner-5.new.plane c.luma_inner-6.new.plane _ _ _ _ _ _ _ _
    c.requires.y.0 c.requires.y.1 (luma-inside a.marks.now a.column a.row a.of_luma.now.qp a.of_luma.now.filter.now c.requires.marks)
    refl (edge-at a.of_luma.now.qp a.of_luma.now.filter.now a.marks.now.inner.vertical 0 _ (omega arith) (omega arith))
    (edge-at a.of_luma.now.qp a.of_luma.now.filter.now a.marks.now.inner.vertical 1 _ (omega arith) (omega arith))
    (edge-at a.of_luma.now.qp a.of_luma.now.filter.now a.marks.now.inner.vertical 2 _ (omega arith) (omega arith))
    refl (edge-at a.of_luma.now.qp a.of_luma.now.filter.now a.marks.now.inner.horizontal 0 _ (omega arith) (omega arith))
    (edge-at a.of_luma.now.qp a.of_luma.now.filter.now a.marks.now.inner.horizontal 1 _ (omega arith) (omega arith))
    (edge-at a.of_luma.now.qp a.of_luma.now.filter.now a.marks.now.inner.horizontal 2 _ (omega arith) (omega arith))
    c.luma_border.ensures c.luma_inner.ensures c.luma_inner-2.ensures c.luma_inner-3.ensures c.luma_border-2.ensures c.luma_inner-4.ensures
    c.luma_inner-5.ensures c.luma_inner-6.ensures

pub pair_border-requires-clause-before : goal.pair_border-requires-clause-before
pair_border-requires-clause-before c h = let i = c.requires.marks.columns h in omega (arith, i)

pub pair_border-requires-clause-word : goal.pair_border-requires-clause-word
pair_border-requires-clause-word c = c.requires.marks.left

pub pair_border-requires-2-clause-before : goal.pair_border-requires-2-clause-before
pair_border-requires-2-clause-before c h = let i = c.requires.marks.rows h in omega (arith, i)

pub pair_border-requires-2-clause-word : goal.pair_border-requires-2-clause-word
pair_border-requires-2-clause-word c = c.requires.marks.above

pub pair_inner-requires-clause-word : goal.pair_inner-requires-clause-word
pair_inner-requires-clause-word c = word-at c.args.marks.now.inner.vertical 1 _ c.requires.marks.vertical (omega arith) (omega arith)

pub pair_inner-requires-2-clause-word : goal.pair_inner-requires-2-clause-word
pair_inner-requires-2-clause-word c = word-at c.args.marks.now.inner.horizontal 1 _ c.requires.marks.horizontal (omega arith) (omega arith)

pub returns-clause-cb : goal.returns-clause-cb
returns-clause-cb c =
    let a = c.args in
    four_edges (chroma_by a.of_chroma.now.qp a.of_chroma.now.filter.now a.marks.now) a.column a.row a.frame.now.cb c.pair_border.new.cb c.pair_inner.new.cb
    c.pair_border-2.new.cb c.pair_inner-2.new.cb _ _ _ _
    c.requires.cb.0 c.requires.cb.1 (chroma-inside a.marks.now a.column a.row a.of_chroma.now.qp a.of_chroma.now.filter.now c.requires.marks)
    refl (edge-at a.of_chroma.now.qp a.of_chroma.now.filter.now a.marks.now.inner.vertical 1 _ (omega arith) (omega arith))
    refl (edge-at a.of_chroma.now.qp a.of_chroma.now.filter.now a.marks.now.inner.horizontal 1 _ (omega arith) (omega arith))
    c.pair_border.ensures.cb c.pair_inner.ensures.cb c.pair_border-2.ensures.cb c.pair_inner-2.ensures.cb

pub returns-clause-cr : goal.returns-clause-cr
returns-clause-cr c =
    let a = c.args in
    four_edges (chroma_by a.of_chroma.now.qp a.of_chroma.now.filter.now a.marks.now) a.column a.row a.frame.now.cr c.pair_border.new.cr c.pair_inner.new.cr
    c.pair_border-2.new.cr c.pair_inner-2.new.cr _ _ _ _
    c.requires.cr.0 c.requires.cr.1 (chroma-inside a.marks.now a.column a.row a.of_chroma.now.qp a.of_chroma.now.filter.now c.requires.marks)
    refl (edge-at a.of_chroma.now.qp a.of_chroma.now.filter.now a.marks.now.inner.vertical 1 _ (omega arith) (omega arith))
    refl (edge-at a.of_chroma.now.qp a.of_chroma.now.filter.now a.marks.now.inner.horizontal 1 _ (omega arith) (omega arith))
    c.pair_border.ensures.cr c.pair_inner.ensures.cr c.pair_border-2.ensures.cr c.pair_inner-2.ensures.cr
