use Rattle.std.proofs.Common.{◌+◌, ◌*◌, true, false, refl, arith}
use Rattle.h264_deblock.specs.Marks.{luma_by, chroma_by}
use Rattle.h264_deblock.proofs.Macroblocks.{eight_edges, four_edges}
use Rattle.h264_deblock.proofs.Marked.{luma-inside, chroma-inside, still-edge}
use Rattle.h264_deblock.proofs.by_level.borders_by_turns.Goals as goal

pub luma_border-requires-clause-before : goal.luma_border-requires-clause-before
luma_border-requires-clause-before c h = let i = c.requires.marks.columns h in omega (arith, i)

pub luma_border-requires-clause-word : goal.luma_border-requires-clause-word
luma_border-requires-clause-word c = c.requires.marks.left

pub luma_border-requires-2-clause-before : goal.luma_border-requires-2-clause-before
luma_border-requires-2-clause-before c h = let i = c.requires.marks.rows h in omega (arith, i)

pub luma_border-requires-2-clause-word : goal.luma_border-requires-2-clause-word
luma_border-requires-2-clause-word c = c.requires.marks.above

pub pair_border-requires-clause-before : goal.pair_border-requires-clause-before
pair_border-requires-clause-before c h = let i = c.requires.marks.columns h in omega (arith, i)

pub pair_border-requires-clause-word : goal.pair_border-requires-clause-word
pair_border-requires-clause-word c = c.requires.marks.left

pub pair_border-requires-2-clause-before : goal.pair_border-requires-2-clause-before
pair_border-requires-2-clause-before c h = let i = c.requires.marks.rows h in omega (arith, i)

pub pair_border-requires-2-clause-word : goal.pair_border-requires-2-clause-word
pair_border-requires-2-clause-word c = c.requires.marks.above

pub returns-clause-y : goal.returns-clause-y
returns-clause-y c =
    let a = c.args in
    let qp = a.of_luma.now.qp in
    let f = a.of_luma.now.filter.now in
    let left = c.luma_border.new.plane in
    let above = c.luma_border-2.new.plane in
    let v = c.requires.still.vertical in
    let h = c.requires.still.horizontal in
    let x = 16 * a.column in
    let y = 16 * a.row in
    eight_edges (luma_by qp f a.marks.now) a.column a.row a.frame.now.y left left left left above above above above _ _ _ _ _ _ _ _
    c.requires.y.0 c.requires.y.1 (luma-inside a.marks.now a.column a.row qp f c.requires.marks)
    refl refl refl refl refl refl refl refl
    c.luma_border.ensures (still-edge true false left qp f a.marks.now.inner.vertical 0 y (x + 4) v (omega arith) (omega arith))
    (still-edge true false left qp f a.marks.now.inner.vertical 1 y (x + 8) v (omega arith) (omega arith))
    (still-edge true false left qp f a.marks.now.inner.vertical 2 y (x + 12) v (omega arith) (omega arith))
    c.luma_border-2.ensures (still-edge false false above qp f a.marks.now.inner.horizontal 0 x (y + 4) h (omega arith) (omega arith))
    (still-edge false false above qp f a.marks.now.inner.horizontal 1 x (y + 8) h (omega arith) (omega arith))
    (still-edge false false above qp f a.marks.now.inner.horizontal 2 x (y + 12) h (omega arith) (omega arith))

pub returns-clause-cb : goal.returns-clause-cb
returns-clause-cb c =
    let a = c.args in
    let qp = a.of_chroma.now.qp in
    let f = a.of_chroma.now.filter.now in
    let left = c.pair_border.new.cb in
    let above = c.pair_border-2.new.cb in
    four_edges (chroma_by qp f a.marks.now) a.column a.row a.frame.now.cb left left above above _ _ _ _
    c.requires.cb.0 c.requires.cb.1 (chroma-inside a.marks.now a.column a.row qp f c.requires.marks)
    refl refl refl refl
    c.pair_border.ensures.cb (still-edge true true left qp f a.marks.now.inner.vertical 1 (8 * a.row) (8 * a.column + 4) c.requires.still.vertical
    (omega arith) (omega arith))
    c.pair_border-2.ensures.cb (still-edge false true above qp f a.marks.now.inner.horizontal 1 (8 * a.column) (8 * a.row + 4) c.requires.still.horizontal
    (omega arith) (omega arith))

pub returns-clause-cr : goal.returns-clause-cr
returns-clause-cr c =
    let a = c.args in
    let qp = a.of_chroma.now.qp in
    let f = a.of_chroma.now.filter.now in
    let left = c.pair_border.new.cr in
    let above = c.pair_border-2.new.cr in
    four_edges (chroma_by qp f a.marks.now) a.column a.row a.frame.now.cr left left above above _ _ _ _
    c.requires.cr.0 c.requires.cr.1 (chroma-inside a.marks.now a.column a.row qp f c.requires.marks)
    refl refl refl refl
    c.pair_border.ensures.cr (still-edge true true left qp f a.marks.now.inner.vertical 1 (8 * a.row) (8 * a.column + 4) c.requires.still.vertical
    (omega arith) (omega arith))
    c.pair_border-2.ensures.cr (still-edge false true above qp f a.marks.now.inner.horizontal 1 (8 * a.column) (8 * a.row + 4) c.requires.still.horizontal
    (omega arith) (omega arith))
