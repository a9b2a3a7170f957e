use Rattle.h264_deblock.proofs.Marked.{luma-same, chroma-same}
use Rattle.h264_deblock.proofs.by_level.filter_borders.Goals as goal

pub borders_by_turns-requires-clause-luma_filtered : goal.borders_by_turns-requires-clause-luma_filtered
borders_by_turns-requires-clause-luma_filtered c = rw c.plane_level-of_luma.ensures.filter c.requires.filtered

pub borders_by_turns-requires-clause-chroma_filtered : goal.borders_by_turns-requires-clause-chroma_filtered
borders_by_turns-requires-clause-chroma_filtered c = rw c.plane_level-of_chroma.ensures.filter c.requires.filtered

pub returns-clause-y : goal.returns-clause-y
returns-clause-y c =
    let own = c.plane_level-of_luma in
    luma-same c.args.frame.now.y c.borders_by_turns.new.frame.y c.args.marks.now c.args.column c.args.row own.result.qp own.result.luma_qp c.args.qp
    own.result.filter.now c.args.filter.now own.ensures.qp own.ensures.luma own.ensures.filter c.borders_by_turns.ensures.y

pub returns-clause-cb : goal.returns-clause-cb
returns-clause-cb c =
    let own = c.plane_level-of_chroma in
    chroma-same c.args.frame.now.cb c.borders_by_turns.new.frame.cb c.args.marks.now c.args.column c.args.row own.result.qp own.result.luma_qp c.args.qp
    own.result.filter.now c.args.filter.now own.ensures.qp own.ensures.luma own.ensures.filter c.borders_by_turns.ensures.cb

pub returns-clause-cr : goal.returns-clause-cr
returns-clause-cr c =
    let own = c.plane_level-of_chroma in
    chroma-same c.args.frame.now.cr c.borders_by_turns.new.frame.cr c.args.marks.now c.args.column c.args.row own.result.qp own.result.luma_qp c.args.qp
    own.result.filter.now c.args.filter.now own.ensures.qp own.ensures.luma own.ensures.filter c.borders_by_turns.ensures.cr
