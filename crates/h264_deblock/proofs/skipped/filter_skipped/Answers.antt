use Rattle.std.proofs.Common.{true, false, refl, ◌+◌, ◌*◌, ◌≤◌, ◌%◌, length, subst}
use Rattle.h264_plane.specs.Frames.{plane_of, is_chroma}
use Rattle.h264_plane.specs.Places.{side}
use Rattle.h264_plane.specs.Samples.{at, ShowsSamples, IsSized}
use Rattle.h264_plane.specs.declared.frame.Component.TheVariants.{Y, Cb, Cr}
use Rattle.h264_plane.specs.declared.frame.Frame.{Frame}
use Rattle.h264_near.specs.Raster.{last_in, last_left}
use Rattle.h264_near.proofs.Skips.{skipped-contexts}
use Rattle.h264_deblock.specs.Filtering.{PlaneEdges, edges_done}
use Rattle.h264_deblock.specs.CodedEdges.{coded_edges}
use Rattle.h264_deblock.specs.Steps.{side_qp}
use Rattle.h264_deblock.proofs.CodedEdges.{left-none, above-none, qp-is, pair-is, luma-list, chroma-list}
use Rattle.h264_deblock.specs.Words.{all_names, named_border}
use Rattle.h264_deblock.proofs.Numbers.{some-named, zeros-words}
use Rattle.h264_deblock.proofs.Skips.{skip-lines}
use Rattle.h264_deblock.proofs.Still.{off, still}
use Rattle.h264_deblock.proofs.skipped.filter_skipped.Goals as goal
use Rattle.h264_deblock.proofs.Macroblocks.{planes as by-plane}

pub returns-in-Off-clause-filtered : goal.returns-in-Off-clause-filtered
returns-in-Off-clause-filtered c slices w xs q k s size h is o p =
    let f : Frame = c.args.frame.now in
    off slices w xs q c.args.coded.now.filter.now is c.in-Off.is c.args.column c.args.row p (plane_of p f)
    (by-plane (λ z. side z * c.args.column + side z ≤ (plane_of z f).width) c.requires.y.0 c.requires.cb.0 c.requires.cr.0 p)
    (by-plane (λ z. side z * c.args.row + side z ≤ (plane_of z f).height) c.requires.y.1 c.requires.cb.1 c.requires.cr.1 p)

pub returns-then-is_still-2-clause-filtered : goal.returns-then-is_still-2-clause-filtered
returns-then-is_still-2-clause-filtered c slices w xs q k s size h is o p =
    let f : Frame = c.args.frame.now in
    let own = c.args.coded.now.own.now in
    still slices w xs q c.args.coded.now.filter.now (named_border c.border_to-left.result) (named_border c.border_to-above.result) is o
    (c.border_to-left.ensures.here true (last_left w xs) q (c.left_edge.ensures w xs k) s (left-none w xs c.args.column c.args.row size h))
    (c.border_to-above.ensures.here false (last_in w xs (length xs % w)) q (c.above_edge.ensures w xs k) s (above-none w xs c.args.column c.args.row size h))
    (skip-lines true own q s) (skip-lines false own q s) (c.is_still.ensures c.if-is_still.true) (c.is_still-then-is_still.ensures c.if-is_still-2.true)
    c.args.column c.args.row (λ h. c.border_to-left.ensures.inside (some-named c.border_to-left.result h))
    (λ h. c.border_to-above.ensures.inside (some-named c.border_to-above.result h)) p (plane_of p f)
    (by-plane (λ z. side z * c.args.column + side z ≤ (plane_of z f).width) c.requires.y.0 c.requires.cb.0 c.requires.cr.0 p)
    (by-plane (λ z. side z * c.args.row + side z ≤ (plane_of z f).height) c.requires.y.1 c.requires.cb.1 c.requires.cr.1 p)

pub filter_borders-requires-clause-marks : goal.filter_borders-requires-clause-marks
filter_borders-requires-clause-marks c = record {
  left = c.border_to-left.ensures.word;
  above = c.border_to-above.ensures.word;
  vertical = rw c.still_strengths.ensures.still.vertical zeros-words;
  horizontal = rw c.still_strengths.ensures.still.horizontal zeros-words;
  columns = c.border_to-left.ensures.inside;
  rows = c.border_to-above.ensures.inside;
}

pub returns-clause-size : goal.returns-clause-size
returns-clause-size c p =
    by-plane (λ z. IsSized (plane_of z c.filter_borders.new.frame) (plane_of z c.args.frame.now).width (plane_of z c.args.frame.now).height)
    (record { columns = c.filter_borders.ensures.y.width; rows = c.filter_borders.ensures.y.height })
    (record { columns = c.filter_borders.ensures.cb.width; rows = c.filter_borders.ensures.cb.height })
    (record { columns = c.filter_borders.ensures.cr.width; rows = c.filter_borders.ensures.cr.height }) p

pub returns-clause-filtered : goal.returns-clause-filtered
returns-clause-filtered c slices w xs q k s size h is o p =
    let f = c.args.coded.now.filter.now in
    let old : Frame = c.args.frame.now in
    let new : Frame = c.filter_borders.new.frame in
    let left = c.border_to-left.ensures.here true (last_left w xs) q (c.left_edge.ensures w xs k) s (left-none w xs c.args.column c.args.row size h) in
    let above = c.border_to-above.ensures.here false (last_in w xs (length xs % w)) q (c.above_edge.ensures w xs k) s
    (above-none w xs c.args.column c.args.row size h) in
    let own = c.args.coded.now.own.now in
    let inner = c.still_strengths.result in
    let a = named_border c.border_to-left.result in
    let b = named_border c.border_to-above.result in
    let v = c.still_strengths.ensures.vertical own q s in
    let z = c.still_strengths.ensures.horizontal own q s in
    let qp = side_qp true own.qp f.chroma_qp_index_offset in
    let y = qp-is slices Y q false own.qp f.chroma_qp_index_offset refl (skipped-contexts own q s).qp (o q.slice) in
    let cb = qp-is slices Cb q true own.qp f.chroma_qp_index_offset refl (skipped-contexts own q s).qp (o q.slice) in
    let cr = qp-is slices Cr q true own.qp f.chroma_qp_index_offset refl (skipped-contexts own q s).qp (o q.slice) in
    by-plane (λ z. ShowsSamples (plane_of z old) (plane_of z new)
    (edges_done (side z) (is_chroma z) (coded_edges slices w xs q z) c.args.column c.args.row (at (plane_of z old))))
    (subst (λ (e : PlaneEdges). ShowsSamples old.y new.y (edges_done 16 false e c.args.column c.args.row (at old.y)))
    (pair-is slices w xs q Y _ _ (luma-list slices true (last_left w xs) q f own.qp a (all_names inner.vertical) is o left v y)
    (luma-list slices false (last_in w xs (length xs % w)) q f own.qp b (all_names inner.horizontal) is o above z y))
    c.filter_borders.ensures.y)
    (subst (λ (e : PlaneEdges). ShowsSamples old.cb new.cb (edges_done 8 true e c.args.column c.args.row (at old.cb)))
    (pair-is slices w xs q Cb _ _ (chroma-list slices true (last_left w xs) q f qp a (all_names inner.vertical) is o left v Cb refl cb)
    (chroma-list slices false (last_in w xs (length xs % w)) q f qp b (all_names inner.horizontal) is o above z Cb refl cb))
    c.filter_borders.ensures.cb)
    (subst (λ (e : PlaneEdges). ShowsSamples old.cr new.cr (edges_done 8 true e c.args.column c.args.row (at old.cr)))
    (pair-is slices w xs q Cr _ _ (chroma-list slices true (last_left w xs) q f qp a (all_names inner.vertical) is o left v Cr refl cr)
    (chroma-list slices false (last_in w xs (length xs % w)) q f qp b (all_names inner.horizontal) is o above z Cr refl cr))
    c.filter_borders.ensures.cr)
    p
