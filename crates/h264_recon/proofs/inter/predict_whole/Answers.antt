use Rattle.std.proofs.Common.{true, false, arith, ap, replicate, refl, ◌∙◌}
use Rattle.h264_plane.specs.Frames.{frame_at}
use Rattle.h264_recon.proofs.Parts.{whole_part, luma_one, luma_part, chroma_one, chroma_part}
use Rattle.h264_recon.proofs.Pool.{motion_room}
use Rattle.h264_recon.proofs.inter.predict_whole.Goals as goal

pub frame-frame-requires : goal.frame-frame-requires
frame-frame-requires c = let a = c.args in
    (motion_room a.pool.now a.column a.row (replicate 16 a.motion) 0 a.motion _ c.requires.room (omega arith) refl c.from.ensures).picture

pub luma-requires-clause-columns : goal.luma-requires-clause-columns
luma-requires-clause-columns c = let a = c.args in
    rw c.frame-frame.ensures (motion_room a.pool.now a.column a.row (replicate 16 a.motion) 0 a.motion _ c.requires.room (omega arith) refl
    c.from.ensures).y.0

pub luma-requires-clause-rows : goal.luma-requires-clause-rows
luma-requires-clause-rows c = let a = c.args in
    rw c.frame-frame.ensures (motion_room a.pool.now a.column a.row (replicate 16 a.motion) 0 a.motion _ c.requires.room (omega arith) refl
    c.from.ensures).y.1

pub chroma-requires-clause-columns : goal.chroma-requires-clause-columns
chroma-requires-clause-columns c = let a = c.args in
    rw c.frame-frame.ensures (motion_room a.pool.now a.column a.row (replicate 16 a.motion) 0 a.motion _ c.requires.room (omega arith) refl
    c.from.ensures).cb.0

pub chroma-requires-clause-rows : goal.chroma-requires-clause-rows
chroma-requires-clause-rows c = let a = c.args in
    rw c.frame-frame.ensures (motion_room a.pool.now a.column a.row (replicate 16 a.motion) 0 a.motion _ c.requires.room (omega arith) refl
    c.from.ensures).cb.1

pub chroma-requires-2-clause-columns : goal.chroma-requires-2-clause-columns
chroma-requires-2-clause-columns c = let a = c.args in
    rw c.frame-frame.ensures (motion_room a.pool.now a.column a.row (replicate 16 a.motion) 0 a.motion _ c.requires.room (omega arith) refl
    c.from.ensures).cr.0

pub chroma-requires-2-clause-rows : goal.chroma-requires-2-clause-rows
chroma-requires-2-clause-rows c = let a = c.args in
    rw c.frame-frame.ensures (motion_room a.pool.now a.column a.row (replicate 16 a.motion) 0 a.motion _ c.requires.room (omega arith) refl
    c.from.ensures).cr.1

pub returns-clause-y : goal.returns-clause-y
returns-clause-y c =
    let a = c.args in
    whole_part 16 _ _ (luma_part 16 a.pool.now (replicate 16 a.motion) a.column a.row 0 0 _ _ a.motion c.frame-frame.result.now c.luma.new.out (omega arith)
    (omega arith)
    (c.frame-frame.ensures ∙ ap (λ z. frame_at a.pool.now z) c.from.ensures) (luma_one a.motion) c.luma.ensures)

pub returns-clause-cb : goal.returns-clause-cb
returns-clause-cb c =
    let a = c.args in
    whole_part 8 _ _ (chroma_part false 8 a.pool.now (replicate 16 a.motion) a.column a.row 0 0 _ _ a.motion c.frame-frame.result.now
    c.frame-frame.result.now.cb c.chroma.new.out (omega arith) (omega arith)
    (c.frame-frame.ensures ∙ ap (λ z. frame_at a.pool.now z) c.from.ensures) refl (chroma_one false a.motion) c.chroma.ensures)

pub returns-clause-cr : goal.returns-clause-cr
returns-clause-cr c =
    let a = c.args in
    whole_part 8 _ _ (chroma_part true 8 a.pool.now (replicate 16 a.motion) a.column a.row 0 0 _ _ a.motion c.frame-frame.result.now
    c.frame-frame.result.now.cr c.chroma-2.new.out (omega arith) (omega arith)
    (c.frame-frame.ensures ∙ ap (λ z. frame_at a.pool.now z) c.from.ensures) refl (chroma_one true a.motion) c.chroma-2.ensures)
