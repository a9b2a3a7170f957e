use Rattle.std.proofs.Common.{◌≡◌, ◌+◌, ◌*◌, length, Some, None, sym, ◌∙◌, subst, refl}
use Rattle.h264_near.specs.Keeps.{Keeps}
use Rattle.h264_recon.specs.Levels.{levels_of}
use Rattle.h264_recon.specs.Placed.{weights_by}
use Rattle.h264_picture.specs.Making.{setting_by, HasSamplesIn}
use Rattle.h264_recon.specs.Skips.{prediction_by}
use Rattle.h264_recon.proofs.Skips.{skip-points, skip-given}
use Rattle.h264_picture.proofs.Made.{are-shown, given-by, filter-by}
use Rattle.h264_picture.proofs.Skipped.{none-residuals}
use Rattle.h264_picture.proofs.Room.{in-rows, is-small, own-room, are-usable, y-lines, cb-lines, cr-lines, made}
use Rattle.h264_picture.proofs.Canvases.{one-canvas}
use Rattle.h264_picture.proofs.sequence.Sequence.make_skipped.Goals as goal

pub go_on_skipped-requires-clause-usable : goal.go_on_skipped-requires-clause-usable
go_on_skipped-requires-clause-usable c =
    let old = c.args.self.now in
    are-usable _ _ _ _ old.sound c.requires.next _ _ (old.drawn c.in-Some.canvas c.in-Some.is) _ (rw c.in-Some.is at c.requires.places)
    (prediction_by c.args.skipped.now c.args.slice.now.places) (skip-points c.args.skipped.now c.args.slice.now.places)

pub go_on_skipped-requires-clause-y : goal.go_on_skipped-requires-clause-y
go_on_skipped-requires-clause-y c =
    let old = c.args.self.now in
    (own-room _ _ _ _ old.sound c.requires.next _ _ (old.drawn c.in-Some.canvas c.in-Some.is)).y

pub go_on_skipped-requires-clause-cb : goal.go_on_skipped-requires-clause-cb
go_on_skipped-requires-clause-cb c =
    let old = c.args.self.now in
    (own-room _ _ _ _ old.sound c.requires.next _ _ (old.drawn c.in-Some.canvas c.in-Some.is)).cb

pub go_on_skipped-requires-clause-cr : goal.go_on_skipped-requires-clause-cr
go_on_skipped-requires-clause-cr c =
    let old = c.args.self.now in
    (own-room _ _ _ _ old.sound c.requires.next _ _ (old.drawn c.in-Some.canvas c.in-Some.is)).cr

pub go_on_skipped-requires-clause-y_lines : goal.go_on_skipped-requires-clause-y_lines
go_on_skipped-requires-clause-y_lines c =
    let old = c.args.self.now in
    y-lines _ _ _ _ old.sound c.requires.next _ _ (old.drawn c.in-Some.canvas c.in-Some.is)

pub go_on_skipped-requires-clause-cb_lines : goal.go_on_skipped-requires-clause-cb_lines
go_on_skipped-requires-clause-cb_lines c =
    let old = c.args.self.now in
    cb-lines _ _ _ _ old.sound c.requires.next _ _ (old.drawn c.in-Some.canvas c.in-Some.is)

pub go_on_skipped-requires-clause-cr_lines : goal.go_on_skipped-requires-clause-cr_lines
go_on_skipped-requires-clause-cr_lines c =
    let old = c.args.self.now in
    cr-lines _ _ _ _ old.sound c.requires.next _ _ (old.drawn c.in-Some.canvas c.in-Some.is)

pub go_on_skipped-requires-clause-small : goal.go_on_skipped-requires-clause-small
go_on_skipped-requires-clause-small c = is-small _ _ _ _ c.args.self.now.sound c.requires.next

pub invariant_of-self-2-clause-drawn : goal.invariant_of-self-2-clause-drawn
invariant_of-self-2-clause-drawn c =
    one-canvas _ _ _ _ (made _ _ _ _ _ _ (c.args.self.now.drawn c.in-Some.canvas c.in-Some.is) c.go_on_skipped.ensures.lines c.go_on_skipped.ensures.size
    refl refl)

pub returns-clause-samples : goal.returns-clause-samples
returns-clause-samples c width size None picture coded h s m r e p a = tt
returns-clause-samples c width size (Some making) picture coded h s m r e p a =
    let old = c.args.self.now in
    let canvas = c.in-Some.canvas in
    let drawn = old.drawn canvas c.in-Some.is in
    let held : HasSamplesIn (setting_by old.across old.down canvas.frames.pool) making picture (Some canvas) = rw c.in-Some.is at s in
    let slice = c.args.slice.now in
    let context = slice.context in
    let skipped = c.args.skipped.now in
    let w = h.columns in
    let n : length picture ≡ old.picture.position.row * old.across + old.picture.position.column = sym h.next ∙ old.sound.next in
    let is = skip-given context slice.places making.place width picture (weights_by slice.weights) context.constrained_intra context.chroma_qp_index_offset
    skipped coded r slice.usable.places m.placed p in
    c.go_on_skipped.ensures.held (setting_by old.across old.down canvas.frames.pool) making.place making.slices picture coded
    (levels_of context.chroma_qp_index_offset coded) n old.sound.column (in-rows _ _ _ _ old.sound c.requires.next)
    (are-shown _ _ _ canvas drawn _ (rw c.in-Some.is at c.requires.places) (prediction_by skipped slice.places) (skip-points skipped slice.places))
    (none-residuals (levels_of context.chroma_qp_index_offset coded) a)
    (given-by old.across width picture making slice coded _ w m e is)
    (subst (λ x. Keeps x picture old.picture.near) (sym w) h.keeps) r (filter-by making slice coded m e) m.offsets held
