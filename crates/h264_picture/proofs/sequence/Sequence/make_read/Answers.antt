use Rattle.std.proofs.Common.{◌≡◌, ◌+◌, ◌*◌, ◌<◌, length, Some, None, refl, sym, ap, ◌∙◌, subst, rules, SFits, w32}
use Rattle.h264_near.specs.Keeps.{Keeps}
use Rattle.h264_scale.specs.Macroblock.{levels_fit}
use Rattle.h264_recon.specs.Constructed.{coded as coded_as}
use Rattle.h264_recon.specs.ReadLevels.{is_pcm}
use Rattle.h264_recon.proofs.Kept.{kept32}
use Rattle.h264_recon.specs.Placed.{weights_by}
use Rattle.h264_picture.specs.Making.{setting_by, HasSamplesIn}
use Rattle.h264_picture.proofs.Made.{alike, if-ok, are-shown, possible, given-by, filter-by}
use Rattle.h264_picture.proofs.Room.{in-rows, is-small, own-room, are-usable, y-lines, cb-lines, cr-lines, more-lines, made}
use Rattle.h264_picture.proofs.Canvases.{one-canvas}
use Rattle.h264_picture.proofs.sequence.Sequence.make_read.Goals as goal

pub go_on-requires-clause-usable : goal.go_on-requires-clause-usable
go_on-requires-clause-usable c =
    let old = c.args.self.now in
    are-usable _ _ _ _ old.sound c.requires.next _ _ (old.drawn c.in-Some.canvas c.in-Some.is) _ (rw c.in-Some.is at c.requires.places) _
    c.given_within-m.ensures.points

pub given_within-m-requires : goal.given_within-m-requires
given_within-m-requires c = record { small = (is-small _ _ _ _ c.args.self.now.sound c.requires.next).0 }

pub go_on-requires-clause-y : goal.go_on-requires-clause-y
go_on-requires-clause-y c =
    let old = c.args.self.now in
    (own-room _ _ _ _ old.sound c.requires.next _ _ (old.drawn c.in-Some.canvas c.in-Some.is)).y

pub go_on-requires-clause-cb : goal.go_on-requires-clause-cb
go_on-requires-clause-cb c =
    let old = c.args.self.now in
    (own-room _ _ _ _ old.sound c.requires.next _ _ (old.drawn c.in-Some.canvas c.in-Some.is)).cb

pub go_on-requires-clause-cr : goal.go_on-requires-clause-cr
go_on-requires-clause-cr c =
    let old = c.args.self.now in
    (own-room _ _ _ _ old.sound c.requires.next _ _ (old.drawn c.in-Some.canvas c.in-Some.is)).cr

pub go_on-requires-clause-y_lines : goal.go_on-requires-clause-y_lines
go_on-requires-clause-y_lines c =
    let old = c.args.self.now in
    y-lines _ _ _ _ old.sound c.requires.next _ _ (old.drawn c.in-Some.canvas c.in-Some.is)

pub go_on-requires-clause-cb_lines : goal.go_on-requires-clause-cb_lines
go_on-requires-clause-cb_lines c =
    let old = c.args.self.now in
    cb-lines _ _ _ _ old.sound c.requires.next _ _ (old.drawn c.in-Some.canvas c.in-Some.is)

pub go_on-requires-clause-cr_lines : goal.go_on-requires-clause-cr_lines
go_on-requires-clause-cr_lines c =
    let old = c.args.self.now in
    cr-lines _ _ _ _ old.sound c.requires.next _ _ (old.drawn c.in-Some.canvas c.in-Some.is)

pub go_on-requires-clause-more : goal.go_on-requires-clause-more
go_on-requires-clause-more c h =
    let old = c.args.self.now in
    more-lines _ _ _ _ old.sound c.requires.next _ _ (old.drawn c.in-Some.canvas c.in-Some.is) (c.given_within-m.ensures.more h)

pub go_on-requires-clause-small : goal.go_on-requires-clause-small
go_on-requires-clause-small c = is-small _ _ _ _ c.args.self.now.sound c.requires.next

pub go_on-requires-clause-qp : goal.go_on-requires-clause-qp
go_on-requires-clause-qp c = rw c.new-2.ensures.read c.requires.qp

pub invariant_of-self-2-clause-drawn : goal.invariant_of-self-2-clause-drawn
invariant_of-self-2-clause-drawn c =
    one-canvas _ _ _ _ (made _ _ _ _ _ _ (c.args.self.now.drawn c.in-Some.canvas c.in-Some.is) c.go_on.ensures.lines c.go_on.ensures.size refl refl)

pub returns-clause-range : goal.returns-clause-range
returns-clause-range c coded r =
    let slice = c.args.slice.now in
    let context = slice.context in
    let fits : SFits w32 context.chroma_qp_index_offset = search rules in
    let levels = rw (kept32 context.chroma_qp_index_offset fits) at c.new-2.ensures.levels coded r in
    let range = c.go_on.ensures.range (c.given_within-m.ensures.kind ∙ ap (λ z. is_pcm z.kind) (sym c.new-2.ensures.read)) in
    c.is_ok.ensures.value ∙ alike _ _ range.0 range.1 ∙ ap levels_fit levels

pub returns-clause-samples : goal.returns-clause-samples
returns-clause-samples c t width size None picture coded h s m r e p = tt
returns-clause-samples c t width size (Some making) picture coded h s m r e p =
    let old = c.args.self.now in
    let canvas = c.in-Some.canvas in
    let drawn = old.drawn canvas c.in-Some.is in
    let held : HasSamplesIn (setting_by old.across old.down canvas.frames.pool) making picture (Some canvas) = rw c.in-Some.is at s in
    let read = old.mb in
    let slice = c.args.slice.now in
    let context = slice.context in
    let w = h.columns in
    let n : length picture ≡ old.picture.position.row * old.across + old.picture.position.column = sym h.next ∙ old.sound.next in
    let n' : length picture ≡ old.picture.position.row * width + old.picture.position.column =
    subst (λ x. length picture ≡ old.picture.position.row * x + old.picture.position.column) w n in
    let i : old.picture.position.column < width = subst (λ x. old.picture.position.column < x) w old.sound.column in
    let fits : SFits w32 context.chroma_qp_index_offset = search rules in
    let levels = rw (kept32 context.chroma_qp_index_offset fits) at c.new-2.ensures.levels coded r in
    let is = ap (coded_as c.given_within-m.result) levels ∙
    c.given_within-m.ensures.given width picture making.place coded w h.keeps n' i r e p slice.usable.places m.placed in
    if-ok c.go_on.result (sym c.is_ok.ensures.value ∙ t) c.go_on.ensures.held
    (setting_by old.across old.down canvas.frames.pool) making.place making.slices picture coded n old.sound.column
    (in-rows _ _ _ _ old.sound c.requires.next)
    (are-shown _ _ _ canvas drawn _ (rw c.in-Some.is at c.requires.places) _ c.given_within-m.ensures.points)
    (possible width context picture making.place (weights_by slice.weights) context.chroma_qp_index_offset coded old.picture.position.column
    old.picture.position.row _ n' i e p is)
    (given-by old.across width picture making slice coded _ w m e is) (c.partition.ensures coded r)
    (subst (λ x. Keeps x picture old.picture.near) (sym w) h.keeps) r.contexts (filter-by making slice coded m e) m.offsets held
