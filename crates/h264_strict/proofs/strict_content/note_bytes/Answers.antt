use Rattle.std.proofs.Common.{◌*◌, sym, ap, ap₂, ◌∙◌}
use Rattle.h264_base.specs.Body.{Body}
use Rattle.h264_rbsp.specs.Rbsp.{body_of}
use Rattle.h264_units.specs.UnitTypes.{type_number}
use Rattle.h264_strict.specs.StrictBytes.{by_rbsp}
use Rattle.h264_strict.specs.SeiTimes.{times_of}
use Rattle.h264_strict.specs.StrictContent.{set_by}
use Rattle.h264_strict.proofs.Contents.{unjudged, unjudged-set, unjudged-times, bytes-noted, none-noted}
use Rattle.h264_strict.proofs.strict_content.note_bytes.Goals as goal

pub returns-then-not-is_judged-clause-noted : goal.returns-then-not-is_judged-clause-noted
returns-then-not-is_judged-clause-noted c r =
    sym (none-noted _ _ (unjudged r c.args.known.now c.args.unit.now (type_number c.kind_of-kind.result) c.kind_of-kind.ensures
    (sym c.is_judged.ensures ∙ c.if-not-is_judged.true)))

pub returns-clause-noted : goal.returns-clause-noted
unfolding body_of
returns-clause-noted c r =
    let unit = c.args.unit.now in
    bytes-noted r c.args.known.now unit _ _ _ (8 * c.from.result) (type_number c.kind_of-kind.result) c.by_rbsp.result c.in_ok-rbsp.rbsp
    (ap (λ n. 8 * n) c.from.ensures.value) c.kind_of-kind.ensures
    (c.by_rbsp.ensures
    ∙ ap₂ (λ kind bytes. by_rbsp kind bytes) c.kind_of-kind.ensures (c.bytes.ensures.bytes ∙ ap (λ (b : Body). b.bytes) c.in_ok-rbsp.ensures.ok))
    c.in_ok-rbsp.ensures.ok (c.note_in.ensures r) (c.note_content.ensures r)

pub returns-then-not-is_judged-clause-set : goal.returns-then-not-is_judged-clause-set
returns-then-not-is_judged-clause-set c =
    unjudged-set c.args.known.now c.args.unit.now (type_number c.kind_of-kind.result) c.kind_of-kind.ensures
    (sym c.is_judged.ensures ∙ c.if-not-is_judged.true)

pub returns-clause-set : goal.returns-clause-set
returns-clause-set c = c.set_by.ensures ∙ ap₂ (λ kind body. set_by c.args.known.now kind body) c.kind_of-kind.ensures c.in_ok-rbsp.ensures.ok

pub returns-then-not-is_judged-clause-times : goal.returns-then-not-is_judged-clause-times
returns-then-not-is_judged-clause-times c =
    c.new.ensures ∙ unjudged-times c.args.known.now c.args.unit.now (type_number c.kind_of-kind.result) c.kind_of-kind.ensures
    (sym c.is_judged.ensures ∙ c.if-not-is_judged.true)

pub returns-clause-times : goal.returns-clause-times
returns-clause-times c = c.times_of.ensures ∙
    ap₂ (λ kind (body : Body). times_of c.args.known.now kind body.bytes) c.kind_of-kind.ensures c.in_ok-rbsp.ensures.ok
