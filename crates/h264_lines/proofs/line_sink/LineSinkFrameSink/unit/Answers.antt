use Rattle.std.proofs.Common.{ap, refl, ◌∙◌}
use Rattle.h264_base.specs.Call.{OfUnit}
use Rattle.h264_units.specs.UnitTypes.{type_number}
use Rattle.h264_lines.specs.Told.{line_of, counted}
use Rattle.h264_lines.specs.Objects.{opening_of}
use Rattle.h264_lines.proofs.Sinks.{skipped, lines-none, on-err-all, ok-map, err-map, ok-tells, err-tells}
use Rattle.h264_lines.proofs.line_sink.LineSinkFrameSink.unit.Goals as goal

pub returns-in-Nothing : goal.returns-in-Nothing
returns-in-Nothing g c =
    let call = OfUnit c.args.byte (type_number c.args.nal_unit_type) c.args.nal_ref_idc c.args.length in
    record {
      ok = record {
        told = λ before h. skipped call (λ m. ap (λ l. line_of (opening_of c.args.self.now.form) l m call) c.in-Nothing.is)
            (ap (λ l. counted l call) c.in-Nothing.is) (c.is_stopped.ensures.whole c.if-is_stopped.false) h;
      };
      kept = refl;
      refused = tt;
      failed = tt;
    }

pub returns-in-Slices : goal.returns-in-Slices
returns-in-Slices g c =
    let call = OfUnit c.args.byte (type_number c.args.nal_unit_type) c.args.nal_ref_idc c.args.length in
    record {
      ok = record {
        told = λ before h. skipped call (λ m. ap (λ l. line_of (opening_of c.args.self.now.form) l m call) c.in-Slices.is)
            (ap (λ l. counted l call) c.in-Slices.is) (c.is_stopped.ensures.whole c.if-is_stopped.false) h;
      };
      kept = refl;
      refused = tt;
      failed = tt;
    }

pub returns-in-Frames : goal.returns-in-Frames
returns-in-Frames g c =
    let call = OfUnit c.args.byte (type_number c.args.nal_unit_type) c.args.nal_ref_idc c.args.length in
    record {
      ok = record {
        told = λ before h. skipped call (λ m. ap (λ l. line_of (opening_of c.args.self.now.form) l m call) c.in-Frames.is)
            (ap (λ l. counted l call) c.in-Frames.is) (c.is_stopped.ensures.whole c.if-is_stopped.false) h;
      };
      kept = refl;
      refused = tt;
      failed = tt;
    }

pub returns-then-is_stopped-clause-refused : goal.returns-then-is_stopped-clause-refused
returns-then-is_stopped-clause-refused g c = rw c.fail.ensures.others (on-err-all c.fail.result (record { told = λ before h. lines-none h }))

pub returns-in-Units-clause-ok : goal.returns-in-Units-clause-ok
returns-in-Units-clause-ok g c = ok-tells c.put_unit.result _ _ _ _
    (λ before h. ok-map c.put_unit.result (λ
    lines. record {
      same_reference = c.put_unit.ensures.same_reference ∙ h.same_reference;
      same_opening = ap opening_of c.put_unit.ensures.form ∙
          h.same_opening;
      same_listing = c.put_unit.ensures.listing ∙ h.same_listing;
      lines = lines;
    }) (c.put_unit.ensures.ok _ before h.lines))

pub returns-in-Units-clause-refused : goal.returns-in-Units-clause-refused
returns-in-Units-clause-refused g c = err-tells c.put_unit.result _ _ _ _
    (λ before h. err-map c.put_unit.result (λ lines. lines-none
    (record {
      same_reference = c.put_unit.ensures.same_reference ∙ h.same_reference;
      same_opening = ap opening_of c.put_unit.ensures.form ∙ h.same_opening;
      same_listing = c.put_unit.ensures.listing ∙ h.same_listing;
      lines = lines;
    })) (c.put_unit.ensures.refused _ before h.lines))

pub returns-in-Elements-clause-ok : goal.returns-in-Elements-clause-ok
returns-in-Elements-clause-ok g c = ok-tells c.put_unit-in-Elements.result _ _ _ _
    (λ before h. ok-map c.put_unit-in-Elements.result
    (λ lines. record {
      same_reference = c.put_unit-in-Elements.ensures.same_reference ∙ h.same_reference;
      same_opening = ap opening_of c.put_unit-in-Elements.ensures.form ∙ h.same_opening;
      same_listing = c.put_unit-in-Elements.ensures.listing ∙ h.same_listing;
      lines = lines;
    }) (c.put_unit-in-Elements.ensures.ok _ before h.lines))

pub returns-in-Elements-clause-refused : goal.returns-in-Elements-clause-refused
returns-in-Elements-clause-refused g c =
    err-tells c.put_unit-in-Elements.result _ _ _ _
    (λ before h. err-map c.put_unit-in-Elements.result
    (λ lines. lines-none (record {
      same_reference = c.put_unit-in-Elements.ensures.same_reference ∙ h.same_reference;
      same_opening = ap opening_of c.put_unit-in-Elements.ensures.form ∙ h.same_opening;
      same_listing = c.put_unit-in-Elements.ensures.listing ∙ h.same_listing;
      lines = lines;
    })) (c.put_unit-in-Elements.ensures.refused _ before h.lines))
