use Rattle.std.proofs.Common.{ap, refl, ◌∙◌, SFits, w32}
use Rattle.std.proofs.lemmas.Int.{to_z-of_z}
use Rattle.h264_dpb.specs.Shown.{frame_call}
use Rattle.h264_lines.specs.Told.{line_of, counted}
use Rattle.h264_lines.specs.Objects.{opening_of}
use Rattle.h264_lines.proofs.Sinks.{skipped, lines-none, on-err-all, ok-map, err-map, ok-tells, err-tells}
use Rattle.h264_lines.proofs.line_sink.LineSinkFrameOut.frame.Goals as goal

pub returns-in-Nothing : goal.returns-in-Nothing
returns-in-Nothing g c =
    let call = frame_call c.args.count c.args.frame.now c.args.rectangle in
    record {
      ok = record {
        told = λ before h. skipped call (λ m. ap (λ l. line_of (opening_of c.args.self.now.form) l m call) c.in-Nothing.is)
            (ap (λ l. counted l call) c.in-Nothing.is) (c.is_stopped.ensures.whole c.if-is_stopped.false) h;
      };
      kept = refl;
      refused = tt;
      failed = tt;
    }

pub returns-in-Units : goal.returns-in-Units
returns-in-Units g c =
    let call = frame_call c.args.count c.args.frame.now c.args.rectangle in
    record {
      ok = record {
        told = λ before h. skipped call (λ m. ap (λ l. line_of (opening_of c.args.self.now.form) l m call) c.in-Units.is)
            (ap (λ l. counted l call) c.in-Units.is) (c.is_stopped.ensures.whole c.if-is_stopped.false) h;
      };
      kept = refl;
      refused = tt;
      failed = tt;
    }

pub returns-in-Slices : goal.returns-in-Slices
returns-in-Slices g c =
    let call = frame_call c.args.count c.args.frame.now c.args.rectangle in
    record {
      ok = record {
        told = λ before h. skipped call (λ m. ap (λ l. line_of (opening_of c.args.self.now.form) l m call) c.in-Slices.is)
            (ap (λ l. counted l call) c.in-Slices.is) (c.is_stopped.ensures.whole c.if-is_stopped.false) h;
      };
      kept = refl;
      refused = tt;
      failed = tt;
    }

pub returns-in-Elements : goal.returns-in-Elements
returns-in-Elements g c =
    let call = frame_call c.args.count c.args.frame.now c.args.rectangle in
    record {
      ok = record {
        told = λ before h. skipped call (λ m. ap (λ l. line_of (opening_of c.args.self.now.form) l m call) c.in-Elements.is)
            (ap (λ l. counted l call) c.in-Elements.is) (c.is_stopped.ensures.whole c.if-is_stopped.false) h;
      };
      kept = refl;
      refused = tt;
      failed = tt;
    }

pub returns-then-is_stopped-clause-refused : goal.returns-then-is_stopped-clause-refused
returns-then-is_stopped-clause-refused g c = rw c.fail.ensures.others (on-err-all c.fail.result (record { told = λ before h. lines-none h }))

pub returns-in-Frames-clause-ok : goal.returns-in-Frames-clause-ok
returns-in-Frames-clause-ok g c =
    let fits : SFits w32 c.args.count = c.ranges.count in
    let ok = simp to_z-of_z at c.put_frame.ensures.ok in
    ok-tells c.put_frame.result _ _ _ _ (λ before h. ok-map c.put_frame.result
    (λ lines. record {
      same_reference = c.put_frame.ensures.same_reference ∙ h.same_reference;
      same_opening = ap opening_of c.put_frame.ensures.form ∙
          h.same_opening;
      same_listing = c.put_frame.ensures.listing ∙ h.same_listing;
      lines = lines;
    }) (ok _ before h.lines))

pub returns-in-Frames-clause-refused : goal.returns-in-Frames-clause-refused
returns-in-Frames-clause-refused g c = err-tells c.put_frame.result _ _ _ _
    (λ before h. err-map c.put_frame.result (λ lines. lines-none
    (record {
      same_reference = c.put_frame.ensures.same_reference ∙ h.same_reference;
      same_opening = ap opening_of c.put_frame.ensures.form ∙ h.same_opening;
      same_listing = c.put_frame.ensures.listing ∙ h.same_listing;
      lines = lines;
    })) (c.put_frame.ensures.refused _ before h.lines))
