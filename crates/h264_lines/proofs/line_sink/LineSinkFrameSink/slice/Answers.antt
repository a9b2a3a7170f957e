use Rattle.std.proofs.Common.{ap, refl, ◌∙◌, SFits, w32}
use Rattle.std.proofs.lemmas.Int.{to_z-of_z}
use Rattle.h264_base.specs.Call.{OfSlice}
use Rattle.h264_lines.specs.Told.{line_of, counted}
use Rattle.h264_lines.specs.Objects.{opening_of}
use Rattle.h264_lines.proofs.Sinks.{skipped, lines-none, on-err-all, ok-map, err-map, ok-tells, err-tells}
use Rattle.h264_lines.proofs.line_sink.LineSinkFrameSink.slice.Goals as goal

pub returns-in-Nothing : goal.returns-in-Nothing
returns-in-Nothing g c =
    let call = OfSlice c.args.byte c.args.first_mb_in_slice c.args.slice_type c.args.frame_num c.args.count in
    record {
      ok = record {
        told = λ before h. skipped call (λ m. ap (λ l. line_of (opening_of c.args.self.now.form) l m call) c.in-Nothing.is)
            (ap (λ l. counted l call) c.in-Nothing.is) (c.is_stopped.ensures.whole c.if-is_stopped.false) h;
      };
      kept = refl;
      refused = tt;
      failed = tt;
    }

pub returns-in-Units : goal.returns-in-Units
returns-in-Units g c =
    let call = OfSlice c.args.byte c.args.first_mb_in_slice c.args.slice_type c.args.frame_num c.args.count in
    record {
      ok = record {
        told = λ before h. skipped call (λ m. ap (λ l. line_of (opening_of c.args.self.now.form) l m call) c.in-Units.is)
            (ap (λ l. counted l call) c.in-Units.is) (c.is_stopped.ensures.whole c.if-is_stopped.false) h;
      };
      kept = refl;
      refused = tt;
      failed = tt;
    }

pub returns-in-Frames : goal.returns-in-Frames
returns-in-Frames g c =
    let call = OfSlice c.args.byte c.args.first_mb_in_slice c.args.slice_type c.args.frame_num c.args.count in
    record {
      ok = record {
        told = λ before h. skipped call (λ m. ap (λ l. line_of (opening_of c.args.self.now.form) l m call) c.in-Frames.is)
            (ap (λ l. counted l call) c.in-Frames.is) (c.is_stopped.ensures.whole c.if-is_stopped.false) h;
      };
      kept = refl;
      refused = tt;
      failed = tt;
    }

pub returns-then-is_stopped-clause-refused : goal.returns-then-is_stopped-clause-refused
returns-then-is_stopped-clause-refused g c = rw c.fail.ensures.others (on-err-all c.fail.result (record { told = λ before h. lines-none h }))

pub returns-in-Slices-clause-ok : goal.returns-in-Slices-clause-ok
returns-in-Slices-clause-ok g c =
    let fits : SFits w32 c.args.count = c.ranges.count in
    let ok = simp to_z-of_z at c.put_slice.ensures.ok in
    ok-tells c.put_slice.result _ _ _ _ (λ before h. ok-map c.put_slice.result
    (λ lines. record {
      same_reference = c.put_slice.ensures.same_reference ∙ h.same_reference;
      same_opening = ap opening_of c.put_slice.ensures.form ∙
          h.same_opening;
      same_listing = c.put_slice.ensures.listing ∙ h.same_listing;
      lines = lines;
    }) (ok _ before h.lines))

pub returns-in-Slices-clause-refused : goal.returns-in-Slices-clause-refused
returns-in-Slices-clause-refused g c = err-tells c.put_slice.result _ _ _ _
    (λ before h. err-map c.put_slice.result (λ lines. lines-none
    (record {
      same_reference = c.put_slice.ensures.same_reference ∙ h.same_reference;
      same_opening = ap opening_of c.put_slice.ensures.form ∙ h.same_opening;
      same_listing = c.put_slice.ensures.listing ∙ h.same_listing;
      lines = lines;
    })) (c.put_slice.ensures.refused _ before h.lines))

pub returns-in-Elements-clause-ok : goal.returns-in-Elements-clause-ok
returns-in-Elements-clause-ok g c =
    let fits : SFits w32 c.args.count = c.ranges.count in
    let ok = simp to_z-of_z at c.put_slice-in-Elements.ensures.ok in
    ok-tells c.put_slice-in-Elements.result _ _ _ _
    (λ before h. ok-map c.put_slice-in-Elements.result
    (λ lines. record {
      same_reference = c.put_slice-in-Elements.ensures.same_reference ∙ h.same_reference;
      same_opening = ap opening_of c.put_slice-in-Elements.ensures.form ∙ h.same_opening;
      same_listing = c.put_slice-in-Elements.ensures.listing ∙
          h.same_listing;
      lines = lines;
    }) (ok _ before h.lines))

pub returns-in-Elements-clause-refused : goal.returns-in-Elements-clause-refused
returns-in-Elements-clause-refused g c =
    err-tells c.put_slice-in-Elements.result _ _ _ _
    (λ before h. err-map c.put_slice-in-Elements.result
    (λ lines. lines-none (record {
      same_reference = c.put_slice-in-Elements.ensures.same_reference ∙ h.same_reference;
      same_opening = ap opening_of c.put_slice-in-Elements.ensures.form ∙ h.same_opening;
      same_listing = c.put_slice-in-Elements.ensures.listing ∙
          h.same_listing;
      lines = lines;
    })) (c.put_slice-in-Elements.ensures.refused _ before h.lines))
