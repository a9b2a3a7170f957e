use Rattle.std.proofs.Common.{sym, ◌∙◌, w32, SFits}
use Rattle.std.proofs.lemmas.Int.{to_z-of_z}
use Rattle.h264_pages.proofs.Choosing.{slice-held, slice-passed, slice-taken, slice-refused}
use Rattle.h264_base.specs.Call.{OfSlice}
use Rattle.h264_pages.proofs.Surveying.{surveyed-more, surveyed-still}
use Rattle.h264_pages.proofs.survey.narrowed.NarrowedFrameSink.slice.Goals as goal

pub returns-then-is_some-clause-ok : goal.returns-then-is_some-clause-ok
returns-then-is_some-clause-ok g c =
    let s = c.args.self.now in
    rw c.if-self.false (record {
      told = λ before
          h. (
            h.0,
            slice-held g.S.Elements.took s.choice s.reading s.pending s.sink before c.args.byte c.args.first_mb_in_slice c.args.slice_type
                c.args.frame_num c.args.count (sym c.is_some.ensures ∙ c.if-is_some.true) h.1,
            surveyed-more (OfSlice c.args.byte c.args.first_mb_in_slice c.args.slice_type c.args.frame_num c.args.count) (λ t is. is) before h.2,
          );
    })

pub returns-then-not-is_chosen-clause-ok : goal.returns-then-not-is_chosen-clause-ok
returns-then-not-is_chosen-clause-ok g c =
    let s = c.args.self.now in
    rw c.if-self.false (record {
      told = λ before
          h. (
            h.0,
            slice-passed g.S.Elements.took s.choice s.reading s.pending s.sink before c.args.byte c.args.first_mb_in_slice c.args.slice_type
                c.args.frame_num c.args.count (sym c.is_chosen.ensures ∙ c.if-not-is_chosen.true) h.1,
            surveyed-more (OfSlice c.args.byte c.args.first_mb_in_slice c.args.slice_type c.args.frame_num c.args.count) (λ t is. is) before h.2,
          );
    })

pub returns-in-Ok-clause-ok : goal.returns-in-Ok-clause-ok
returns-in-Ok-clause-ok g c =
    let s = c.args.self.now in
    let fits : SFits w32 c.args.count = c.ranges.count in
    let told = simp to_z-of_z at c.in-Ok.ensures.ok in
    rw c.if-self.false (record {
      told = λ before
          h. (
            h.0,
            slice-taken g.S.Elements.took s.choice s.reading s.pending s.sink c.slice.new.self before c.args.byte c.args.first_mb_in_slice
                c.args.slice_type c.args.frame_num c.args.count (sym c.is_some.ensures ∙ c.if-is_some.false)
                (sym c.is_chosen.ensures ∙ c.if-not-is_chosen.false)
                told.told h.1,
            surveyed-more (OfSlice c.args.byte c.args.first_mb_in_slice c.args.slice_type c.args.frame_num c.args.count) (λ t is. is) before h.2,
          );
    })

pub returns-in-Err-clause-refused : goal.returns-in-Err-clause-refused
returns-in-Err-clause-refused g c =
    let s = c.args.self.now in
    rw c.if-self.false (record {
      told = λ before
          h. (
            h.0,
            slice-refused g.S.Elements.took s.choice s.reading s.pending s.sink c.slice.new.self before c.args.byte c.args.first_mb_in_slice
                c.args.slice_type c.args.frame_num c.args.count c.in-Err.ensures.refused.told h.1,
            surveyed-still (λ t is. is) before h.2,
          );
    })
