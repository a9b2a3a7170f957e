use Rattle.std.proofs.Common.{sym, ap, ◌∙◌, [], ◌∷◌, ◌++◌, refl, subst, w64, SFits}
use Rattle.std.proofs.lemmas.List.{append-nil, append_assoc}
use Rattle.std.proofs.lemmas.Int.{to_z-of_z}
use Rattle.h264_base.specs.Call.{OfElement}
use Rattle.h264_lines.specs.Chosen.{held, pending_call, is_chosen}
use Rattle.h264_pages.proofs.Choosing.{element-passed, element-taken, element-refused}
use Rattle.h264_pages.proofs.Surveying.{surveyed-more, surveyed-still}
use Rattle.h264_pages.proofs.survey.narrowed.NarrowedElements.element.Goals as goal

pub returns-then-not-is_chosen-clause-ok : goal.returns-then-not-is_chosen-clause-ok
returns-then-not-is_chosen-clause-ok g c =
    let s = c.args.self.now in
    let goes = rw (to_z-of_z w64 c.args.value c.ranges.value) at c.note_element.ensures in
    let chosen = ap (is_chosen s.choice) (sym goes) ∙ sym c.is_chosen.ensures ∙ c.if-not-is_chosen.true in
    let fits : SFits w64 c.args.value = c.ranges.value in
    let noted = simp to_z-of_z at c.note_element-then-not-is_chosen.ensures.told in
    rw (c.if-self.false, goes) (record {
      told =
          λ before h. (
            h.0,
            element-passed g.S.Elements.took s.choice s.reading (pending_call s.pending) s.sink before c.args.name c.args.bit c.args.value
                chosen h.1,
            surveyed-more (OfElement c.args.name c.args.bit c.args.value) noted before h.2,
          );
    })

pub returns-in-Err-clause-refused : goal.returns-in-Err-clause-refused
returns-in-Err-clause-refused g c =
    let s = c.args.self.now in
    let goes = rw (to_z-of_z w64 c.args.value c.ranges.value) at c.note_element.ensures in
    let chosen = ap (is_chosen s.choice) (sym goes) ∙ sym c.is_chosen.ensures ∙ c.if-not-is_chosen.false in
    rw c.if-self.false (record {
      told = λ before
          h. (
            h.0,
            element-refused g.S.Elements.took s.choice s.reading (pending_call s.pending) s.sink c.put_pending.new.sink before []
                (held (pending_call s.pending) ++ OfElement c.args.name c.args.bit c.args.value ∷ []) c.args.name c.args.bit c.args.value chosen refl
                c.in-Err.ensures.refused.told h.1,
            surveyed-still (λ t is. is) before h.2,
          );
    })

pub returns-in-Ok-element-clause-ok : goal.returns-in-Ok-element-clause-ok
returns-in-Ok-element-clause-ok g c =
    let s = c.args.self.now in
    let goes = rw (to_z-of_z w64 c.args.value c.ranges.value) at c.note_element.ensures in
    let chosen = ap (is_chosen s.choice) (sym goes) ∙ sym c.is_chosen.ensures ∙ c.if-not-is_chosen.false in
    let fits : SFits w64 c.args.value = c.ranges.value in
    let told = simp to_z-of_z at c.in-Ok-element.ensures.ok in
    let noted = simp to_z-of_z at c.note_element-in-Ok-element.ensures.told in
    rw (c.if-self.false, goes) (record {
      told =
          λ before h. (
            h.0,
            element-taken g.S.Elements.took s.choice s.reading (pending_call s.pending) s.sink c.element.new.self before c.args.name c.args.bit
                c.args.value chosen (λ b t. subst (g.S.Elements.took c.element.new.self)
                (append_assoc b (held (pending_call s.pending)) (OfElement c.args.name c.args.bit c.args.value ∷ []))
                (told.told (b ++ held (pending_call s.pending)) (c.in-Ok.ensures.ok.told b t))) h.1,
            surveyed-more (OfElement c.args.name c.args.bit c.args.value) noted before h.2,
          );
    })

pub returns-in-Err-element-clause-refused : goal.returns-in-Err-element-clause-refused
returns-in-Err-element-clause-refused g c =
    let s = c.args.self.now in
    let goes = rw (to_z-of_z w64 c.args.value c.ranges.value) at c.note_element.ensures in
    let chosen = ap (is_chosen s.choice) (sym goes) ∙ sym c.is_chosen.ensures ∙ c.if-not-is_chosen.false in
    rw c.if-self.false (record {
      told = λ before
          h. (
            h.0,
            element-refused g.S.Elements.took s.choice s.reading (pending_call s.pending) s.sink c.element.new.self before
                (held (pending_call s.pending)) (OfElement c.args.name c.args.bit c.args.value ∷ []) c.args.name c.args.bit c.args.value chosen refl
                (λ b t. subst (g.S.Elements.took c.element.new.self) (append-nil (b ++ held (pending_call s.pending)))
                (c.in-Err-element.ensures.refused.told (b ++ held (pending_call s.pending)) (c.in-Ok.ensures.ok.told b t))) h.1,
            surveyed-still (λ t is. is) before h.2,
          );
    })
