use Rattle.std.proofs.Common.{rules, SFits, w64}
use Rattle.std.proofs.lemmas.Int.{to_z-of_z}
use Rattle.h264_base.specs.Call.{OfElement}
use Rattle.h264_strict.proofs.Broken.{both-more}
use Rattle.h264_strict.proofs.strict_sink.StrictSinkElements.element.Goals as goal

pub returns-clause-ok : goal.returns-clause-ok
returns-clause-ok g c =
    let old = c.args.self.now in
    let f : SFits w64 c.args.value = search rules in
    let took = simp to_z-of_z at c.in_ok-element.ensures.ok in
    let noted = simp to_z-of_z at c.note_element.ensures in
    record {
      told = both-more g.S.Elements.took old.sink c.element.new.self (OfElement c.args.name c.args.bit c.args.value) old.strict c.note_element.new.self
          took noted;
    }
