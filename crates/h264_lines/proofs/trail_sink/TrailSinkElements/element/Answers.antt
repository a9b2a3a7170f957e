use Rattle.std.proofs.Common.{rules, SFits, w64, ap, sym, ◌∙◌, ◌++◌}
use Rattle.std.proofs.lemmas.Int.{to_z-of_z}
use Rattle.circular_buffer.specs.Buffer.{keep_last}
use Rattle.h264_base.specs.Call.{OfElement}
use Rattle.h264_lines.specs.Told.{elements_of, elements_in}
use Rattle.h264_lines.proofs.Kept.{keep-keep}
use Rattle.h264_lines.proofs.Calls.{elements-more}
use Rattle.h264_lines.proofs.trail_sink.TrailSinkElements.element.Goals as goal

pub returns-clause-ok : goal.returns-clause-ok
returns-clause-ok c =
    let e = elements_in (OfElement c.args.name c.args.bit c.args.value) in
    let f : SFits w64 c.args.value = search rules in
    let noted = simp to_z-of_z at c.note.ensures in
    record {
      told = λ before h. noted ∙ ap (λ l. keep_last 16 (l ++ e)) h ∙ keep-keep 16 (elements_of before) e ∙
          ap (keep_last 16) (sym (elements-more before (OfElement c.args.name c.args.bit c.args.value)));
    }
