use Rattle.std.proofs.Common.{◌++◌, codes, refl}
use Rattle.h264_pages.specs.Pages.{text_on, quoted, text_field, answer_fields}
use Rattle.h264_command.proofs.Texts.{object-closed}
use Rattle.h264_pages.proofs.Growing.{three-added}
use Rattle.h264_command.specs.Endings.{IsVerdictObject}
use Rattle.h264_command.proofs.Endings.{guide-said, some-added}
use Rattle.h264_command.proofs.telling.put_verdict_object.Goals as goal

pub returns-clause-answer : goal.returns-clause-answer
returns-clause-answer c whole =
    let closed = c.close_object.ensures whole in
    let filled = c.put_verdict_fields.ensures.answer closed.0 in
    let opened = c.open_object.ensures filled.0 in (
      opened.0,
      (
        filled.1.0,
        object-closed (text_on c.args.page.now) (codes "{\"file\":" ++ quoted c.args.job.now.file.now) (text_field (codes "kind") (codes "verdict"))
            (answer_fields c.args.found.now.answer) filled.1.0 (codes "}\n")
            _ _ _ opened.1 filled.1.1 closed.1,
      ),
    )

pub returns-clause-whole : goal.returns-clause-whole
returns-clause-whole c =
    let last = c.close_object.new.self in
    let fields = c.put_verdict_fields.ensures.whole in
    let added = three-added c.args.page.now c.open_object.new.self c.put_verdict_fields.new.page last _ _ _ c.open_object.ensures fields.1
    c.close_object.ensures in
    some-added c.args.page.now last _ (IsVerdictObject c.args.job.now.file.now c.args.found.now) added (record {
      finding = c.finding.result;
      is_finding = c.finding.ensures;
      guide = c.guide_on-guide.result;
      is_guide = guide-said c.args.job.now.file c.args.found.now.answer c.guide_on-guide.result c.guide_on-guide.ensures.said c.guide_on-guide.ensures.file;
      words = fields.0;
      is = refl;
    })
