use Rattle.std.proofs.Common.{◌*◌, ap}
use Rattle.h264_strict.specs.declared.buffer_units.Came.{Came}
use Rattle.h264_strict.proofs.Units.{notes-all}
use Rattle.h264_strict.proofs.strict_units.note_unit.Goals as goal

pub returns-clause-noted : goal.returns-clause-noted
returns-clause-noted c =
    let old = c.args.noted.now in (
      c.after-noted.ensures,
      notes-all old.found c.note_bytes.new.found c.note_in.new.found c.note_in-2.new.found c.note_ended.new.found old.before c.args.unit.now
          (8 * c.from-bit.result) c.by_zero_byte-zero_byte.result c.by_pic_type-pic_type.result c.came-came.result.ended
          (ap (λ n. 8 * n) c.from-bit.ensures.value) c.by_zero_byte-zero_byte.ensures c.by_pic_type-pic_type.ensures
          (ap (λ (x : Came). x.ended) c.came-came.ensures)
          c.in_ok-told.ensures.noted c.note_in.ensures c.note_in-2.ensures c.note_ended.ensures,
    )
