use Rattle.std.proofs.Common.{sym, ap}
use Rattle.h264_strict.specs.BufferUnits.{ended_bits}
use Rattle.h264_strict.proofs.BufferNotes.{notes-ended}
use Rattle.h264_strict.proofs.Contents.{none-noted}
use Rattle.h264_strict.proofs.buffer_units.note_ended.Goals as goal

pub returns-in_default : goal.returns-in_default
returns-in_default c r = sym (none-noted _ _ (ap (ended_bits r) c.in_default.is))

pub returns : goal.returns
returns c r =
    notes-ended r _ _ _ _ _ _ c.in-Some.ended _ _ _ _ _ _ c.in-Some.is c.broken_if.ensures c.broken_if-2.ensures c.broken_if-3.ensures c.broken_if-4.ensures
    c.broken_if-5.ensures
    (c.note_in.ensures r) (c.note_in-2.ensures r) (c.note_in-3.ensures r) (c.note_in-4.ensures r) (c.note_in-5.ensures r)
