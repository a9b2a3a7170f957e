use Rattle.std.proofs.Common.{rules, SFits, w32}
use Rattle.std.proofs.lemmas.Int.{to_z-of_z}
use Rattle.h264_base.specs.Call.{OfSlice}
use Rattle.h264_strict.proofs.Broken.{both-more}
use Rattle.h264_strict.proofs.strict_sink.StrictSinkFrameSink.slice.Goals as goal

pub returns-clause-ok : goal.returns-clause-ok
returns-clause-ok g c =
    let old = c.args.self.now in
    let f : SFits w32 c.args.count = search rules in
    let call = OfSlice c.args.byte c.args.first_mb_in_slice c.args.slice_type c.args.frame_num c.args.count in
    let took = simp to_z-of_z at c.in_ok-slice.ensures.ok in
    let noted = simp to_z-of_z at c.note_slice.ensures c.args.slice_type in
    record { told = both-more g.S.Elements.took old.sink c.slice.new.self call old.strict c.note_slice.new.self took noted }
