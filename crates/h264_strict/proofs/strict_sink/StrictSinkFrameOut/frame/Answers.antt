use Rattle.std.proofs.Common.{rules, SFits, w32}
use Rattle.std.proofs.lemmas.Int.{to_z-of_z}
use Rattle.h264_strict.proofs.Broken.{both-more, frame-advances, on-ok}
use Rattle.h264_strict.proofs.strict_sink.StrictSinkFrameOut.frame.Goals as goal

pub returns-clause-ok : goal.returns-clause-ok
returns-clause-ok g c =
    let old = c.args.self.now in
    let f : SFits w32 c.args.count = search rules in
    let ok = simp to_z-of_z at c.frame.ensures.ok in
    on-ok c.frame.result
    (λ took. record { told = both-more g.S.Elements.took old.sink c.frame.new.self _ old.strict old.strict took (frame-advances old.strict _ _ _ _) })
    ok
