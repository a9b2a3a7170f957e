use Rattle.h264_plane.specs.declared.frame.Component.TheVariants.{Y, Cb, Cr}
use Rattle.h264_recon.specs.Lines.{samples_of}
use Rattle.h264_recon.specs.Placed.{weights_by}
use Rattle.h264_recon.specs.Skips.{skipped}
use Rattle.h264_recon.proofs.Step.{shows, stored_next, saved_from, joined_made, room_all}
use Rattle.h264_recon.proofs.in_place.construct_skipped.Goals as goal
use Rattle.h264_recon.proofs.Within.{none-within}

pub returns-clause-step : goal.returns-clause-step
returns-clause-step c =
    let a = c.args in
    let lines = c.make_skipped.new.lines in
    λ k l u inside below shown is mu held.
    let m = skipped a.skipped.now a.references.now.places.now (weights_by a.references.now.weights.now) l in
    let within = none-within k.across a.position.column a.position.row in
    let made = c.make_skipped.ensures.made k l inside below shown is in (
      stored_next k a.position.column a.position.row m u a.lines.now lines c.save.new.lines inside within tt mu held made c.make_skipped.ensures.above
          c.save.ensures,
      shows k a.position.column a.position.row m u a.lines.now (samples_of lines.last) a.frame.now c.place.new.frame inside within tt mu held made
          c.place.ensures,
    )

pub returns-clause-some : goal.returns-clause-some
returns-clause-some c =
    let a = c.args in
    λ k l u inside below shown is held.
    let m = skipped a.skipped.now a.references.now.places.now (weights_by a.references.now.weights.now) l in
    joined_made k a.position.column a.position.row m u a.lines.now (samples_of c.make_skipped.new.lines.last) a.frame.now c.place.new.frame inside
    (none-within k.across a.position.column a.position.row) tt held
    (c.make_skipped.ensures.made k l inside below shown is)
    (room_all a.position.column a.position.row a.frame.now c.requires.y c.requires.cb c.requires.cr) c.place.ensures

pub returns-clause-size : goal.returns-clause-size
returns-clause-size c = λ p. record { columns = (c.place.ensures p).width; rows = (c.place.ensures p).height }

pub returns-clause-lines : goal.returns-clause-lines
returns-clause-lines c = λ p. (saved_from c.args.position.column c.args.lines.now c.make_skipped.new.lines c.save.new.lines c.make_skipped.ensures.above
    c.save.ensures p).size

pub save-requires-clause-y : goal.save-requires-clause-y
save-requires-clause-y c = rw (c.make_skipped.ensures.above Y) c.requires.y_lines

pub save-requires-clause-cb : goal.save-requires-clause-cb
save-requires-clause-cb c = rw (c.make_skipped.ensures.above Cb) c.requires.cb_lines

pub save-requires-clause-cr : goal.save-requires-clause-cr
save-requires-clause-cr c = rw (c.make_skipped.ensures.above Cr) c.requires.cr_lines
