use Rattle.h264_plane.specs.declared.frame.Component.TheVariants.{Y, Cb, Cr}
use Rattle.h264_recon.specs.Constructed.{coded}
use Rattle.h264_recon.specs.Lines.{samples_of}
use Rattle.h264_recon.specs.ReadLevels.{levels_in}
use Rattle.h264_recon.proofs.Step.{shows, stored_next, saved_from, joined_made, room_all}
use Rattle.h264_recon.proofs.in_place.construct.Goals as goal

pub returns-clause-step : goal.returns-clause-step
returns-clause-step c =
    let a = c.args in
    let lines = c.make.new.lines in
    λ k u inside below ok shown mu held.
    let m = coded a.m.now (levels_in a.levels.now) in
    let made = c.in_ok-make.ensures.made k inside below ok.possible shown in (
      stored_next k a.position.column a.position.row m u a.lines.now lines c.save.new.lines inside ok.within ok.possible mu held made c.make.ensures.above
          c.save.ensures,
      shows k a.position.column a.position.row m u a.lines.now (samples_of lines.last) a.frame.now c.place.new.frame inside ok.within ok.possible mu held made
          c.place.ensures,
    )

pub returns-clause-some : goal.returns-clause-some
returns-clause-some c =
    let a = c.args in
    λ k u inside below ok shown held.
    joined_made k a.position.column a.position.row (coded a.m.now (levels_in a.levels.now)) u a.lines.now (samples_of c.make.new.lines.last) a.frame.now
    c.place.new.frame inside ok.within ok.possible held (c.in_ok-make.ensures.made k inside below ok.possible shown)
    (room_all a.position.column a.position.row a.frame.now c.requires.y c.requires.cb c.requires.cr) c.place.ensures

pub returns-clause-size : goal.returns-clause-size
returns-clause-size c = λ p. record { columns = (c.place.ensures p).width; rows = (c.place.ensures p).height }

pub returns-clause-lines : goal.returns-clause-lines
returns-clause-lines c = λ p. (saved_from c.args.position.column c.args.lines.now c.make.new.lines c.save.new.lines c.make.ensures.above c.save.ensures p).size

pub save-requires-clause-y : goal.save-requires-clause-y
save-requires-clause-y c = rw (c.make.ensures.above Y) c.requires.y_lines

pub save-requires-clause-cb : goal.save-requires-clause-cb
save-requires-clause-cb c = rw (c.make.ensures.above Cb) c.requires.cb_lines

pub save-requires-clause-cr : goal.save-requires-clause-cr
save-requires-clause-cr c = rw (c.make.ensures.above Cr) c.requires.cr_lines
