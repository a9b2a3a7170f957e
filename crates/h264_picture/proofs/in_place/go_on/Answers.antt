use Rattle.std.proofs.Common.{◌∙◌}
use Rattle.h264_plane.specs.declared.frame.Component.TheVariants.{Y, Cb, Cr}
use Rattle.h264_recon.specs.Constructed.{coded}
use Rattle.h264_recon.specs.ReadLevels.{levels_in}
use Rattle.h264_picture.specs.Decoded.{filters}
use Rattle.h264_picture.proofs.Held.{held-step}
use Rattle.h264_picture.proofs.in_place.go_on.Goals as goal

pub returns-clause-lines : goal.returns-clause-lines
returns-clause-lines c = c.construct.ensures.lines

pub returns-clause-size : goal.returns-clause-size
returns-clause-size c = λ p. record {
  columns = (c.filter_coded.ensures.size p).columns ∙ (c.construct.ensures.size p).columns;
  rows = (c.filter_coded.ensures.size p).rows ∙ (c.construct.ensures.size p).rows;
}

pub returns-clause-held : goal.returns-clause-held
returns-clause-held c k place slices picture q n i j shown possible is one keeps shows filter offsets held =
    let a = c.args in
    held-step k place slices picture q (coded a.m.now (levels_in a.finish.now.levels)) a.lines.now c.construct.new.lines a.frame.now c.construct.new.frame
    c.filter_coded.new.frame a.position.column a.position.row n i j is possible
    (λ p. record {
      columns = (c.filter_coded.ensures.size p).columns ∙ (c.construct.ensures.size p).columns;
      rows = (c.filter_coded.ensures.size p).rows ∙
          (c.construct.ensures.size p).rows;
    })
    (λ u allowed stored. c.in_ok-construct.ensures.some k u i j allowed shown stored)
    (λ u allowed made stored. c.in_ok-construct.ensures.step k u i j allowed shown made stored)
    (c.filter_coded.ensures.filtered (filters slices) k.across picture q one keeps shows n i filter offsets) held

pub filter_coded-requires-clause-y : goal.filter_coded-requires-clause-y
filter_coded-requires-clause-y c = let z = c.construct.ensures.size Y in (rw z.columns c.requires.y.0, rw z.rows c.requires.y.1)

pub filter_coded-requires-clause-cb : goal.filter_coded-requires-clause-cb
filter_coded-requires-clause-cb c = let z = c.construct.ensures.size Cb in (rw z.columns c.requires.cb.0, rw z.rows c.requires.cb.1)

pub filter_coded-requires-clause-cr : goal.filter_coded-requires-clause-cr
filter_coded-requires-clause-cr c = let z = c.construct.ensures.size Cr in (rw z.columns c.requires.cr.0, rw z.rows c.requires.cr.1)
