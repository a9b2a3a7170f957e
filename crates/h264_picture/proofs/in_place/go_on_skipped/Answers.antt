use Rattle.std.proofs.Common.{◌∙◌}
use Rattle.h264_plane.specs.declared.frame.Component.TheVariants.{Y, Cb, Cr}
use Rattle.h264_recon.specs.Placed.{weights_by}
use Rattle.h264_recon.specs.Skips.{skipped}
use Rattle.h264_picture.specs.Decoded.{filters}
use Rattle.h264_picture.proofs.Held.{held-step}
use Rattle.h264_picture.proofs.in_place.go_on_skipped.Goals as goal

pub returns-clause-lines : goal.returns-clause-lines
returns-clause-lines c = c.construct_skipped.ensures.lines

pub returns-clause-size : goal.returns-clause-size
returns-clause-size c = λ p. record {
  columns = (c.filter_skipped.ensures.size p).columns ∙ (c.construct_skipped.ensures.size p).columns;
  rows = (c.filter_skipped.ensures.size p).rows ∙ (c.construct_skipped.ensures.size p).rows;
}

pub returns-clause-held : goal.returns-clause-held
returns-clause-held c k place slices picture q l n i j shown residual is keeps shows filter offsets held =
    let a = c.args in
    held-step k place slices picture q (skipped a.coded.now.own.now a.references.now.places.now (weights_by a.references.now.weights.now) l) a.lines.now
    c.construct_skipped.new.lines a.frame.now c.construct_skipped.new.frame c.filter_skipped.new.frame a.position.column a.position.row n i j is tt
    (λ p. record {
      columns = (c.filter_skipped.ensures.size p).columns ∙ (c.construct_skipped.ensures.size p).columns;
      rows = (c.filter_skipped.ensures.size p).rows ∙ (c.construct_skipped.ensures.size p).rows;
    })
    (λ u allowed stored. c.construct_skipped.ensures.some k l u i j shown residual stored)
    (λ u allowed made stored. c.construct_skipped.ensures.step k l u i j shown residual made stored)
    (c.filter_skipped.ensures.filtered (filters slices) k.across picture q keeps shows n i filter offsets) held

pub filter_skipped-requires-clause-y : goal.filter_skipped-requires-clause-y
filter_skipped-requires-clause-y c = let z = c.construct_skipped.ensures.size Y in (rw z.columns c.requires.y.0, rw z.rows c.requires.y.1)

pub filter_skipped-requires-clause-cb : goal.filter_skipped-requires-clause-cb
filter_skipped-requires-clause-cb c = let z = c.construct_skipped.ensures.size Cb in (rw z.columns c.requires.cb.0, rw z.rows c.requires.cb.1)

pub filter_skipped-requires-clause-cr : goal.filter_skipped-requires-clause-cr
filter_skipped-requires-clause-cr c = let z = c.construct_skipped.ensures.size Cr in (rw z.columns c.requires.cr.0, rw z.rows c.requires.cr.1)
