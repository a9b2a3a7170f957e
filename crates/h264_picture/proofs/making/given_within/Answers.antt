use Rattle.std.proofs.Common.{ap, sym, ◌∙◌}
use Rattle.h264_recon.specs.Constructed.{coded}
use Rattle.h264_recon.specs.Levels.{levels_of}
use Rattle.h264_recon.specs.declared.macroblock.Available.{Available}
use Rattle.h264_picture.proofs.making.given_within.Goals as goal

pub returns-clause-given : goal.returns-clause-given
returns-clause-given c width picture place m e k n i h s p l a =
    let same = c.within_row-m.ensures.same (λ there. rw (k.sized ∙ sym e) at (c.given-m.ensures.within.above_right there).1) in
    ap (λ (z : Available). coded (record { available = z; prediction = c.given-m.result.prediction; weighting = c.given-m.result.weighting })
    (levels_of c.args.slice.now.chroma_qp_index_offset m)) same ∙ c.given-m.ensures.given width picture place m k n i h s p l a
