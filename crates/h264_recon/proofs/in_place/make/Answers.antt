use Rattle.std.proofs.Common.{refl, ap, sym, ◌∙◌}
use Rattle.h264_scale.proofs.Whole.{always}
use Rattle.h264_recon.specs.Constructed.{coded}
use Rattle.h264_recon.specs.Predicted.{prediction_in, pcm_of}
use Rattle.h264_recon.specs.ReadLevels.{levels_in, is_of_samples}
use Rattle.h264_recon.proofs.FromLevels.{if_so, pcm_fits}
use Rattle.h264_recon.proofs.Kernels.{pcm_all}
use Rattle.h264_recon.proofs.in_place.make.Goals as goal

pub returns-in-Intra-clause-range : goal.returns-in-Intra-clause-range
returns-in-Intra-clause-range c e = c.make_intra.ensures.range

pub returns-in-Intra-clause-made : goal.returns-in-Intra-clause-made
returns-in-Intra-clause-made c =
    if_so c.make_intra.result (λ made k inside below ok shown. made k c.args.position.row (coded c.args.m.now (levels_in c.args.levels.now))
    (ap prediction_in c.in-Intra.is) refl ok refl) c.make_intra.ensures.made

pub returns-in-Inter-clause-range : goal.returns-in-Inter-clause-range
returns-in-Inter-clause-range c e = c.make_inter.ensures.range

pub returns-in-Inter-clause-made : goal.returns-in-Inter-clause-made
returns-in-Inter-clause-made c =
    if_so c.make_inter.result (λ made k inside below ok shown. made k (coded c.args.m.now (levels_in c.args.levels.now)) c.args.lines.now inside below
    (ap prediction_in c.in-Inter.is) refl shown refl) c.make_inter.ensures.made

pub returns-in-Pcm-clause-range : goal.returns-in-Pcm-clause-range
returns-in-Pcm-clause-range c e =
    always _ (pcm_fits c.args.levels.now (sym e ∙ ap (λ z. is_of_samples (prediction_in z)) c.in-Pcm.is))

pub returns-in-Pcm-clause-made : goal.returns-in-Pcm-clause-made
returns-in-Pcm-clause-made c k inside below ok shown =
    pcm_all k c.args.position.column c.args.position.row (coded c.args.m.now (levels_in c.args.levels.now)) c.args.lines.now c.put.new.own
    (pcm_of c.in-Pcm.samples.now) (ap prediction_in c.in-Pcm.is) c.put.ensures.y c.put.ensures.cb c.put.ensures.cr
