use Rattle.std.proofs.Common.{◌∙◌, arith}
use Rattle.h264_plane.specs.declared.frame.Component.TheVariants.{Y}
use Rattle.h264_recon.proofs.Weighted.{four-more}
use Rattle.h264_recon.proofs.weighing.weigh_luma_runs.Goals as goal

pub loop-r-preserved : goal.loop-r-preserved
loop-r-preserved c =
    let l = c.loop-r in
    record {
      size = c.weigh_run.auto.samples ∙ l.invariant.size;
      done = four-more Y l.r c.args.weights.now c.args.out.now l.out c.weigh_run.new.samples l.invariant.done l.invariant.rest c.weigh_run.ensures;
      rest = λ n h. c.weigh_run.ensures.after n (omega arith) ∙ l.invariant.rest n (omega arith);
    }
