use Rattle.std.proofs.Common.{◌∙◌, arith}
use Rattle.h264_recon.proofs.Weighted.{two-more}
use Rattle.h264_recon.proofs.weighing.weigh_chroma_runs.Goals as goal

pub loop-r-preserved : goal.loop-r-preserved
loop-r-preserved g c =
    let l = c.loop-r in
    record {
      size = c.weigh_run.auto.samples ∙ l.invariant.size;
      done = two-more c.chroma_component-plane.result l.r c.args.weights.now c.args.out.now l.out c.weigh_run.new.samples l.invariant.done l.invariant.rest
          c.weigh_run.ensures;
      rest = λ n h. c.weigh_run.ensures.after n (omega arith) ∙ l.invariant.rest n (omega arith);
    }
