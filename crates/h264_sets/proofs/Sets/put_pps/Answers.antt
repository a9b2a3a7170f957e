use Rattle.std.proofs.Common.{◌≤◌, length-set}
use Rattle.h264_pps.specs.declared.Pps.{Pps}
use Rattle.h264_sets.proofs.Each.{put-each}
use Rattle.h264_sets.proofs.Sets.put_pps.Goals as goal

pub invariant_of-self : goal.invariant_of-self
invariant_of-self c =
    let i = c.self.invariant in
    let pps = c.args.pps in (
      i.0,
      simp (length-set) i.1,
      i.2,
      put-each (λ (p : Pps). p.seq_parameter_set_id ≤ 31) c.self.inside.pps.items pps.pic_parameter_set_id pps
          c.requires.names i.3,
    )
