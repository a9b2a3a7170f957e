use Rattle.std.proofs.Common.{◌≡◌, true, length-set}
use Rattle.h264_sps.specs.declared.sps.Sps.{Sps}
use Rattle.h264_sps.specs.Usable.{is_accepted}
use Rattle.h264_sets.proofs.Each.{put-each}
use Rattle.h264_sets.proofs.Sets.put_sps.Goals as goal

pub invariant_of-self : goal.invariant_of-self
invariant_of-self c =
    let i = c.self.invariant in
    let sps = c.args.sps in
    (simp (length-set) i.0, i.1, put-each (λ (s : Sps). is_accepted s ≡ true) c.self.inside.sps.items sps.seq_parameter_set_id sps c.requires.accepted i.2, i.3)
