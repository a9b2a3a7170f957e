use Rattle.h264_recon.proofs.weighing.weigh_run.Goals as goal

pub weigh-requires-clause-range : goal.weigh-requires-clause-range
weigh-requires-clause-range g c = rw c.of_plane.ensures ((c.requires.range c.in-Some.weights c.in-Some.is).each c.args.plane)
