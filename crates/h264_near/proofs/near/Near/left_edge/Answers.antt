use Rattle.h264_near.proofs.near.Near.left_edge.Goals as goal

pub returns : goal.returns
returns c width picture k = k.left
