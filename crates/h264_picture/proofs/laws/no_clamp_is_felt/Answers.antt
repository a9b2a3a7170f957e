use Rattle.h264_picture.proofs.Clamps.{qp-stated, offsets-stated, buffer-stated}
use Rattle.h264_picture.proofs.StatedWeights.{weights-stated}
use Rattle.h264_picture.proofs.laws.no_clamp_is_felt.Goals as goal

pub returns-clause-qp : goal.returns-clause-qp
returns-clause-qp c = qp-stated

pub returns-clause-offsets : goal.returns-clause-offsets
returns-clause-offsets c = offsets-stated

pub returns-clause-weights : goal.returns-clause-weights
returns-clause-weights c = weights-stated

pub returns-clause-buffer : goal.returns-clause-buffer
returns-clause-buffer c = buffer-stated
