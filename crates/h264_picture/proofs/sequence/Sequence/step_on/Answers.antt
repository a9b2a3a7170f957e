use Rattle.std.proofs.Common.{refl}
use Rattle.h264_picture.proofs.Steps.{same-samples}
use Rattle.h264_picture.proofs.Sound.{next-sound}
use Rattle.h264_picture.proofs.Room.{small-sides}
use Rattle.h264_picture.proofs.sequence.Sequence.step_on.Goals as goal

pub returns-clause-samples : goal.returns-clause-samples
returns-clause-samples c making picture s = same-samples making picture c.args.self.now _ refl refl refl s

pub invariant_of-self-clause-sound : goal.invariant_of-self-clause-sound
invariant_of-self-clause-sound c = next-sound _ _ _ _ _ c.args.self.now.sound c.position_after-self.ensures.column c.position_after-self.ensures.next

pub position_after-self-requires : goal.position_after-self-requires
position_after-self-requires c = record { column = c.args.self.now.sound.column; small = small-sides _ _ _ _ c.args.self.now.sound c.requires }
