use Rattle.std.proofs.Common.{length, ◌-◌, true, false, refl}
use Rattle.h264_dpb.specs.Bumping.{marked, missing_in}
use Rattle.h264_dpb.specs.Buffered.{still, entry_of}
use Rattle.h264_dpb.proofs.Bounded.{used-marked}
use Rattle.h264_dpb.proofs.InUse.{used-reference, used-other, used-made_room}
use Rattle.h264_dpb.proofs.laws.frames_are_in_use.Goals as goal

pub returns-clause-reference : goal.returns-clause-reference
returns-clause-reference c = λ p b. used-reference (b.size - missing_in p.held.now) (entry_of p true) (marked (still p) b.entries) refl
    (used-marked (still p) b.entries)

pub returns-clause-other : goal.returns-clause-other
returns-clause-other c = λ p b h. used-other (b.size - b.missing) (entry_of p false) b.entries refl h

pub returns-clause-missing : goal.returns-clause-missing
returns-clause-missing c = λ p b. used-made_room (length (marked (still p) b.entries)) (b.size - (missing_in p.held.now - 1)) (marked (still p) b.entries)
    (used-marked (still p) b.entries)
