use Rattle.std.proofs.Common.{length, ◌-◌, true, false}
use Rattle.h264_dpb.specs.Bumping.{marked, missing_in}
use Rattle.h264_dpb.specs.Buffered.{still, entry_of}
use Rattle.h264_dpb.specs.Numbered.{number_of}
use Rattle.h264_dpb.proofs.Rising.{rising-reference, rising-other, rising-made_room, rising-marked}
use Rattle.h264_dpb.proofs.laws.numbers_rise.Goals as goal

pub returns-clause-reference : goal.returns-clause-reference
returns-clause-reference c = λ p b n more h.
    rising-reference number_of 0 n (b.size - missing_in p.held.now) (entry_of p true) (marked (still p) b.entries) more
    (rising-marked number_of 0 n (still p) b.entries h)

pub returns-clause-other : goal.returns-clause-other
returns-clause-other c = λ p b n more h. rising-other number_of 0 n (b.size - b.missing) (entry_of p false) b.entries more h

pub returns-clause-missing : goal.returns-clause-missing
returns-clause-missing c = λ p b n h.
    rising-made_room number_of 0 n (length (marked (still p) b.entries)) (b.size - (missing_in p.held.now - 1)) (marked (still p) b.entries)
    (rising-marked number_of 0 n (still p) b.entries h)
