use Rattle.std.proofs.Common.{true, arith}
use Rattle.h264_dpb.specs.Buffered.{still, entry_of}
use Rattle.h264_dpb.specs.Numbered.{number_of}
use Rattle.h264_dpb.proofs.Rising.{marked-counted, few, few-other}
use Rattle.h264_dpb.proofs.laws.references_have_room.Goals as goal

pub returns-clause-reference : goal.returns-clause-reference
returns-clause-reference c = λ p b h held most.
    let less = few-other number_of 0 p.held.now (entry_of p true) b.entries h held in
    rw (marked-counted number_of (still p) b.entries) (omega (arith, less, most))

pub returns-clause-missing : goal.returns-clause-missing
returns-clause-missing c = λ p b n h some most.
    let less = few number_of 0 n p.held.now b.entries h in
    (some, rw (marked-counted number_of (still p) b.entries) (omega (arith, less, most)))
