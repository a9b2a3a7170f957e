use Rattle.h264_strict.specs.Strict.{found_of}
use Rattle.h264_strict.specs.StrictRules.{listed}
use Rattle.h264_strict.proofs.Broken.{noted-more}
use Rattle.h264_strict.proofs.strict.Strict.note_two.Goals as goal

pub returns-clause-found : goal.returns-clause-found
returns-clause-found c r =
    noted-more r c.args.bit (found_of c.args.self.now r) (found_of c.note.new.self r) (found_of c.note-2.new.self r) (listed c.args.first)
    (listed c.args.second)
    (c.note.ensures.found r) (c.note-2.ensures.found r)
