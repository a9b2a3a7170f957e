use Rattle.h264_dpb.proofs.Renaming.{reference-renamed, other-renamed, room-renamed, marked-renamed, flushed-renamed}
use Rattle.h264_dpb.proofs.laws.names_are_open.Goals as goal

pub returns-clause-reference : goal.returns-clause-reference
returns-clause-reference g c = reference-renamed

pub returns-clause-other : goal.returns-clause-other
returns-clause-other g c = other-renamed

pub returns-clause-room : goal.returns-clause-room
returns-clause-room g c = room-renamed

pub returns-clause-marking : goal.returns-clause-marking
returns-clause-marking g c = marked-renamed

pub returns-clause-all : goal.returns-clause-all
returns-clause-all g c = flushed-renamed
