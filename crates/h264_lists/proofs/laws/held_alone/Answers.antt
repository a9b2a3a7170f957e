use Rattle.std.proofs.Common.{◌≡◌, true}
use Rattle.h264_lists.proofs.Held.{built-held}
use Rattle.h264_lists.proofs.laws.held_alone.Goals as goal

pub returns : goal.returns
returns c = λ current list frames p h. built-held current list frames (λ f. p f ≡ true) h
