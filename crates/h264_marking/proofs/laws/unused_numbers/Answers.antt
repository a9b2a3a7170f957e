use Rattle.h264_marking.proofs.Missing.{is-gap, no-gap}
use Rattle.h264_marking.proofs.laws.unused_numbers.Goals as goal

pub returns-clause-gap : goal.returns-clause-gap
returns-clause-gap c = λ prev n p f ne. is-gap prev n p f ne

pub returns-clause-none : goal.returns-clause-none
returns-clause-none c = λ prev n e. no-gap prev n e
