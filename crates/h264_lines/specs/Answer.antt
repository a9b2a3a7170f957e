-- What is told of an answer: its status, and what a sink that may break off makes of it. To be read beside docs/OUTPUT.md.
use Rattle.std.specs.Prelude.{ℕ, Bool, true, false, Result, Ok, Err}
use Rattle.h264_base.specs.declared.stop.Stop.{Stop}
use Rattle.h264_base.specs.declared.stop.Stop.TheVariants.{No, Outside, Memory, Read, Write}
use Rattle.h264_base.specs.declared.summary.Summary.{Summary}

-- The answer that is told: that a write failed where a sink broke off; where none did, a call that failed was for want of memory.
abbrev pub told_of : (broke_off : Bool) → Result Summary Stop → Result Summary Stop
told_of true answer = Err Write
told_of false (Ok summary) = Ok summary
told_of false (Err (No bit rule)) = Err (No bit rule)
told_of false (Err (Outside bit feature)) = Err (Outside bit feature)
told_of false (Err Memory) = Err Memory
told_of false (Err Read) = Err Read
told_of false (Err Write) = Err Memory

-- the exit status
abbrev pub answer_status : Result Summary Stop → ℕ
answer_status (Ok summary) = 0
answer_status (Err (No bit rule)) = 1
answer_status (Err (Outside bit feature)) = 2
answer_status (Err Memory) = 3
answer_status (Err Read) = 4
answer_status (Err Write) = 4
