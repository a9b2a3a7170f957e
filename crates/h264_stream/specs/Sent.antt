-- Places in what was sent, where NAL units came without start codes. What is judged is the byte stream: all that was sent, with a start code put in before
-- each such unit. To be read beside docs/LIBRARY.md.
use Rattle.std.specs.Prelude.{ℕ, ◌+◌, ◌-◌, min, List, [], ◌∷◌, Result, Ok, Err}
use Rattle.h264_base.specs.declared.stop.Stop.{Stop}
use Rattle.h264_base.specs.declared.stop.Stop.TheVariants.{No, Outside, Memory, Read, Write}
use Rattle.h264_base.specs.declared.summary.Summary.{Summary}

-- what is put in before a unit (B.1.1)
abbrev pub start_code : List ℕ
start_code = 0 ∷ 0 ∷ 1 ∷ []

-- Of start codes that were put in, and that begin at these bits of the byte stream, how many bits stand before this bit: all 24 of one before it, and of one
-- in which it stands those before it.
unfoldable pub code_bits_before : List ℕ → ℕ → ℕ
code_bits_before [] bit = 0
code_bits_before (code ∷ codes) bit = min 24 (bit - code) + code_bits_before codes bit

-- The bit of what was sent that is this bit of the byte stream. A bit of a start code that was put in is told as the first bit of its unit.
abbrev pub sent_bit : List ℕ → ℕ → ℕ
sent_bit codes bit = bit - code_bits_before codes bit

-- the answer to the byte stream, with its place in what was sent
abbrev pub sent_answer : List ℕ → Result Summary Stop → Result Summary Stop
sent_answer codes (Ok summary) = Ok summary
sent_answer codes (Err (No bit rule)) = Err (No (sent_bit codes bit) rule)
sent_answer codes (Err (Outside bit feature)) = Err (Outside (sent_bit codes bit) feature)
sent_answer codes (Err Memory) = Err Memory
sent_answer codes (Err Read) = Err Read
sent_answer codes (Err Write) = Err Write
