-- What C reads of an answer. To be read beside include/h264v.h.
use Rattle.std.specs.Prelude.{◌≡◌, ℕ, Result, Ok, Err}
use Rattle.h264_base.specs.declared.stop.Stop.{Stop}
use Rattle.h264_base.specs.declared.stop.Stop.TheVariants.{No, Outside, Memory, Read, Write}
use Rattle.h264_c.specs.declared.verdict.CVerdict.{CVerdict}
use Rattle.h264_base.specs.declared.summary.Summary.{Summary}

-- yes, no, outside, want of memory; a device that failed, which the library never answers
abbrev pub kind_of : Result Summary Stop → ℕ
kind_of (Ok summary) = 0
kind_of (Err (No bit rule)) = 1
kind_of (Err (Outside bit feature)) = 2
kind_of (Err Memory) = 3
kind_of (Err Read) = 4
kind_of (Err Write) = 4

-- where a no or an outside stands
abbrev pub bit_of : Result Summary Stop → ℕ
bit_of (Ok summary) = 0
bit_of (Err (No bit rule)) = bit
bit_of (Err (Outside bit feature)) = bit
bit_of (Err Memory) = 0
bit_of (Err Read) = 0
bit_of (Err Write) = 0

-- what a legal stream has
abbrev pub units_of : Result Summary Stop → ℕ
units_of (Ok summary) = summary.units
units_of (Err stop) = 0

abbrev pub pictures_of : Result Summary Stop → ℕ
pictures_of (Ok summary) = summary.pictures
pictures_of (Err stop) = 0

abbrev pub frames_of : Result Summary Stop → ℕ
frames_of (Ok summary) = summary.frames
frames_of (Err stop) = 0

-- The fields of a verdict are those of this answer.
pub record IsVerdict (answer : Result Summary Stop) (verdict : CVerdict) : Type 0 where
  pub kind : verdict.kind ≡ kind_of answer
  pub bit : verdict.bit ≡ bit_of answer
  pub units : verdict.units ≡ units_of answer
  pub pictures : verdict.pictures ≡ pictures_of answer
  pub frames : verdict.frames ≡ frames_of answer
