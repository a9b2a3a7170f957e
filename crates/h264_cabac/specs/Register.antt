-- Range and offset as the code keeps them. A working form.
use Rattle.std.specs.Prelude.{◌≡◌, ℕ, ◌+◌, ◌*◌, ◌/◌, ◌%◌, ◌^◌, ◌<◌, ◌≤◌, List, length}
use Rattle.h264_bits.specs.Peek.{peek_at}
use Rattle.h264_cabac.specs.declared.register.Register.{Register}
use Rattle.h264_cabac.specs.Engine.{EngineState}

-- the highest bits of the number are codIOffset, and the others are those that come next, with zeros past the end
abbrev pub engine_of : List ℕ → Register → EngineState
engine_of bytes r = record { bytes = bytes; at = r.at; range = r.range; offset = r.number / 2 ^ r.ahead }

pub record IsRegister (bytes : List ℕ) (r : Register) : Type 0 where
  pub short : length bytes ≤ 2 ^ 28
  pub inside : r.at ≤ 8 * length bytes
  pub few : r.ahead ≤ 55
  pub aligned : (r.at + r.ahead) % 8 ≡ 0
  pub next : r.number % 2 ^ r.ahead ≡ peek_at r.ahead bytes r.at
  pub high : r.range < 1024
  pub below : r.number < r.range * 2 ^ r.ahead

-- a step may be made from here
pub record IsReady (bytes : List ℕ) (r : Register) : Type 0 where
  pub stands : IsRegister bytes r
  pub loaded : 16 ≤ r.ahead
  pub low : 256 ≤ r.range
  pub high : r.range < 512
