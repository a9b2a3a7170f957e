-- What the readers of elements give, as the grammars see it. A working form.
use Rattle.std.specs.Prelude.{ℕ, ℤ, pos, Bool}
use Rattle.h264_base.specs.Word.{digit}
use Rattle.h264_base.specs.Grammar.{Found as Seen, Ahead as SeenAhead}
use Rattle.h264_bits.specs.declared.element.Found.{Found}
use Rattle.h264_bits.specs.declared.element.Ahead.{Ahead}

abbrev pub seen_unsigned : Found ℕ → Seen
seen_unsigned f = record { bit = f.bit; value = pos f.value }

abbrev pub seen_signed : Found ℤ → Seen
seen_signed f = record { bit = f.bit; value = f.value }

-- a flag, as u(1)
abbrev pub seen_flag : Found Bool → Seen
seen_flag f = record { bit = f.bit; value = pos (digit f.value) }

abbrev pub seen_ahead : Ahead → SeenAhead
seen_ahead a = record { bit = a.bit; follows = a.follows }
