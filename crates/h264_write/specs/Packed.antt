-- Bits in bytes, the highest bit of a byte first. A working form.
use Rattle.std.specs.Prelude.{ℕ, ◌+◌, ◌*◌, false, slice_index_or, drop, map, List}
use Rattle.std.specs.List.{range_with_len}
use Rattle.h264_base.specs.Word.{Word, digit}

-- bit i as a number, 0 after the last
abbrev pub digit_at : Word → ℕ → ℕ
digit_at bits i = digit (slice_index_or bits i false)

-- the byte that the first eight bits make
unfoldable pub first_byte : Word → ℕ
first_byte bits = 128 * digit_at bits 0 + 64 * digit_at bits 1 + 32 * digit_at bits 2 + 16 * digit_at bits 3
    + 8 * digit_at bits 4 + 4 * digit_at bits 5 + 2 * digit_at bits 6 + digit_at bits 7

-- so many bytes of the bits
unfoldable pub packed : ℕ → Word → List ℕ
packed n bits = map (λ k. first_byte (drop (8 * k) bits)) (range_with_len 0 n)
