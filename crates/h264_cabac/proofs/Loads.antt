-- Four bytes as a number.
use Rattle.std.proofs.Common.{◌≡◌, ℕ, ◌+◌, ◌*◌, ◌<◌, List, [], ◌∷◌, refl, arith}
use Rattle.std.specs.Prelude.{slice_index}
use Rattle.std.specs.Int.{w32, from_be_bytes}
use Rattle.h264_bits.specs.Peek.{peek_at}
use Rattle.h264_bits.proofs.Peeks.{peek-byte, peek-more}

pub peek-four : (bytes : List ℕ) (k : ℕ) → ((i : ℕ) → slice_index bytes i < 256) → peek_at 32 bytes (8 * k) ≡
    from_be_bytes w32 (slice_index bytes k ∷ slice_index bytes (k + 1) ∷ slice_index bytes (k + 2) ∷ slice_index bytes (k + 3) ∷ [])
peek-four bytes k h =
    let a : peek_at 8 bytes (8 * k) ≡ slice_index bytes k = peek-byte bytes (8 * k) k refl (h k) in
    let b = peek-more bytes k 1 8 refl (h (k + 1)) in
    let c = peek-more bytes k 2 16 refl (h (k + 2)) in
    let d = peek-more bytes k 3 24 refl (h (k + 3)) in
    omega arith
