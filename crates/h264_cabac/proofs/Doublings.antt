-- Renormalization of a register.
use Rattle.std.proofs.Common.{◌≡◌, ℕ, ◌+◌, ◌*◌, ◌^◌, ◌<◌, ◌≤◌, List, length, Some, None, sym, ap, ◌∙◌, arith}
use Rattle.h264_cabac.specs.declared.register.Register.{Register}
use Rattle.h264_cabac.specs.Engine.{EngineState, renormalized}
use Rattle.h264_cabac.specs.Register.{IsRegister, IsReady, engine_of}
use Rattle.h264_cabac.proofs.Registers.{IsCount, after, passed-offset}
use Rattle.h264_cabac.proofs.Renormalized.{renormalized-inside, renormalized-outside}

pub register-inside : (bytes : List ℕ) (r : Register) (n : ℕ) → IsRegister bytes r → IsCount r.range n → n ≤ r.ahead → r.at + n ≤ 8 * length bytes →
    renormalized (engine_of bytes r) ≡ Some (engine_of bytes (after r n))
register-inside bytes r n is count enough inside =
    renormalized-inside 8 n (engine_of bytes r) count.few count.low count.high inside ∙
    ap (λ o. Some (record { bytes = bytes; at = r.at + n; range = r.range * 2 ^ n; offset = o })) (sym (passed-offset bytes r n enough is))

pub register-outside : (bytes : List ℕ) (r : Register) (n : ℕ) → IsRegister bytes r → IsCount r.range n → 8 * length bytes < r.at + n →
    renormalized (engine_of bytes r) ≡ None
register-outside bytes r n is count outside =
    renormalized-outside 8 n (engine_of bytes r) count.few count.high count.low outside is.inside

-- bits that are loaded leave the range
pub low-after : (bytes : List ℕ) (r s : Register) → IsRegister bytes s → engine_of bytes s ≡ engine_of bytes r → 16 ≤ s.ahead → 256 ≤ r.range → r.range < 512 →
    IsReady bytes s
low-after bytes r s is same loaded low high =
    let e : s.range ≡ r.range = ap (λ (e : EngineState). e.range) same in
    record { stands = is; loaded = loaded; low = omega arith; high = omega arith }
