-- The arithmetic decoding engine (9.3.1.2, 9.3.3.2). To be read beside the standard.
use Rattle.std.specs.Prelude.{ℕ, zero, suc, ◌+◌, ◌*◌, ◌-◌, ◌/◌, ◌%◌, ◌==◌, Bool, true, false, not, List, Option, Some, None, min, nat_lt}
use Rattle.std.specs.Prelude.{if◌then◌else◌, slice_index}
use Rattle.std.specs.Option.{option_map, option_and_then}
use Rattle.h264_base.specs.Word.{bit_of, number_at, digit}
use Rattle.h264_cabac.specs.States.{range_tab_lps, trans_idx_lps}

-- the bytes of the RBSP, the bit of them that is read next, codIRange and codIOffset
pub record EngineState : Type 0 where
  pub bytes : List ℕ
  pub at : ℕ
  pub range : ℕ
  pub offset : ℕ

-- the state of a context: pStateIdx and valMPS
pub record ContextState : Type 0 where
  pub p_state_idx : ℕ
  pub val_mps : Bool

-- a bin, and the engine after it
pub record Decoded : Type 0 where
  pub bin : Bool
  pub engine : EngineState

-- a bin, and its context and the engine after it
pub record Decision : Type 0 where
  pub bin : Bool
  pub context : ContextState
  pub engine : EngineState

-- Initialisation at bit i (9.3.1.2): codIOffset is the next nine bits, and neither 510 nor 511.
abbrev pub begun : List ℕ → ℕ → ℕ → Option EngineState
begun bytes i v = if nat_lt v 510 then Some (record { bytes = bytes; at = i + 9; range = 510; offset = v }) else None

unfoldable pub initialised : List ℕ → ℕ → Option EngineState
initialised bytes i = option_and_then (begun bytes i) (number_at 9 bytes i)

-- Range and offset doubled, with the next bit as the lowest of the offset. There is none where the bits end.
abbrev pub doubled : EngineState → Option EngineState
doubled e = option_map (λ b. record { bytes = e.bytes; at = e.at + 1; range = 2 * e.range; offset = 2 * e.offset + digit b }) (bit_of e.bytes e.at)

-- doubled while the range is below 256, n times at most
unfoldable pub doubled_below_256 : ℕ → EngineState → Option EngineState
doubled_below_256 zero e = Some e
doubled_below_256 (suc n) e = if nat_lt e.range 256 then option_and_then (doubled_below_256 n) (doubled e) else Some e

-- RenormD (9.3.3.2.2): a range of 1 is doubled eight times.
abbrev pub renormalized : EngineState → Option EngineState
renormalized e = doubled_below_256 8 e

-- codIRangeLPS, by qCodIRangeIdx
abbrev pub range_lps : ContextState → ℕ → ℕ
range_lps c range = slice_index range_tab_lps (4 * c.p_state_idx + range / 64 % 4)

-- State transition (9.3.3.2.1.1), after valMPS and after the other value.
abbrev pub after_most_probable : ContextState → ContextState
after_most_probable c = record { p_state_idx = min (c.p_state_idx + 1) 62; val_mps = c.val_mps }

abbrev pub after_least_probable : ContextState → ContextState
after_least_probable c = record {
  p_state_idx = slice_index trans_idx_lps c.p_state_idx;
  val_mps = if c.p_state_idx == 0 then not c.val_mps else c.val_mps;
}

-- DecodeDecision (9.3.3.2.1).
unfoldable pub decision : ContextState → EngineState → Option Decision
decision c e =
    let rest : ℕ = e.range - range_lps c e.range in
    if nat_lt e.offset rest
    then option_map (λ r. record { bin = c.val_mps; context = after_most_probable c; engine = r }) (renormalized (record e { range = rest }))
    else option_map (λ r. record { bin = not c.val_mps; context = after_least_probable c; engine = r })
    (renormalized (record e { range = range_lps c e.range; offset = e.offset - rest }))

-- DecodeBypass (9.3.3.2.3): the offset is doubled, and the range is not.
abbrev pub without_range : EngineState → Decoded
without_range e =
    if nat_lt e.offset e.range then record { bin = false; engine = e } else record { bin = true; engine = record e { offset = e.offset - e.range } }

unfoldable pub bypass : EngineState → Option Decoded
bypass e = option_map (λ b. without_range (record e { at = e.at + 1; offset = 2 * e.offset + digit b })) (bit_of e.bytes e.at)

-- n bins by bypass, each as the lowest digit of a number
unfoldable pub bypass_number : ℕ → ℕ → EngineState → Option (ℕ × EngineState)
bypass_number zero number e = Some (number, e)
bypass_number (suc n) number e = option_and_then (λ s. bypass_number n (2 * number + digit s.bin) s.engine) (bypass e)

-- DecodeTerminate (9.3.3.2.4). After a 1 the range is not used any more, so that nothing is said of the 2 taken from it.
unfoldable pub terminate : EngineState → Option Decoded
terminate e =
    if nat_lt e.offset (e.range - 2) then option_map (λ r. record { bin = false; engine = r }) (renormalized (record e { range = e.range - 2 }))
    else Some (record { bin = true; engine = e })
