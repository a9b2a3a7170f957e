-- What the messages of a unit say of times: buffering_period() and pic_timing() (D.2.1, D.2.2). To be read beside the standard.
use Rattle.std.specs.Prelude.{ℕ, zero, suc, ◌*◌, ◌==◌, ◌&&◌, if◌then◌else◌, List, length, Option, None, Some}
use Rattle.h264_strict.specs.SeiMessages.{is_sei}
use Rattle.h264_strict.specs.SeiPayload.{message_at}
use Rattle.h264_strict.specs.SeiTiming.{buffering_period, pic_timing}
use Rattle.h264_strict.specs.declared.sei.payload.Message.{Message}
use Rattle.h264_strict.specs.declared.sei.times.TimesTold.{TimesTold}
use Rattle.h264_strict.specs.declared.sei.timing.FirstDelays.{FirstDelays}
use Rattle.h264_strict.specs.declared.sei.timing.KnownSet.{KnownSet}
use Rattle.h264_strict.specs.declared.sei.timing.KnownSet.TheVariants.{NotYet, One, Unknown}

abbrev pub no_times : TimesTold
no_times = record { period = None; removal = None }

-- What units of an access unit say: of two that say it, the last counts.
abbrev pub or_earlier : {A : Type 0} → Option A → Option A → Option A
or_earlier (Some x) earlier = Some x
or_earlier None earlier = earlier

abbrev pub times_more : TimesTold → TimesTold → TimesTold
times_more earlier t = record { period = or_earlier t.period earlier.period; removal = or_earlier t.removal earlier.removal }

-- a buffering_period() was read, and a pic_timing()
abbrev pub with_period : TimesTold → Option (FirstDelays × ℕ) → TimesTold
with_period t None = t
with_period t (Some x) = record t { period = Some x.0 }

abbrev pub with_removal : TimesTold → Option (Option ℕ × ℕ) → TimesTold
with_removal t None = t
with_removal t (Some x) = record t { removal = x.0 }

-- a message of this payloadType whose payload begins with this bit of the RBSP
abbrev pub times_by : KnownSet → (kind : ℕ) → (bytes : List ℕ) → (bit : ℕ) → TimesTold → TimesTold
times_by (One set) kind bytes i t =
    if kind == 0 then with_period t (buffering_period set bytes i) else (if kind == 1 then with_removal t (pic_timing set bytes i) else t)
times_by NotYet kind bytes i t = t
times_by Unknown kind bytes i t = t

-- one that is not as its syntax says tells nothing
abbrev pub times_with : KnownSet → (bytes : List ℕ) → Message → TimesTold → TimesTold
times_with known bytes message t = if message.holds then times_by known message.payload_type bytes (8 * message.from) t else t

-- of a message and those after it
abbrev pub times_after : KnownSet → (bytes : List ℕ) → Option Message → TimesTold → (ℕ → TimesTold → TimesTold) → TimesTold
times_after known bytes None t later = t
times_after known bytes (Some message) t later = later message.end (times_with known bytes message t)

-- the messages from this byte of the RBSP on, at most so many; what comes last counts
unfoldable pub times_from : KnownSet → ℕ → List ℕ → (at : ℕ) → TimesTold → TimesTold
times_from known zero bytes at t = t
times_from known (suc n) bytes at t = times_after known bytes (message_at known bytes at) t (times_from known n bytes)

-- those of a unit, where all are whole
abbrev pub times_of : KnownSet → (kind : ℕ) → List ℕ → TimesTold
times_of known kind bytes = if (kind == 6) && is_sei bytes then times_from known (length bytes) bytes 0 no_times else no_times
