-- What was given to a decoder, by how far it is.
use Rattle.std.proofs.Common.{◌≡◌, ℕ, ◌+◌, ◌<◌, ◌≤◌, ◌^◌, List, [], ◌++◌, length, length-append, append_assoc, refl, sym, ap, ◌∙◌, subst, arith}
use Rattle.h264_stream.proofs.Queued.{frames-append, filled-begun}
use Rattle.h264_stream.specs.Decoding.{IsDecoding, HasGrown}
use Rattle.h264_stream.specs.Given.{IsGiven}
use Rattle.h264_stream.specs.Queue.{told_of_frames, frames_of}
use Rattle.h264_stream.specs.Sent.{start_code}
use Rattle.h264_stream.specs.declared.decoder.Decoder.{Decoder}
use Rattle.h264_stream.specs.declared.decoder.Standing.{Standing}
use Rattle.h264_stream.specs.declared.decoder.Standing.TheVariants.{Running, Fallen}
use Rattle.h264_stream.specs.declared.queue.ShownFrame.{ShownFrame}
use Rattle.h264_units.specs.Stream.{input_limit}
use Rattle.h264_verify.specs.Progress.{Progress}
use Rattle.h264_verify.specs.declared.state.Terms.{Terms}

-- the session of a decoder that runs
abbrev session_or : Progress → Standing → Progress
session_or default (Running session) = session
session_or default (Fallen answer) = default

pub same-session : {a b : Progress} → Running a ≡ Running b → a ≡ b
same-session {a} e = ap (session_or a) e

pub given-decoding : {terms : Terms} {d : Decoder} {bytes : List ℕ} {session : Progress} → d.standing ≡ Running session → IsGiven terms d bytes →
    IsDecoding terms session bytes d.queue.handed_out d.queue.waiting.items
given-decoding {terms} {d} {bytes} is v =
    subst (λ s. IsDecoding terms s bytes d.queue.handed_out d.queue.waiting.items) (same-session (sym v.runs ∙ is)) v.decoding

-- more bytes were counted
pub counted-more : (bytes piece : List ℕ) {old new : ℕ} → (length bytes ≤ input_limit → old ≡ length bytes) →
    (old + length piece < 2 ^ 64 → new ≡ old + length piece) → length (bytes ++ piece) ≤ input_limit → new ≡ length (bytes ++ piece)
counted-more bytes piece {old} {new} counted passed short =
    let n = length-append bytes piece in
    let e : old ≡ length bytes = counted (omega arith) in
    let f : new ≡ old + length piece = passed (omega arith) in
    omega arith

-- what else a decoder has does not matter
pub given-beside : {terms : Terms} {d e : Decoder} {bytes : List ℕ} → e.standing ≡ d.standing → e.queue ≡ d.queue → e.codes.judged ≡ d.codes.judged →
    IsGiven terms d bytes → IsGiven terms e bytes
given-beside {terms} {d} {e} {bytes} standing queue judged v = record {
  session = v.session;
  runs = standing ∙ v.runs;
  decoding = subst (λ q. IsDecoding terms v.session bytes q.handed_out q.waiting.items) (sym queue) v.decoding;
  counted = λ short. judged ∙ v.counted short;
}

-- bytes with a start code, a unit and what comes later
pub unit-later : (bytes unit later : List ℕ) → (bytes ++ start_code) ++ (unit ++ later) ≡ (bytes ++ (start_code ++ unit)) ++ later
unit-later bytes unit later = simp append_assoc

-- no frame came in
pub grown-none : {n : ℕ} {waiting : List ShownFrame} → HasGrown n waiting n waiting
grown-none = record { calls = []; filled = filled-begun refl refl }

-- frames came in, and then more
pub grown-twice : {n m k : ℕ} {first second third : List ShownFrame} → HasGrown n first m second → HasGrown m second k third → HasGrown n first k third
grown-twice {first = first} a b = record {
  calls = a.calls ++ b.calls;
  filled = record {
    none_out = b.filled.none_out ∙ a.filled.none_out;
    added =
        b.filled.added ∙ ap (λ l. l ++ frames_of b.calls) a.filled.added
        ∙ append_assoc (told_of_frames first) (frames_of a.calls) (frames_of b.calls)
        ∙ ap (λ l. told_of_frames first ++ l) (sym (frames-append a.calls b.calls));
  };
}
