-- What was given to a decoder: the bytes of the byte stream, with the start codes that were put in. To be read beside docs/LIBRARY.md.
use Rattle.std.specs.Prelude.{◌≡◌, ◌≤◌, ℕ, List, length, Result}
use Rattle.h264_base.specs.declared.stop.Stop.{Stop}
use Rattle.h264_stream.specs.Decoding.{IsDecoding, HasDecoded}
use Rattle.h264_stream.specs.Sent.{sent_answer}
use Rattle.h264_stream.specs.declared.decoder.Decoder.{Decoder}
use Rattle.h264_stream.specs.declared.decoder.Standing.TheVariants.{Running, Fallen}
use Rattle.h264_units.specs.Stream.{input_limit}
use Rattle.h264_verify.specs.Progress.{Progress}
use Rattle.h264_base.specs.declared.summary.Summary.{Summary}
use Rattle.h264_verify.specs.declared.state.Terms.{Terms}

-- The decoder was given these bytes, and their stream is judged so far.
pub record IsGiven (terms : Terms) (decoder : Decoder) (bytes : List ℕ) : Type 0 where
  pub session : Progress
  pub runs : decoder.standing ≡ Running session
  pub decoding : IsDecoding terms session bytes decoder.queue.handed_out decoder.queue.waiting.items
  pub counted : length bytes ≤ input_limit → decoder.codes.judged ≡ length bytes

-- The decoder has this answer to these bytes.
pub record HasAnswered (terms : Terms) (decoder : Decoder) (bytes : List ℕ) (answer : Result Summary Stop) : Type 0 where
  pub fallen : decoder.standing ≡ Fallen answer
  pub decoded : HasDecoded terms bytes answer decoder.queue.handed_out decoder.queue.waiting.items

-- This is told of these bytes: the decoder's answer to them, with its place in what was sent.
pub record HasTold (terms : Terms) (decoder : Decoder) (bytes : List ℕ) (told : Result Summary Stop) : Type 0 where
  pub answer : Result Summary Stop
  pub answered : HasAnswered terms decoder bytes answer
  pub told_is : told ≡ sent_answer decoder.codes.bits.items answer
