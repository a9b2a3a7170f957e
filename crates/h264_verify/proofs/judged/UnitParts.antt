-- A unit is judged part by part: what comes of the rest of its course comes of the unit.
use Rattle.std.proofs.Common.{◌≡◌, ℕ, ◌*◌, List, [], length, Option, Result, Ok, Err, ap, sym}
use Rattle.h264_base.specs.declared.stop.Stop.{Stop}
use Rattle.h264_base.specs.Call.{Call, span}
use Rattle.h264_units.specs.Stream.{NalUnit}
use Rattle.h264_units.specs.UnitHeader.{header_of}
use Rattle.h264_rbsp.specs.Emulation.{emulation_checked}
use Rattle.h264_verify.specs.declared.decoder.Decoder.{Decoder}
use Rattle.h264_verify.specs.declared.state.Extent.{Extent}
use Rattle.h264_verify.specs.declared.state.State.{State}
use Rattle.h264_verify.specs.Content.{Content}
use Rattle.h264_verify.specs.Demands.{Demand, judged}
use Rattle.h264_verify.specs.Framing.{EndsFrames, closing}
use Rattle.h264_verify.specs.History.{History}
use Rattle.h264_verify.specs.Keeping.{ended_in}
use Rattle.h264_verify.specs.Order.{header_demands, close_if, content_then, unit_then, data_course}
use Rattle.h264_verify.specs.Outcome.{Outcome, ◌>>=◌, answers, gives, tells, Plays, IsNamed}
use Rattle.h264_verify.specs.Pictures.{goes_on, runs_of}
use Rattle.h264_verify.specs.CourseOutcome.{outcome_of}
use Rattle.h264_verify.specs.Course.{Course, Steps, Ends, Tells, nothing, ◌>>◌}
use Rattle.h264_verify.specs.Telling.{Told, Family, Agree, took_with, frame_span, Said}
use Rattle.h264_verify.specs.Turning.{Turns, Joins, Pauses, is_ending, ended_before}
use Rattle.h264_verify.specs.UnitOutcome.{joins, unit_outcome, content_to_data, unit_to_data}
use Rattle.h264_verify.specs.Units.{unit_call}
use Rattle.h264_verify.proofs.samples.FamiliesAgree.{agree-none, agree-less, agree-then, plays-agree}
use Rattle.h264_verify.proofs.language.CourseParts.{ended-grows, closing-all}
use Rattle.h264_verify.proofs.language.OutcomesPlayed.{answer-stops}
use Rattle.h264_verify.proofs.language.Played.{ComesTo, checked, met, unmet, played, stops}
use Rattle.h264_verify.proofs.language.Played as parts

module _ {S : Type 0} (extent : Extent) (took : S → List Call → Type 0) (failures : S → ℕ) (before : History) (unit : NalUnit) where
  abbrev demands : List Demand
  demands = header_demands (8 * unit.from) (header_of unit)

  abbrev call : Told
  call = Said (unit_call unit.from (header_of unit) (length unit.body))

  abbrev closes : Steps
  closes = close_if (is_ending unit) extent.depth before

  abbrev EndsSo : Family → Option Decoder → S → S → Result (Unit {0}) Stop → Type 0
  EndsSo frames mid s s' r = EndsFrames extent.depth (frame_span took failures frames s s') (closing (goes_on before) (is_ending unit) (runs_of before))
      (outcome_of closes) mid r

  abbrev Says : Family → S → S → Result (Unit {0}) Stop → Type 0
  Says made s s' r = Plays (span (took_with made took) failures s s') (λ (u : Unit {0}). u) (tells call) r

  -- with this after its content, and after all that
  module _ {B : Type 0} (rest : Content → ℕ → Course Content) (join : Content → Outcome B) where
    -- it was judged up to this course
    abbrev Comes : Family → S → S → Course Content → Type 0
    Comes made s0 s course = ComesTo (took_with made took) failures join
        (answers (emulation_checked unit.from unit.body) >>= λ _. outcome_of (unit_then extent before unit rest) >>= join) course s0 s

    module _ (s : S) (x : Unit {0}) (sound : let a : Result (Unit {0}) Stop = Ok x in a ≡ emulation_checked unit.from unit.body) where
      -- its bytes are sound
      is-sound : (made : Family) → Comes made s s (unit_then extent before unit rest)
      is-sound made = checked (took_with made took) failures join _ (unit_then extent before unit rest) s x (ap answers (sym sound))

      module _ (y : Unit {0}) (header : let a : Result (Unit {0}) Stop = Ok y in a ≡ judged demands) where
        -- its first byte meets its rules
        has-header : (made : Family) → Comes made s s (Tells call nothing >> closes >> content_then extent before unit rest)
        has-header made = met _ _ demands _ (is-sound made) header

        -- the sink is told of it
        is-told : (s1 : S) (z : Unit {0}) → ((made : Family) → Says made s s1 (Ok z)) → (made : Family) →
            Comes made s s1 (closes >> content_then extent before unit rest)
        is-told s1 z told made = played _ _ (Tells call nothing) _ {view = λ (u : Unit {0}). u} (has-header made) (told made)

        -- the picture before it has ended, and then frames were made that are the same so far
        has-ended : (s1 : S) (z : Unit {0}) → ((made : Family) → Says made s s1 (Ok z)) →
            (frames : Family) (mid : Option Decoder) (s2 : S) (w : Unit {0}) (ends : EndsSo frames mid s1 s2 (Ok w)) (made : Family) →
            Agree (ended_before before unit) ends.made made → Comes made s s2 (content_then extent before unit rest)
        has-ended s1 z told frames mid s2 w ends made same = played _ _ closes _ {view = λ (u : Unit {0}). u} (is-told s1 z told made)
            (plays-agree took (ended_before before unit) ends.made made failures (λ (u : Unit {0}). u) (outcome_of closes) s1 s2 (Ok w) same
            (closing-all (is_ending unit) extent.depth before) ends.plays)

  -- frames that were made after the end of the picture before it
  made-after : (frames : Family) (mid : Option Decoder) (s s' : S) (w : Unit {0}) (ends : EndsSo frames mid s s' (Ok w)) (made : Family) →
      Agree (ended_before before unit) ends.made made → Agree (ended_in before) frames made
  made-after frames mid s s' w ends made same = agree-then (ended_in before) frames ends.made made ends.same
      (agree-less (ended_in before) (ended_before before unit) ends.made made (ended-grows (goes_on before) (is_ending unit) (runs_of before)) same)

  -- ---- it is judged to its end, or stops

  abbrev to_end : Content → ℕ → Course Content
  to_end = data_course extent.depth before unit

  abbrev Judges : Family → State → S → S → Result (Unit {0}) Stop → Type 0
  Judges frames new s s' r = Turns {X = Unit {0}} extent (frame_span took failures frames s s') before unit new r

  stops-with : (frames made : Family) (new : State) (s s' : S) (e : Stop) → Agree (ended_in before) frames made →
      Plays {X = Unit {0}} (span (took_with made took) failures s s') (λ u. []) (unit_outcome extent before unit) (Err e) → Judges frames new s s' (Err e)
  stops-with frames made new s s' e same p = record { made = made; same = same; after = []; plays = p; keeps = tt }

  pub is-unsound : (frames : Family) (new : State) (s : S) (e : Stop) → (let a : Result (Unit {0}) Stop = Err e in a ≡ emulation_checked unit.from unit.body) →
      IsNamed e → Judges frames new s s (Err e)
  unfolding unit_outcome
  is-unsound frames new s e sound named = stops-with frames frames new s s e (agree-none _ frames)
      (answer-stops (took_with frames took) failures (λ (q : Unit {0}). []) _ _ s e (ap answers (sym sound)) named)

  module _ (frames : Family) (new : State) (s : S) (x : Unit {0})
      (sound : let a : Result (Unit {0}) Stop = Ok x in a ≡ emulation_checked unit.from unit.body) where
    pub stops-header : (e : Stop) → (let a : Result (Unit {0}) Stop = Err e in a ≡ judged demands) → Judges frames new s s (Err e)
    unfolding unit_outcome
    stops-header e header = stops-with frames frames new s s e (agree-none _ frames)
        (unmet _ _ demands _ (is-sound to_end (joins before unit) s x sound frames) header)

    module _ (y : Unit {0}) (header : let a : Result (Unit {0}) Stop = Ok y in a ≡ judged demands) (s1 : S) where
      pub stops-told : (e : Stop) → Says frames s s1 (Err e) → Judges frames new s s1 (Err e)
      unfolding unit_outcome
      stops-told e told = stops-with frames frames new s s1 e (agree-none _ frames)
          (stops _ _ (Tells call nothing) _ {view = λ (u : Unit {0}). u} (has-header to_end (joins before unit) s x sound y header frames) told)

      module _ (z : Unit {0}) (told : (made : Family) → Says made s s1 (Ok z)) (mid : Option Decoder) (s2 : S) where
        pub stops-closing : (e : Stop) → EndsSo frames mid s1 s2 (Err e) → Judges frames new s s2 (Err e)
        unfolding unit_outcome
        stops-closing e ends = stops-with frames ends.made new s s2 e ends.same
            (stops _ _ closes _ {view = λ (u : Unit {0}). u} (is-told to_end (joins before unit) s x sound y header s1 z told ends.made) ends.plays)

        -- what is in it was judged
        pub turns-on : (w : Unit {0}) (ends : EndsSo frames mid s1 s2 (Ok w)) (s3 : S) (r : Result (Unit {0}) Stop) →
            Joins {X = Unit {0}} extent (frame_span took failures ends.made s2 s3) before unit new r → Judges frames new s s3 r
        unfolding unit_outcome
        turns-on w ends s3 r j = record {
          made = j.made;
          same = made-after frames mid s1 s2 w ends j.made j.same;
          after = j.after;
          plays = parts.ends _ _ (has-ended to_end (joins before unit) s x sound y header s1 z told frames mid s2 w ends j.made j.same) j.plays;
          keeps = j.keeps;
        }

        -- memory is wanting for its slice data
        pub pauses-on : (w : Unit {0}) (ends : EndsSo frames mid s1 s2 (Ok w)) (s3 : S) →
            Pauses (frame_span took failures ends.made s2 s3) (ended_before before unit) (content_to_data extent before unit) →
            Pauses (frame_span took failures frames s s3) (ended_in before) (unit_to_data extent before unit)
        unfolding unit_to_data
        pauses-on w ends s3 j = record {
          made = j.made;
          same = made-after frames mid s1 s2 w ends j.made j.same;
          found = j.found;
          plays = parts.ends _ _ (has-ended (λ found bit. Ends found) gives s x sound y header s1 z told frames mid s2 w ends j.made j.same) j.plays;
        }
