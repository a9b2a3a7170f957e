-- What comes of one unit after those before it, and of the end of the input, by their courses. A working form.
use Rattle.std.specs.Prelude.{ℕ, ◌∷◌}
use Rattle.h264_verify.specs.declared.state.Depth.{Depth}
use Rattle.h264_units.specs.Stream.{NalUnit}
use Rattle.h264_rbsp.specs.Emulation.{emulation_checked}
use Rattle.h264_base.specs.declared.summary.Summary.{Summary}
use Rattle.h264_verify.specs.declared.state.Extent.{Extent}
use Rattle.h264_verify.specs.Content.{Content}
use Rattle.h264_verify.specs.Course.{Ends}
use Rattle.h264_verify.specs.CourseOutcome.{outcome_of}
use Rattle.h264_verify.specs.Outcome.{Outcome, ◌>>=◌, answers, gives}
use Rattle.h264_verify.specs.History.{History}
use Rattle.h264_verify.specs.Units.{summary_of}
use Rattle.h264_verify.specs.Order.{content_then, content_course, unit_course, course_to_data, end_steps}

-- a unit joins those before it, with what is in it
abbrev pub joins : History → NalUnit → Content → Outcome History
joins before unit found = gives (record { unit = unit; content = found } ∷ before)

-- what is in a unit is judged, and it joins those before it
abbrev pub content_outcome : Extent → History → NalUnit → Outcome History
content_outcome extent before unit = outcome_of (content_course extent before unit) >>= joins before unit

-- what comes of a unit: it joins those before it, once its course has come to its end
unfoldable pub unit_outcome : Extent → History → NalUnit → Outcome History
unit_outcome extent before unit = do
  _ ← answers (emulation_checked unit.from unit.body)
  outcome_of (unit_course extent before unit) >>= joins before unit

-- what comes of what is in it, and of the unit, up to slice data
abbrev pub content_to_data : Extent → History → NalUnit → Outcome Content
content_to_data extent before unit = outcome_of (content_then extent before unit (λ found bit. Ends found)) >>= gives

unfoldable pub unit_to_data : Extent → History → NalUnit → Outcome Content
unit_to_data extent before unit = do
  _ ← answers (emulation_checked unit.from unit.body)
  outcome_of (course_to_data extent before unit) >>= gives

-- the end of the input, at this bit: the picture that may go on ends, and then the stream
unfoldable pub end_outcome : Depth → History → ℕ → Outcome Summary
end_outcome depth before bit = outcome_of (end_steps depth before bit) >>= λ _. gives (summary_of depth before)
