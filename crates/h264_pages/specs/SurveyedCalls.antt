-- What a sink whose calls are surveyed took. A working form.
use Rattle.std.specs.Prelude.{List}
use Rattle.h264_base.specs.Call.{Call}
use Rattle.h264_pages.specs.Surveyed.{HasSurveyed}
use Rattle.h264_pages.specs.declared.survey.surveyed.Surveyed.{Surveyed}

-- The sink inside took these calls, and the survey has what they tell.
abbrev pub TookSurveyed : {S M : Type 0} → (S → List Call → Type 0) → Surveyed S M → List Call → Type 0
TookSurveyed took s calls = took s.sink calls × HasSurveyed s.survey calls
