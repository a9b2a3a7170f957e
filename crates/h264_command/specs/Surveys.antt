-- Of which calls a survey is made beside a judgement, so that more can be told of them. To be read beside docs/OUTPUT.md.
use Rattle.std.specs.Prelude.{ℕ, Bool, true, List, Option, Result}
use Rattle.h264_base.specs.declared.stop.Stop.{Stop}
use Rattle.h264_pages.specs.Surveyed.{HasSurveyed}
use Rattle.h264_report.specs.Written.{OfBytes}
use Rattle.h264_verify.specs.Account.{Account, calls_in}
use Rattle.h264_pages.specs.declared.survey.notes.Survey.{Survey}
use Rattle.h264_verify.specs.Units.{terms_of}
use Rattle.h264_base.specs.declared.summary.Summary.{Summary}
use Rattle.h264_words.specs.Words.{mode_of}
use Rattle.h264_words.specs.declared.command_line.Task.{Task}
use Rattle.h264_words.specs.declared.command_line.Task.TheVariants as tasks
use Rattle.h264_words.specs.Options.{asks_for_survey}
use Rattle.h264_command.specs.declared.job.Job.{Job}
use Rattle.h264_words.specs.declared.options.Options.{Options}

-- the calls of a task are surveyed with these options
abbrev pub surveys : Task → Options → Bool
surveys tasks.Check o = asks_for_survey o
surveys task o = true

-- This is a survey of the calls of a job on the bytes that a source gives, judged with this answer.
abbrev pub IsSurveyed : Job → (source : Option (List ℕ)) → (answer : Result Summary Stop) → Survey → Type 0
IsSurveyed job source answer survey = OfBytes source
    (λ bytes. (a : Account (terms_of (mode_of job.task) job.options.target) bytes answer) × HasSurveyed survey (calls_in a))
