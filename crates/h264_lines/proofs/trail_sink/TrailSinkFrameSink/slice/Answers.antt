use Rattle.std.proofs.Common.{ap, sym, ◌∙◌}
use Rattle.std.proofs.lemmas.List.{append-nil}
use Rattle.circular_buffer.specs.Buffer.{keep_last}
use Rattle.h264_lines.specs.Told.{elements_of}
use Rattle.h264_lines.proofs.Calls.{elements-more}
use Rattle.h264_lines.proofs.trail_sink.TrailSinkFrameSink.slice.Goals as goal

pub returns-clause-ok : goal.returns-clause-ok
returns-clause-ok c = record { told = λ before h. h ∙ ap (keep_last 16) (sym (elements-more before _ ∙ append-nil (elements_of before))) }
