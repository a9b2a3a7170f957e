use Rattle.std.proofs.Common.{◌≡◌, map, string_bytes, [], ap, ◌∙◌}
use Rattle.h264_report.specs.Written.{status_of}
use Rattle.h264_command.specs.More.{NoWords}
use Rattle.h264_command.proofs.program.program.Goals as goal

pub returns-in-Ok-clause-known : goal.returns-in-Ok-clause-known
returns-in-Ok-clause-known g c words e =
    let same : map (λ w. string_bytes w) c.as_slice.result.now ≡ words = ap (map (λ w. string_bytes w)) c.as_slice.ensures.value ∙
    c.in-Ok.ensures.given words e in
    rw (← same) c.run_words.ensures

pub returns-in-Ok-clause-some : goal.returns-in-Ok-clause-some
returns-in-Ok-clause-some g c = (map (λ w. string_bytes w) c.as_slice.result.now, c.run_words.ensures)

pub returns-in-Err-clause-known : goal.returns-in-Err-clause-known
returns-in-Err-clause-known g c words e =
    NoWords c.put_memory.result.written (c.status.ensures ∙ ap (λ answer. status_of c.put_memory.result.written answer) c.put_memory.ensures.answer)
    c.put_memory.ensures.handed_over c.put_memory.ensures.text

pub returns-in-Err-clause-some : goal.returns-in-Err-clause-some
returns-in-Err-clause-some g c = (
  [],
  NoWords c.put_memory.result.written (c.status.ensures ∙ ap (λ answer. status_of c.put_memory.result.written answer) c.put_memory.ensures.answer)
      c.put_memory.ensures.handed_over c.put_memory.ensures.text,
)
