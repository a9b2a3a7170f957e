use Rattle.std.proofs.Common.{refl}
use Rattle.h264_stream.proofs.Givens.{given-beside, grown-none}
use Rattle.h264_stream.proofs.decoder.Decoder.send_unit.Goals as goal

pub returns-then-not-is_unit-clause-grows : goal.returns-then-not-is_unit-clause-grows
returns-then-not-is_unit-clause-grows c terms bytes v = grown-none

pub returns-then-is_err-clause-grows : goal.returns-then-is_err-clause-grows
returns-then-is_err-clause-grows c terms bytes v = grown-none

pub returns-in-None-clause-grows : goal.returns-in-None-clause-grows
returns-in-None-clause-grows c terms bytes v = c.judge_unit.ensures.grows terms bytes (given-beside refl refl c.put.ensures.judged v)

pub returns-in-Some-clause-grows : goal.returns-in-Some-clause-grows
returns-in-Some-clause-grows c terms bytes v = c.judge_unit.ensures.grows terms bytes (given-beside refl refl c.put.ensures.judged v)

pub returns-in-Some-clause-told : goal.returns-in-Some-clause-told
returns-in-Some-clause-told c terms bytes v later = record {
  answer = c.in-Some.answer;
  answered = c.in-Some.ensures.answered terms bytes (given-beside refl refl c.put.ensures.judged v) later;
  told_is = c.sent_answer-in-Some.ensures;
}
