use Rattle.std.proofs.Common.{◌++◌, append_assoc, refl, subst}
use Rattle.h264_stream.specs.Given.{HasAnswered}
use Rattle.h264_stream.specs.Sent.{start_code}
use Rattle.h264_stream.proofs.Givens.{given-beside, unit-later, grown-twice}
use Rattle.h264_stream.proofs.decoder.Decoder.judge_unit.Goals as goal

pub returns-in-Some-clause-answered : goal.returns-in-Some-clause-answered
returns-in-Some-clause-answered c terms bytes v later =
    let unit = c.args.unit.now in
    subst (λ l. HasAnswered terms c.judge.new.self l c.in-Some.answer) (unit-later bytes unit later)
    (rw c.start_code.ensures at (c.in-Some.ensures.answered terms bytes v (unit ++ later)))

pub returns-in-Some-clause-grows : goal.returns-in-Some-clause-grows
returns-in-Some-clause-grows c terms bytes v = c.judge.ensures.grows terms bytes v

pub returns-in-None-clause-given : goal.returns-in-None-clause-given
returns-in-None-clause-given c terms bytes v =
    let begun = given-beside refl refl refl (rw c.start_code.ensures at (c.in-None.ensures.given terms bytes v)) in
    rw (← append_assoc bytes start_code c.args.unit.now) (c.judge-in-None.ensures.given terms (bytes ++ start_code) begun)

pub returns-in-None-clause-answered : goal.returns-in-None-clause-answered
returns-in-None-clause-answered c terms bytes v =
    let begun = given-beside refl refl refl (rw c.start_code.ensures at (c.in-None.ensures.given terms bytes v)) in
    rw (← append_assoc bytes start_code c.args.unit.now) (c.judge-in-None.ensures.answered terms (bytes ++ start_code) begun)

pub returns-in-None-clause-grows : goal.returns-in-None-clause-grows
returns-in-None-clause-grows c terms bytes v =
    let begun = given-beside refl refl refl (c.in-None.ensures.given terms bytes v) in
    grown-twice (c.judge.ensures.grows terms bytes v) (c.judge-in-None.ensures.grows terms (bytes ++ c.start_code.result.now) begun)
