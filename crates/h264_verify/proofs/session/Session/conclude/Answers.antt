use Rattle.std.proofs.Common.{ap, ◌∙◌}
use Rattle.h264_verify.specs.Progress.{Progress}
use Rattle.h264_verify.proofs.session.SessionSteps.{comes-any, judged-told, judged-write, ready-of}
use Rattle.h264_verify.proofs.session.Session.conclude.Goals as goal

pub returns-clause-comes : goal.returns-clause-comes
returns-clause-comes g c = comes-any _ _ c.self.view_is c.requires.runs (λ b. b) _ c.finish_all-judged.ensures.comes

pub returns-clause-write : goal.returns-clause-write
returns-clause-write g c = λ e.
    let some = (ready-of _ _ _ _ (ap (λ (p : Progress). p.stop) c.self.view_is ∙ c.requires.runs) c.self.invariant).3 in
    judged-write _ _ _ _ _ _ _ _ e (c.finish_all-judged.ensures.comes some.bytes some.frames some.told some.fed).judged

pub returns-clause-write_told : goal.returns-clause-write_told
returns-clause-write_told g c =
    let some = (ready-of _ _ _ _ (ap (λ (p : Progress). p.stop) c.self.view_is ∙ c.requires.runs) c.self.invariant).3 in
    judged-told _ _ _ _ _ _ _ _ (c.finish_all-judged.ensures.comes some.bytes some.frames some.told some.fed).judged
