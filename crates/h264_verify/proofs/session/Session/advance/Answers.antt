use Rattle.std.proofs.Common.{◌++◌, [], ap, ◌∙◌, refl}
use Rattle.h264_verify.specs.Progress.{Progress}
use Rattle.h264_verify.proofs.language.OutcomesPlayed.{err-as, told-as}
use Rattle.h264_verify.proofs.session.SessionSteps.{goes-any, comes-any, judged-told, judged-write, ready-of, session-of}
use Rattle.h264_verify.proofs.session.Session.advance.Goals as goal

pub feed_all-requires-clause-ready : goal.feed_all-requires-clause-ready
feed_all-requires-clause-ready g c = ready-of _ _ _ _ (ap (λ (p : Progress). p.stop) c.self.view_is ∙ c.requires.runs) c.self.invariant

pub invariant_of-self : goal.invariant_of-self
invariant_of-self g c = session-of _ _ _ _ (ap (λ (p : Progress). p.stop) c.self.view_is ∙ c.requires.runs) c.in-Ok.ensures.ready

pub returns-in-Ok-clause-goes : goal.returns-in-Ok-clause-goes
returns-in-Ok-clause-goes g c = goes-any _ _ c.self.view_is c.requires.runs _ _ (ap (λ (p : Progress). p.stop) c.self.view_is ∙ c.requires.runs) refl
    c.in-Ok.ensures.goes

pub returns-in-Err-clause-stops : goal.returns-in-Err-clause-stops
returns-in-Err-clause-stops g c = λ terms bytes frames told f later.
    comes-any _ _ c.self.view_is c.requires.runs (λ b. (b ++ c.args.piece.now) ++ later) _ (λ b fs t w. c.in-Err.ensures.stops b fs t w later)
    terms bytes frames told f

pub returns-in-Err-clause-write : goal.returns-in-Err-clause-write
returns-in-Err-clause-write g c = λ e.
    let some = (ready-of _ _ _ _ (ap (λ (p : Progress). p.stop) c.self.view_is ∙ c.requires.runs) c.self.invariant).3 in
    judged-write _ _ _ _ _ _ _ _ (err-as _ _ e) (c.in-Err.ensures.stops some.bytes some.frames some.told some.fed []).judged

pub returns-in-Err-clause-write_told : goal.returns-in-Err-clause-write_told
returns-in-Err-clause-write_told g c =
    let some = (ready-of _ _ _ _ (ap (λ (p : Progress). p.stop) c.self.view_is ∙ c.requires.runs) c.self.invariant).3 in
    told-as _ (judged-told _ _ _ _ _ _ _ _ (c.in-Err.ensures.stops some.bytes some.frames some.told some.fed []).judged)
