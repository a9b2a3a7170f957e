use Rattle.std.proofs.Common.{sym, subst}
use Rattle.h264_verify.specs.declared.state.Depth.{Depth}
use Rattle.h264_verify.specs.declared.state.Depth.TheVariants as depths
use Rattle.h264_verify.specs.Progress.{Progress}
use Rattle.h264_verify.specs.KeepingUnits.{Keeps}
use Rattle.h264_verify.proofs.session.Session.places_taken.Goals as goal

pub returns : goal.returns
returns c = λ bytes frames told fed full.
    let k = subst (λ (m : Depth). Keeps m frames fed.before c.args.self.now.state) full fed.keeps in
    c.places_taken.ensures frames fed.before (subst (λ (s : Progress). Keeps depths.Full frames fed.before s.state) (sym c.self.view_is) k)
