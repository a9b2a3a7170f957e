use Rattle.std.proofs.Common.{◌++◌, ◌∷◌, [], refl, sym, ◌∙◌, subst}
use Rattle.h264_near.specs.Keeps.{Keeps}
use Rattle.h264_picture.proofs.Steps.{kept-on, same-samples}
use Rattle.h264_picture.proofs.sequence.Sequence.keep_skipped.Goals as goal

pub returns-clause-reads : goal.returns-clause-reads
returns-clause-reads c width size making slice picture coded h f m q e s n =
    let old = c.args.self.now in
    let on = c.step_on.ensures in
    kept-on width size making slice picture coded old c.step_on.new.self h on.same.across f
    (subst (Keeps width (picture ++ coded ∷ [])) (sym on.near) (c.push_skipped.ensures width picture coded h.keeps m))
    (rw on.mb (m.qp ∙ q)) e on.size on.next (on.samples making (picture ++ coded ∷ []) (same-samples making _ old _ refl refl refl s)) n
