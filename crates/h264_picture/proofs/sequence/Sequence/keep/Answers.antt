use Rattle.std.proofs.Common.{◌++◌, ◌∷◌, [], refl, sym, subst}
use Rattle.h264_near.specs.Keeps.{Keeps}
use Rattle.h264_picture.proofs.Steps.{kept-on, same-samples}
use Rattle.h264_picture.proofs.sequence.Sequence.keep.Goals as goal

pub returns-clause-reads : goal.returns-clause-reads
returns-clause-reads c width size making slice picture coded h f m e s n =
    let old = c.args.self.now in
    let on = c.step_on.ensures in
    kept-on width size making slice picture coded old c.step_on.new.self h on.same.across f
    (subst (Keeps width (picture ++ coded ∷ [])) (sym on.near) (c.push.ensures width picture coded h.keeps m.contexts))
    (rw on.mb m.qp) e on.size on.next (on.samples making (picture ++ coded ∷ []) (same-samples making _ old _ refl refl refl s)) n
