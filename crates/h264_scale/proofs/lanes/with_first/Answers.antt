use Rattle.std.proofs.Common.{◌≡◌, ◌∙◌, rules, FitsSigned, w16}
use Rattle.h264_scale.specs.Lanes.{with_first}
use Rattle.h264_scale.proofs.Vectors.{short_of, kept, first_wide, kept_wide}
use Rattle.h264_scale.proofs.lanes.with_first.Goals as goal

pub returns : goal.returns
returns c m p h =
    let z = c.args.first in
    let fits : FitsSigned w16 z = search rules in
    let short = short_of z fits in
    let same : c.from.result ≡ z = c.from.ensures ∙ kept z short in
    rw (p, same) (kept_wide (with_first z m) (first_wide z m short h))
