use Rattle.std.proofs.Common.{refl, ◌∙◌, ap, arith, None}
use Rattle.std.specs.Option.{is_some}
use Rattle.std.proofs.lemmas.List.{get_or_default}
use Rattle.std.proofs.lemmas.Option.{slice_get-get_or, slice_get_past}
use Rattle.h264_vectors.proofs.slice.has_picture.Goals as goal

pub returns-then-index-lt16 : goal.returns-then-index-lt16
returns-then-index-lt16 c =
    let t = c.if-index-lt16.true in
    let e = slice_get-get_or c.args.slice.now.references c.args.index None (omega arith) in
    rw e (c.is_some.ensures ∙ ap is_some (get_or_default c.args.slice.now.references c.args.index _ None (omega arith)))

pub returns : goal.returns
returns c =
    let f = c.if-index-lt16.false in
    rw (slice_get_past c.args.slice.now.references c.args.index (omega arith)) refl
