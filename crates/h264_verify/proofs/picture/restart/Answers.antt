use Rattle.std.proofs.Common.{ap, sym, ◌∙◌, []}
use Rattle.h264_header.specs.Picture.{picture_elements}
use Rattle.h264_verify.proofs.picture.restart.Goals as goal

pub returns-clause-holds : goal.returns-clause-holds
returns-clause-holds c = λ slice e n f. record {
  last = c.picture_elements-picture.ensures ∙ ap picture_elements (sym e);
  types = c.types_with-picture.ensures [] slice e c.seen_types.ensures;
  marking = c.keep_marking.ensures ∙ ap (λ h. h.marking) (sym e);
  numbering = n;
  following = f;
}
