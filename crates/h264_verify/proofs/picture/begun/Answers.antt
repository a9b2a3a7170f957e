use Rattle.std.proofs.Common.{ap, sym, ◌∙◌, []}
use Rattle.h264_header.specs.Picture.{picture_elements}
use Rattle.h264_verify.proofs.picture.begun.Goals as goal

pub returns-clause-holds : goal.returns-clause-holds
returns-clause-holds c = λ slice e n f. record {
  last = c.picture_elements.ensures ∙ ap picture_elements (sym e);
  types = c.types_with-types.ensures [] slice e c.seen_types.ensures;
  marking = c.replace.ensures.value ∙ ap (λ h. h.marking) (sym e);
  numbering = n;
  following = f;
}
