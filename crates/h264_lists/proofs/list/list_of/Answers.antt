use Rattle.std.proofs.Common.{◌≡◌, ◌∙◌, Err, refl, rules}
use Rattle.h264_lists.specs.Built.{built}
use Rattle.h264_lists.proofs.list.list_of.Goals as goal

pub returns-in_err-modify : goal.returns-in_err-modify
unfolding built
returns-in_err-modify c =
    let answered : c.from_residual.result ≡ Err c.in_err-modify.field-0.0 = search rules in
    answered ∙ c.in_err-modify.ensures ∙ rw (c.initial-slots.ensures.len, c.initial-slots.ensures.value, c.as_slice.ensures.value, c.min-places.ensures) refl

pub returns : goal.returns
unfolding built
returns c = c.in_ok-modify.ensures ∙ rw (c.initial-slots.ensures.len, c.initial-slots.ensures.value, c.as_slice.ensures.value, c.min-places.ensures) refl
