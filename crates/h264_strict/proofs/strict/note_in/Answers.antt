use Rattle.std.proofs.Common.{rules, ◌<◌, None, Some, length, get_or, slice_set, ap, ap₂, ◌∙◌, sym}
use Rattle.h264_strict.specs.Strict.{with_place, with_places, bits_for}
use Rattle.h264_strict.specs.StrictRules.{place_of, listed}
use Rattle.h264_strict.proofs.Broken.{note-none, note-one}
use Rattle.h264_strict.proofs.strict.note_in.Goals as goal

pub returns-in_default : goal.returns-in_default
returns-in_default c r =
    let old = get_or c.args.found.now (place_of r) None in
    note-none old r c.args.bit
    ∙ ap (λ rule. with_places old (bits_for r c.args.bit (listed rule))) (sym c.in_default.is)

pub returns : goal.returns
returns c r =
    let found = c.args.found.now in
    let place = c.place-place.ensures.value in
    let within : place_of c.in-Some.rule < length found = search rules in
    ap₂ (λ k p. get_or (slice_set found k (Some p)) (place_of r) None) place
    (c.with_place.ensures ∙ ap (λ k. with_place (get_or found k None) c.args.bit) place)
    ∙ note-one found c.in-Some.rule r c.args.bit within
    ∙ ap (λ rule. with_places (get_or found (place_of r) None) (bits_for r c.args.bit (listed rule))) (sym c.in-Some.is)
