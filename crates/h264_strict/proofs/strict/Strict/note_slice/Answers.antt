use Rattle.std.proofs.Common.{rules, SFits, w32, ap, ap₂, ◌∙◌}
use Rattle.std.proofs.lemmas.Int.{to_z-of_z}
use Rattle.h264_strict.specs.Strict.{by_beginning, with_places, bits_for, found_of}
use Rattle.h264_strict.specs.StrictRules.{broken_if, listed}
use Rattle.h264_strict.specs.declared.strict.Standing.{Standing}
use Rattle.h264_strict.specs.declared.strict.Strict.{Strict}
use Rattle.h264_strict.specs.declared.strict_rule.StrictRule.{StrictRule}
use Rattle.h264_strict.specs.declared.strict_rule.StrictRule.TheVariants as further
use Rattle.h264_strict.proofs.Broken.{slice-advances}
use Rattle.h264_strict.proofs.strict.Strict.note_slice.Goals as goal

pub returns : goal.returns
returns c kind =
    let old = c.args.self.now in
    let mid = c.note_beginning.new.self in
    let last = c.note.new.self in
    let new : Strict = record { standing = record last.standing { picture_bytes = c.bytes_with-bytes.result }; found = last.found } in
    let f : SFits w32 c.args.count = search rules in
    let stands = simp to_z-of_z at c.note_beginning.ensures.standing in
    let bit = c.first_bit-bit.ensures in
    let begun = λ (r : StrictRule). simp to_z-of_z at (c.note_beginning.ensures.found r) in
    slice-advances old mid new c.args.byte c.args.first_mb_in_slice kind c.args.frame_num c.args.count
    (ap₂ (λ (s : Standing) n. record s { picture_bytes = n }) (c.note.ensures.standing ∙ stands) c.bytes_with-bytes.ensures)
    (λ r. begun r
    ∙ ap (λ b. with_places (found_of old r) (bits_for r b (by_beginning old.standing c.args.first_mb_in_slice c.args.frame_num c.args.count))) bit)
    (λ r. c.note.ensures.found r
    ∙ ap₂ (λ b rule. with_places (found_of mid r) (bits_for r b (listed rule))) bit
    (c.broken_if.ensures ∙ ap (λ passes. broken_if passes further.PictureBytes) c.by_bytes-passes.ensures))
