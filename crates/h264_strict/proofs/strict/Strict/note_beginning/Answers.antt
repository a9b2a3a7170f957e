use Rattle.std.proofs.Common.{rules, SFits, w32, sym, ap, ap₂, ◌∙◌}
use Rattle.std.proofs.lemmas.Bool.{cond-true, cond-false}
use Rattle.std.proofs.lemmas.Int.{to_z-of_z}
use Rattle.h264_strict.specs.Strict.{by_numbers, by_time, picture_in, with_places, bits_for, found_of}
use Rattle.h264_strict.specs.StrictPictures.{pictures_after}
use Rattle.h264_strict.specs.declared.strict.Standing.{Standing}
use Rattle.h264_strict.specs.declared.strict.Strict.{Strict}
use Rattle.h264_strict.proofs.Broken.{picture-begins, none-begins, tells-zero, tells-other}
use Rattle.h264_strict.proofs.strict.Strict.note_beginning.Goals as goal

pub returns-then-first_mb_in_slice-ne0-clause-standing : goal.returns-then-first_mb_in_slice-ne0-clause-standing
returns-then-first_mb_in_slice-ne0-clause-standing c = sym (cond-false _ _ _ (tells-other _ c.if-first_mb_in_slice-ne0.true))

pub returns-then-first_mb_in_slice-ne0-clause-found : goal.returns-then-first_mb_in_slice-ne0-clause-found
returns-then-first_mb_in_slice-ne0-clause-found c =
    none-begins c.args.self.now c.args.bit c.args.first_mb_in_slice c.args.frame_num c.args.count (tells-other _ c.if-first_mb_in_slice-ne0.true)

pub returns-clause-standing : goal.returns-clause-standing
returns-clause-standing c =
    let f : SFits w32 c.args.count = search rules in
    let is = simp to_z-of_z at c.picture_in-picture.ensures in
    let stays = c.note_time.ensures.standing ∙ c.note_numbers.ensures.standing in
    ap₂ (λ (s : Standing) p. record s { pictures = p }) stays (c.note.ensures ∙ ap₂ (λ (s : Standing) p. pictures_after s.pictures p) stays is)
    ∙ sym (cond-true _ _ _ (tells-zero _ c.if-first_mb_in_slice-ne0.false))

pub returns-clause-found : goal.returns-clause-found
returns-clause-found c =
    let old = c.args.self.now in
    let mid = c.note_numbers.new.self in
    let last = c.note_time.new.self in
    let new : Strict = record { standing = record last.standing { pictures = c.note.new.self }; found = last.found } in
    let picture = picture_in old.standing c.args.frame_num c.args.count in
    let f : SFits w32 c.args.count = search rules in
    let is = simp to_z-of_z at c.picture_in-picture.ensures in
    picture-begins old mid new c.args.bit c.args.first_mb_in_slice c.args.frame_num c.args.count (tells-zero _ c.if-first_mb_in_slice-ne0.false)
    (λ r. c.note_numbers.ensures.found r
    ∙ ap (λ p. with_places (found_of old r) (bits_for r c.args.bit (by_numbers old.standing p))) is)
    (λ r. c.note_time.ensures.found r
    ∙ ap (λ p. with_places (found_of mid r) (bits_for r c.args.bit (by_time mid.standing p))) is
    ∙ ap (λ s. with_places (found_of mid r) (bits_for r c.args.bit (by_time s picture))) c.note_numbers.ensures.standing)
