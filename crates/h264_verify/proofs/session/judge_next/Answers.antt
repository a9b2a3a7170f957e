use Rattle.std.proofs.Common.{◌∙◌, []}
use Rattle.std.proofs.lemmas.List.{append-nil}
use Rattle.h264_verify.proofs.language.ToldAsIs.{tells-said}
use Rattle.h264_verify.proofs.language.ToldTogether.{tells-both}
use Rattle.h264_verify.proofs.session.judge_next.Goals as goal

pub returns-in-Ok-clause-turns : goal.returns-in-Ok-clause-turns
returns-in-Ok-clause-turns g c frames before k =
    let t = c.in-Ok.ensures.turns frames before k in
    let told = tells-both t.plays.plays.1 (tells-said t.made _ _ _ [] c.note_places_taken.ensures.same) in
    record {
      made = t.made;
      same = t.same;
      after = t.after;
      plays = record { plays = (t.plays.plays.0, (rw append-nil at told), c.note_places_taken.ensures.quiet ∙ t.plays.plays.2) };
      keeps = t.keeps;
    }
