use Rattle.std.proofs.Common.{[], refl, rules}
use Rattle.std.proofs.lemmas.Int.{to_z-of_z}
use Rattle.std.specs.Int.{w32}
use mir.Val.{SFits}
use Rattle.h264_verify.proofs.language.ToldAsIs.{tells-said}
use Rattle.h264_verify.proofs.slices.tell_slice.Goals as goal

pub returns-in-Ok-clause-plays : goal.returns-in-Ok-clause-plays
returns-in-Ok-clause-plays g c = λ frames.
    let fits : SFits w32 c.frame_count-count.result = search rules in
    let told = rw (to_z-of_z w32 c.frame_count-count.result fits, c.slice_type.ensures, c.frame_count-count.ensures) at c.in-Ok.ensures.ok in
    record { plays = (refl, tells-said frames _ _ _ _ told, c.in-Ok.ensures.kept) }

pub returns-in-Err-clause-plays : goal.returns-in-Err-clause-plays
returns-in-Err-clause-plays g c = λ frames. record {
  plays =
      (record { front = []; rest = _; whole = refl; tells = tells-said frames _ _ _ [] c.in-Err.ensures.refused }, c.in-Err.ensures.failed);
}
