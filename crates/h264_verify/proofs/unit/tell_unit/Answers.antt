use Rattle.std.proofs.Common.{[], refl}
use Rattle.h264_verify.proofs.language.ToldAsIs.{tells-said}
use Rattle.h264_verify.proofs.unit.tell_unit.Goals as goal

pub returns-in-Ok-clause-plays : goal.returns-in-Ok-clause-plays
returns-in-Ok-clause-plays g c = let told =
    rw (c.from.ensures.value, c.nal_unit_type-kind.ensures, c.nal_ref_idc-nal_ref_idc.ensures, c.of-header.ensures, c.body.ensures.value) at
    c.in-Ok.ensures.ok in
    λ frames. record { plays = (refl, tells-said frames _ _ _ _ told, c.in-Ok.ensures.kept) }

pub returns-in-Err-clause-plays : goal.returns-in-Err-clause-plays
returns-in-Err-clause-plays g c = λ frames. record {
  plays =
      (record { front = []; rest = _; whole = refl; tells = tells-said frames _ _ _ [] c.in-Err.ensures.refused }, c.in-Err.ensures.failed);
}
