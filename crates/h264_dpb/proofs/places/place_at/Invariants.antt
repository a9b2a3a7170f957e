use Rattle.std.proofs.Common.{◌≡◌, drop}
use Rattle.h264_dpb.specs.Numbered.{place_in}
use Rattle.h264_dpb.proofs.places.place_at.Given as goal

abbrev pub invariant-loop-entry : goal.invariant-loop-entry
invariant-loop-entry l = record {
  following : place_in l.entries l.picture ≡ place_in (drop l.entry-index l.entries) l.picture;
}
