use Rattle.std.proofs.Common.{rules}
use Rattle.h264_recon.proofs.Parted.{one_room}
use Rattle.h264_tests.proofs.recon.put_inter.Goals as goal

pub construct-requires-clause-usable : goal.construct-requires-clause-usable
construct-requires-clause-usable g c = one_room _ _ _ _ _ (search rules)
