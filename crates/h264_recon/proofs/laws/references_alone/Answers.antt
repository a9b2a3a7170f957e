use Rattle.h264_recon.proofs.References.{references_alone}
use Rattle.h264_recon.proofs.laws.references_alone.Goals as goal

pub returns : goal.returns
returns c = references_alone
