use Rattle.std.proofs.Common.{SFits, w32, rules}
use Rattle.h264_recon.proofs.FromRead.{levels-read}
use Rattle.h264_recon.proofs.Kept.{kept32}
use Rattle.h264_recon.proofs.scaled.ReadLevels.new.Goals as goal

pub returns-clause-levels : goal.returns-clause-levels
returns-clause-levels c m h =
    let z = c.args.chroma_qp_index_offset in
    let fits : SFits w32 z = search rules in
    let kept = kept32 z fits in
    rw kept (levels-read (record { read = c.args.read; chroma_qp_index_offset = z }) m h)
