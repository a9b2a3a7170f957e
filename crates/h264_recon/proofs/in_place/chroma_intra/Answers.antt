use Rattle.h264_recon.proofs.Beside.{has_chroma}
use Rattle.h264_recon.proofs.in_place.chroma_intra.Goals as goal

pub returns : goal.returns
returns c = λ own ok. has_chroma _ c.args.available _ _ _ _ c.neighbours_chroma.ensures.sides ok (c.neighbours_chroma.ensures.samples own)
    c.predict_chroma.ensures
