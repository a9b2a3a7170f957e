use Rattle.std.proofs.Common.{ap, ◌∙◌, min}
use Rattle.std.specs.Prelude.{max, unwrap_or}
use Rattle.h264_sps.specs.Usable.{given_frames}
use Rattle.h264_picture.specs.Buffer.{buffer_size}
use Rattle.h264_picture.proofs.buffer.buffer_size.Goals as goal

pub returns-clause-value : goal.returns-clause-value
unfolding buffer_size
returns-clause-value c = c.clamp.ensures ∙
    ap (λ n. max 1 (min n 16)) (c.unwrap_or-frames.ensures ∙ ap (λ o. unwrap_or o c.dpb_frames.result) c.given_frames.ensures ∙
    ap (unwrap_or (given_frames c.args.sps.now)) c.dpb_frames.ensures)
