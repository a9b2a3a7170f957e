-- How many frames the decoded picture buffer holds (A.3.1, C.4.5.3, E.2.1). To be read beside the standard.
use Rattle.std.specs.Prelude.{ℕ, min, max, unwrap_or}
use Rattle.h264_sps.specs.declared.sps.Sps.{Sps}
use Rattle.h264_sps.specs.Usable.{given_frames, dpb_frames}

-- max_dec_frame_buffering, inferred as MaxDpbFrames, neither of which is more than 16; a picture takes one place at least
unfoldable pub buffer_size : Sps → ℕ
buffer_size sps = max 1 (min (unwrap_or (given_frames sps) (dpb_frames sps)) 16)
