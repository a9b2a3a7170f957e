-- The decoded picture buffer stays within its places (C.4.2, C.4.4, C.4.5). To be read beside the standard.
use Rattle.std.specs.Prelude.{◌≡◌, ℕ, ◌≤◌, List, ◌∷◌, ◌++◌}
use Rattle.h264_marking.specs.Ended.{numbering_of}
use Rattle.h264_sps.specs.Usable.{dpb_frames}
use Rattle.h264_picture.specs.Buffer.{buffer_size}
use Rattle.h264_dpb.specs.Buffered.{Buffered, StaysWithin}
use Rattle.h264_dpb.specs.Turns.{Shown}
use Rattle.h264_verify.specs.Pictures.{CodedPicture, held_after}
use Rattle.h264_verify.specs.Buffering.{after_all, within_newest, missing_before, gaps_turn}

-- the buffer before a picture after these, once these of the missing numbers are filled
abbrev pub filled_up_to : CodedPicture → List CodedPicture → List ℕ → Buffered Shown
filled_up_to p ps numbers = (gaps_turn (numbering_of p.first.sps p.first.header) numbers (held_after ps) (after_all ps).buffer).buffer

-- The buffer has places for what is in it while a picture after these is decoded, and before that after each of the missing numbers that are filled.
-- It still has the size that it had before.
pub record DecodesWithin (p : CodedPicture) (ps : List CodedPicture) : Type 0 where
  pub within : StaysWithin (within_newest (p ∷ ps)).buffer
  pub size : (within_newest (p ∷ ps)).buffer.size ≡ (after_all ps).buffer.size
  pub filling : (numbers others : List ℕ) → missing_before p ps ≡ numbers ++ others → StaysWithin (filled_up_to p ps numbers)
      × ((filled_up_to p ps numbers).size ≡ (after_all ps).buffer.size)

-- So it does once the picture has ended. It then has the size that the picture's sequence gives it, at most MaxDpbFrames of the sequence's level.
pub record EndsWithin (p : CodedPicture) (ps : List CodedPicture) : Type 0 where
  pub within : StaysWithin (after_all (p ∷ ps)).buffer
  pub size : (after_all (p ∷ ps)).buffer.size ≡ buffer_size p.first.sps
  pub level : buffer_size p.first.sps ≤ dpb_frames p.first.sps
