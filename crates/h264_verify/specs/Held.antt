-- Each picture that is held has its frame in the picture buffer (8.2.5, C.4.4). To be read beside the standard.
use Rattle.std.specs.Prelude.{◌≡◌, ℕ, ◌==◌, ◌&&◌, Bool, true, List}
use Rattle.std.specs.List.{list_any}
use Rattle.h264_marking.specs.Frames.{References}
use Rattle.h264_dpb.specs.declared.entry.Entry.{Entry}
use Rattle.h264_dpb.specs.Bumping.{is_held}
use Rattle.h264_dpb.specs.Buffered.{Buffered}
use Rattle.h264_dpb.specs.Turns.{Shown, names}

-- a frame of this picture, which is used for reference
abbrev pub is_kept : ℕ → Entry Shown → Bool
is_kept n e = e.reference && e.of.picture == n

-- one is among these
abbrev pub Stands : ℕ → List (Entry Shown) → Type 0
Stands n es = list_any (is_kept n) es ≡ true

-- each picture that is held has its frame in the buffer
abbrev pub AreAmong : References → Buffered Shown → Type 0
AreAmong refs b = (n : ℕ) → is_held (names refs) n ≡ true → Stands n b.entries
