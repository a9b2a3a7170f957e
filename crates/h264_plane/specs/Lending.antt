-- Planes that are lent and taken back. A working form.
use Rattle.std.specs.Prelude.{ℕ, List, slice_set}
use Rattle.std.specs.Borrow.{Lends, MutBor, Fml}
use Rattle.h264_plane.specs.declared.frame.Frame.{Frame}
use Rattle.h264_plane.specs.contracts.frame.Frame as frame
use Rattle.h264_plane.specs.contracts.pool.Pool as pool

-- the pool ends with the last frame after r at this place
abbrev pub LendsFrame : ℕ → MutBor (List Frame) → MutBor Frame → Fml
LendsFrame place frames r = Lends pool.the_row frame.the_row frames r (slice_set frames.now place)
