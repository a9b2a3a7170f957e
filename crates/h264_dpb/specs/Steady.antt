-- A buffer that one more frame of a missing frame_num leaves as it is. A working form.
use Rattle.std.specs.Prelude.{ℕ, ◌-◌, nat_lt, ◌==◌, ◌&&◌, Bool, Option, List, length}
use Rattle.std.specs.List.{list_all}
use Rattle.std.specs.Bool.{beq}
use Rattle.h264_dpb.specs.declared.entry.Entry.{Entry}
use Rattle.h264_dpb.specs.declared.entry.Placed.{Placed}
use Rattle.h264_dpb.specs.Bumping.{is_in_use, is_held, missing_in}
use Rattle.h264_dpb.specs.Buffered.{Buffered}

-- it stays as it is once these are held
abbrev pub is_marked : {N : Type 0} → (N → Bool) → Entry N → Bool
is_marked held e = beq e.reference (held e.of) && is_in_use e

-- as many frames do not exist, a place is free for one of them, and the others stay as they are
abbrev pub is_steady : List (Option ℕ) → Buffered Placed → Bool
is_steady held b =
    (b.missing == missing_in held) && nat_lt (length b.entries) (b.size - (missing_in held - 1)) && list_all (is_marked (λ n. is_held held n.picture)) b.entries
