use Rattle.std.proofs.Common.{◌≡◌, ℕ, ◌<◌, get_or, None}
use Rattle.h264_recon.specs.Weighing.{index_of}
use Rattle.h264_recon.proofs.weighing.are_of_one_index.Given as goal

abbrev pub invariant-loop-n : goal.invariant-loop-n
invariant-loop-n l = (k : ℕ) → k < l.n → index_of (get_or l.motions k None) ≡ index_of (get_or l.motions 0 None)
