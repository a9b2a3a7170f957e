-- A line that does not ask for its filter.
use Rattle.std.proofs.Common.{◌≡◌, ◌⊎◌, ℕ, false, refl, ◌∙◌, ⊎_elim}
use Rattle.h264_deblock.specs.Line.{filtered, is_within_limits, Line, Limits, Off}
use Rattle.h264_deblock.specs.Level.{any_filter, filter_by}
use Rattle.h264_deblock.proofs.Lines.{filtered_not, filtered_off}

off_number : (t : ℕ) → t ≡ 255 → any_filter t ≡ Off
unfolding any_filter filter_by
off_number t e = rw e refl

-- bS is 0, or the samples are not within the thresholds
pub quiet_line : (k : Limits) (t : ℕ) (l : Line) → k.filter ≡ any_filter t → (is_within_limits k l ≡ false) ⊎ (t ≡ 255) → filtered false k l ≡ l
quiet_line k t l e h = ⊎_elim (λ not_within. filtered_not false k l not_within) (λ off. filtered_off false k l (e ∙ off_number t off)) h
