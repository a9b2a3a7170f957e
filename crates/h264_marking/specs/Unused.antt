-- What the missing numbers before a picture are (7.4.3). To be read beside the standard.
use Rattle.std.specs.Prelude.{◌≡◌, ◌≢◌, ℕ, ◌+◌, ◌%◌, List, [], ◌∷◌}
use Rattle.h264_marking.specs.declared.frame.Numbering.{Numbering}
use Rattle.h264_marking.specs.Gaps.{last_or}

-- each of these numbers is the one after the number before it, modulo MaxFrameNum
abbrev pub Succeed : ℕ → ℕ → List ℕ → Type 0
Succeed max_frame_num number [] = Unit {0}
Succeed max_frame_num number (n ∷ ns) = (n ≡ (number + 1) % max_frame_num) × Succeed max_frame_num n ns

-- none of these numbers is one of the two
abbrev pub Avoid : ℕ → ℕ → List ℕ → Type 0
Avoid a b [] = Unit {0}
Avoid a b (n ∷ ns) = (n ≢ a) × (n ≢ b) × Avoid a b ns

-- After PrevRefFrameNum one number follows another up to the one before frame_num, and none is PrevRefFrameNum or frame_num.
pub record IsGap (prev_ref_frame_num : ℕ) (n : Numbering) (ns : List ℕ) : Type 0 where
  pub succeed : Succeed n.max_frame_num prev_ref_frame_num ns
  pub ends : n.frame_num ≡ (last_or prev_ref_frame_num ns + 1) % n.max_frame_num
  pub avoid : Avoid prev_ref_frame_num n.frame_num ns
