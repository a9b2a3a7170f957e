-- What the code looks up is what stands around the macroblock.
use Rattle.std.proofs.Common.{◌≡◌, ℕ, suc, ◌+◌, ◌-◌, ◌%◌, ◌<◌, ◌≤◌, Bool, List, [], length, take, get_or, Option, Some, None, refl, sym, ◌∙◌, arith, lit<}
use Rattle.std.proofs.Common.{eq-eqb}
use Rattle.std.specs.Option.{option_map}
use Rattle.std.specs.List.{slice_get}
use Rattle.std.proofs.Math.Nat.{mod-lt}
use Rattle.h264_near.specs.declared.near.Near.{Near}
use Rattle.h264_near.specs.Along.{edge_total, edge_chroma, edge_mode, edge_motion}
use Rattle.h264_intra.specs.declared.luma4.Intra4x4PredMode.{Intra4x4PredMode}
use Rattle.h264_intra.specs.declared.luma4.Intra4x4PredMode.TheVariants.{Vertical}
use Rattle.h264_plane.specs.Blocks.{number_of, column_of, row_of}
use Rattle.h264_near.specs.Coded.{CodedMacroblock, chroma_number_of, total_part, chroma_part, mode_part, motion_part}
use Rattle.h264_near.specs.Intra.{with_totals, with_modes}
use Rattle.h264_near.specs.Motions.{with_motions, neighbour}
use Rattle.h264_near.specs.declared.motion.Motion.{Motion}
use Rattle.h264_near.specs.Keeps.{Keeps, IsEdge, Lower}
use Rattle.h264_near.specs.Place.{around}
use Rattle.h264_near.specs.Raster.{last_in}
use Rattle.h264_near.proofs.Edges.{total-is, chroma-is, mode-is, motion-is}
use Rattle.h264_near.proofs.Neighbours.{own, left-of, upper-of, corner-of, next-of, past-of, right-of}
use Rattle.h264_near.proofs.Places.{taken}

-- the blocks of a macroblock
pub within-column : (b : ℕ) → column_of b < 4
unfolding column_of
within-column b = omega arith

pub within-row : (b : ℕ) → b < 16 → row_of b < 4
unfolding row_of
within-row b h = omega arith

pub left-earlier : (b : ℕ) → b < 16 → 0 < column_of b → number_of (column_of b - 1) (row_of b) < b
unfolding column_of row_of number_of
left-earlier b h k = omega arith

pub upper-earlier : (b : ℕ) → b < 16 → 0 < row_of b → number_of (column_of b) (row_of b - 1) < b
unfolding column_of row_of number_of
upper-earlier b h k = omega arith

pub corner-earlier : (b : ℕ) → b < 16 → 0 < column_of b → 0 < row_of b → number_of (column_of b - 1) (row_of b - 1) < b
unfolding column_of row_of number_of
corner-earlier b h k l = omega arith

same_total : (slice x y : ℕ) (totals : List ℕ) → total_part slice x y (with_totals slice totals []) ≡ slice_get totals (number_of x y)
unfolding total_part
same_total slice x y totals = rw (eq-eqb slice slice refl) refl

same_chroma : (slice c x y : ℕ) (totals : List ℕ) → chroma_part slice c x y (with_totals slice [] totals) ≡ slice_get totals (chroma_number_of c x y)
unfolding chroma_part
same_chroma slice c x y totals = rw (eq-eqb slice slice refl) refl

same_mode : (slice : ℕ) (constrained : Bool) (x y : ℕ) (modes : List Intra4x4PredMode) → mode_part slice constrained x y (with_modes slice modes) ≡
    slice_get modes (number_of x y)
unfolding mode_part
same_mode slice constrained x y modes = rw (eq-eqb slice slice refl) refl

same_motion : (slice x y : ℕ) (motions : List (Option Motion)) →
    motion_part slice x y (with_motions slice motions) ≡ option_map (λ m. Some m) (get_or motions (number_of x y) None)
unfolding motion_part
same_motion slice x y motions = rw (eq-eqb slice slice refl) refl

module _ (width : ℕ) (picture : List CodedMacroblock) (slice : ℕ) (some : 0 < width) where
  four : 0 < 4
  four = lit< tt

  two : 0 < 2
  two = lit< tt

  -- its own blocks
  pub total-own : (totals : List ℕ) (b x y i j : ℕ) → i ≡ suc x → j ≡ suc y → x < 4 → y < 4 → number_of x y < b → b ≤ length totals →
      Some (get_or totals (number_of x y) 0) ≡ around 4 (total_part slice) width picture (with_totals slice (take b totals) []) i j
  total-own totals b x y i j ei ej hx hy h k =
      rw (ei, ej) (sym (own 4 (total_part slice) width picture (with_totals slice (take b totals) []) some four x y hx hy ∙
      same_total slice x y (take b totals) ∙ taken 0 totals b (number_of x y) h k))

  pub chroma-own : (totals : List ℕ) (b c x y i j n : ℕ) → i ≡ suc x → j ≡ suc y → n ≡ chroma_number_of c x y → x < 2 → y < 2 → n < b → b ≤ length totals →
      Some (get_or totals n 0) ≡ around 2 (chroma_part slice c) width picture (with_totals slice [] (take b totals)) i j
  chroma-own totals b c x y i j n ei ej en hx hy h k =
      rw (ei, ej) (sym (own 2 (chroma_part slice c) width picture (with_totals slice [] (take b totals)) some two x y hx hy ∙
      same_chroma slice c x y (take b totals) ∙ rw (sym en) (taken 0 totals b n h k)))

  pub mode-own : (constrained : Bool) (modes : List Intra4x4PredMode) (b x y i j : ℕ) → i ≡ suc x → j ≡ suc y → x < 4 → y < 4 → number_of x y < b →
      b ≤ length modes → Some (get_or modes (number_of x y) Vertical) ≡
      around 4 (mode_part slice constrained) width picture (with_modes slice (take b modes)) i j
  mode-own constrained modes b x y i j ei ej hx hy h k =
      rw (ei, ej) (sym (own 4 (mode_part slice constrained) width picture (with_modes slice (take b modes)) some four x y hx hy ∙
      same_mode slice constrained x y (take b modes) ∙ taken Vertical modes b (number_of x y) h k))

  pub above-edge : (near : Near) → Keeps width picture near →
      IsEdge Lower (get_or near.above.items near.column None) (last_in width picture (length picture % width))
  above-edge near k = rw k.column (k.above (length picture % width) (mod-lt (length picture) some))

  -- the column to the left
  pub total-left : (near : Near) (current : CodedMacroblock) (i y : ℕ) → Keeps width picture near → i ≡ 0 → y < 4 →
      edge_total slice y near.left ≡ around 4 (total_part slice) width picture current i (suc y)
  total-left near current i y k e h = rw e
      (total-is _ _ slice 3 y y near.left _ h refl k.left ∙ sym (left-of 4 (total_part slice) width picture current some four y h))

  pub chroma-left : (near : Near) (current : CodedMacroblock) (c i y : ℕ) → Keeps width picture near → i ≡ 0 → c < 2 → y < 2 →
      edge_chroma slice c y near.left ≡ around 2 (chroma_part slice c) width picture current i (suc y)
  chroma-left near current c i y k e g h =
      rw e (chroma-is _ _ slice c 1 y y near.left _ g h refl k.left ∙ sym (left-of 2 (chroma_part slice c) width picture current some two y h))

  pub mode-left : (constrained : Bool) (near : Near) (current : CodedMacroblock) (i y j : ℕ) → Keeps width picture near → i ≡ 0 → j ≡ suc y → y < 4 →
      edge_mode slice constrained y near.left ≡ around 4 (mode_part slice constrained) width picture current i j
  mode-left constrained near current i y j k e f h =
      rw (e, f) (mode-is _ _ slice constrained 3 y y near.left _ h refl k.left ∙
      sym (left-of 4 (mode_part slice constrained) width picture current some four y h))

  -- the row above
  pub total-upper : (near : Near) (current : CodedMacroblock) (x j : ℕ) → Keeps width picture near → j ≡ 0 → x < 4 →
      edge_total slice x (get_or near.above.items near.column None) ≡ around 4 (total_part slice) width picture current (suc x) j
  total-upper near current x j k e h = rw e
      (total-is _ _ slice x 3 x _ _ h refl (above-edge near k) ∙ sym (upper-of 4 (total_part slice) width picture current some four x h))

  pub chroma-upper : (near : Near) (current : CodedMacroblock) (c x j : ℕ) → Keeps width picture near → j ≡ 0 → c < 2 → x < 2 →
      edge_chroma slice c x (get_or near.above.items near.column None) ≡ around 2 (chroma_part slice c) width picture current (suc x) j
  chroma-upper near current c x j k e g h =
      rw e (chroma-is _ _ slice c x 1 x _ _ g h refl (above-edge near k) ∙ sym (upper-of 2 (chroma_part slice c) width picture current some two x h))

  pub mode-upper : (constrained : Bool) (near : Near) (current : CodedMacroblock) (x i j : ℕ) → Keeps width picture near → i ≡ suc x → j ≡ 0 → x < 4 →
      edge_mode slice constrained x (get_or near.above.items near.column None) ≡ around 4 (mode_part slice constrained) width picture current i j
  mode-upper constrained near current x i j k f e h =
      rw (f, e) (mode-is _ _ slice constrained x 3 x _ _ h refl (above-edge near k) ∙
      sym (upper-of 4 (mode_part slice constrained) width picture current some four x h))

  pub mode-next : (constrained : Bool) (near : Near) (current : CodedMacroblock) → Keeps width picture near → near.column + 1 < width →
      edge_mode slice constrained 0 (get_or near.above.items (near.column + 1) None) ≡ around 4 (mode_part slice constrained) width picture current 5 0
  mode-next constrained near current k h =
      let c = k.column in
      let n : length picture % width + 1 < width = omega arith in
      rw k.column (mode-is _ _ slice constrained 0 3 0 _ _ four refl (k.above (length picture % width + 1) n) ∙
      sym (next-of 4 (mode_part slice constrained) width picture current some four n))

  pub mode-past : (constrained : Bool) (near : Near) (current : CodedMacroblock) → Keeps width picture near → near.column < width → width ≤ near.column + 1 →
      None ≡ around 4 (mode_part slice constrained) width picture current 5 0
  mode-past constrained near current k h g =
      let c = k.column in
      sym (past-of 4 (mode_part slice constrained) width picture current some four (let n : length picture % width + 1 ≡ width = omega arith in n))

  -- the corner
  pub mode-corner : (constrained : Bool) (near : Near) (current : CodedMacroblock) (i j : ℕ) → Keeps width picture near → i ≡ 0 → j ≡ 0 →
      edge_mode slice constrained 3 near.corner ≡ around 4 (mode_part slice constrained) width picture current i j
  mode-corner constrained near current i j k e f =
      rw (e, f) (mode-is _ _ slice constrained 3 3 3 near.corner _ (lit< tt) refl k.corner ∙
      sym (corner-of 4 (mode_part slice constrained) width picture current some four))

  -- vectors
  pub motion-own : (motions : List (Option Motion)) (x y i j : ℕ) → i ≡ suc x → j ≡ suc y → x < 4 → y < 4 →
      option_map (λ m. Some m) (get_or motions (number_of x y) None) ≡ neighbour width picture slice motions i j
  unfolding neighbour
  motion-own motions x y i j ei ej hx hy =
      rw (ei, ej) (sym (own 4 (motion_part slice) width picture (with_motions slice motions) some four x y hx hy ∙ same_motion slice x y motions))

  pub motion-left : (near : Near) (motions : List (Option Motion)) (i y j : ℕ) → Keeps width picture near → i ≡ 0 → j ≡ suc y → y < 4 →
      edge_motion slice y near.left ≡ neighbour width picture slice motions i j
  unfolding neighbour
  motion-left near motions i y j k e f h =
      rw (e, f) (motion-is _ _ slice 3 y y near.left _ h refl k.left ∙
      sym (left-of 4 (motion_part slice) width picture (with_motions slice motions) some four y h))

  pub motion-right : (motions : List (Option Motion)) (i y j : ℕ) → i ≡ 5 → j ≡ suc y → y < 4 → None ≡ neighbour width picture slice motions i j
  unfolding neighbour
  motion-right motions i y j e f h = rw (e, f) (sym (right-of 4 (motion_part slice) width picture (with_motions slice motions) some four y h))

  pub motion-corner : (near : Near) (current : CodedMacroblock) (i : ℕ) → Keeps width picture near → i ≡ 0 →
      edge_motion slice 3 near.corner ≡ around 4 (motion_part slice) width picture current i 0
  motion-corner near current i k e = rw e (motion-is _ _ slice 3 3 3 near.corner _ (lit< tt) refl k.corner ∙
      sym (corner-of 4 (motion_part slice) width picture current some four))

  pub motion-upper : (near : Near) (current : CodedMacroblock) (x i : ℕ) → Keeps width picture near → i ≡ suc x → x < 4 →
      edge_motion slice x (get_or near.above.items near.column None) ≡ around 4 (motion_part slice) width picture current i 0
  motion-upper near current x i k e h = rw e
      (motion-is _ _ slice x 3 x _ _ h refl (above-edge near k) ∙ sym (upper-of 4 (motion_part slice) width picture current some four x h))

  pub motion-next : (near : Near) (current : CodedMacroblock) (i : ℕ) → Keeps width picture near → i ≡ 5 → near.column + 1 < width →
      edge_motion slice 0 (get_or near.above.items (near.column + 1) None) ≡ around 4 (motion_part slice) width picture current i 0
  motion-next near current i k e h =
      let c = k.column in
      let n : length picture % width + 1 < width = omega arith in
      rw (e, k.column) (motion-is _ _ slice 0 3 0 _ _ four refl (k.above (length picture % width + 1) n) ∙
      sym (next-of 4 (motion_part slice) width picture current some four n))

  pub motion-past : (near : Near) (current : CodedMacroblock) (i : ℕ) → Keeps width picture near → i ≡ 5 → near.column < width → width ≤ near.column + 1 →
      None ≡ around 4 (motion_part slice) width picture current i 0
  motion-past near current i k e h g =
      let c = k.column in
      rw e (sym (past-of 4 (motion_part slice) width picture current some four (let n : length picture % width + 1 ≡ width = omega arith in n)))
