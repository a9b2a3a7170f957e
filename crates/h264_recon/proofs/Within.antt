-- An available macroblock lies in the picture, before the one at hand.
use Rattle.std.proofs.Common.{◌≡◌, ℕ, zero, suc, ◌+◌, ◌*◌, ◌/◌, ◌%◌, ◌<◌, ◌≤◌, Bool, true, false, ◌&&◌, nat_lt, IsTrue, List, [], length, Option, Some, None}
use Rattle.std.proofs.Common.{refl, ◌∙◌, arith, ⊎_elim, lit<}
use Rattle.std.specs.List.{slice_get}
use Rattle.std.specs.Option.{is_some, option_and_then}
use Rattle.std.proofs.Math.Bool.{and-false}
use Rattle.std.proofs.lemmas.Bool.{cases_lt, lt-ltb, ltb-true}
use Rattle.h264_near.specs.Coded as coded
use Rattle.h264_plane.specs.Blocks.{column_of, row_of}
use Rattle.h264_near.specs.Coded.{CodedMacroblock, mode_part}
use Rattle.h264_near.specs.declared.motion.Motion as derived
use Rattle.h264_near.specs.Intra.{with_modes, block_samples, macroblock_samples}
use Rattle.h264_near.specs.Place.{around}
use Rattle.h264_intra.specs.declared.luma4.Intra4x4PredMode.{Intra4x4PredMode}
use Rattle.h264_intra.specs.declared.luma16.Intra16x16PredMode.{Intra16x16PredMode}
use Rattle.h264_intra.specs.declared.chroma.IntraChromaPredMode.{IntraChromaPredMode}
use Rattle.h264_intra.specs.declared.sides.Sides.{Sides}
use Rattle.h264_recon.specs.declared.macroblock.Available.{Available}
use Rattle.h264_near.specs.Raster.{before, last_corner}
use Rattle.h264_near.proofs.Neighbours.{left-of, upper-of, corner-of, past-of, next-of, above-there, left-there, some-before}
use Rattle.h264_near.proofs.Places.{quotient, remainder}
use Rattle.h264_recon.specs.Constructed.{IsWithin}
use Rattle.h264_recon.specs.Given.{available, no_sides, used_by}

pub some-of : {A B : Type 0} (f : A → Option B) (o : Option A) → IsTrue (is_some (option_and_then f o)) → IsTrue (is_some o)
some-of f None h = h
some-of f (Some x) h = refl

corner-there : {M : Type 0} (w : ℕ) (xs : List M) → IsTrue (is_some (last_corner w xs)) → (0 < length xs % w) × (0 < length xs / w)
unfolding last_corner
corner-there w xs h = (some-before (length xs % w) _ h, go (length xs % w) h)
  where
    go : (c : ℕ) → IsTrue (is_some (option_and_then (λ c. option_and_then (λ r. slice_get xs (r * w + c)) (before (length xs / w))) (before c))) →
        0 < length xs / w
    go zero h = absurd (grind (arith, h))
    go (suc c) h = some-before (length xs / w) (λ r. slice_get xs (r * w + c)) h

pub within : (w : ℕ) (xs : List CodedMacroblock) (slice : ℕ) (constrained : Bool) (c r : ℕ) → length xs ≡ r * w + c → c < w →
    IsWithin (available w xs slice constrained) w c r
unfolding available macroblock_samples block_samples around column_of row_of
within w xs slice constrained c r e k =
    let column : length xs % w ≡ c = remainder (length xs) w r c k e in
    let row : length xs / w ≡ r = quotient (length xs) w r c k e in
    let some : 0 < w = omega arith in
    let four : 0 < 4 = lit< tt in
    let part = mode_part slice constrained in
    let m = with_modes slice [] in
    record {
      left = λ t. rw column at (left-there w xs (some-of (part 3 0) _ (rw (left-of 4 part w xs m some four 0 four) at t)));
      above = λ t. rw row at (above-there w xs (length xs % w) (omega arith) (some-of (part 0 3) _ (rw (upper-of 4 part w xs m some four 0 four) at t)));
      above_right = λ t. ⊎_elim
          (λ (q : c + 1 < w).
          let next : length xs % w + 1 < w = omega arith in
          (rw row at (above-there w xs (length xs % w + 1) (omega arith) (some-of (part 0 3) _ (rw (next-of 4 part w xs m some four next) at t))), q))
          (λ (q : w ≤ c + 1).
          let last : length xs % w + 1 ≡ w = omega arith in
          let n = rw (past-of 4 part w xs m some four last) at t in absurd (grind (arith, n)))
          (cases_lt (c + 1) w);
      corner = λ t.
          let h = corner-there w xs (some-of (part 3 3) _ (rw (corner-of 4 part w xs m some four) at t)) in
          (rw column at h.0, rw row at h.1);
    }

-- ---- the sides that are used

pub none-within : (w c r : ℕ) → IsWithin no_sides w c r
none-within w c r = record { left = λ t. absurd (cc); above = λ t. absurd (cc); above_right = λ t. absurd (cc); corner = λ t. absurd (cc) }

pub used-within : (p : coded.Prediction) (a : Available) (w c r : ℕ) → IsWithin a w c r → IsWithin (used_by p a) w c r
unfolding used_by
used-within (coded.Intra4x4 modes chroma) a w c r h = h
used-within (coded.Intra16x16 mode chroma) a w c r h = h
used-within (coded.Pcm samples) a w c r h = none-within w c r
used-within (coded.Inter motions) a w c r h = none-within w c r

pub used-4x4 : (p : coded.Prediction) (modes : List Intra4x4PredMode) (chroma : IntraChromaPredMode) (a : Available) → p ≡ coded.Intra4x4 modes chroma →
    a ≡ used_by p a
unfolding used_by
used-4x4 p modes chroma a e = rw e refl

pub used-16x16 : (p : coded.Prediction) (mode : Intra16x16PredMode) (chroma : IntraChromaPredMode) (a : Available) → p ≡ coded.Intra16x16 mode chroma →
    a ≡ used_by p a
unfolding used_by
used-16x16 p mode chroma a e = rw e refl

pub unused-pcm : (p : coded.Prediction) (samples : List ℕ) (a : Available) → p ≡ coded.Pcm samples → no_sides ≡ used_by p a
unfolding used_by
unused-pcm p samples a e = rw e refl

pub unused-inter : (p : coded.Prediction) (motions : List (Option derived.Motion)) (a : Available) → p ≡ coded.Inter motions → no_sides ≡ used_by p a
unfolding used_by
unused-inter p motions a e = rw e refl

-- ---- the guards of the code

both : (a b : Bool) → IsTrue (a && b) → IsTrue a × IsTrue b
both true b t = (refl, t)
both false b t = absurd (cc)

below : (n m : ℕ) → IsTrue (nat_lt n m) → n < m
below n m t = ltb-true n m t

pub same : (a : ℕ) (b : Bool) → (IsTrue b → 0 < a) → (nat_lt 0 a && b) ≡ b
same a false h = and-false (nat_lt 0 a)
same a true h = rw (lt-ltb 0 a (h refl)) refl

pub same2 : (a n m : ℕ) (b : Bool) → (IsTrue b → (0 < a) × (n < m)) → (nat_lt 0 a && (nat_lt n m && b)) ≡ b
same2 a n m false h = rw (and-false (nat_lt n m)) (and-false (nat_lt 0 a))
same2 a n m true h = rw (lt-ltb 0 a (h refl).0, lt-ltb n m (h refl).1) refl

abbrev pub assembled : Bool → Bool → Bool → Bool → Available
assembled left above right corner = record { left = left; above = above; above_right = right; corner = corner }

-- what lies in the picture is all that is available
pub available-is : (w : ℕ) (xs : List CodedMacroblock) (slice : ℕ) (constrained : Bool) (c r m : ℕ) (s : Sides) (right left above above_right corner : Bool) →
    length xs ≡ r * w + c → c < w → m ≡ w → s ≡ macroblock_samples w xs slice constrained →
    right ≡ is_some (around 4 (mode_part slice constrained) w xs (with_modes slice []) 5 0) → left ≡ (nat_lt 0 c && s.left) →
    above ≡ (nat_lt 0 r && s.above) → above_right ≡ (nat_lt 0 r && (nat_lt (c + 1) m && right)) →
    corner ≡ (nat_lt 0 c && (nat_lt 0 r && s.corner)) → assembled left above above_right corner ≡ available w xs slice constrained
unfolding available
available-is w xs slice constrained c r m s right left above above_right corner e k ms is rs el ea er ec =
    let h = within w xs slice constrained c r e k in
    let t = macroblock_samples w xs slice constrained in
    let n = is_some (around 4 (mode_part slice constrained) w xs (with_modes slice []) 5 0) in
    let l : left ≡ t.left = el ∙ rw is (same c t.left h.left) in
    let a : above ≡ t.above = ea ∙ rw is (same r t.above h.above) in
    let b : above_right ≡ n = er ∙ rw (ms, rs) (same2 r (c + 1) w n h.above_right) in
    let d : corner ≡ t.corner = ec ∙ rw is (same2 c 0 r t.corner h.corner) in
    rw (l, a, b, d) refl
