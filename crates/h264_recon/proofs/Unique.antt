-- The equations have at most one solution.
use Rattle.std.proofs.Common.{◌≡◌, inl, inr, ⊎_elim, ℕ, zero, suc, ◌+◌, ◌-◌, ◌*◌, ◌/◌, ◌%◌, ◌<◌, ◌≤◌, pos, ◌+ℤ◌, arith, refl, sym, ap, ◌∙◌}
use Rattle.std.proofs.lemmas.Bool.{cases_lt}
use Rattle.std.proofs.lemmas.Nat.{mul-le}
use Rattle.h264_plane.specs.declared.frame.Component.{Component}
use Rattle.h264_plane.specs.declared.frame.Component.TheVariants.{Y, Cb, Cr}
use Rattle.h264_plane.specs.Clip.{clip1}
use Rattle.h264_intra.proofs.Depends.{predicted4_same, predicted16_same, predicted_chroma_same}
use Rattle.h264_plane.specs.Blocks.{number_of}
use Rattle.h264_plane.specs.Places.{side, Agree}
use Rattle.h264_recon.specs.Blocks.{sides_of, sides4_of}
use Rattle.h264_scale.specs.Macroblock.{residual}
use Rattle.h264_recon.specs.Inter.{Setting, position_at}
use Rattle.h264_recon.specs.Constructed.{window, mode_at, predicted_luma, predicted_intra, made_by, made, IsMade, Constructed, IsWithin, IsPossibleLuma}
use Rattle.h264_recon.specs.Constructed.{IsPossible, IsAllowed, Coded}
use Rattle.h264_recon.specs.Around.{SidesAgree, BlocksAgree}
use Rattle.h264_recon.specs.declared.macroblock.Available.{Available}
use Rattle.h264_recon.specs.declared.macroblock.IntraLuma.{IntraLuma}
use Rattle.h264_recon.specs.declared.macroblock.IntraLuma.TheVariants.{Blocks, Whole}
use Rattle.h264_recon.specs.declared.macroblock.IntraModes.{IntraModes}
use Rattle.h264_recon.specs.Predicted.{Prediction, Intra, Inter, Pcm}
use Rattle.h264_plane.proofs.Raster.{rows, or_in, wrap_before, side_least}
use Rattle.h264_recon.proofs.Sides.{block_sides, whole_sides, same_at}
use Rattle.h264_plane.proofs.Own.{moved}

-- ---- a predicted sample depends on the available sides and on the blocks before its own

luma_same : (l : IntraLuma) (a : Available) (s t : ℕ → ℕ → ℕ) (x y : ℕ) → x < 16 → y < 16 → IsPossibleLuma l a → SidesAgree 16 a s t →
    BlocksAgree 16 (number_of (x / 4) (y / 4)) s t →
    predicted_luma l a s x y ≡ predicted_luma l a t x y
unfolding predicted_luma
luma_same (Blocks modes) a s t x y p q ok sides blocks =
    predicted4_same (mode_at modes (x / 4) (y / 4)) (sides4_of a (x / 4) (y / 4)) _ _ (x % 4) (y % 4) (ok (x / 4) (y / 4) (omega arith) (omega arith))
    (omega arith) (omega arith)
    (block_sides a s t (x / 4) (y / 4) (omega arith) (omega arith) sides blocks)
luma_same (Whole mode) a s t x y p q ok sides blocks = predicted16_same mode (sides_of a) s t x y ok p q (whole_sides 16 a s t sides)

intra_same : (modes : IntraModes) (a : Available) (p : Component) (s t : ℕ → ℕ → ℕ) (x y : ℕ) → x < side p → y < side p → IsPossible (Intra modes) a →
    SidesAgree (side p) a s t → BlocksAgree (side p) (number_of (x / 4) (y / 4)) s t → predicted_intra modes a p s x y ≡ predicted_intra modes a p t x y
unfolding predicted_intra
intra_same modes a Y s t x y i j ok sides blocks = luma_same modes.luma a s t x y i j ok.0 sides blocks
intra_same modes a Cb s t x y i j ok sides blocks = predicted_chroma_same modes.chroma (sides_of a) s t x y ok.1 i j (whole_sides 8 a s t sides)
intra_same modes a Cr s t x y i j ok sides blocks = predicted_chroma_same modes.chroma (sides_of a) s t x y ok.1 i j (whole_sides 8 a s t sides)

-- and so does a constructed sample
pub made_by_same : (d : Prediction) (k : Setting) (c r : ℕ) (m : Coded) (p : Component) (s t : ℕ → ℕ → ℕ) (x y : ℕ) → x < side p → y < side p →
    IsPossible d m.available →
    SidesAgree (side p) m.available s t → BlocksAgree (side p) (number_of (x / 4) (y / 4)) s t →
    made_by d k (position_at c r) m p s x y ≡ made_by d k (position_at c r) m p t x y
unfolding made_by
made_by_same (Intra modes) k c r m p s t x y i j ok sides blocks =
    ap (λ n. clip1 (pos n +ℤ residual m.levels p x y)) (intra_same modes m.available p s t x y i j ok sides blocks)
made_by_same (Inter motion) k c r m p s t x y i j ok sides blocks = refl
made_by_same (Pcm bytes) k c r m p s t x y i j ok sides blocks = refl

-- ---- the equations of one macroblock

-- s meets them, seen from the macroblock
pub record IsMadeIn (k : Setting) (c r : ℕ) (m : Coded) (p : Component) (s : ℕ → ℕ → ℕ) : Type 0 where
  pub each : (x y : ℕ) → x < side p → y < side p → s (x + 1) (y + 1) ≡ made k (position_at c r) m p s x y

pub quotient : (x i : ℕ) → i < 4 → (4 * x + i) / 4 ≡ x
quotient x i p = omega arith

pub blocks_unique : (b : ℕ) (k : Setting) (c r : ℕ) (m : Coded) (p : Component) (s t : ℕ → ℕ → ℕ) → IsPossible m.prediction m.available →
    SidesAgree (side p) m.available s t → IsMadeIn k c r m p s → IsMadeIn k c r m p t → BlocksAgree (side p) b s t
blocks_unique zero k c r m p s t ok sides ms mt = record { each = λ x y i j f g d e less. absurd (omega arith) }
blocks_unique (suc b) k c r m p s t ok sides ms mt =
    let before = blocks_unique b k c r m p s t ok sides ms mt in
    record {
      each = λ x y i j f g d e less. ⊎_elim
          (λ earlier. before.each x y i j f g d e earlier)
          (λ (here : b ≤ number_of x y).
          let column = quotient x i d in
          let row = quotient y j e in
          let number : number_of ((4 * x + i) / 4) ((4 * y + j) / 4) ≡ b = rw (column, row) (omega arith) in
          let so_far : BlocksAgree (side p) (number_of ((4 * x + i) / 4) ((4 * y + j) / 4)) s t = rw number before in
          ms.each (4 * x + i) (4 * y + j) (omega arith) (omega arith)
          ∙ made_by_same m.prediction k c r m p s t (4 * x + i) (4 * y + j) (omega arith) (omega arith) ok sides so_far
          ∙ sym (mt.each (4 * x + i) (4 * y + j) (omega arith) (omega arith)))
          (cases_lt (number_of x y) b);
    }

block_fits : (p : Component) (x : ℕ) → x < side p → 4 * (x / 4) + 4 ≤ side p
block_fits Y x i = omega arith
block_fits Cb x i = omega arith
block_fits Cr x i = omega arith

pub side_most : (p : Component) → side p ≤ 16
side_most Y = omega arith
side_most Cb = omega arith
side_most Cr = omega arith

-- two solutions are the same, sample by sample
pub own_unique : (k : Setting) (c r : ℕ) (m : Coded) (p : Component) (s t : ℕ → ℕ → ℕ) → IsPossible m.prediction m.available →
    SidesAgree (side p) m.available s t → IsMadeIn k c r m p s → IsMadeIn k c r m p t → (x y : ℕ) → x < side p → y < side p →
    s (x + 1) (y + 1) ≡ t (x + 1) (y + 1)
unfolding number_of
own_unique k c r m p s t ok sides ms mt x y i j =
    let all = blocks_unique 16 k c r m p s t ok sides ms mt in
    let most = side_most p in
    same_at s t _ _ (4 * (x / 4) + x % 4 + 1) (4 * (y / 4) + y % 4 + 1) (omega arith) (omega arith)
    (all.each (x / 4) (y / 4) (x % 4) (y % 4) (block_fits p x i) (block_fits p y j) (omega arith) (omega arith) (omega arith))

-- the equations of a picture are those of the macroblock seen from it
pub made_in : (k : Setting) (c r : ℕ) (m : Coded) (u : Component → ℕ → ℕ → ℕ) (p : Component) → IsMade k c r m u →
    IsMadeIn k c r m p (window (side p) (u p) c r)
made_in k c r m u p made = record {
  each = λ x y i j. moved (u p) _ _ (side p * c + x) (side p * r + y) (omega arith) (omega arith) ∙ made.each p x y i j;
}

-- ---- of a picture

-- the sides that are available lie in macroblocks before this one
pub sides_before : (n w c r : ℕ) (a : Available) (u v : ℕ → ℕ → ℕ) → 4 ≤ n → c < w → IsWithin a w c r → Agree n w c r u v →
    SidesAgree n a (window n u c r) (window n v c r)
sides_before n w c r a u v f k within agree =
    let inside = mul-le n (c + 1) n w (omega arith) (omega arith) in
    record {
      left = λ t q d.
          let there = mul-le n 1 n c (omega arith) (within.left t) in
          agree.each _ _ (omega arith) (inr (omega arith, omega arith));
      above = λ t q d.
          let there = mul-le n 1 n r (omega arith) (within.above t) in
          agree.each _ _ (omega arith) (inl (omega arith));
      above_right = λ t q d.
          let there = mul-le n 1 n r (omega arith) ((within.above_right t).0) in
          let more = mul-le n (c + 2) n w (omega arith) (omega (arith, (within.above_right t).1)) in
          agree.each _ _ (omega arith) (inl (omega arith));
      corner = λ t.
          let there = mul-le n 1 n c (omega arith) ((within.corner t).0) in
          let over = mul-le n 1 n r (omega arith) ((within.corner t).1) in
          agree.each _ _ (omega arith) (inl (omega arith));
    }

unique_step : (k : Setting) (c r : ℕ) (m : Coded) (u v : Component → ℕ → ℕ → ℕ) (p : Component) → c < k.across → IsAllowed m k.across c r → IsMade k c r m u →
    IsMade k c r m v →
    Agree (side p) k.across c r (u p) (v p) → Agree (side p) k.across (c + 1) r (u p) (v p)
unique_step k c r m u v p inside ok mu mv agree = record {
  each = λ x y i b. ⊎_elim
      (λ before. agree.each x y i before)
      (λ (a, (a', (d, d'))).
      same_at (u p) (v p) x y (side p * c + (x - side p * c + 1) - 1) (side p * r + (y - side p * r + 1) - 1) (omega arith) (omega arith)
      (own_unique k c r m p (window (side p) (u p) c r) (window (side p) (v p) c r) ok.possible
      (sides_before (side p) k.across c r m.available (u p) (v p) (side_least p) inside ok.within agree)
      (made_in k c r m u p mu) (made_in k c r m v p mv) (x - side p * c) (y - side p * r) (omega arith) (omega arith)))
      (or_in (side p) c r x y b);
}

-- at most one solution
pub unique : (k : Setting) (macroblock : ℕ → Coded) (u v : Component → ℕ → ℕ → ℕ) →
    ((c r : ℕ) → c < k.across → r < k.down → IsAllowed (macroblock (r * k.across + c)) k.across c r) → Constructed k macroblock u → Constructed k macroblock v →
    (p : Component) (x y : ℕ) → x < side p * k.across → y < side p * k.down → u p x y ≡ v p x y
unique k macroblock u v ok cu cv p x y i j =
    let all : Agree (side p) k.across 0 k.down (u p) (v p) =
    rows (λ c r. Agree (side p) k.across c r (u p) (v p)) k.across k.down
    (record { each = λ a b n before. ⊎_elim (λ h. absurd (omega arith)) (λ h. absurd (omega (arith, h.1))) before })
    (λ c r n m agree. unique_step k c r (macroblock (r * k.across + c)) u v p n (ok c r n m) (cu.each c r n m) (cv.each c r n m) agree)
    (λ r m agree. record { each = λ a b n before. agree.each a b n (wrap_before (side p) k.across r a b n before) })
    k.down (omega arith) in
    all.each x y i (inl j)
