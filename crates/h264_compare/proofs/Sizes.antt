-- How many bytes what is shown of a frame has.
use Rattle.std.proofs.Common.{◌≡◌, ℕ, zero, suc, ◌+◌, ◌-◌, ◌*◌, ◌/◌, ◌<◌, ◌≤◌, ◌^◌, Bool, List, ◌++◌, length, sym, ap, ap₂, ◌∙◌, arith}
use Rattle.std.specs.List.{range_with_len, flat_map}
use Rattle.std.proofs.lemmas.List.{length-append}
use Rattle.std.proofs.lemmas.List.FromFn.{length-map-range_with_len}
use Rattle.std.proofs.lemmas.Nat.{mul-le}
use Rattle.h264_plane.specs.declared.frame.Component.{Component}
use Rattle.h264_plane.specs.declared.frame.Component.TheVariants.{Y, Cb, Cr}
use Rattle.h264_plane.specs.Rows.{row_of, rows_of, picture_bytes}
use Rattle.h264_lines.specs.Rows.{part_count, part_at, parts_before}
use Rattle.h264_lines.proofs.Counted.{part-between, whole}

length-rows : (w a n : ℕ) (s : ℕ → ℕ → ℕ) → length (flat_map (λ y. row_of w (λ x. s x y)) (range_with_len a n)) ≡ n * w
length-rows w a zero s = let e : 0 ≡ 0 * w = omega arith in e
length-rows w a (suc n) s =
    let r = length-map-range_with_len (λ x. s x a) 0 w in
    let next = length-rows w (a + 1) n s in
    let l = length-append (row_of w (λ x. s x a)) (flat_map (λ y. row_of w (λ x. s x y)) (range_with_len (a + 1) n)) in
    omega (arith, r, next, l)

module _ (w h : ℕ) (s : Component → ℕ → ℕ → ℕ) where
  length-picture : length (picture_bytes w h s) ≡ h * w + h / 2 * (w / 2) + h / 2 * (w / 2)
  unfolding picture_bytes
  length-picture =
      let a = length-append (rows_of w h (s Y) ++ rows_of (w / 2) (h / 2) (s Cb)) (rows_of (w / 2) (h / 2) (s Cr)) in
      let b = length-append (rows_of w h (s Y)) (rows_of (w / 2) (h / 2) (s Cb)) in
      let y = length-rows w 0 h (s Y) in
      let cb = length-rows (w / 2) 0 (h / 2) (s Cb) in
      let cr = length-rows (w / 2) 0 (h / 2) (s Cr) in
      a ∙ ap₂ (λ m n. m + n) (b ∙ ap₂ (λ m n. m + n) y cb) cr

  bound : (y c p q r : ℕ) → y < 2 ^ 32 → c ≤ y → y + c + c ≡ p + (q + r) → p + q < 2 ^ 40
  bound y c p q r small most e = omega arith

  -- the parts so far and the next are less than 2^40 bytes
  pub part-within : (b : Bool) (k : ℕ) → k < part_count b h → h * w < 2 ^ 32 →
      length (parts_before b w h s k) + length (part_at b w h s k) < 2 ^ 40
  part-within b k within small =
      let e = ap length (sym (part-between (part_at b w h s) k (part_count b h) within) ∙ whole w h s b) in
      let later = flat_map (part_at b w h s) (range_with_len (k + 1) (part_count b h - (k + 1))) in
      let a = length-append (parts_before b w h s k) (part_at b w h s k ++ later) in
      let l = length-append (part_at b w h s k) later in
      let most = mul-le (h / 2) (w / 2) h w (omega arith) (omega arith) in
      bound (h * w) (h / 2 * (w / 2)) _ _ (length later) small most
      (sym length-picture ∙ sym e ∙ a ∙ ap (λ n. length (parts_before b w h s k) + n) l)

  -- the same of a part that stands at a byte
  pub part-room : (b : Bool) (k n byte : ℕ) (part : List ℕ) → k < n → n ≡ part_count b h → byte ≡ length (parts_before b w h s k) →
      part ≡ part_at b w h s k → (columns rows luma : ℕ) → columns ≡ w → rows ≡ h → luma ≡ columns * rows → luma < 2 ^ 32 → byte + length part < 2 ^ 40
  part-room b k n byte part within count at is columns rows luma wide tall area small =
      let most : h * w < 2 ^ 32 = let e = area ∙ ap₂ (λ x y. x * y) wide tall in omega (arith, e, small) in
      let room = part-within b k (omega (arith, within, count)) most in
      let long = ap length is in
      omega (arith, room, at, long)
