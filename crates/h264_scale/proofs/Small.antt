-- The later values of small coefficients, and those of a DC alone.
use Rattle.std.proofs.Common.{◌≡◌, ℤ, ℕ, unsigned_abs, negsuc, ◌-ℤ◌, ◌+◌, ◌≤◌, refl, sym, ap, ◌∙◌, arith, pos, ◌+ℤ◌, replicate, Bool, true, false, ◌&&◌}
use Rattle.std.proofs.lemmas.Int.{ints}
use Rattle.std.specs.Int.{int_shr}
use Rattle.h264_scale.specs.Residual.{fits_last}
use Rattle.h264_scale.specs.Fours.{IsWithin, AreWithin, four_size, size, IsSmall, IsShort, IsShortFour, IsShortBlock, block_fits, four_fits_last}
use Rattle.h264_scale.specs.Fours.{block_fits_last, half, halves, joined, transposed, block_e, block_f, block_residual_fits, block_residual, rounded}
use Rattle.h264_scale.specs.Fours.{rounded_block, dc_only, four}
use Rattle.h264_scale.specs.declared.fours.Four.{Four}
use Rattle.h264_scale.specs.declared.fours.Block.{Block}
use Rattle.h264_scale.proofs.Fits.{fits_last_in, four_true, short_block_fits, transposed_in}
use Rattle.h264_scale.proofs.Within.{in_difference, in_half, rows, within_more, within_half, within_plus, within_minus}
use Rattle.h264_plane.specs.Clip.{IsIn}
use Rattle.h264_plane.proofs.Bounds.{in_more, in_sum}

-- ---- bounds

-- a number by its own size
pub in_own : (z : ℤ) → IsIn (unsigned_abs z) z
in_own (pos n) = record { low = omega (arith, ints); high = omega (arith, ints) }
in_own (negsuc n) = record { low = omega (arith, ints); high = omega (arith, ints) }

own_row : (v : Four) → IsWithin (four_size v) v
own_row v =
    let at = λ (z : ℤ) (h : unsigned_abs z ≤ four_size v). in_more (unsigned_abs z) (four_size v) z h (in_own z) in
    record { a = at v.a (omega arith); b = at v.b (omega arith); c = at v.c (omega arith); d = at v.d (omega arith) }

-- a row after the first step, and after the second
abbrev e_row : Four → Four
e_row v = four (v.a +ℤ v.c) (v.a -ℤ v.c) (int_shr v.b 1 -ℤ v.d) (v.b +ℤ int_shr v.d 1)

abbrev f_row : Four → Four
f_row e = four (e.a +ℤ e.d) (e.b +ℤ e.c) (e.b -ℤ e.c) (e.a -ℤ e.d)

-- what the first step leaves of the sizes
record AreSums (m n : ℕ) (e : Four) : Type 0 where
  a : IsIn m e.a
  b : IsIn m e.b
  c : IsIn n e.c
  d : IsIn n e.d

sums_of : (v : Four) → AreSums (unsigned_abs v.a + unsigned_abs v.c) (unsigned_abs v.b + unsigned_abs v.d) (e_row v)
sums_of v = record {
  a = in_sum _ _ v.a v.c (in_own v.a) (in_own v.c);
  b = in_difference _ _ v.a v.c (in_own v.a) (in_own v.c);
  c = in_difference _ _ (int_shr v.b 1) v.d (in_half _ v.b (in_own v.b)) (in_own v.d);
  d = in_sum _ _ v.b (int_shr v.d 1) (in_own v.b) (in_half _ v.d (in_own v.d));
}

e_in : (v : Four) → IsWithin (four_size v) (e_row v)
e_in v =
    let s = sums_of v in
    record {
      a = in_more _ _ _ (omega arith) s.a;
      b = in_more _ _ _ (omega arith) s.b;
      c = in_more _ _ _ (omega arith) s.c;
      d = in_more _ _ _ (omega arith) s.d;
    }

f_in : (v : Four) → IsWithin (four_size v) (f_row (e_row v))
f_in v =
    let s = sums_of v in
    let e = e_row v in
    record {
      a = in_more _ _ _ (omega arith) (in_sum _ _ e.a e.d s.a s.d);
      b = in_more _ _ _ (omega arith) (in_sum _ _ e.b e.c s.b s.c);
      c = in_more _ _ _ (omega arith) (in_difference _ _ e.b e.c s.b s.c);
      d = in_more _ _ _ (omega arith) (in_difference _ _ e.a e.d s.a s.d);
    }

-- a matrix whose rows are within the sizes of the rows of d
in_rows : (n : ℕ) (d m : Block) → size d ≤ n → IsWithin (four_size d.r0) m.r0 → IsWithin (four_size d.r1) m.r1 → IsWithin (four_size d.r2) m.r2 →
    IsWithin (four_size d.r3) m.r3 → AreWithin n m
in_rows n d m h p q r s = record {
  r0 = within_more (four_size d.r0) n m.r0 (omega arith) p;
  r1 = within_more (four_size d.r1) n m.r1 (omega arith) q;
  r2 = within_more (four_size d.r2) n m.r2 (omega arith) r;
  r3 = within_more (four_size d.r3) n m.r3 (omega arith) s;
}

-- what the first step leaves of columns: sums of two rows each
record AreHalves (a b : ℕ) (m : Block) : Type 0 where
  r0 : IsWithin a m.r0
  r1 : IsWithin a m.r1
  r2 : IsWithin b m.r2
  r3 : IsWithin b m.r3

halves_in : (n0 n1 n2 n3 : ℕ) (m : Block) → IsWithin n0 m.r0 → IsWithin n1 m.r1 → IsWithin n2 m.r2 → IsWithin n3 m.r3 → AreHalves (n0 + n2) (n1 + n3) (halves m)
halves_in n0 n1 n2 n3 m p q r s = record {
  r0 = within_plus n0 n2 m.r0 m.r2 p r;
  r1 = within_minus n0 n2 m.r0 m.r2 p r;
  r2 = within_minus n1 n3 (half m.r1) m.r3 (within_half n1 m.r1 q) s;
  r3 = within_plus n1 n3 m.r1 (half m.r3) q (within_half n3 m.r3 s);
}

joined_in : (a b n : ℕ) (m : Block) → a + b ≤ n → AreHalves a b m → AreWithin n (joined m)
joined_in a b n m p h = record {
  r0 = within_more (a + b) n _ p (within_plus a b m.r0 m.r3 h.r0 h.r3);
  r1 = within_more (a + b) n _ p (within_plus a b m.r1 m.r2 h.r1 h.r2);
  r2 = within_more (a + b) n _ p (within_minus a b m.r1 m.r2 h.r1 h.r2);
  r3 = within_more (a + b) n _ p (within_minus a b m.r0 m.r3 h.r0 h.r3);
}

halves_within : (a b n : ℕ) (m : Block) → a ≤ n → b ≤ n → AreHalves a b m → AreWithin n m
halves_within a b n m p q h = record {
  r0 = within_more a n m.r0 p h.r0;
  r1 = within_more a n m.r1 p h.r1;
  r2 = within_more b n m.r2 q h.r2;
  r3 = within_more b n m.r3 q h.r3;
}

short_in : (n : ℕ) (z : ℤ) → n ≤ 32767 → IsIn n z → IsShort z
short_in n z p h = record { low = omega (arith, ints); high = omega (arith, ints) }

short_four : (n : ℕ) (v : Four) → n ≤ 32767 → IsWithin n v → IsShortFour v
short_four n v p h = record { a = short_in n v.a p h.a; b = short_in n v.b p h.b; c = short_in n v.c p h.c; d = short_in n v.d p h.d }

pub short_block : (n : ℕ) (m : Block) → n ≤ 32767 → AreWithin n m → IsShortBlock m
short_block n m p h = record { r0 = short_four n m.r0 p h.r0; r1 = short_four n m.r1 p h.r1; r2 = short_four n m.r2 p h.r2; r3 = short_four n m.r3 p h.r3 }

last_in : (z : ℤ) → IsIn 32735 z → fits_last z ≡ true
unfolding fits_last
last_in z h = grind (arith, ints)

last_four : (v : Four) → IsWithin 32735 v → four_fits_last v ≡ true
unfolding four_fits_last
last_four v h = four_true _ _ _ _ (last_in v.a h.a) (last_in v.b h.b) (last_in v.c h.c) (last_in v.d h.d)

last_block : (m : Block) → AreWithin 32735 m → block_fits_last m ≡ true
unfolding block_fits_last
last_block m h = four_true _ _ _ _ (last_four m.r0 h.r0) (last_four m.r1 h.r1) (last_four m.r2 h.r2) (last_four m.r3 h.r3)

-- the values of each step
pub record AreSteps (d : Block) : Type 0 where
  pub turned : IsShortBlock (transposed d)
  pub halves_short : IsShortBlock (halves (transposed d))
  pub joined_short : IsShortBlock (joined (halves (transposed d)))
  pub d_short : IsShortBlock d
  pub e_short : IsShortBlock (block_e d)
  pub f_short : IsShortBlock (block_f (block_e d))
  pub g_short : IsShortBlock (halves (block_f (block_e d)))
  pub h_short : IsShortBlock (joined (halves (block_f (block_e d))))
  pub h_in : AreWithin 32735 (joined (halves (block_f (block_e d))))
  pub last : block_fits_last (joined (halves (block_f (block_e d)))) ≡ true

pub small_steps : (d : Block) → IsSmall d → AreSteps d
small_steps d small =
    let n : ℕ = 32735 in
    let f = block_f (block_e d) in
    let own = in_rows n d d small (own_row d.r0) (own_row d.r1) (own_row d.r2) (own_row d.r3) in
    let e_in_rows = in_rows n d (block_e d) small (e_in d.r0) (e_in d.r1) (e_in d.r2) (e_in d.r3) in
    let f_in_rows = in_rows n d f small (f_in d.r0) (f_in d.r1) (f_in d.r2) (f_in d.r3) in
    let g = halves_in (four_size d.r0) (four_size d.r1) (four_size d.r2) (four_size d.r3) f (f_in d.r0) (f_in d.r1) (f_in d.r2) (f_in d.r3) in
    let g_in = halves_within _ _ n (halves f) (omega arith) (omega arith) g in
    let h = joined_in _ _ n (halves f) (omega arith) g in
    let short = λ (m : Block) (p : AreWithin 32735 m). short_block 32735 m (omega arith) p in
    record {
      turned = transposed_in d (short d own);
      halves_short = transposed_in (block_e d) (short (block_e d) e_in_rows);
      joined_short = transposed_in f (short f f_in_rows);
      d_short = short d own;
      e_short = short (block_e d) e_in_rows;
      f_short = short f f_in_rows;
      g_short = short (halves f) g_in;
      h_short = short (joined (halves f)) h;
      h_in = h;
      last = last_block (joined (halves f)) h;
    }

five_true : (a b c d e : Bool) → a ≡ true → b ≡ true → c ≡ true → d ≡ true → e ≡ true → (a && b && c && d && e) ≡ true
five_true a b c d e p q r s t = grind arith

pub small_fits : (d : Block) → IsSmall d → block_residual_fits d ≡ true
unfolding block_residual_fits
small_fits d small =
    let s = small_steps d small in
    five_true _ _ _ _ _ (short_block_fits _ s.d_short) (short_block_fits _ s.e_short) (short_block_fits _ s.f_short) (short_block_fits _ s.g_short) s.last

-- ---- a DC alone

plus_none : (z : ℤ) → z +ℤ pos 0 ≡ z
plus_none z = omega (arith, ints)

abbrev none : Four
none = four (pos 0) (pos 0) (pos 0) (pos 0)

abbrev row : ℤ → Four
row z = four z z z z

flat_e : (z : ℤ) → block_e (dc_only z) ≡ rows (four z z (pos 0) (pos 0)) none none none
flat_e z = simp plus_none refl

flat_f : (z : ℤ) → block_f (block_e (dc_only z)) ≡ rows (row z) none none none
flat_f z = simp plus_none refl

flat_g : (z : ℤ) → halves (block_f (block_e (dc_only z))) ≡ rows (row z) (row z) none none
flat_g z = simp plus_none refl

-- each last value is the DC
flat_h : (z : ℤ) → joined (halves (block_f (block_e (dc_only z)))) ≡ rows (row z) (row z) (row z) (row z)
flat_h z = simp plus_none refl

zero_short : IsShort (pos 0)
zero_short = record { low = omega (arith, ints); high = omega (arith, ints) }

none_short : IsShortFour none
none_short = record { a = zero_short; b = zero_short; c = zero_short; d = zero_short }

row_short : (z : ℤ) → IsShort z → IsShortFour (row z)
row_short z h = record { a = h; b = h; c = h; d = h }

rows_last : (z : ℤ) → fits_last z ≡ true → block_fits_last (rows (row z) (row z) (row z) (row z)) ≡ true
unfolding block_fits_last four_fits_last
rows_last z e = let each = four_true _ _ _ _ e e e e in four_true _ _ _ _ each each each each

pub flat_fits : (z : ℤ) → fits_last z ≡ true → block_residual_fits (dc_only z) ≡ true
unfolding block_residual_fits
flat_fits z e =
    let h = fits_last_in z e in
    let first : IsShortFour (four z (pos 0) (pos 0) (pos 0)) = record { a = h; b = zero_short; c = zero_short; d = zero_short } in
    let second : IsShortFour (four z z (pos 0) (pos 0)) = record { a = h; b = h; c = zero_short; d = zero_short } in
    five_true (block_fits (dc_only z)) (block_fits (block_e (dc_only z))) (block_fits (block_f (block_e (dc_only z))))
    (block_fits (halves (block_f (block_e (dc_only z)))))
    (block_fits_last (joined (halves (block_f (block_e (dc_only z))))))
    (short_block_fits (dc_only z) (record { r0 = first; r1 = none_short; r2 = none_short; r3 = none_short }))
    (rw (flat_e z) (short_block_fits (rows (four z z (pos 0) (pos 0)) none none none)
    (record { r0 = second; r1 = none_short; r2 = none_short; r3 = none_short })))
    (rw (flat_f z) (short_block_fits (rows (row z) none none none) (record { r0 = row_short z h; r1 = none_short; r2 = none_short; r3 = none_short })))
    (rw (flat_g z) (short_block_fits (rows (row z) (row z) none none) (record { r0 = row_short z h; r1 = row_short z h; r2 = none_short; r3 = none_short })))
    (rw (flat_h z) (rows_last z e))

last_false : (a b c d e : Bool) → e ≡ false → (a && b && c && d && e) ≡ false
last_false a b c d e p = grind arith

four_false : (a b c d : Bool) → a ≡ false → (a && b && c && d) ≡ false
four_false a b c d p = grind arith

rows_unfit : (z : ℤ) → fits_last z ≡ false → block_fits_last (rows (row z) (row z) (row z) (row z)) ≡ false
unfolding block_fits_last four_fits_last
rows_unfit z e = four_false _ _ _ _ (four_false _ _ _ _ e)

pub flat_unfit : (z : ℤ) → fits_last z ≡ false → block_residual_fits (dc_only z) ≡ false
unfolding block_residual_fits
flat_unfit z e = last_false (block_fits (dc_only z)) (block_fits (block_e (dc_only z))) (block_fits (block_f (block_e (dc_only z))))
    (block_fits (halves (block_f (block_e (dc_only z)))))
    (block_fits_last (joined (halves (block_f (block_e (dc_only z)))))) (rw (flat_h z) (rows_unfit z e))

pub flat_is : (z r : ℤ) → r ≡ rounded z → replicate 16 r ≡ block_residual (dc_only z)
unfolding block_residual
flat_is z r e = ap (replicate 16) e ∙ ap rounded_block (sym (flat_h z))

pub zero_last : fits_last (pos 0) ≡ true
unfolding fits_last
zero_last = refl
