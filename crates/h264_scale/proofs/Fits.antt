use Rattle.std.proofs.Common.{◌≡◌, ℤ, arith, Bool, true, ◌&&◌}
use Rattle.std.proofs.lemmas.Int.{ints}
use Rattle.h264_scale.specs.Residual.{fits16, fits_last}
use Rattle.h264_scale.specs.Fours.{IsWithin, AreWithin, IsShort, IsShortFour, IsShortBlock, four_fits, block_fits, four_fits_last, block_fits_last, transposed}
use Rattle.h264_scale.specs.declared.fours.Four.{Four}
use Rattle.h264_scale.specs.declared.fours.Block.{Block}
use Rattle.h264_plane.specs.Clip.{IsIn}

fits16_in : (z : ℤ) → fits16 z ≡ true → IsShort z
unfolding fits16
fits16_in z e = record { low = grind (arith, ints); high = grind (arith, ints) }

pub fits_last_in : (z : ℤ) → fits_last z ≡ true → IsShort z
unfolding fits_last
fits_last_in z e = record { low = grind (arith, ints); high = grind (arith, ints) }

pub all_four : (a b c d : Bool) → (a && b && c && d) ≡ true → (a ≡ true) × (b ≡ true) × (c ≡ true) × (d ≡ true)
all_four a b c d e = grind arith

-- what the tests say
pub four_in : (v : Four) → four_fits v ≡ true → IsShortFour v
unfolding four_fits
four_in v e =
    let each = all_four (fits16 v.a) (fits16 v.b) (fits16 v.c) (fits16 v.d) e in
    record { a = fits16_in v.a each.0; b = fits16_in v.b each.1; c = fits16_in v.c each.2; d = fits16_in v.d each.3 }

four_last_in : (v : Four) → four_fits_last v ≡ true → IsShortFour v
unfolding four_fits_last
four_last_in v e =
    let each = all_four (fits_last v.a) (fits_last v.b) (fits_last v.c) (fits_last v.d) e in
    record { a = fits_last_in v.a each.0; b = fits_last_in v.b each.1; c = fits_last_in v.c each.2; d = fits_last_in v.d each.3 }

pub block_in : (m : Block) → block_fits m ≡ true → IsShortBlock m
unfolding block_fits
block_in m e =
    let each = all_four (four_fits m.r0) (four_fits m.r1) (four_fits m.r2) (four_fits m.r3) e in
    record { r0 = four_in m.r0 each.0; r1 = four_in m.r1 each.1; r2 = four_in m.r2 each.2; r3 = four_in m.r3 each.3 }

pub block_last_in : (m : Block) → block_fits_last m ≡ true → IsShortBlock m
unfolding block_fits_last
block_last_in m e =
    let each = all_four (four_fits_last m.r0) (four_fits_last m.r1) (four_fits_last m.r2) (four_fits_last m.r3) e in
    record { r0 = four_last_in m.r0 each.0; r1 = four_last_in m.r1 each.1; r2 = four_last_in m.r2 each.2; r3 = four_last_in m.r3 each.3 }

pub transposed_in : (m : Block) → IsShortBlock m → IsShortBlock (transposed m)
transposed_in m h = record {
  r0 = record { a = h.r0.a; b = h.r1.a; c = h.r2.a; d = h.r3.a };
  r1 = record { a = h.r0.b; b = h.r1.b; c = h.r2.b; d = h.r3.b };
  r2 = record { a = h.r0.c; b = h.r1.c; c = h.r2.c; d = h.r3.c };
  r3 = record { a = h.r0.d; b = h.r1.d; c = h.r2.d; d = h.r3.d };
}

wide : (z : ℤ) → IsShort z → IsIn 32768 z
wide z h = record { low = omega (arith, ints); high = omega (arith, ints) }

four_wide : (v : Four) → IsShortFour v → IsWithin 32768 v
four_wide v h = record { a = wide v.a h.a; b = wide v.b h.b; c = wide v.c h.c; d = wide v.d h.d }

-- a block of 16 bits in the wider bounds of the DC transform
pub block_wide : (m : Block) → IsShortBlock m → AreWithin 32768 m
block_wide m h = record { r0 = four_wide m.r0 h.r0; r1 = four_wide m.r1 h.r1; r2 = four_wide m.r2 h.r2; r3 = four_wide m.r3 h.r3 }

-- and back: numbers of 16 bits pass the tests
short_fits : (z : ℤ) → IsShort z → fits16 z ≡ true
unfolding fits16
short_fits z h = grind (arith, ints)

pub four_true : (a b c d : Bool) → a ≡ true → b ≡ true → c ≡ true → d ≡ true → (a && b && c && d) ≡ true
four_true a b c d p q r s = grind arith

pub short_four_fits : (v : Four) → IsShortFour v → four_fits v ≡ true
unfolding four_fits
short_four_fits v h = four_true _ _ _ _ (short_fits v.a h.a) (short_fits v.b h.b) (short_fits v.c h.c) (short_fits v.d h.d)

pub short_block_fits : (m : Block) → IsShortBlock m → block_fits m ≡ true
unfolding block_fits
short_block_fits m h = four_true _ _ _ _ (short_four_fits m.r0 h.r0) (short_four_fits m.r1 h.r1) (short_four_fits m.r2 h.r2) (short_four_fits m.r3 h.r3)
