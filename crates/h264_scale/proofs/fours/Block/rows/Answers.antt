use Rattle.std.proofs.Common.{refl}
use Rattle.h264_scale.proofs.Rounded.{kept_is, short_kept, cons_is}
use Rattle.h264_scale.proofs.fours.Block.rows.Goals as goal

pub returns : goal.returns
returns c =
    cons_is (kept_is c.requires.r0.a c.as_16_bits.ensures) (
    cons_is (kept_is c.requires.r0.b c.as_16_bits-2.ensures) (
    cons_is (kept_is c.requires.r0.c c.as_16_bits-3.ensures) (
    cons_is (kept_is c.requires.r0.d c.as_16_bits-4.ensures) (
    cons_is (kept_is c.requires.r1.a c.as_16_bits-5.ensures) (
    cons_is (kept_is c.requires.r1.b c.as_16_bits-6.ensures) (
    cons_is (kept_is c.requires.r1.c c.as_16_bits-7.ensures) (
    cons_is (kept_is c.requires.r1.d c.as_16_bits-8.ensures) (
    cons_is (kept_is c.requires.r2.a c.as_16_bits-9.ensures) (
    cons_is (kept_is c.requires.r2.b c.as_16_bits-10.ensures) (
    cons_is (kept_is c.requires.r2.c c.as_16_bits-11.ensures) (
    cons_is (kept_is c.requires.r2.d c.as_16_bits-12.ensures) (
    cons_is (kept_is c.requires.r3.a c.as_16_bits-13.ensures) (
    cons_is (kept_is c.requires.r3.b c.as_16_bits-14.ensures) (
    cons_is (kept_is c.requires.r3.c c.as_16_bits-15.ensures) (
    cons_is (kept_is c.requires.r3.d c.as_16_bits-16.ensures) (refl))))))))))))))))

pub as_16_bits-requires : goal.as_16_bits-requires
as_16_bits-requires c = short_kept c.requires.r0.a

pub as_16_bits-requires-2 : goal.as_16_bits-requires-2
as_16_bits-requires-2 c = short_kept c.requires.r0.b

pub as_16_bits-requires-3 : goal.as_16_bits-requires-3
as_16_bits-requires-3 c = short_kept c.requires.r0.c

pub as_16_bits-requires-4 : goal.as_16_bits-requires-4
as_16_bits-requires-4 c = short_kept c.requires.r0.d

pub as_16_bits-requires-5 : goal.as_16_bits-requires-5
as_16_bits-requires-5 c = short_kept c.requires.r1.a

pub as_16_bits-requires-6 : goal.as_16_bits-requires-6
as_16_bits-requires-6 c = short_kept c.requires.r1.b

pub as_16_bits-requires-7 : goal.as_16_bits-requires-7
as_16_bits-requires-7 c = short_kept c.requires.r1.c

pub as_16_bits-requires-8 : goal.as_16_bits-requires-8
as_16_bits-requires-8 c = short_kept c.requires.r1.d

pub as_16_bits-requires-9 : goal.as_16_bits-requires-9
as_16_bits-requires-9 c = short_kept c.requires.r2.a

pub as_16_bits-requires-10 : goal.as_16_bits-requires-10
as_16_bits-requires-10 c = short_kept c.requires.r2.b

pub as_16_bits-requires-11 : goal.as_16_bits-requires-11
as_16_bits-requires-11 c = short_kept c.requires.r2.c

pub as_16_bits-requires-12 : goal.as_16_bits-requires-12
as_16_bits-requires-12 c = short_kept c.requires.r2.d

pub as_16_bits-requires-13 : goal.as_16_bits-requires-13
as_16_bits-requires-13 c = short_kept c.requires.r3.a

pub as_16_bits-requires-14 : goal.as_16_bits-requires-14
as_16_bits-requires-14 c = short_kept c.requires.r3.b

pub as_16_bits-requires-15 : goal.as_16_bits-requires-15
as_16_bits-requires-15 c = short_kept c.requires.r3.c

pub as_16_bits-requires-16 : goal.as_16_bits-requires-16
as_16_bits-requires-16 c = short_kept c.requires.r3.d
