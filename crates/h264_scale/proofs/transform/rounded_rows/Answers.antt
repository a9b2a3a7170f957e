use Rattle.std.proofs.Common.{refl}
use Rattle.h264_scale.proofs.Rounded.{rounded_is, short_kept, cons_is, bound_kept, all_cons, all_none}
use Rattle.h264_scale.proofs.transform.rounded_rows.Goals as goal

pub returns-clause-value : goal.returns-clause-value
returns-clause-value c =
    cons_is (rounded_is c.rounded_of.ensures.bound c.requires.r0.a c.rounded_of.ensures.value) (
    cons_is (rounded_is c.rounded_of-2.ensures.bound c.requires.r0.b c.rounded_of-2.ensures.value) (
    cons_is (rounded_is c.rounded_of-3.ensures.bound c.requires.r0.c c.rounded_of-3.ensures.value) (
    cons_is (rounded_is c.rounded_of-4.ensures.bound c.requires.r0.d c.rounded_of-4.ensures.value) (
    cons_is (rounded_is c.rounded_of-5.ensures.bound c.requires.r1.a c.rounded_of-5.ensures.value) (
    cons_is (rounded_is c.rounded_of-6.ensures.bound c.requires.r1.b c.rounded_of-6.ensures.value) (
    cons_is (rounded_is c.rounded_of-7.ensures.bound c.requires.r1.c c.rounded_of-7.ensures.value) (
    cons_is (rounded_is c.rounded_of-8.ensures.bound c.requires.r1.d c.rounded_of-8.ensures.value) (
    cons_is (rounded_is c.rounded_of-9.ensures.bound c.requires.r2.a c.rounded_of-9.ensures.value) (
    cons_is (rounded_is c.rounded_of-10.ensures.bound c.requires.r2.b c.rounded_of-10.ensures.value) (
    cons_is (rounded_is c.rounded_of-11.ensures.bound c.requires.r2.c c.rounded_of-11.ensures.value) (
    cons_is (rounded_is c.rounded_of-12.ensures.bound c.requires.r2.d c.rounded_of-12.ensures.value) (
    cons_is (rounded_is c.rounded_of-13.ensures.bound c.requires.r3.a c.rounded_of-13.ensures.value) (
    cons_is (rounded_is c.rounded_of-14.ensures.bound c.requires.r3.b c.rounded_of-14.ensures.value) (
    cons_is (rounded_is c.rounded_of-15.ensures.bound c.requires.r3.c c.rounded_of-15.ensures.value) (
    cons_is (rounded_is c.rounded_of-16.ensures.bound c.requires.r3.d c.rounded_of-16.ensures.value) (refl))))))))))))))))

pub returns-clause-bound : goal.returns-clause-bound
returns-clause-bound c =
    all_cons (bound_kept c.rounded_of.ensures.bound) (
    all_cons (bound_kept c.rounded_of-2.ensures.bound) (
    all_cons (bound_kept c.rounded_of-3.ensures.bound) (
    all_cons (bound_kept c.rounded_of-4.ensures.bound) (
    all_cons (bound_kept c.rounded_of-5.ensures.bound) (
    all_cons (bound_kept c.rounded_of-6.ensures.bound) (
    all_cons (bound_kept c.rounded_of-7.ensures.bound) (
    all_cons (bound_kept c.rounded_of-8.ensures.bound) (
    all_cons (bound_kept c.rounded_of-9.ensures.bound) (
    all_cons (bound_kept c.rounded_of-10.ensures.bound) (
    all_cons (bound_kept c.rounded_of-11.ensures.bound) (
    all_cons (bound_kept c.rounded_of-12.ensures.bound) (
    all_cons (bound_kept c.rounded_of-13.ensures.bound) (
    all_cons (bound_kept c.rounded_of-14.ensures.bound) (
    all_cons (bound_kept c.rounded_of-15.ensures.bound) (
    all_cons (bound_kept c.rounded_of-16.ensures.bound) (all_none))))))))))))))))

pub rounded_of-requires : goal.rounded_of-requires
rounded_of-requires c = short_kept c.requires.r0.a

pub rounded_of-requires-2 : goal.rounded_of-requires-2
rounded_of-requires-2 c = short_kept c.requires.r0.b

pub rounded_of-requires-3 : goal.rounded_of-requires-3
rounded_of-requires-3 c = short_kept c.requires.r0.c

pub rounded_of-requires-4 : goal.rounded_of-requires-4
rounded_of-requires-4 c = short_kept c.requires.r0.d

pub rounded_of-requires-5 : goal.rounded_of-requires-5
rounded_of-requires-5 c = short_kept c.requires.r1.a

pub rounded_of-requires-6 : goal.rounded_of-requires-6
rounded_of-requires-6 c = short_kept c.requires.r1.b

pub rounded_of-requires-7 : goal.rounded_of-requires-7
rounded_of-requires-7 c = short_kept c.requires.r1.c

pub rounded_of-requires-8 : goal.rounded_of-requires-8
rounded_of-requires-8 c = short_kept c.requires.r1.d

pub rounded_of-requires-9 : goal.rounded_of-requires-9
rounded_of-requires-9 c = short_kept c.requires.r2.a

pub rounded_of-requires-10 : goal.rounded_of-requires-10
rounded_of-requires-10 c = short_kept c.requires.r2.b

pub rounded_of-requires-11 : goal.rounded_of-requires-11
rounded_of-requires-11 c = short_kept c.requires.r2.c

pub rounded_of-requires-12 : goal.rounded_of-requires-12
rounded_of-requires-12 c = short_kept c.requires.r2.d

pub rounded_of-requires-13 : goal.rounded_of-requires-13
rounded_of-requires-13 c = short_kept c.requires.r3.a

pub rounded_of-requires-14 : goal.rounded_of-requires-14
rounded_of-requires-14 c = short_kept c.requires.r3.b

pub rounded_of-requires-15 : goal.rounded_of-requires-15
rounded_of-requires-15 c = short_kept c.requires.r3.c

pub rounded_of-requires-16 : goal.rounded_of-requires-16
rounded_of-requires-16 c = short_kept c.requires.r3.d
