use Rattle.std.proofs.Common.{rules, ◌^◌, ◌≤◌, ◌+◌}
use Rattle.h264_base.specs.Word.{Fixed}
use Rattle.h264_base.proofs.Words.{value-reads}
use Rattle.h264_bits.proofs.Peeks.{fixed-inside, fixed-outside, peek-below, pow-few}
use Rattle.h264_bits.proofs.Readings.{none-reads}
use Rattle.h264_bits.proofs.bits.Bits.u_width.Goals as goal

pub overflow_cast-value : goal.overflow_cast-value
overflow_cast-value c =
    let b = peek-below c.args.n c.args.self.now.body.bytes c.args.self.now.at in
    let p : 2 ^ c.args.n ≤ 2 ^ 32 = (pow-few c.args.n 32 c.requires).1 in
    rw c.next_bits-value.ensures.value (search rules)

pub returns-in-Ok-clause-word : goal.returns-in-Ok-clause-word
returns-in-Ok-clause-word c =
    let r = c.args.self.now in
    let fits = rw c.next_bits-value.ensures.kept at c.in-Ok.ensures.fits in
    rw (c.in-Ok.ensures.end, c.next_bits-value.ensures.kept, c.next_bits-value.ensures.value)
    (value-reads (Fixed c.args.n) r.body.bytes r.at _ (r.at + c.args.n) (fixed-inside c.args.n r.body.bytes r.at fits))

pub returns-in-Ok-clause-small : goal.returns-in-Ok-clause-small
returns-in-Ok-clause-small c = rw c.next_bits-value.ensures.value (peek-below c.args.n c.args.self.now.body.bytes c.args.self.now.at)

pub returns-in-Err-clause-none : goal.returns-in-Err-clause-none
returns-in-Err-clause-none c =
    let r = c.args.self.now in
    let past = rw c.next_bits-value.ensures.kept at c.in-Err.ensures.none in
    none-reads (Fixed c.args.n) r.body.bytes r.at (fixed-outside c.args.n r.body.bytes r.at past)
