use Rattle.std.proofs.Common.{arith, sym, ◌∙◌}
use Rattle.h264_write.proofs.Bytes.{packed-none, packed-more, rest-whole}
use Rattle.h264_write.proofs.pack.pack.Goals as goal

pub loop-i-init : goal.loop-i-init
loop-i-init c = record { items = c.new-bytes.ensures.items ∙ sym (packed-none c.args.bits.now); count = c.new-bytes.ensures.len }

pub loop-i-preserved : goal.loop-i-preserved
loop-i-preserved c = record {
  items = c.in_ok-push.ensures.items ∙ rw (c.loop-i.invariant.items, c.first_byte.ensures, rest-whole) (sym (packed-more c.loop-i.i c.args.bits.now));
  count = let n = c.in_ok-push.ensures.len in let m = c.loop-i.invariant.count in omega arith;
}
