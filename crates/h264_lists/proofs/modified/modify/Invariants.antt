use Rattle.std.proofs.Common.{◌≡◌, length, drop}
use Rattle.h264_lists.specs.Modified.{IsWithin, modified, source}
use Rattle.h264_lists.proofs.modified.modify.Given as goal

abbrev pub invariant-loop-k : goal.invariant-loop-k
invariant-loop-k l = record {
  turns : modified (source l.current (length l.initial.slots.items) l.frames) l.k l.no_wrap (drop l.k l.modifications) l.slots.items ≡
      modified (source l.current (length l.initial.slots.items) l.frames) 0 l.initial.no_wrap l.modifications l.initial.slots.items;
  places : length l.slots.items ≡ length l.initial.slots.items;
  bound : IsWithin l.k l.no_wrap;
}
