use Rattle.std.proofs.Common.{◌≡◌, ◌+◌, ◌++◌, vec_len, vec_capacity, replicate}
use Rattle.h264_units.proofs.plan.push_zeros.Given as goal

abbrev pub invariant-loop : goal.invariant-loop
invariant-loop l = record {
  items : l.body.items ≡ l.initial.body.items ++ replicate l.counter 0;
  len : vec_len l.body ≡ vec_len l.initial.body + l.counter;
  capacity : vec_capacity l.body ≡ vec_capacity l.initial.body;
}
