use Rattle.std.proofs.Common.{◌≡◌, ℕ, ◌+◌, ◌≤◌, List, ◌++◌, length, Option}
use Rattle.h264_lines.specs.Sent.{Sends}
use Rattle.h264_lines.proofs.send.send.Given as goal

-- so many bytes at least were sent, and the rest is left
pub record Sent (known new : Option (List ℕ)) (bytes rest : List ℕ) (n : ℕ) : Type 0 where
  pub first : List ℕ
  pub whole : bytes ≡ first ++ rest
  pub sends : Sends known new first
  pub left : length rest + n ≤ length bytes

abbrev pub invariant-loop : goal.invariant-loop
invariant-loop g l = Sent (g.W.Device.contents l.fn.out) (g.W.Device.contents l.out) l.fn.bytes l.rest l.counter ×
    (g.W.Device.has_failed l.out ≡ g.W.Device.has_failed l.fn.out)
