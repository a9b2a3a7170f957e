use Rattle.std.proofs.Common.{◌≡◌, ◌-◌, ◌≤◌, None, get_or, length}
use Rattle.h264_strict.specs.Strict.{with_places}
use Rattle.h264_strict.specs.StrictContent.{message_bits}
use Rattle.h264_strict.specs.StrictRules.{place_of}
use Rattle.h264_strict.specs.declared.strict_rule.StrictRule.{StrictRule}
use Rattle.h264_strict.proofs.strict_content.note_messages.Given as goal

abbrev pub invariant-loop-n : goal.invariant-loop-n
invariant-loop-n l = record {
  within : l.at ≤ length l.rbsp.bytes;
  noted : (r : StrictRule) → with_places (get_or l.fn.found (place_of r) None) (message_bits r l.known (length l.rbsp.bytes) l.rbsp 0)
      ≡ with_places (get_or l.found (place_of r) None) (message_bits r l.known (length l.rbsp.bytes - l._n) l.rbsp l.at);
}
