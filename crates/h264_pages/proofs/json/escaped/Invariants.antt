use Rattle.std.proofs.Common.{◌≡◌, flat_map, string_bytes}
use Rattle.h264_pages.specs.Json.{escaped_character}
use Rattle.h264_pages.proofs.json.escaped.Given as goal

abbrev pub invariant-loop-c : goal.invariant-loop-c
invariant-loop-c l = string_bytes l.out ≡ flat_map escaped_character l.yielded
