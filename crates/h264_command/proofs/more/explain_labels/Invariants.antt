use Rattle.std.proofs.Common.{◌≡◌, map, take, string_bytes}
use Rattle.h264_command.specs.Explained.{IsExplained}
use Rattle.h264_command.proofs.more.explain_labels.Given as goal

abbrev pub invariant-loop-label : goal.invariant-loop-label
invariant-loop-label g l =
    IsExplained l.json (map (λ label. label.now) (take l.label-index l.labels)) (string_bytes l.text)
    × (g.W.Device.contents l.out ≡ g.W.Device.contents l.fn.out)
