use Rattle.std.specs.Prelude.{◌≡◌, ◌^◌, ◌-◌, min, take}
use Rattle.std.specs.List.{count_by}
use Rattle.std.specs.Str.{bytes_eq}
use Rattle.h264_words.proofs.options.times.Given as goal

abbrev pub invariant-loop-file : goal.invariant-loop-file
invariant-loop-file l = l.count ≡ min (count_by (λ f. bytes_eq f.now l.name) (take l.file-index l.files)) (2 ^ 64 - 1)
