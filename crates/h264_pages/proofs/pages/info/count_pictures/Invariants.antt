use Rattle.std.proofs.Common.{◌≡◌, take}
use Rattle.h264_pages.specs.Summed.{summed}
use Rattle.h264_pages.proofs.pages.info.count_pictures.Given as goal

abbrev pub invariant-loop-picture : goal.invariant-loop-picture
invariant-loop-picture l = l.counts ≡ summed (take l.picture-index l.pictures)
