-- What pictures come to in sum. To be read beside docs/OUTPUT.md.
use Rattle.std.specs.Prelude.{max, List, fold}
use Rattle.h264_bits.specs.Counts.{grown}
use Rattle.h264_pages.specs.declared.pages.info.PictureCounts.{PictureCounts}
use Rattle.h264_pages.specs.declared.survey.picture.Picture.{Picture}
use Rattle.h264_pages.specs.declared.survey.picture.PictureKind.{PictureKind}
use Rattle.h264_pages.specs.declared.survey.picture.PictureKind.TheVariants as kinds

abbrev pub no_pictures : PictureCounts
no_pictures = record { idr = 0; intra = 0; predicted = 0; bytes = 0; largest = 0 }

-- one more of a kind
abbrev pub and_kind : PictureKind → PictureCounts → PictureCounts
and_kind kinds.Idr c = record c { idr = grown c.idr 1 }
and_kind kinds.I c = record c { intra = grown c.intra 1 }
and_kind kinds.P c = record c { predicted = grown c.predicted 1 }

-- one more picture
abbrev pub and_picture : PictureCounts → Picture → PictureCounts
and_picture c p = record (and_kind p.kind c) { bytes = grown c.bytes p.bytes; largest = max c.largest p.bytes }

-- how many there are of each kind, counted in 64 bits, their bytes, and those of the largest
abbrev pub summed : List Picture → PictureCounts
summed pictures = fold and_picture no_pictures pictures
