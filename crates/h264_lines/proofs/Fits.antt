-- What it means that a rectangle lies in a frame.
use Rattle.std.proofs.Common.{◌≡◌, ◌+◌, ◌*◌, ◌/◌, ◌≤◌, IsTrue, arith}
use Rattle.std.proofs.lemmas.Bool.Decides.{nat_tests}
use Rattle.h264_plane.specs.declared.frame.Frame.{Frame}
use Rattle.h264_dpb.specs.declared.entry.Rectangle.{Rectangle}
use Rattle.h264_dpb.specs.Shown.{fits}

pub record IsInside (r : Rectangle) (f : Frame) : Type 0 where
  pub columns : 2 * (r.left + r.right) ≤ f.y.width
  pub rows : 2 * (r.top + r.bottom) ≤ f.y.height
  pub cb_width : f.cb.width ≡ f.y.width / 2
  pub cb_height : f.cb.height ≡ f.y.height / 2
  pub cr_width : f.cr.width ≡ f.y.width / 2
  pub cr_height : f.cr.height ≡ f.y.height / 2

pub inside : (r : Rectangle) (f : Frame) → IsTrue (fits r f) → IsInside r f
inside r f t = record {
  columns = grind (arith, nat_tests);
  rows = grind (arith, nat_tests);
  cb_width = grind (arith, nat_tests);
  cb_height = grind (arith, nat_tests);
  cr_width = grind (arith, nat_tests);
  cr_height = grind (arith, nat_tests);
}
