-- The edges of the macroblocks of a coded picture lie in it.
use Rattle.std.proofs.Common.{◌≡◌, ℕ, ◌+◌, ◌*◌, ◌<◌, Bool, true, false, IsTrue, List, length, get_or, Option, Some, None, is_some}
use Rattle.std.proofs.Common.{refl, arith}
use Rattle.h264_plane.specs.declared.frame.Component.{Component}
use Rattle.h264_plane.specs.declared.frame.Component.TheVariants.{Y, Cb, Cr}
use Rattle.h264_near.specs.Coded.{CodedMacroblock}
use Rattle.h264_near.specs.Raster.{last_in, last_left}
use Rattle.h264_near.proofs.Neighbours.{above-there, left-there}
use Rattle.h264_near.proofs.Places.{quotient, remainder}
use Rattle.h264_deblock.specs.Filtering.{AreInside}
use Rattle.h264_deblock.specs.declared.slice_filter.SliceFilter.{SliceFilter}
use Rattle.h264_deblock.specs.CodedEdges.{border, edges_along, coded_edges}

first : (slices : ℕ → SliceFilter) (p : Component) (v : Bool) (o : Option CodedMacroblock) (q : CodedMacroblock) →
    IsTrue (is_some (get_or (edges_along slices p v o q) 0 None)) → IsTrue (is_some o)
unfolding edges_along border
first slices p v (Some m) q h = refl
first slices Y v None q h = h
first slices Cb v None q h = h
first slices Cr v None q h = h

pub edges-inside : (slices : ℕ → SliceFilter) (w : ℕ) (xs : List CodedMacroblock) (q : CodedMacroblock) (p : Component) (c r : ℕ) → length xs ≡ r * w + c →
    c < w → AreInside c r (coded_edges slices w xs q p)
unfolding coded_edges
edges-inside slices w xs q p c r e k =
    let column = remainder (length xs) w r c k e in
    let row = quotient (length xs) w r c k e in
    record {
      vertical = λ h. rw column at (left-there w xs (first slices p true (last_left w xs) q h));
      horizontal = λ h. rw row at (above-there w xs _ (omega arith) (first slices p false (last_in w xs _) q h));
    }
