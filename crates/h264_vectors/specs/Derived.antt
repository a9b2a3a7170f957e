-- References and vectors of a macroblock's blocks, part by part (8.4.1), and the range of vectors (A.3.1). To be read beside the standard.
use Rattle.std.specs.Prelude.{ℕ, ◌+◌, nat_lt, int_le, Bool, true, ◌&&◌, not, List, [], ◌∷◌, map, replicate, Option, Some, None, ℤ, pos, ◌+ℤ◌}
use Rattle.std.specs.Prelude.{slice_get, if◌then◌else◌}
use Rattle.std.specs.Option.{is_some, unwrap_or, option_and_then}
use Rattle.std.specs.Int.Signed.{lt_z}
use Rattle.std.specs.List.{range_with_len}
use Rattle.std.proofs.Common.{get_or}
use Rattle.h264_near.specs.declared.motion.Motion.{Motion}
use Rattle.h264_near.specs.declared.motion.Vector.{Vector}
use Rattle.h264_near.specs.declared.partition.SubPartition.{SubPartition}
use Rattle.h264_near.specs.declared.partition.SubPartition.TheVariants as sub
use Rattle.h264_plane.specs.Blocks.{column_of, row_of}
use Rattle.h264_near.specs.Coded.{CodedMacroblock}
use Rattle.h264_vectors.specs.declared.part.Direction.TheVariants as direction
use Rattle.h264_vectors.specs.declared.part.Part.{Part}
use Rattle.h264_vectors.specs.declared.part.PredictedPart.{PredictedPart}
use Rattle.h264_vectors.specs.declared.part.VectorDifference.{VectorDifference}
use Rattle.h264_vectors.specs.declared.slice.SliceContext.{SliceContext}
use Rattle.h264_vectors.specs.Partitions.{sub_partition_of}
use Rattle.h264_vectors.specs.Vectors.{part, predicted_vector}

-- the parts of a sub-macroblock at x and y (6.4.2.2)
abbrev pub parts_of : ℕ → ℕ → SubPartition → List Part
parts_of x y sub.P8x8 = part x y 2 2 direction.Median ∷ []
parts_of x y sub.P8x4 = part x y 2 1 direction.Median ∷ part x (y + 1) 2 1 direction.Median ∷ []
parts_of x y sub.P4x8 = part x y 1 2 direction.Median ∷ part (x + 1) y 1 2 direction.Median ∷ []
parts_of x y sub.P4x4 = part x y 1 1 direction.Median ∷ part (x + 1) y 1 1 direction.Median ∷ part x (y + 1) 1 1 direction.Median
    ∷ part (x + 1) (y + 1) 1 1 direction.Median ∷ []

-- the same by its sub_mb_type
abbrev pub sub_parts_of : ℕ → ℕ → ℕ → List Part
sub_parts_of x y sub_mb_type = parts_of x y (sub_partition_of sub_mb_type)

-- the picture that an index names, if there is one to predict from
abbrev pub picture_of : SliceContext → ℕ → Option ℕ
picture_of slice i = option_and_then (λ p. p) (slice_get slice.references i)

abbrev pub has_picture : SliceContext → ℕ → Bool
has_picture slice i = is_some (picture_of slice i)

-- what the blocks of a part are predicted from
unfoldable pub motion_of : SliceContext → ℕ → Vector → Motion
motion_of slice i v = record { ref_idx = i; picture = unwrap_or (picture_of slice i) 0; vector = v }

abbrev pub lies : ℕ → ℕ → ℕ → Bool
lies from size k = not (nat_lt k from) && nat_lt k (from + size)

abbrev pub is_inside : Part → ℕ → Bool
is_inside p n = lies p.x p.wide (column_of n) && lies p.y p.high (row_of n)

-- what a block is predicted from after a part of this motion
abbrev pub in_part : Part → ℕ → Motion → Option Motion → Option Motion
in_part p n m old = if is_inside p n then Some m else old

unfoldable pub with_part : List (Option Motion) → Part → Motion → List (Option Motion)
with_part motions p m = map (λ n. in_part p n m (get_or motions n None)) (range_with_len 0 16)

-- Vectors lie in -8192 to 8191 across, in quarter samples, and in -limit to limit - 1 down (A.3.1)
unfoldable pub component_fits : ℕ → ℤ → Bool
component_fits limit x = not (lt_z (x +ℤ pos limit) (pos 0)) && not (int_le (pos limit) x)

abbrev pub vector_fits : ℕ → Vector → Bool
vector_fits limit v = component_fits 8192 v.x && component_fits limit v.y

-- a vector of its prediction and mvd_l0, across and down
abbrev pub moved : Vector → ℤ → ℤ → Vector
moved predicted across down = record { x = predicted.x +ℤ across; y = predicted.y +ℤ down }

-- the references and vectors of a macroblock's blocks so far, and whether the vectors of all its parts so far lie in their range
pub record Derived : Type 0 where
  pub motions : List (Option Motion)
  pub fit : Bool

abbrev pub none_yet : Derived
none_yet = record { motions = replicate 16 None; fit = true }

-- one part more, of this vector
unfoldable pub with_vector : SliceContext → Derived → Part → ℕ → Vector → Derived
with_vector slice d p i v = record { motions = with_part d.motions p (motion_of slice i v); fit = d.fit && vector_fits slice.vector_limit v }

-- one part more, of this mvd_l0
unfoldable pub derive : ℕ → SliceContext → List CodedMacroblock → Derived → PredictedPart → VectorDifference → Derived
derive width slice picture d p mvd =
    let predicted = predicted_vector width picture slice.number d.motions p.place p.ref_idx in
    with_vector slice d p.place p.ref_idx (moved predicted mvd.across mvd.down)
