-- Predicted vectors (8.4.1.1, 8.4.1.3). To be read beside the standard.
use Rattle.std.specs.Prelude.{ℕ, ℤ, pos, ◌+◌, Bool, true, false, int_le, List, replicate, Option, Some, None, ◌==◌, ◌&&◌, ◌||◌, if◌then◌else◌}
use Rattle.std.specs.Ordering.{int_eq}
use Rattle.h264_near.specs.Coded.{CodedMacroblock}
use Rattle.h264_near.specs.Motions.{Neighbour, neighbour}
use Rattle.h264_near.specs.declared.motion.Motion.{Motion}
use Rattle.h264_near.specs.declared.motion.Vector.{Vector}
use Rattle.h264_vectors.specs.declared.part.Direction.{Direction}
use Rattle.h264_vectors.specs.declared.part.Direction.TheVariants as direction
use Rattle.h264_vectors.specs.declared.part.Part.{Part}

-- a part of a macroblock: where it begins, and its size, all in 4x4 blocks
abbrev pub part : ℕ → ℕ → ℕ → ℕ → Direction → Part
part x y wide high d = record { x = x; y = y; wide = wide; high = high; direction = d }

-- all of a macroblock of 16x16
abbrev pub whole : Direction → Part
whole d = part 0 0 4 4 d

abbrev pub zero_vector : Vector
zero_vector = record { x = pos 0; y = pos 0 }

abbrev pub vector_of : Neighbour → Vector
vector_of None = zero_vector
vector_of (Some None) = zero_vector
vector_of (Some (Some motion)) = motion.vector

abbrev pub refers : ℕ → Neighbour → Bool
refers r None = false
refers r (Some None) = false
refers r (Some (Some motion)) = motion.ref_idx == r

abbrev pub lesser : ℤ → ℤ → ℤ
lesser a b = if int_le a b then a else b

abbrev pub greater : ℤ → ℤ → ℤ
greater a b = if int_le a b then b else a

unfoldable pub median : ℤ → ℤ → ℤ → ℤ
median a b c = greater (lesser a b) (lesser (greater a b) c)

-- the vector of the only one that has the reference, or else the median by component (8.4.1.3.1)
unfoldable pub chosen : Bool → Bool → Bool → Vector → Vector → Vector → Vector
chosen true false false a b c = a
chosen false true false a b c = b
chosen false false true a b c = c
chosen _ _ _ a b c = record { x = median a.x b.x c.x; y = median a.y b.y c.y }

unfoldable pub by_median : ℕ → Neighbour → Neighbour → Neighbour → Vector
by_median r (Some a) None None = vector_of (Some a)
by_median r a b c = chosen (refers r a) (refers r b) (refers r c) (vector_of a) (vector_of b) (vector_of c)

-- D stands for C where that is not there
abbrev pub instead : Neighbour → Neighbour → Neighbour
instead None d = d
instead (Some c) d = Some c

-- the neighbour that a part of 16x8 or 8x16 looks at first
abbrev pub preferred : Direction → Neighbour → Neighbour → Neighbour → Neighbour
preferred direction.Median a b c = None
preferred direction.FromA a b c = a
preferred direction.FromB a b c = b
preferred direction.FromC a b c = c

unfoldable pub by_direction : Direction → ℕ → Neighbour → Neighbour → Neighbour → Vector
by_direction d r a b c = if refers r (preferred d a b c) then vector_of (preferred d a b c) else by_median r a b c

-- mvpLX of a part of this refIdxL0, after these motions of its macroblock
unfoldable pub predicted_vector : ℕ → List CodedMacroblock → ℕ → List (Option Motion) → Part → ℕ → Vector
predicted_vector width picture slice motions p r =
    let at = neighbour width picture slice motions in
    by_direction p.direction r (at p.x (p.y + 1)) (at (p.x + 1) p.y) (instead (at (p.x + p.wide + 1) p.y) (at p.x p.y))

-- whether a neighbour lets a skipped macroblock stand still: it is not there, or has reference 0 and vector 0
abbrev pub keeps_still : Neighbour → Bool
keeps_still None = true
keeps_still (Some None) = false
keeps_still (Some (Some motion)) = motion.ref_idx == 0 && (int_eq motion.vector.x (pos 0) && int_eq motion.vector.y (pos 0))

-- no block of the macroblock is derived yet
abbrev pub none_derived : List (Option Motion)
none_derived = replicate 16 None

-- the vector of P_Skip (8.4.1.1)
unfoldable pub skip_vector : ℕ → List CodedMacroblock → ℕ → Vector
skip_vector width picture slice =
    let at = neighbour width picture slice none_derived in
    if keeps_still (at 0 1) || keeps_still (at 1 0) then zero_vector else predicted_vector width picture slice none_derived (whole direction.Median) 0
