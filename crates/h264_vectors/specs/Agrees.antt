-- What the code has of the references and vectors of a macroblock's blocks. A working form.
use Rattle.std.specs.Prelude.{◌≡◌, ℕ, ◌/◌, ◌%◌, ◌==◌, ◌<◌, ◌≤◌, Bool, true, false, not, ◌&&◌, List, [], ◌∷◌, length, map, Option, Some, None, if◌then◌else◌}
use Rattle.std.specs.Option.{is_some}
use Rattle.std.specs.List.{range_with_len}
use Rattle.std.proofs.Common.{get_or}
use Rattle.h264_near.specs.declared.motion.Motion.{Motion}
use Rattle.h264_vectors.specs.declared.part.Part.{Part}
use Rattle.h264_vectors.specs.declared.slice.SliceContext.{SliceContext}
use Rattle.h264_vectors.specs.Derived.{Derived, is_inside, in_part}

-- which blocks are derived, and which ones after these parts
unfoldable pub places_with : List Bool → Part → List Bool
places_with places p = map (λ n. if is_inside p n then true else get_or places n false) (range_with_len 0 16)

abbrev pub places_after : List Bool → List Part → List Bool
places_after places [] = places
places_after places (p ∷ parts) = places_after (places_with places p) parts

-- Whether all vectors lie in their range, and if so the references and vectors. Once one does not, only that is known.
pub record Agrees (within : Bool) (blocks : List (Option Motion)) (places : List Bool) (d : Derived) : Type 0 where
  pub fits : within ≡ d.fit
  pub same : within ≡ true → blocks ≡ d.motions
  pub derived : map is_some d.motions ≡ places

-- a vector of its prediction and its difference, if it lies in its range
abbrev pub if_fits : {A : Type 0} → Bool → A → Option A
if_fits true v = Some v
if_fits false v = None

-- a part that is the whole macroblock
abbrev pub IsWhole : Part → Type 0
IsWhole p = (p.x ≡ 0) × (p.y ≡ 0) × (p.wide ≡ 4) × (p.high ≡ 4)

-- a part that is made of whole 8x8 blocks
abbrev pub IsOfQuarters : Part → Type 0
IsOfQuarters p = (p.x % 2 ≡ 0) × (p.wide % 2 ≡ 0) × (p.y % 2 ≡ 0) × (p.high % 2 ≡ 0)

-- the blocks of an 8x8 block are predicted as after the part, and the others as before
abbrev pub IsQuarterFilled : List (Option Motion) → List (Option Motion) → Part → ℕ → Motion → Type 0
IsQuarterFilled old new p q m = (k : ℕ) → k < 16 → get_or new k None ≡ (if k / 4 == q then in_part p k m (get_or old k None) else get_or old k None)

-- two blocks stand on one side of a part: both in it, or both outside it
abbrev pub is_on_one_side : Part → ℕ → ℕ → Bool
is_on_one_side p i j = if is_inside p i then is_inside p j else not (is_inside p j)

abbrev pub are_on_one_side : List Part → ℕ → ℕ → Bool
are_on_one_side [] i j = true
are_on_one_side (p ∷ parts) i j = is_on_one_side p i j && are_on_one_side parts i j

-- blocks that were predicted alike still are, where none of these parts, which were derived, stands between them
pub record StayAlike (parts : List Part) (old new : List (Option Motion)) : Type 0 where
  pub each : (i j : ℕ) → i < 16 → j < 16 → are_on_one_side parts i j ≡ true → get_or old i None ≡ get_or old j None →
      get_or new i None ≡ get_or new j None

-- what a slice of the profile says
pub record Usable (slice : SliceContext) : Type 0 where
  pub few : slice.active ≤ 16
  pub limit : slice.vector_limit ≤ 8192
  pub places : length slice.references ≡ 16
