-- mb_pred() and sub_mb_pred() of inter macroblocks (7.3.5.1, 7.3.5.2), with their references and vectors (8.4.1). To be read beside the standard.
use Rattle.std.specs.Prelude.{ℕ, slice_index, ◌-◌, ◌==◌, nat_lt, nat_le, Bool, ◌||◌, not, List, [], ◌∷◌, if◌then◌else◌}
use Rattle.h264_base.specs.declared.element_name.ElementName.TheVariants.{SubMbType, RefIdxL0, MvdL0}
use Rattle.h264_base.specs.declared.rule.Rule.TheVariants.{Range, NoReference}
use Rattle.h264_base.specs.Word.{Signed}
use Rattle.h264_base.specs.Grammar.{Grammar, Done, ◌>>=◌, element, check}
use Rattle.h264_bits.specs.Forms.{natural, unsigned_to}
use Rattle.h264_bits.specs.Truncated.{truncated}
use Rattle.h264_near.specs.Coded.{CodedMacroblock}
use Rattle.h264_vectors.specs.declared.part.Direction.TheVariants as direction
use Rattle.h264_vectors.specs.declared.part.Part.{Part}
use Rattle.h264_vectors.specs.Vectors.{part, whole}
use Rattle.h264_vectors.specs.declared.slice.SliceContext.{SliceContext}
use Rattle.h264_vectors.specs.Derived.{sub_parts_of, has_picture, Derived, none_yet, derive}

-- ref_idx_l0, where it stands in the stream
unfoldable pub read_ref_idx : SliceContext → Grammar ℕ
read_ref_idx slice = do
  e ← element RefIdxL0 (truncated (slice.active - 1))
  _ ← check Range e.bit (nat_lt (natural e.value) slice.active)
  _ ← check NoReference e.bit (has_picture slice (natural e.value))
  Done (natural e.value)

unfoldable pub part_motion : ℕ → SliceContext → List CodedMacroblock → Part → ℕ → Derived → Grammar Derived
part_motion width slice picture p i d = do
  across ← element MvdL0 Signed
  down ← element MvdL0 Signed
  Done (derive width slice picture d (record { place = p; ref_idx = i }) (record { across = across.value; down = down.value }))

-- the vectors of parts that have one index, after these
unfoldable pub part_motions : ℕ → SliceContext → List CodedMacroblock → ℕ → List Part → Derived → Grammar Derived
part_motions width slice picture i [] d = Done d
part_motions width slice picture i (p ∷ parts) d = do
  next ← part_motion width slice picture p i d
  part_motions width slice picture i parts next

-- the index of a part: 0 where it is inferred
unfoldable pub ref_index : SliceContext → Bool → Grammar ℕ
ref_index slice inferred = if inferred then Done 0 else read_ref_idx slice

-- 16x16
unfoldable pub one_part : ℕ → SliceContext → List CodedMacroblock → Bool → Part → Grammar Derived
one_part width slice picture inferred p = do
  i ← ref_index slice inferred
  part_motion width slice picture p i none_yet

-- 16x8 and 8x16
unfoldable pub two_parts : ℕ → SliceContext → List CodedMacroblock → Bool → Part → Part → Grammar Derived
two_parts width slice picture inferred p q = do
  i ← ref_index slice inferred
  j ← ref_index slice inferred
  d ← part_motion width slice picture p i none_yet
  part_motion width slice picture q j d

-- four 8x8 blocks by their types and indices
unfoldable pub quarters : ℕ → SliceContext → List CodedMacroblock → List ℕ → List ℕ → Grammar Derived
quarters width slice picture types indices =
    let quarter = λ (x y n : ℕ) (d : Derived). part_motions width slice picture (slice_index indices n) (sub_parts_of x y (slice_index types n)) d in do
      d0 ← quarter 0 0 0 none_yet
      d1 ← quarter 2 0 1 d0
      d2 ← quarter 0 2 2 d1
      quarter 2 2 3 d2

-- mb_type 3 and 4
unfoldable pub split_parts : ℕ → SliceContext → List CodedMacroblock → Bool → Grammar Derived
split_parts width slice picture inferred = do
  t0 ← unsigned_to SubMbType 3
  t1 ← unsigned_to SubMbType 3
  t2 ← unsigned_to SubMbType 3
  t3 ← unsigned_to SubMbType 3
  i0 ← ref_index slice inferred
  i1 ← ref_index slice inferred
  i2 ← ref_index slice inferred
  i3 ← ref_index slice inferred
  quarters width slice picture (t0 ∷ t1 ∷ t2 ∷ t3 ∷ []) (i0 ∷ i1 ∷ i2 ∷ i3 ∷ [])

-- whether ref_idx_l0 does not stand in the stream: mb_type 4, or no more than one place in the list
abbrev pub is_inferred : SliceContext → ℕ → Bool
is_inferred slice kind = kind == 4 || nat_le slice.active 1

-- by mb_type: 16x16, 16x8, 8x16, and four 8x8 blocks (Table 7-13)
unfoldable pub motions_by : ℕ → SliceContext → List CodedMacroblock → Bool → ℕ → Grammar Derived
motions_by width slice picture inferred kind =
    if kind == 0 then one_part width slice picture inferred (whole direction.Median) else
    if kind == 1 then two_parts width slice picture inferred (part 0 0 4 2 direction.FromB) (part 0 2 4 2 direction.FromA) else
    if kind == 2 then two_parts width slice picture inferred (part 0 0 2 4 direction.FromA) (part 2 0 2 4 direction.FromC) else
    split_parts width slice picture inferred

-- The references and vectors of all blocks, by mb_type. An index that is inferred names its picture at mb_type.
unfoldable pub motions : ℕ → SliceContext → List CodedMacroblock → ℕ → ℕ → Grammar Derived
motions width slice picture bit kind = do
  _ ← check NoReference bit (not (is_inferred slice kind) || has_picture slice 0)
  motions_by width slice picture (is_inferred slice kind) kind
