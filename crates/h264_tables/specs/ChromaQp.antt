-- The quantisation parameter of chroma (8.5.8). To be read beside the standard.
use Rattle.std.specs.Prelude.{ℕ, ◌-◌, List, [], ◌∷◌, ℤ, pos, negsuc, ◌+ℤ◌, min, nat_lt, slice_index, if◌then◌else◌}

-- Clip3(0, 51, z)
abbrev pub clip_51 : ℤ → ℕ
clip_51 (pos n) = min n 51
clip_51 (negsuc n) = 0

-- QPc from qPI = 30 on (Table 8-15)
unfoldable pub chroma_qp_rows : List ℕ
chroma_qp_rows = 29 ∷ 30 ∷ 31 ∷ 32 ∷ 32 ∷ 33 ∷ 34 ∷ 34 ∷ 35 ∷ 35 ∷ 36 ∷ 36 ∷ 37 ∷ 37 ∷ 37 ∷ 38 ∷ 38 ∷ 38 ∷ 39 ∷ 39 ∷ 39 ∷ 39 ∷ []

-- QPc by qPI
unfoldable pub chroma_qp_by : ℕ → ℕ
chroma_qp_by q = if nat_lt q 30 then q else slice_index chroma_qp_rows (q - 30)

-- QPc by QPy and chroma_qp_index_offset
abbrev pub chroma_qp_of : ℕ → ℤ → ℕ
chroma_qp_of qp offset = chroma_qp_by (clip_51 (pos qp +ℤ offset))
