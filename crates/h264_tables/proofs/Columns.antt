-- A row by its columns.
use Rattle.std.proofs.Common.{◌≡◌, ℕ, zero, suc, ◌<◌, ◌≤◌, List, [], ◌∷◌, length, get_or, slice_get, Some, None, refl, arith}
use Rattle.h264_base.specs.Table.{row}
use Rattle.h264_tables.specs.Columns.{rows_from}

pub row-there : (lengths bits values : List ℕ) (i : ℕ) → length bits ≡ length lengths → length lengths ≤ length values → i < length lengths →
    slice_get (rows_from lengths bits values) i ≡ Some (row (get_or lengths i 0) (get_or bits i 0) (get_or values i 0))
row-there [] bits values i e h inside = absurd (omega arith)
row-there (l ∷ lengths) [] values i e h inside = absurd (omega arith)
row-there (l ∷ lengths) (b ∷ bits) [] i e h inside = absurd (omega arith)
row-there (l ∷ lengths) (b ∷ bits) (v ∷ values) zero e h inside = refl
row-there (l ∷ lengths) (b ∷ bits) (v ∷ values) (suc i) e h inside = row-there lengths bits values i (omega arith) (omega arith) (omega arith)

pub row-past : (lengths bits values : List ℕ) (i : ℕ) → length lengths ≤ i → slice_get (rows_from lengths bits values) i ≡ None
row-past [] bits values i past = refl
row-past (l ∷ lengths) [] values i past = refl
row-past (l ∷ lengths) (b ∷ bits) [] i past = refl
row-past (l ∷ lengths) (b ∷ bits) (v ∷ values) zero past = absurd (omega arith)
row-past (l ∷ lengths) (b ∷ bits) (v ∷ values) (suc i) past = row-past lengths bits values i (omega arith)
