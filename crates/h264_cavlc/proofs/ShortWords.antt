-- The words of run_before by three bits, those of total_zeros by six or nine, and those of coeff_token by eight.
use Rattle.std.proofs.Common.{◌≡◌, ◌≢◌, ℕ, zero, suc, ◌+◌, ◌*◌, ◌-◌, ◌/◌, ◌^◌, ◌<◌, ◌≤◌, Bool, true, false, ◌&&◌, ◌||◌, List, [], ◌∷◌, length, take, drop}
use Rattle.std.proofs.Common.{get_or, min, nat_lt, ◌==◌, Option, Some, None, inl, inr, lt-ltb, refl, ap, ◌∙◌, arith}
use Rattle.std.specs.Option.{option_map}
use Rattle.std.proofs.lemmas.Bool.{and_parts, eqb-true, ne_eqb, ltb-true, cases_lt, le-ltb}
use Rattle.std.proofs.lemmas.List.{get_or-take, get_or-drop}
use Rattle.h264_base.specs.Table.{Row}
use Rattle.h264_tables.specs.Front.{front_of, found_of}
use Rattle.h264_tables.specs.CoeffToken.{coeff_token_nc0, coeff_token_nc2, coeff_token_nc4, coeff_token_nc8}
use Rattle.h264_tables.specs.Choice.{coeff_token_by, run_before_tables, total_zeros_tables}
use Rattle.h264_tables.specs.Entry.{entry_of}
use Rattle.h264_tables.specs.declared.front.Entry.{Entry}
use Rattle.h264_tables.specs.RunBefore.{run_before_1, run_before_2, run_before_3, run_before_4, run_before_5, run_before_6, run_before_7}
use Rattle.h264_tables.specs.Table.{rows_of}
use Rattle.h264_tables.specs.declared.table.Table.TheVariants.{RunBefore7}
use Rattle.h264_tables.proofs.Entries.{agrees, entry_fits, entry-is}
use Rattle.h264_tables.specs.TotalZeros.{total_zeros_1, total_zeros_2, total_zeros_3, total_zeros_4, total_zeros_5, total_zeros_6, total_zeros_7}
use Rattle.h264_tables.specs.TotalZeros.{total_zeros_8, total_zeros_9, total_zeros_10, total_zeros_11, total_zeros_12, total_zeros_13, total_zeros_14}
use Rattle.h264_tables.specs.TotalZeros.{total_zeros_15}
use Rattle.h264_cavlc.specs.declared.runs.TheConstants as run
use Rattle.h264_cavlc.specs.declared.token_words.TheConstants as token
use Rattle.h264_cavlc.specs.declared.totals.TheConstants as total
use Rattle.h264_cavlc.specs.Token.{coeff_token_table}
use Rattle.h264_cavlc.specs.Zeros.{run_before_table, total_zeros_table}

-- entry k on: each is the word that its number begins with, where s bits follow
unfoldable all_fit : ℕ → ℕ → List ℕ → List ℕ → List Row → Bool
all_fit s k [] values rows = true
all_fit s k (l ∷ lengths) [] rows = false
all_fit s k (l ∷ lengths) (v ∷ values) rows = entry_fits 16 s k l v rows && all_fit s (suc k) lengths values rows

fit-at : (s k j : ℕ) (lengths values : List ℕ) (rows : List Row) → all_fit s k lengths values rows ≡ true → j < length lengths →
    entry_fits 16 s (k + j) (get_or lengths j 0) (get_or values j 0) rows ≡ true
unfolding all_fit
fit-at s k j [] values rows h g = absurd (omega arith)
fit-at s k j (l ∷ lengths) [] rows h g = absurd (cc)
fit-at s k zero (l ∷ lengths) (v ∷ values) rows h g = let e : k + 0 ≡ k = omega arith in rw e (and_parts _ _ h).0
fit-at s k (suc j) (l ∷ lengths) (v ∷ values) rows h g = let e : k + suc j ≡ suc k + j = omega arith in
    rw e (fit-at s (suc k) j lengths values rows (and_parts _ _ h).1 (omega arith))

-- the m entries from entry n on
part : ℕ → ℕ → List ℕ → List ℕ
part m n xs = take m (drop n xs)

part-at : (m n : ℕ) (xs : List ℕ) (j : ℕ) → j < m → get_or (part m n xs) j 0 ≡ get_or xs (n + j) 0
unfolding part
part-at m n xs j h = get_or-take m (drop n xs) j 0 h ∙ get_or-drop n xs j 0

found-in : (m s n y : ℕ) (lengths values : List ℕ) (rows : List Row) → y / 2 ^ s < m → length (part m n lengths) ≡ m →
    all_fit s 0 (part m n lengths) (part m n values) rows ≡ true →
    (get_or lengths (n + y / 2 ^ s) 0, get_or values (n + y / 2 ^ s) 0) ≡ found_of (front_of 16 rows y)
found-in m s n y lengths values rows j long all =
    let zero_more : 0 + y / 2 ^ s ≡ y / 2 ^ s = omega arith in
    let fits = fit-at s 0 (y / 2 ^ s) (part m n lengths) (part m n values) rows all (omega arith) in
    entry-is 16 s y _ _ rows (rw (zero_more, part-at m n lengths (y / 2 ^ s) j, part-at m n values (y / 2 ^ s) j) at fits)

-- as all_fit, but a length of 0 says nothing
unfoldable some_fit : ℕ → ℕ → List ℕ → List ℕ → List Row → Bool
some_fit s k [] values rows = true
some_fit s k (l ∷ lengths) [] rows = false
some_fit s k (zero ∷ lengths) (v ∷ values) rows = some_fit s (suc k) lengths values rows
some_fit s k (suc l ∷ lengths) (v ∷ values) rows = entry_fits 16 s k (suc l) v rows && some_fit s (suc k) lengths values rows

some-fit-at : (s k j : ℕ) (lengths values : List ℕ) (rows : List Row) → some_fit s k lengths values rows ≡ true → j < length lengths → 0 < get_or lengths j 0 →
    entry_fits 16 s (k + j) (get_or lengths j 0) (get_or values j 0) rows ≡ true
unfolding some_fit
some-fit-at s k j [] values rows h g some = absurd (omega arith)
some-fit-at s k j (l ∷ lengths) [] rows h g some = absurd (cc)
some-fit-at s k zero (zero ∷ lengths) (v ∷ values) rows h g some = absurd (omega arith)
some-fit-at s k zero (suc l ∷ lengths) (v ∷ values) rows h g some = let e : k + 0 ≡ k = omega arith in rw e (and_parts _ _ h).0
some-fit-at s k (suc j) (zero ∷ lengths) (v ∷ values) rows h g some = let e : k + suc j ≡ suc k + j = omega arith in
    rw e (some-fit-at s (suc k) j lengths values rows h (omega arith) some)
some-fit-at s k (suc j) (suc l ∷ lengths) (v ∷ values) rows h g some = let e : k + suc j ≡ suc k + j = omega arith in
    rw e (some-fit-at s (suc k) j lengths values rows (and_parts _ _ h).1 (omega arith) some)

found-some : (m s n y : ℕ) (lengths values : List ℕ) (rows : List Row) → y / 2 ^ s < m → length (part m n lengths) ≡ m →
    some_fit s 0 (part m n lengths) (part m n values) rows ≡ true → 0 < get_or lengths (n + y / 2 ^ s) 0 →
    (get_or lengths (n + y / 2 ^ s) 0, get_or values (n + y / 2 ^ s) 0) ≡ found_of (front_of 16 rows y)
found-some m s n y lengths values rows j long all some =
    let zero_more : 0 + y / 2 ^ s ≡ y / 2 ^ s = omega arith in
    let here = part-at m n lengths (y / 2 ^ s) j in
    let fits = some-fit-at s 0 (y / 2 ^ s) (part m n lengths) (part m n values) rows all (omega arith) (rw here some) in
    entry-is 16 s y _ _ rows (rw (zero_more, here, part-at m n values (y / 2 ^ s) j) at fits)

-- as all_fit, but a length of 16 says nothing
unfoldable short_fit : ℕ → ℕ → List ℕ → List ℕ → List Row → Bool
short_fit s k [] values rows = true
short_fit s k (l ∷ lengths) [] rows = false
short_fit s k (l ∷ lengths) (v ∷ values) rows = (l == 16 || (nat_lt 0 l && entry_fits 16 s k l v rows)) && short_fit s (suc k) lengths values rows

short-fit-at : (s k j : ℕ) (lengths values : List ℕ) (rows : List Row) → short_fit s k lengths values rows ≡ true → j < length lengths →
    get_or lengths j 0 ≢ 16 →
    (0 < get_or lengths j 0) × (entry_fits 16 s (k + j) (get_or lengths j 0) (get_or values j 0) rows ≡ true)
unfolding short_fit
short-fit-at s k j [] values rows h g other = absurd (omega arith)
short-fit-at s k j (l ∷ lengths) [] rows h g other = absurd (cc)
short-fit-at s k zero (l ∷ lengths) (v ∷ values) rows h g other =
    let e : k + 0 ≡ k = omega arith in
    let here : (l == 16 || (nat_lt 0 l && entry_fits 16 s k l v rows)) ≡ true = (and_parts _ _ h).0 in
    let fits = rw (ne_eqb l 16 other) at here in
    rw e (ltb-true _ _ (and_parts _ _ fits).0, (and_parts _ _ fits).1)
short-fit-at s k (suc j) (l ∷ lengths) (v ∷ values) rows h g other = let e : k + suc j ≡ suc k + j = omega arith in
    rw e (short-fit-at s (suc k) j lengths values rows (and_parts _ _ h).1 (omega arith) other)

three-bits : (n y : ℕ) (rows : List Row) → y < 2 ^ 16 → length (part 8 n run.WORD_LENGTHS) ≡ 8 →
    short_fit 13 0 (part 8 n run.WORD_LENGTHS) (part 8 n run.WORD_VALUES) rows ≡ true → get_or run.WORD_LENGTHS (n + y / 2 ^ 13) 0 ≢ 16 →
    (0 < get_or run.WORD_LENGTHS (n + y / 2 ^ 13) 0) ×
    ((get_or run.WORD_LENGTHS (n + y / 2 ^ 13) 0, get_or run.WORD_VALUES (n + y / 2 ^ 13) 0) ≡ found_of (front_of 16 rows y))
three-bits n y rows h long all other =
    let j : y / 2 ^ 13 < 8 = omega arith in
    let zero_more : 0 + y / 2 ^ 13 ≡ y / 2 ^ 13 = omega arith in
    let lengths = part-at 8 n run.WORD_LENGTHS (y / 2 ^ 13) j in
    let values = part-at 8 n run.WORD_VALUES (y / 2 ^ 13) j in
    let fits = short-fit-at 13 0 (y / 2 ^ 13) (part 8 n run.WORD_LENGTHS) (part 8 n run.WORD_VALUES) rows all (omega arith) (rw lengths other) in
    let same = rw (zero_more, lengths, values) at fits in
    (same.0, entry-is 16 13 y _ _ rows same.1)

six-bits : (n y : ℕ) (rows : List Row) → y < 2 ^ 16 → length (part 64 n total.WORD_LENGTHS) ≡ 64 →
    all_fit 10 0 (part 64 n total.WORD_LENGTHS) (part 64 n total.WORD_VALUES) rows ≡ true →
    (get_or total.WORD_LENGTHS (n + y / 2 ^ 10) 0, get_or total.WORD_VALUES (n + y / 2 ^ 10) 0) ≡ found_of (front_of 16 rows y)
six-bits n y rows h long all = found-in 64 10 n y total.WORD_LENGTHS total.WORD_VALUES rows (omega arith) long all

eight-bits : (m n y : ℕ) (rows : List Row) → n ≡ m → y < 2 ^ 16 → length (part 256 m token.WORD_LENGTHS) ≡ 256 →
    some_fit 8 0 (part 256 m token.WORD_LENGTHS) (part 256 m token.WORD_VALUES) rows ≡ true → 0 < get_or token.WORD_LENGTHS (n + y / 2 ^ 8) 0 →
    (get_or token.WORD_LENGTHS (n + y / 2 ^ 8) 0, get_or token.WORD_VALUES (n + y / 2 ^ 8) 0) ≡ found_of (front_of 16 rows y)
eight-bits m n y rows e h long all some = rw e (found-some 256 8 m y token.WORD_LENGTHS token.WORD_VALUES rows (omega arith) long all (rw e at some))

pub short-found : (z y : ℕ) → 0 < z → z ≤ 15 → y < 2 ^ 16 → get_or run.WORD_LENGTHS (8 * z + y / 2 ^ 13) 0 ≢ 16 →
    (0 < get_or run.WORD_LENGTHS (8 * z + y / 2 ^ 13) 0) ×
    ((get_or run.WORD_LENGTHS (8 * z + y / 2 ^ 13) 0, get_or run.WORD_VALUES (8 * z + y / 2 ^ 13) 0) ≡
    found_of (front_of 16 (rows_of (run_before_table z)) y))
unfolding part short_fit entry_fits agrees run_before_table run_before_tables run_before_1 run_before_2 run_before_3 run_before_4 run_before_5 run_before_6
    run_before_7
short-found zero y p q h other = absurd (omega arith)
short-found (suc zero) y p q h other = three-bits 8 y run_before_1 h refl refl other
short-found (suc (suc zero)) y p q h other = three-bits 16 y run_before_2 h refl refl other
short-found (suc (suc (suc zero))) y p q h other = three-bits 24 y run_before_3 h refl refl other
short-found (suc (suc (suc (suc zero)))) y p q h other = three-bits 32 y run_before_4 h refl refl other
short-found (suc (suc (suc (suc (suc zero))))) y p q h other = three-bits 40 y run_before_5 h refl refl other
short-found (suc (suc (suc (suc (suc (suc zero)))))) y p q h other = three-bits 48 y run_before_6 h refl refl other
short-found (suc (suc (suc (suc (suc (suc (suc zero))))))) y p q h other = three-bits 56 y run_before_7 h refl refl other
short-found (suc (suc (suc (suc (suc (suc (suc (suc zero)))))))) y p q h other = three-bits 64 y run_before_7 h refl refl other
short-found (suc (suc (suc (suc (suc (suc (suc (suc (suc zero))))))))) y p q h other = three-bits 72 y run_before_7 h refl refl other
short-found (suc (suc (suc (suc (suc (suc (suc (suc (suc (suc zero)))))))))) y p q h other = three-bits 80 y run_before_7 h refl refl other
short-found (suc (suc (suc (suc (suc (suc (suc (suc (suc (suc (suc zero))))))))))) y p q h other = three-bits 88 y run_before_7 h refl refl other
short-found (suc (suc (suc (suc (suc (suc (suc (suc (suc (suc (suc (suc zero)))))))))))) y p q h other = three-bits 96 y run_before_7 h refl refl other
short-found (suc (suc (suc (suc (suc (suc (suc (suc (suc (suc (suc (suc (suc zero))))))))))))) y p q h other = three-bits 104 y run_before_7 h refl refl other
short-found (suc (suc (suc (suc (suc (suc (suc (suc (suc (suc (suc (suc (suc (suc zero)))))))))))))) y p q h other =
    three-bits 112 y run_before_7 h refl refl other
short-found (suc (suc (suc (suc (suc (suc (suc (suc (suc (suc (suc (suc (suc (suc (suc zero))))))))))))))) y p q h other =
    three-bits 120 y run_before_7 h refl refl other
short-found (suc (suc (suc (suc (suc (suc (suc (suc (suc (suc (suc (suc (suc (suc (suc (suc z)))))))))))))))) y p q h other = absurd (omega arith)

-- up to zerosLeft 6 no word has more than three bits
unfoldable has_no_16 : List ℕ → Bool
has_no_16 [] = true
has_no_16 (x ∷ xs) = nat_lt x 16 && has_no_16 xs

no-16-at : (xs : List ℕ) (k : ℕ) → has_no_16 xs ≡ true → k < length xs → get_or xs k 0 < 16
unfolding has_no_16
no-16-at [] k e h = absurd (omega arith)
no-16-at (x ∷ xs) zero e h = ltb-true _ _ (and_parts _ _ e).0
no-16-at (x ∷ xs) (suc k) e h = no-16-at xs k (and_parts _ _ e).1 (omega arith)

few-short : (z y : ℕ) → z ≤ 6 → y < 2 ^ 16 → get_or run.WORD_LENGTHS (8 * z + y / 2 ^ 13) 0 < 16
unfolding part has_no_16
few-short z y q h =
    let j = 8 * z + y / 2 ^ 13 in
    let e = part-at 56 0 run.WORD_LENGTHS j (omega arith) in
    let f : 0 + j ≡ j = omega arith in
    let long : length (part 56 0 run.WORD_LENGTHS) ≡ 56 = refl in
    rw (e, f) at (no-16-at (part 56 0 run.WORD_LENGTHS) j refl (omega arith))

pub short-long : (z y : ℕ) → y < 2 ^ 16 → get_or run.WORD_LENGTHS (8 * z + y / 2 ^ 13) 0 ≡ 16 → 6 < z
short-long z y h long = elim (cases_lt 6 z) [
  | inl many ↦ many
  | inr few ↦ let t = few-short z y (omega arith) h in absurd (omega arith)
]

-- where no zeros are left
unfoldable is_empty : List ℕ → Bool
is_empty [] = true
is_empty (x ∷ xs) = x == 0 && is_empty xs

empty-at : (xs : List ℕ) (k : ℕ) → is_empty xs ≡ true → k < length xs → get_or xs k 0 ≡ 0
unfolding is_empty
empty-at [] k e h = absurd (omega arith)
empty-at (x ∷ xs) zero e h = eqb-true _ _ (and_parts _ _ e).0
empty-at (x ∷ xs) (suc k) e h = empty-at xs k (and_parts _ _ e).1 (omega arith)

pub short-none : (z y : ℕ) → z ≡ 0 → y < 2 ^ 16 →
    ◌≡◌ {A = ℕ × ℕ} (get_or run.WORD_LENGTHS (8 * z + y / 2 ^ 13) 0, get_or run.WORD_VALUES (8 * z + y / 2 ^ 13) 0) (0, 0)
unfolding part is_empty
short-none z y none h =
    let j = y / 2 ^ 13 in
    let f : 8 * z + j ≡ 0 + j = omega arith in
    let a = part-at 8 0 run.WORD_LENGTHS j (omega arith) in
    let b = part-at 8 0 run.WORD_VALUES j (omega arith) in
    let lengths : length (part 8 0 run.WORD_LENGTHS) ≡ 8 = refl in
    let nothing = empty-at (part 8 0 run.WORD_LENGTHS) j refl (omega arith) in
    rw (f, ← a, ← b, nothing) refl

-- each value is at most as large as an eighth of its place, from place k on
unfoldable are_small : ℕ → List ℕ → Bool
are_small k [] = true
are_small k (v ∷ values) = nat_lt (8 * v) (k + 1) && are_small (suc k) values

small-at : (k j : ℕ) (values : List ℕ) → are_small k values ≡ true → j < length values → 8 * get_or values j 0 ≤ k + j
unfolding are_small
small-at k j [] e h = absurd (omega arith)
small-at k zero (v ∷ values) e h = let small : 8 * v < k + 1 = ltb-true (8 * v) (k + 1) (and_parts _ _ e).0 in omega arith
small-at k (suc j) (v ∷ values) e h = let small : 8 * get_or values j 0 ≤ suc k + j = small-at (suc k) j values (and_parts _ _ e).1 (omega arith) in omega arith

-- a run of three bits is within the zeros that are left
pub short-small : (z y : ℕ) → z ≤ 15 → y < 2 ^ 16 → get_or run.WORD_VALUES (8 * z + y / 2 ^ 13) 0 ≤ z
unfolding are_small
short-small z y few h =
    let long : length run.WORD_VALUES ≡ 128 = refl in
    let small : 8 * get_or run.WORD_VALUES (8 * z + y / 2 ^ 13) 0 ≤ 0 + (8 * z + y / 2 ^ 13) =
    small-at 0 (8 * z + y / 2 ^ 13) run.WORD_VALUES refl (omega arith) in
    omega arith

pub six-found : (t y : ℕ) → 1 < t → t ≤ 15 → y < 2 ^ 16 →
    (get_or total.WORD_LENGTHS (64 * (t - 2) + y / 2 ^ 10) 0, get_or total.WORD_VALUES (64 * (t - 2) + y / 2 ^ 10) 0) ≡
    found_of (front_of 16 (rows_of (total_zeros_table 16 t)) y)
unfolding part all_fit entry_fits agrees total_zeros_table total_zeros_tables total_zeros_2 total_zeros_3 total_zeros_4 total_zeros_5 total_zeros_6
    total_zeros_7 total_zeros_8 total_zeros_9 total_zeros_10 total_zeros_11 total_zeros_12 total_zeros_13 total_zeros_14 total_zeros_15
six-found zero y p q h = absurd (omega arith)
six-found (suc zero) y p q h = absurd (omega arith)
six-found (suc (suc zero)) y p q h = six-bits 0 y total_zeros_2 h refl refl
six-found (suc (suc (suc zero))) y p q h = six-bits 64 y total_zeros_3 h refl refl
six-found (suc (suc (suc (suc zero)))) y p q h = six-bits 128 y total_zeros_4 h refl refl
six-found (suc (suc (suc (suc (suc zero))))) y p q h = six-bits 192 y total_zeros_5 h refl refl
six-found (suc (suc (suc (suc (suc (suc zero)))))) y p q h = six-bits 256 y total_zeros_6 h refl refl
six-found (suc (suc (suc (suc (suc (suc (suc zero))))))) y p q h = six-bits 320 y total_zeros_7 h refl refl
six-found (suc (suc (suc (suc (suc (suc (suc (suc zero)))))))) y p q h = six-bits 384 y total_zeros_8 h refl refl
six-found (suc (suc (suc (suc (suc (suc (suc (suc (suc zero))))))))) y p q h = six-bits 448 y total_zeros_9 h refl refl
six-found (suc (suc (suc (suc (suc (suc (suc (suc (suc (suc zero)))))))))) y p q h = six-bits 512 y total_zeros_10 h refl refl
six-found (suc (suc (suc (suc (suc (suc (suc (suc (suc (suc (suc zero))))))))))) y p q h = six-bits 576 y total_zeros_11 h refl refl
six-found (suc (suc (suc (suc (suc (suc (suc (suc (suc (suc (suc (suc zero)))))))))))) y p q h = six-bits 640 y total_zeros_12 h refl refl
six-found (suc (suc (suc (suc (suc (suc (suc (suc (suc (suc (suc (suc (suc zero))))))))))))) y p q h = six-bits 704 y total_zeros_13 h refl refl
six-found (suc (suc (suc (suc (suc (suc (suc (suc (suc (suc (suc (suc (suc (suc zero)))))))))))))) y p q h = six-bits 768 y total_zeros_14 h refl refl
six-found (suc (suc (suc (suc (suc (suc (suc (suc (suc (suc (suc (suc (suc (suc (suc zero))))))))))))))) y p q h = six-bits 832 y total_zeros_15 h refl refl
six-found (suc (suc (suc (suc (suc (suc (suc (suc (suc (suc (suc (suc (suc (suc (suc (suc t)))))))))))))))) y p q h = absurd (omega arith)

pub nine-found : (y : ℕ) → y < 2 ^ 16 → (get_or total.ONE_LENGTHS (y / 2 ^ 7) 0, get_or total.ONE_VALUES (y / 2 ^ 7) 0) ≡
    found_of (front_of 16 (rows_of (total_zeros_table 16 1)) y)
unfolding part all_fit entry_fits agrees total_zeros_table total_zeros_tables total_zeros_1
nine-found y h =
    let e : 0 + y / 2 ^ 7 ≡ y / 2 ^ 7 = omega arith in
    rw e at (found-in 512 7 0 y total.ONE_LENGTHS total.ONE_VALUES total_zeros_1 (omega arith) refl refl)

-- the words of coeff_token from entry n on, where a block is none of chroma DC
pub token-found : (nc n y : ℕ) → y < 2 ^ 16 → (nc < 2 → n ≡ 0) → (2 ≤ nc → nc < 4 → n ≡ 256) → (4 ≤ nc → nc < 8 → n ≡ 512) → (8 ≤ nc → n ≡ 768) →
    0 < get_or token.WORD_LENGTHS (n + y / 2 ^ 8) 0 →
    (get_or token.WORD_LENGTHS (n + y / 2 ^ 8) 0, get_or token.WORD_VALUES (n + y / 2 ^ 8) 0) ≡ found_of (front_of 16 (rows_of (coeff_token_by nc)) y)
unfolding part some_fit entry_fits agrees coeff_token_nc0 coeff_token_nc2 coeff_token_nc4 coeff_token_nc8
token-found nc n y h one three seven more some = elim (cases_lt nc 2) [
  | inl below ↦ rw (lt-ltb nc 2 below) (eight-bits 0 n y coeff_token_nc0 (one below) h refl refl some)
  | inr two ↦ rw (le-ltb nc 2 (omega arith)) (elim (cases_lt nc 4) [
    | inl below ↦ rw (lt-ltb nc 4 below) (eight-bits 256 n y coeff_token_nc2 (three (omega arith) below) h refl refl some)
    | inr four ↦ rw (le-ltb nc 4 (omega arith)) (elim (cases_lt nc 8) [
      | inl below ↦ rw (lt-ltb nc 8 below) (eight-bits 512 n y coeff_token_nc4 (seven (omega arith) below) h refl refl some)
      | inr eight ↦ rw (le-ltb nc 8 (omega arith)) (eight-bits 768 n y coeff_token_nc8 (more (omega arith)) h refl refl some)
    ])
  ])
]

-- a word that was found
pub word-is : (o : Option Row) (p : ℕ × ℕ) → 0 < p.0 → p ≡ found_of o → (let e : Entry = record { length = p.0; value = p.1 } in Some e) ≡ option_map entry_of o
word-is None p some e = let z : p.0 ≡ 0 = ap (λ (q : ℕ × ℕ). q.0) e in absurd (omega arith)
word-is (Some r) p some e = rw e refl

-- a block that is none of chroma DC has its table of coeff_token by nC
pub token-other-size : (size nc : ℕ) → size ≢ 4 → coeff_token_table size nc ≡ coeff_token_by nc
unfolding coeff_token_table
token-other-size size nc h = rw (ne_eqb size 4 h) refl

-- blocks that are none of chroma DC have one choice of tables
pub other-size : (size t : ℕ) → size ≢ 4 → total_zeros_table size t ≡ total_zeros_table 16 t
unfolding total_zeros_table
other-size size t h = rw (ne_eqb size 4 h) refl

-- from zerosLeft 7 on there is one table
pub last-table : (z : ℕ) → 6 < z → run_before_table z ≡ RunBefore7
unfolding run_before_table run_before_tables
last-table z h = let e : min z 7 ≡ 7 = omega arith in rw e refl
