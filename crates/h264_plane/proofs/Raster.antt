-- Inductions over the macroblocks of a picture, and the places before, in and after a macroblock.
use Rattle.std.proofs.Common.{◌≡◌, ◌⊎◌, inl, inr, ⊎_elim, ℕ, zero, suc, ◌+◌, ◌*◌, ◌/◌, ◌%◌, ◌<◌, ◌≤◌, arith, add-one, refl, sym, ◌∙◌}
use Rattle.std.proofs.lemmas.Bool.{cases_lt}
use Rattle.std.proofs.lemmas.Nat.{mod-mul-add, div-mul-add}
use Rattle.h264_plane.specs.Blocks.{number_of, column_of, row_of}
use Rattle.h264_plane.specs.Places.{Before, After, Agree, side}
use Rattle.h264_plane.specs.declared.frame.Component.{Component}
use Rattle.h264_plane.specs.declared.frame.Component.TheVariants.{Y, Cb, Cr}

-- ---- inductions

-- along a row
pub along : (P : ℕ → ℕ → Type 0) (w r : ℕ) → ((c : ℕ) → c < w → P c r → P (c + 1) r) → P 0 r → (c : ℕ) → c ≤ w → P c r
along P w r step start zero p = start
along P w r step start (suc c) p = rw (← add-one) (step c (omega arith) (along P w r step start c (omega arith)))

-- over the macroblocks before each row, of a picture of w by h
pub rows : (P : ℕ → ℕ → Type 0) (w h : ℕ) → P 0 0 → ((c r : ℕ) → c < w → r < h → P c r → P (c + 1) r) → ((r : ℕ) → r < h → P w r → P 0 (r + 1)) →
    (r : ℕ) → r ≤ h → P 0 r
rows P w h start step wrap zero p = start
rows P w h start step wrap (suc r) p =
    rw (← add-one) (wrap r (omega arith) (along P w r (λ c q. step c r q (omega arith)) (rows P w h start step wrap r (omega arith)) w (omega arith)))

-- over the macroblocks before each one
pub raster : (P : ℕ → ℕ → Type 0) (w h : ℕ) → P 0 0 → ((c r : ℕ) → c < w → r < h → P c r → P (c + 1) r) → ((r : ℕ) → r < h → P w r → P 0 (r + 1)) →
    (c r : ℕ) → c ≤ w → r < h → P c r
raster P w h start step wrap c r p q = along P w r (λ d i. step d r i q) (rows P w h start step wrap r (omega arith)) c p

-- What holds at column c and row r of macroblock n holds at those of the next: at the end of a row that is the next row's first.
pub next_place : (P : ℕ → ℕ → Type 0) (w n c r : ℕ) → n ≡ r * w + c → c < w → (P w r → P 0 (r + 1)) → P (c + 1) r → P ((n + 1) % w) ((n + 1) / w)
next_place P w n c r e k wrap done = ⊎_elim
    (λ (more : c + 1 < w).
    let column : (n + 1) % w ≡ c + 1 = rw e (let f : r * w + c + 1 ≡ r * w + (c + 1) = omega arith in rw f (mod-mul-add r w (c + 1) more)) in
    let row : (n + 1) / w ≡ r = rw e (let f : r * w + c + 1 ≡ r * w + (c + 1) = omega arith in rw f (div-mul-add r w (c + 1) more)) in
    rw (column, row) done)
    (λ (last : w ≤ c + 1).
    let end : c + 1 ≡ w = omega arith in
    let f : r * w + c + 1 ≡ (r + 1) * w + 0 = omega arith in
    let column : (n + 1) % w ≡ 0 = rw (e, f) (mod-mul-add (r + 1) w 0 (omega arith)) in
    let row : (n + 1) / w ≡ r + 1 = rw (e, f) (div-mul-add (r + 1) w 0 (omega arith)) in
    rw (column, row) (wrap (rw end at done)))
    (cases_lt (c + 1) w)

-- ---- places

-- a place before the next macroblock is before this one or in it
pub or_in : (n c r x y : ℕ) → Before n (c + 1) r x y → (Before n c r x y) ⊎ ((n * c ≤ x) × ((x < n * c + n) × ((n * r ≤ y) × (y < n * r + n))))
or_in n c r x y (inl a) = inl (inl a)
or_in n c r x y (inr (a, b)) = ⊎_elim
    (λ above. inl (inl above))
    (λ here. ⊎_elim (λ left. inl (inr (a, left))) (λ right. inr (right, (omega arith, (here, a)))) (cases_lt x (n * c)))
    (cases_lt y (n * r))

-- where a row ends, the next begins
pub wrap_before : (n w r x y : ℕ) → x < n * w → Before n 0 (r + 1) x y → Before n w r x y
wrap_before n w r x y p (inl a) = inr (omega arith, p)
wrap_before n w r x y p (inr (a, b)) = inr (absurd (omega arith), p)

-- nothing is before the first macroblock
pub none_before : (n x y : ℕ) → Before n 0 0 x y → ⊥
none_before n x y (inl a) = omega arith
none_before n x y (inr (a, b)) = omega arith

-- each place of a picture of h rows of macroblocks is before the end of its last row
pub all_before : (n h x y : ℕ) → y < n * h → Before n 0 h x y
all_before n h x y p = inl p

-- a place is before a macroblock, or of it or a later one
pub before_or_after : (n c r x y : ℕ) → (Before n c r x y) ⊎ (After n c r x y)
before_or_after n c r x y = ⊎_elim
    (λ (above : y < n * r). inl (inl above))
    (λ (below : n * r ≤ y). ⊎_elim
    (λ (beside : y < n * r + n). ⊎_elim
    (λ (left : x < n * c). inl (inr (beside, left)))
    (λ (right : n * c ≤ x). inr (below, inr right))
    (cases_lt x (n * c)))
    (λ (under : n * r + n ≤ y). inr (below, inl under))
    (cases_lt y (n * r + n)))
    (cases_lt y (n * r))

-- and not both
pub before_not_after : (n c r x y : ℕ) → Before n c r x y → After n c r x y → ⊥
before_not_after n c r x y (inl a) (b, d) = omega arith
before_not_after n c r x y (inr (a, b)) (d, inl e) = omega arith
before_not_after n c r x y (inr (a, b)) (d, inr e) = omega arith

-- ---- samples that agree

pub agree_same : (n w c r : ℕ) (s : ℕ → ℕ → ℕ) → Agree n w c r s s
agree_same n w c r s = record { each = λ x y i b. refl }

pub agree_back : (n w c r : ℕ) (s t : ℕ → ℕ → ℕ) → Agree n w c r s t → Agree n w c r t s
agree_back n w c r s t h = record { each = λ x y i b. sym (h.each x y i b) }

pub agree_over : (n w c r : ℕ) (s t u : ℕ → ℕ → ℕ) → Agree n w c r s t → Agree n w c r t u → Agree n w c r s u
agree_over n w c r s t u h g = record { each = λ x y i b. h.each x y i b ∙ g.each x y i b }

pub agree_none : (n w : ℕ) (s t : ℕ → ℕ → ℕ) → Agree n w 0 0 s t
agree_none n w s t = record { each = λ x y i b. absurd (none_before n x y b) }

pub agree_wrap : (n w r : ℕ) (s t : ℕ → ℕ → ℕ) → Agree n w w r s t → Agree n w 0 (r + 1) s t
agree_wrap n w r s t h = record { each = λ x y i b. h.each x y i (wrap_before n w r x y i b) }

-- ---- sides and blocks

pub side_least : (p : Component) → 4 ≤ side p
side_least Y = omega arith
side_least Cb = omega arith
side_least Cr = omega arith

pub index_back : (b : ℕ) → b < 16 → number_of (column_of b) (row_of b) ≡ b
unfolding number_of column_of row_of
index_back b p = omega arith

pub index_once : (b x y : ℕ) → x < 4 → y < 4 → number_of x y ≡ b → (x ≡ column_of b) × (y ≡ row_of b)
unfolding number_of column_of row_of
index_once b x y p q e = (omega arith, omega arith)
