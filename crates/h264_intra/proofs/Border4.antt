use Rattle.std.proofs.Common.{◌≡◌, ℕ, zero, suc, ◌≤◌, arith, refl, ap, ◌∙◌, List, [], ◌∷◌, slice_index, Option, Some, None, unwrap_or}
use Rattle.h264_intra.specs.Luma4.{from_border, filled, sides4, around4, SameRound4}
use Rattle.h264_intra.specs.declared.luma4.Neighbours4.{Neighbours4}

abbrev zeros : List ℕ
zeros = 0 ∷ 0 ∷ 0 ∷ 0 ∷ []

abbrev four_of : ℕ → List ℕ
four_of x = x ∷ x ∷ x ∷ x ∷ []

-- the samples in one row
abbrev listed : List ℕ → ℕ → List ℕ → List ℕ → List ℕ
listed l c a r = slice_index l 3 ∷ slice_index l 2 ∷ slice_index l 1 ∷ slice_index l 0 ∷ c ∷ slice_index a 0 ∷ slice_index a 1 ∷ slice_index a 2 ∷ slice_index
    a 3 ∷ slice_index r 0 ∷ slice_index r 1 ∷ slice_index r 2 ∷ slice_index r 3 ∷ []

abbrev beside : Option (List ℕ) → Option (List ℕ) → Option (List ℕ) → Option ℕ → Neighbours4
beside l a r c = record { left = l; above = a; above_right = r; corner = c }

abbrev border : Option (List ℕ) → Option (List ℕ) → Option (List ℕ) → Option ℕ → List ℕ
border l a r c = listed (unwrap_or l zeros) (unwrap_or c 0) (unwrap_or a zeros) (unwrap_or r (four_of (slice_index (unwrap_or a zeros) 3)))

-- what holds at 0 to 8, and at 0 to 4
by_nine : (P : ℕ → Type 0) → P 0 → P 1 → P 2 → P 3 → P 4 → P 5 → P 6 → P 7 → P 8 → (k : ℕ) → k ≤ 8 → P k
by_nine P a b c d e f g h i zero p = a
by_nine P a b c d e f g h i (suc zero) p = b
by_nine P a b c d e f g h i (suc (suc zero)) p = c
by_nine P a b c d e f g h i (suc (suc (suc zero))) p = d
by_nine P a b c d e f g h i (suc (suc (suc (suc zero)))) p = e
by_nine P a b c d e f g h i (suc (suc (suc (suc (suc zero))))) p = f
by_nine P a b c d e f g h i (suc (suc (suc (suc (suc (suc zero)))))) p = g
by_nine P a b c d e f g h i (suc (suc (suc (suc (suc (suc (suc zero))))))) p = h
by_nine P a b c d e f g h i (suc (suc (suc (suc (suc (suc (suc (suc zero)))))))) p = i
by_nine P a b c d e f g h i (suc (suc (suc (suc (suc (suc (suc (suc (suc j))))))))) p = absurd (let q : ⊥ = omega arith in q)

by_five : (P : ℕ → Type 0) → P 0 → P 1 → P 2 → P 3 → P 4 → (k : ℕ) → k ≤ 4 → P k
by_five P a b c d e zero p = a
by_five P a b c d e (suc zero) p = b
by_five P a b c d e (suc (suc zero)) p = c
by_five P a b c d e (suc (suc (suc zero))) p = d
by_five P a b c d e (suc (suc (suc (suc zero)))) p = e
by_five P a b c d e (suc (suc (suc (suc (suc j))))) p = absurd (let q : ⊥ = omega arith in q)

row_is : (l a r : Option (List ℕ)) (c : Option ℕ) (k : ℕ) → k ≤ 8 →
    from_border (border l a r c) k 0 ≡ filled (sides4 (beside l a r c)) (around4 (beside l a r c)) k 0
row_is l None None None k p = by_nine (λ k. from_border (border l None None None) k 0 ≡
    filled (sides4 (beside l None None None)) (around4 (beside l None None None)) k 0) refl refl refl refl refl refl refl refl refl k p
row_is l None None (Some c) k p = by_nine
    (λ k. from_border (border l None None (Some c)) k 0 ≡ filled (sides4 (beside l None None (Some c))) (around4 (beside l None None (Some c))) k 0) refl refl
    refl refl refl refl refl refl refl k p
row_is l None (Some r) None k p = by_nine
    (λ k. from_border (border l None (Some r) None) k 0 ≡ filled (sides4 (beside l None (Some r) None)) (around4 (beside l None (Some r) None)) k 0) refl refl
    refl refl refl refl refl refl refl k p
row_is l None (Some r) (Some c) k p = by_nine
    (λ k. from_border (border l None (Some r) (Some c)) k 0 ≡
    filled (sides4 (beside l None (Some r) (Some c))) (around4 (beside l None (Some r) (Some c))) k 0) refl refl refl refl refl refl refl refl refl k p
row_is l (Some a) None None k p = by_nine
    (λ k. from_border (border l (Some a) None None) k 0 ≡ filled (sides4 (beside l (Some a) None None)) (around4 (beside l (Some a) None None)) k 0) refl refl
    refl refl refl refl refl refl refl k p
row_is l (Some a) None (Some c) k p = by_nine
    (λ k. from_border (border l (Some a) None (Some c)) k 0 ≡
    filled (sides4 (beside l (Some a) None (Some c))) (around4 (beside l (Some a) None (Some c))) k 0) refl refl refl refl refl refl refl refl refl k p
row_is l (Some a) (Some r) None k p = by_nine
    (λ k. from_border (border l (Some a) (Some r) None) k 0 ≡
    filled (sides4 (beside l (Some a) (Some r) None)) (around4 (beside l (Some a) (Some r) None)) k 0) refl refl refl refl refl refl refl refl refl k p
row_is l (Some a) (Some r) (Some c) k p =
    by_nine (λ k. from_border (border l (Some a) (Some r) (Some c)) k 0 ≡
    filled (sides4 (beside l (Some a) (Some r) (Some c))) (around4 (beside l (Some a) (Some r) (Some c))) k 0) refl refl refl refl refl refl refl refl refl k
    p

column_is : (l a r : Option (List ℕ)) (c : Option ℕ) (k : ℕ) → k ≤ 4 →
    from_border (border l a r c) 0 k ≡ filled (sides4 (beside l a r c)) (around4 (beside l a r c)) 0 k
column_is None a None None k p = by_five
    (λ k. from_border (border None a None None) 0 k ≡ filled (sides4 (beside None a None None)) (around4 (beside None a None None)) 0 k) refl refl refl refl
    refl k p
column_is None a None (Some c) k p = by_five
    (λ k. from_border (border None a None (Some c)) 0 k ≡ filled (sides4 (beside None a None (Some c))) (around4 (beside None a None (Some c))) 0 k) refl refl
    refl refl refl k p
column_is None a (Some r) None k p = by_five
    (λ k. from_border (border None a (Some r) None) 0 k ≡ filled (sides4 (beside None a (Some r) None)) (around4 (beside None a (Some r) None)) 0 k) refl refl
    refl refl refl k p
column_is None a (Some r) (Some c) k p =
    by_five (λ k. from_border (border None a (Some r) (Some c)) 0 k ≡
    filled (sides4 (beside None a (Some r) (Some c))) (around4 (beside None a (Some r) (Some c))) 0 k) refl refl refl refl refl k p
column_is (Some l) a None None k p = by_five
    (λ k. from_border (border (Some l) a None None) 0 k ≡ filled (sides4 (beside (Some l) a None None)) (around4 (beside (Some l) a None None)) 0 k) refl refl
    refl refl refl k p
column_is (Some l) a None (Some c) k p =
    by_five (λ k. from_border (border (Some l) a None (Some c)) 0 k ≡
    filled (sides4 (beside (Some l) a None (Some c))) (around4 (beside (Some l) a None (Some c))) 0 k) refl refl refl refl refl k p
column_is (Some l) a (Some r) None k p =
    by_five (λ k. from_border (border (Some l) a (Some r) None) 0 k ≡
    filled (sides4 (beside (Some l) a (Some r) None)) (around4 (beside (Some l) a (Some r) None)) 0 k) refl refl refl refl refl k p
column_is (Some l) a (Some r) (Some c) k p =
    by_five (λ k. from_border (border (Some l) a (Some r) (Some c)) 0 k ≡
    filled (sides4 (beside (Some l) a (Some r) (Some c))) (around4 (beside (Some l) a (Some r) (Some c))) 0 k) refl refl refl refl refl k p

pub border_is : (n : Neighbours4) (l a r : List ℕ) (c : ℕ) → l ≡ unwrap_or n.left zeros → a ≡ unwrap_or n.above zeros →
    r ≡ unwrap_or n.above_right (four_of (slice_index a 3)) → c ≡ unwrap_or n.corner 0 →
    SameRound4 (from_border (listed l c a r)) (filled (sides4 n) (around4 n))
border_is n l a r c p q s t =
    let e : r ≡ unwrap_or n.above_right (four_of (slice_index (unwrap_or n.above zeros) 3)) = s ∙
    ap (λ xs. unwrap_or n.above_right (four_of (slice_index xs 3))) q in
    rw (p, q, e, t) (record { row = row_is n.left n.above n.above_right n.corner; column = column_is n.left n.above n.above_right n.corner })
