-- What holds at each of the first numbers.
use Rattle.std.proofs.Common.{ℕ, ◌<◌, arith, below_more}

pub below_2 : (P : ℕ → Type 0) → P 0 → P 1 → (k : ℕ) → k < 2 → P k
below_2 P a b = below_more P 1 (below_more P 0 (λ k p. absurd (let none : ⊥ = omega arith in none)) a) b

pub below_4 : (P : ℕ → Type 0) → P 0 → P 1 → P 2 → P 3 → (k : ℕ) → k < 4 → P k
below_4 P a b c d = below_more P 3 (below_more P 2 (below_2 P a b) c) d

pub below_8 : (P : ℕ → Type 0) → P 0 → P 1 → P 2 → P 3 → P 4 → P 5 → P 6 → P 7 → (k : ℕ) → k < 8 → P k
below_8 P a b c d e f g h = below_more P 7 (below_more P 6 (below_more P 5 (below_more P 4 (below_4 P a b c d) e) f) g) h

pub below_16 : (P : ℕ → Type 0) → P 0 → P 1 → P 2 → P 3 → P 4 → P 5 → P 6 → P 7 → P 8 → P 9 → P 10 → P 11 → P 12 → P 13 → P 14 → P 15 → (k : ℕ) → k < 16 → P k
below_16 P a b c d e f g h i j k l m n o p =
    below_more P 15 (below_more P 14 (below_more P 13 (below_more P 12 (
    below_more P 11 (below_more P 10 (below_more P 9 (below_more P 8 (below_8 P a b c d e f g h) i) j) k) l) m) n) o) p
