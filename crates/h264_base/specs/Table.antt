-- Tables of code words (9.1.1, 9.1.2, 9.2). To be read beside the standard.
use Rattle.std.specs.Prelude.{◌≡◌, ℕ, ◌-◌, ◌/◌, ◌^◌, Bool, true, not, List, [], ◌∷◌, ◌==◌, ◌&&◌, ◌⊎◌, nat_le}

-- a row: a word, given by its length and the number that it spells, and what it stands for
pub record Row : Type 0 where
  pub length : ℕ
  pub bits : ℕ
  pub value : ℕ

abbrev pub row : ℕ → ℕ → ℕ → Row
row l b v = record { length = l; bits = b; value = v }

-- r is one of the rows
abbrev pub IsRow : List Row → Row → Type 0
IsRow [] r = ⊥
IsRow (q ∷ rows) r = (q ≡ r) ⊎ IsRow rows r

-- the word of r is the first part of the word of q
unfoldable pub is_prefix : Row → Row → Bool
is_prefix r q = nat_le r.length q.length && (q.bits / 2 ^ (q.length - r.length) == r.bits)

-- neither is the first part of the other, for each of the rows
unfoldable pub is_apart : Row → List Row → Bool
is_apart r [] = true
is_apart r (q ∷ rows) = not (is_prefix r q) && not (is_prefix q r) && is_apart r rows

-- no word is a prefix of another
unfoldable pub is_prefix_free : List Row → Bool
is_prefix_free [] = true
is_prefix_free (r ∷ rows) = is_apart r rows && is_prefix_free rows

-- rows of which no word is a prefix of another
pub record CodeTable : Type 0 where
  pub rows : List Row
  pub free : is_prefix_free rows ≡ true
