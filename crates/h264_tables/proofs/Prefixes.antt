-- Where one word goes on from another, both are the word of one row.
use Rattle.std.proofs.Common.{◌≡◌, ℕ, suc, ◌+◌, ◌*◌, ◌-◌, ◌/◌, ◌^◌, ◌<◌, ℤ, pos, Bool, true, false, List, [], ◌∷◌, ◌++◌, length, refl, ap, sym, ◌∙◌}
use Rattle.std.proofs.Common.{arith, ◌⊎◌, inl, inr}
use Rattle.std.proofs.lemmas.Bool.{and_parts, eq-eqb, le-leb, false≢true}
use Rattle.std.proofs.lemmas.Nat.{pow-add, shr_high}
use Rattle.std.proofs.Common.{length-append}
use Rattle.h264_base.specs.Table.{Row, CodeTable, IsRow, is_prefix, is_prefix_free}
use Rattle.h264_base.specs.Word.{Word, Words, IsWord, IsWordOf, number, digit}
use Rattle.h264_base.proofs.Rows.{apart-from as apart}

-- a row whose word another word begins with is that other row
pub one-row : (rows : List Row) (r q : Row) → is_prefix_free rows ≡ true → IsRow rows r → IsRow rows q → is_prefix r q ≡ true → r ≡ q
unfolding is_prefix_free
one-row [] r q h m n p = absurd m
one-row (s ∷ rows) r q h (inl e) (inl f) p = sym e ∙ f
one-row (s ∷ rows) r q h (inl e) (inr n) p =
    absurd (let a = (apart s q rows (and_parts _ _ h).0 n).0 in let b : is_prefix s q ≡ true = (rw (← e) at p) in false≢true (sym a ∙ b))
one-row (s ∷ rows) r q h (inr m) (inl f) p =
    absurd (let a = (apart s r rows (and_parts _ _ h).0 m).1 in let b : is_prefix r s ≡ true = (rw (← f) at p) in false≢true (sym a ∙ b))
one-row (s ∷ rows) r q h (inr m) (inr n) p = one-row rows r q (and_parts _ _ h).1 m n p

digit-cases : (b : Bool) (p : ℕ) → (digit b * p ≡ 0) ⊎ (digit b * p ≡ p)
digit-cases true p = inr (omega arith)
digit-cases false p = inl (omega arith)

number-below : (w : Word) → number w < 2 ^ length w
number-below [] = omega arith
number-below (b ∷ w) = let h = number-below w in let g = digit-cases b (2 ^ length w) in
    let e : 2 ^ suc (length w) ≡ 2 ^ length w + 2 ^ length w = grind arith in omega arith

pub spread : (b p q x y : ℕ) → b * (p * q) + (x * q + y) ≡ (b * p + x) * q + y
spread b p q x y = grind arith

-- the digits of a word, and then those of the rest
number-append : (w rest : Word) → number (w ++ rest) ≡ number w * 2 ^ length rest + number rest
number-append [] rest = omega arith
number-append (b ∷ w) rest =
    let l = length-append w rest in
    rw (number-append w rest, l, pow-add 2 (length w) (length rest)) (spread (digit b) (2 ^ length w) (2 ^ length rest) (number w) (number rest))

prefix : (r q : Row) (w rest : Word) → IsWordOf r w → IsWordOf q (w ++ rest) → is_prefix r q ≡ true
unfolding is_prefix
prefix r q w rest h g =
    let a = h.0 in
    let b = g.0 in
    let l = length-append w rest in
    let k : q.length - r.length ≡ length rest = omega arith in
    let n : q.bits ≡ number w * 2 ^ length rest + number rest = sym g.1 ∙ number-append w rest in
    let s : (number w * 2 ^ length rest + number rest) / 2 ^ length rest ≡ number w = shr_high (number w) (length rest) (number rest) (number-below rest) in
    rw (le-leb r.length q.length (omega arith), k, n, s) (eq-eqb _ _ h.1)

none-left : (rest : Word) → length rest ≡ 0 → rest ≡ []
none-left [] e = refl
none-left (b ∷ rest) e = absurd (omega arith)

pub one-word : (table : CodeTable) (word rest : Word) (v u : ℤ) → IsWord (Words table) word v → IsWord (Words table) (word ++ rest) u → (rest ≡ []) × (v ≡ u)
one-word table word rest v u h g =
    let same = one-row table.rows h.0 g.0 table.free h.1 g.1 (prefix h.0 g.0 word rest h.2 g.2) in
    let a = h.2.0 in
    let b = g.2.0 in
    let l = length-append word rest in
    let e = ap (λ (r : Row). r.length) same in
    (none-left rest (omega arith), h.3 ∙ ap (λ (r : Row). pos r.value) same ∙ sym g.3)
