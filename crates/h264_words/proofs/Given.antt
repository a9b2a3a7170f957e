-- What is found of words, by clap's rows of a subcommand.
use Rattle.std.proofs.Common.{◌≡◌, ℕ, ◌+◌, List, [], ◌∷◌, fold, cond, Bool, refl, Bor, Option, Some, None, map, option_map, unwrap_or, codes, sym, ap}
use Rattle.std.proofs.Common.{ap₂, ◌∙◌, arith}
use Rattle.std.specs.Prelude.{option_and_then}
use Rattle.std.specs.List.{count_by}
use Rattle.std.specs.Option.{is_some}
use Rattle.clap.specs.Words.{Row, Text, first_of, subcommand_name_of, subcommand_rows_of}
use Rattle.clap.specs.declared.parser.matches.ArgMatches.{ArgMatches}
use Rattle.h264_words.specs.Words.{Given, all_in, found_by, values_in}

-- the rows are those of the subcommand that was found, so what is asked of them is what is asked of it
pub of-rows : {X : Type 0} (of : List Row → Option X) (given : Given) (rows : List Row) → Some rows ≡ option_map (λ p. p.1) given →
    option_and_then (λ p. of p.1) given ≡ of rows
of-rows of None rows e = absurd (let d = e in cc)
of-rows of (Some p) rows e = ap (λ o. of (unwrap_or o rows)) (sym e)

-- a value is given exactly where one is found
pub some-given : {X Y : Type 0} (of : X → Y) (found : Option X) (given : Option Y) → option_map of found ≡ given → is_some found ≡ is_some given
some-given of None given e = ap is_some e
some-given of (Some x) given e = ap is_some e

-- the names of the files that are found are those that are given
pub names-given : (found : Option (Bor (List (Bor Text)))) (names none : Bor (List (Bor Text))) (given : Given) →
    option_map (λ s. map (λ v. v.now) s.now) found ≡ all_in given (codes "FILE") →
    names ≡ unwrap_or found none → none.now ≡ [] → map (λ v. v.now) names.now ≡ values_in given (codes "FILE")
names-given None names none given e is empty =
    let texts : Bor (List (Bor Text)) → List Text = λ b. map (λ v. v.now) b.now in
    ap texts is ∙ ap (map (λ (v : Bor Text). v.now)) empty ∙ ap (λ o. unwrap_or o []) e
names-given (Some s) names none given e is empty =
    let texts : Bor (List (Bor Text)) → List Text = λ b. map (λ v. v.now) b.now in
    ap texts is ∙ ap (λ o. unwrap_or o []) e

-- ---- names that are counted

fold-map : {X Y A : Type 0} (g : A → Y → A) (of : X → Y) (a : A) (xs : List X) → fold g a (map of xs) ≡ fold (λ b x. g b (of x)) a xs
fold-map g of a [] = refl
fold-map g of a (x ∷ xs) = fold-map g of (g a (of x)) xs

-- how many pass, of the things that elements are turned into
pub count-map : {X : Type 0} (p : Text → Bool) (of : X → Text) (xs : List X) → count_by p (map of xs) ≡ count_by (λ x. p (of x)) xs
count-map p of xs = let none : ℕ = 0 in fold-map (λ n y. n + cond (p y) 1 0) of none xs

-- ---- a subcommand that was found

fused : {A B C : Type 0} (f : A → B) (g : B → C) (o : Option A) → option_map g (option_map f o) ≡ option_map (λ x. g (f x)) o
fused f g None = refl
fused f g (Some x) = refl

pub none-some : {X : Type 0} (x : X) → None ≡ Some x → ⊥
none-some {X} x e = let none : ℕ = 0 in let n : none ≡ 1 = ap (λ (o : Option X). unwrap_or (option_map (λ y. 1) o) none) e in absurd (omega (arith, n))

pair-of : {A B : Type 0} (o : Option (A × B)) (a : A) (b : B) → option_map (λ p. p.0) o ≡ Some a → option_map (λ p. p.1) o ≡ Some b → o ≡ Some (a, b)
pair-of None a b p q = absurd (none-some a p)
pair-of (Some (x, y)) a b p q = ap₂ (λ u v. Some (u, v)) (ap (λ o. unwrap_or o a) p) (ap (λ o. unwrap_or o b) q)

-- the subcommand of matches that has this name and these rows
pub subcommand-rows : (m : ArgMatches) (name : Text) (rows : List Row) → Some name ≡ subcommand_name_of m →
    Some rows ≡ option_map (λ p. p.1) (subcommand_rows_of m) → subcommand_rows_of m ≡ Some (name, rows)
subcommand-rows m name rows p q = pair-of (subcommand_rows_of m) name rows (fused _ _ _ ∙ sym p) (sym q)

-- the subcommand's name, and the FILE among its rows
pub named : (m : ArgMatches) (name : Text) (rows : List Row) → subcommand_rows_of m ≡ Some (name, rows) → found_by m ≡ Some (name, first_of (codes "FILE") rows)
named m name rows e = let pick : Text × List Row → Text × Option Text = λ p. (p.0, first_of (codes "FILE") p.1) in ap (option_map pick) e
