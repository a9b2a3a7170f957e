-- No sample differs exactly where all are the same.
use Rattle.std.proofs.Common.{◌≡◌, ℕ, ◌+◌, ◌==◌, Bool, true, false, List, [], ◌∷◌, ◌++◌, length, map, None, Some, if◌then◌else◌, refl, sym, ap, ap₂, ◌∙◌, arith}
use Rattle.std.specs.List.{All}
use Rattle.std.proofs.lemmas.Bool.Decides.{nat_tests}
use Rattle.std.proofs.lemmas.List.Elements.{All-head, All-tail}
use Rattle.h264_compare.specs.declared.shown.ShownFrame.{ShownFrame}
use Rattle.h264_compare.specs.declared.numbers.Difference.{Difference}
use Rattle.h264_compare.specs.Differences.{differences, difference, first_of}
use Rattle.h264_compare.specs.Numbers.{Compared, differences_of}
use Rattle.h264_compare.specs.Compared.{IsWhole}
use Rattle.h264_compare.proofs.Noting.{differences-same}

none-first : (xs : List Difference) → first_of xs ≡ None → xs ≡ []
none-first [] e = refl
none-first (x ∷ xs) e = let f : Some x ≡ None = e in cc

none-left : (xs ys : List Difference) → xs ++ ys ≡ [] → xs ≡ []
none-left [] ys e = refl
none-left (x ∷ xs) ys e = let f : x ∷ (xs ++ ys) ≡ [] = e in cc

none-right : (xs ys : List Difference) → xs ++ ys ≡ [] → ys ≡ []
none-right [] ys e = e
none-right (x ∷ xs) ys e = let f : x ∷ (xs ++ ys) ≡ [] = e in cc

same-by : (b : Bool) (m g : ℕ) (d : Difference) → (m == g) ≡ b → (if b then [] else d ∷ []) ≡ [] → m ≡ g
same-by true m g d is none = grind (arith, nat_tests)
same-by false m g d is none = let f : d ∷ [] ≡ [] = none in cc

all-same : (f : ShownFrame) (byte : ℕ) (ms gs : List ℕ) → length gs ≡ length ms → differences f byte ms gs ≡ [] → gs ≡ ms
unfolding differences
all-same f byte [] [] long none = refl
all-same f byte [] (g ∷ gs) long none = absurd (omega (arith, long))
all-same f byte (m ∷ ms) [] long none = absurd (omega (arith, long))
all-same f byte (m ∷ ms) (g ∷ gs) long none =
    let d = difference f byte m g in
    let here = none-left (if m == g then [] else d ∷ []) (differences f (byte + 1) ms gs) none in
    let later = none-right (if m == g then [] else d ∷ []) (differences f (byte + 1) ms gs) none in
    ap₂ (λ x l. x ∷ l) (sym (same-by (m == g) m g d refl here)) (all-same f (byte + 1) ms gs (omega (arith, long)) later)

pub frames-same : (fs : List Compared) → All IsWhole fs → first_of (differences_of fs) ≡ None → map (λ f. f.given) fs ≡ map (λ f. f.made) fs
frames-same fs whole none = go fs whole (none-first (differences_of fs) none)
  where
    go : (fs : List Compared) → All IsWhole fs → differences_of fs ≡ [] → map (λ f. f.given) fs ≡ map (λ f. f.made) fs
    go [] whole none = refl
    go (f ∷ fs) whole none =
        ap₂ (λ x l. x ∷ l) (all-same f.shown 0 f.made f.given (All-head IsWhole f fs whole) (none-left _ (differences_of fs) none))
        (go fs (All-tail IsWhole f fs whole) (none-right (differences f.shown 0 f.made f.given) _ none))

pub none-differ : (fs : List Compared) → map (λ f. f.given) fs ≡ map (λ f. f.made) fs → differences_of fs ≡ []
none-differ [] same = refl
none-differ (f ∷ fs) same =
    let here : f.given ≡ f.made = cc in
    let later : map (λ f. f.given) fs ≡ map (λ f. f.made) fs = cc in
    ap₂ (λ a b. a ++ b) (ap (differences f.shown 0 f.made) here ∙ differences-same f.shown 0 f.made) (none-differ fs later)
