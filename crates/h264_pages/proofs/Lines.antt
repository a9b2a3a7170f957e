-- Lines with a prefix before each, character by character.
use Rattle.std.proofs.Common.{◌≡◌, ◌≢◌, ℕ, ◌==◌, List, [], ◌∷◌, ◌++◌, if◌then◌else◌, refl, sym, ap, ◌∙◌, arith}
use Rattle.std.proofs.lemmas.Bool.Decides.{nat_tests}
use Rattle.std.proofs.lemmas.List.{append-nil, append_assoc}
use Rattle.std.specs.Char.{encode_utf8}
use Rattle.h264_pages.specs.Pages.{Adds, text_on, prefixed_after}
use Rattle.h264_pages.specs.declared.pages.page.Page.{Page}

-- the last of these characters, or the one before them where there is none
abbrev pub last_of : ℕ → List ℕ → ℕ
last_of before [] = before
last_of before (c ∷ cs) = last_of c cs

-- of one more it is the last
pub last_of-more : (before : ℕ) (cs : List ℕ) (c : ℕ) → last_of before (cs ++ c ∷ []) ≡ c
last_of-more before [] c = refl
last_of-more before (d ∷ cs) c = last_of-more d cs c

-- what stands before a character that follows this one
abbrev pub prefix_after : List ℕ → ℕ → List ℕ
prefix_after prefix before = if before == 10 then prefix else []

-- where a line begins its prefix is put
pub line-begins : (a b m : Page) (prefix : List ℕ) (before : ℕ) → before ≡ 10 → Adds a b prefix → m ≡ b → Adds a m (prefix_after prefix before)
line-begins a b m prefix before ends adds same = rw (same, ends) adds

no-prefix : (prefix : List ℕ) (before : ℕ) → before ≢ 10 → prefix_after prefix before ≡ []
no-prefix prefix before within = grind (arith, nat_tests)

-- within a line none is
pub line-goes_on : (a m : Page) (prefix : List ℕ) (before : ℕ) → before ≢ 10 → m ≡ a → Adds a m (prefix_after prefix before)
line-goes_on a m prefix before within same = rw (same, no-prefix prefix before within) (λ whole. (whole, sym (append-nil (text_on a))))

-- one more character
pub prefixed_after-more : (prefix : List ℕ) (before : ℕ) (cs : List ℕ) (c : ℕ) →
    prefixed_after prefix before (cs ++ c ∷ []) ≡ prefixed_after prefix before cs ++ (prefix_after prefix (last_of before cs) ++ encode_utf8 c)
prefixed_after-more prefix before [] c = ap (λ l. prefix_after prefix before ++ l) (append-nil (encode_utf8 c))
prefixed_after-more prefix before (d ∷ cs) c =
    ap (λ l. prefix_after prefix before ++ (encode_utf8 d ++ l)) (prefixed_after-more prefix d cs c) ∙ simp append_assoc

-- a prefix where one stands, and a character
pub one-prefixed : (a b m n : Page) (prefix cs : List ℕ) (before c : ℕ) → before ≡ last_of 10 cs → Adds a b (prefixed_after prefix 10 cs) →
    Adds b m (prefix_after prefix before) → Adds m n (encode_utf8 c) → Adds a n (prefixed_after prefix 10 (cs ++ c ∷ []))
one-prefixed a b m n prefix cs before c is so_far begun ends short =
    let e = ends short in
    let d = begun e.0 in
    let f = so_far d.0 in
    (f.0, rw (e.1, d.1, f.1, prefixed_after-more prefix 10 cs c, ← is) (simp append_assoc))
