-- The edges of a macroblock, from what is kept of it and of the macroblocks beside it.
use Rattle.std.proofs.Common.{◌≡◌, ⊎_elim, ℕ, zero, suc, ◌+◌, ◌-◌, ◌*◌, ◌%◌, ◌<◌, ◌≤◌, ◌==◌, Bool, true, false, IsTrue, ◌&&◌, ◌||◌, List, [], ◌∷◌, length}
use Rattle.std.proofs.Common.{get_or, nat_lt, Option, Some, None, is_some, ℤ, pos, ◌-ℤ◌, refl, ap, sym, ◌∙◌, arith, eq-eqb, if◌then◌else◌}
use Rattle.std.specs.Ordering.{int_eq}
use Rattle.std.specs.List.{list_all}
use Rattle.std.specs.Option.{option_map}
use Rattle.std.proofs.lemmas.Bool.{and_parts, eqb-true, cases_lt}
use Rattle.std.proofs.lemmas.Int.{ints}
use Rattle.std.proofs.lemmas.List.{get_or_past}
use Rattle.std.proofs.lemmas.Option.{get_or_from_slice_get}
use Rattle.std.proofs.lemmas.Bool.Decides.{nat_tests, Decides-int_eq}
use Rattle.h264_tables.specs.declared.thresholds.Strength.TheVariants.{One, Two, Three}
use Rattle.h264_plane.specs.declared.frame.Component.{Component}
use Rattle.h264_plane.specs.declared.frame.Component.TheVariants.{Y, Cb, Cr}
use Rattle.h264_plane.specs.Blocks.{number_of}
use Rattle.h264_near.specs.Coded.{CodedMacroblock, is_intra, chroma_number_of, are_blank}
use Rattle.h264_near.specs.Keeps.{AreContexts, Borders, IsEdge, filter_qp_of}
use Rattle.h264_near.specs.Raster.{last_in, last_left}
use Rattle.h264_near.specs.declared.context.Contexts.{Contexts}
use Rattle.h264_near.specs.declared.context.Edge.{Edge}
use Rattle.h264_near.specs.declared.motion.Motion.{Motion}
use Rattle.h264_near.specs.declared.motion.Vector.{Vector}
use Rattle.h264_near.proofs.Neighbours.{last-above}
use Rattle.h264_near.proofs.Places.{quotient, remainder, number-below}
use Rattle.h264_deblock.specs.Filtering.{PlaneEdges}
use Rattle.h264_deblock.specs.Strength.{Side, side_part, far, moves_apart, strength_of}
use Rattle.h264_deblock.specs.declared.slice_filter.Deblocking.TheVariants.{Off}
use Rattle.h264_deblock.specs.Steps.{NamedBorder as Border}
use Rattle.h264_deblock.specs.declared.edge_parameters.EdgeParameters.{EdgeParameters}
use Rattle.h264_deblock.specs.declared.edge_parameters.BoundaryStrength.{BoundaryStrength}
use Rattle.h264_deblock.specs.declared.edge_parameters.BoundaryStrength.TheVariants.{Zero, BelowFour, Four}
use Rattle.h264_deblock.specs.declared.slice_filter.SliceFilter.{SliceFilter}
use Rattle.h264_deblock.specs.CodedEdges.{named, block_at, strength_at, strengths, plane_qp, edge_of, filters, border, inner, edges_along, coded_edges}
use Rattle.h264_deblock.specs.Steps.{LiesAlong, block_beside, number_at, inter_strength, inner_lines, alike, are_like, are_alike, IsEven}
use Rattle.h264_deblock.specs.Steps.{is_steady, side_qp, border_of, border_edge, inner_edge}
use Rattle.h264_deblock.specs.Level.{parameters}
use Rattle.h264_plane.specs.Frames.{is_chroma}

-- ---- blocks

-- a block of the macroblock beside, by its number
side-is : (luma : ℕ → ℕ) (chroma : ℕ → ℕ → ℕ) (x y k : ℕ) (e : Edge) (m : CodedMacroblock) → k < 4 → luma k ≡ number_of x y → Borders luma chroma e m →
    side_part x y m ≡ Some (block_beside e k)
unfolding side_part
side-is luma chroma x y k e m h n i = rw (i.intra, sym n, i.motions k h, get_or_from_slice_get m.totals (luma k) _ 0 (i.totals k h)) refl

beside-block : (v : Bool) (e : Edge) (m : CodedMacroblock) (k : ℕ) → k < 4 → LiesAlong v e m → block_at v 3 k m ≡ Some (block_beside e k)
unfolding block_at
beside-block true e m k h i = side-is (λ k. number_of 3 k) (λ c k. chroma_number_of c 1 k) 3 k k e m h refl i
beside-block false e m k h i = side-is (λ k. number_of k 3) (λ c k. chroma_number_of c k 1) k 3 k e m h refl i

pub beside-slice : (v : Bool) (e : Edge) (m : CodedMacroblock) → LiesAlong v e m → m.slice ≡ e.slice
beside-slice true e m i = i.slice
beside-slice false e m i = i.slice

pub beside-intra : (v : Bool) (e : Edge) (m : CodedMacroblock) → LiesAlong v e m → is_intra m.prediction ≡ e.intra
beside-intra true e m i = i.intra
beside-intra false e m i = i.intra

beside-qp : (v : Bool) (e : Edge) (m : CodedMacroblock) → LiesAlong v e m → filter_qp_of m.prediction m.qp ≡ e.qp
beside-qp true e m i = i.qp
beside-qp false e m i = i.qp

-- ---- bS

inner-is : (v : Bool) (line k : ℕ) (m : CodedMacroblock) (p q : Side) (n : BoundaryStrength) → 0 < line → line < 4 → block_at v (line - 1) k m ≡ Some p →
    block_at v line k m ≡ Some q → n ≡ named (strength_of false p q) → n ≡ strength_at v line m m k
unfolding strength_at
inner-is v line k m p q n some h a b e =
    let l : (line + 3) % 4 ≡ line - 1 = omega arith in
    let z : (line == 0) ≡ false = grind (arith, nat_tests) in
    rw (l, z, a, b) e

outer-is : (v : Bool) (k : ℕ) (e : Edge) (p q : CodedMacroblock) (s : Side) (n : BoundaryStrength) → k < 4 → LiesAlong v e p → block_at v 0 k q ≡ Some s →
    n ≡ named (strength_of true (block_beside e k) s) → n ≡ strength_at v 0 p q k
unfolding strength_at
outer-is v k e p q s n h i b is = rw (beside-block v e p k h i, b) is

pub four : (v : Bool) (line : ℕ) (p q : CodedMacroblock) (a b c d : BoundaryStrength) → a ≡ strength_at v line p q 0 → b ≡ strength_at v line p q 1 →
    c ≡ strength_at v line p q 2 → d ≡ strength_at v line p q 3 → a ∷ b ∷ c ∷ d ∷ [] ≡ strengths v line p q
unfolding strengths
four v line p q a b c d e f g h = rw (e, f, g, h) refl

pub three : (v : Bool) (q : CodedMacroblock) (a b c : List BoundaryStrength) → a ≡ strengths v 1 q q → b ≡ strengths v 2 q q → c ≡ strengths v 3 q q →
    a ∷ b ∷ c ∷ [] ≡ inner_lines v q
unfolding inner_lines
three v q a b c e f g = rw (e, f, g) refl

-- ---- blocks of which none is intra

pub few-at : (v : Bool) (line k : ℕ) → line < 4 → k < 4 → number_at v line k < 16
few-at true line k h g = number-below line k h g
few-at false line k h g = number-below k line g h

-- a block that is not intra
abbrev inter-side : Bool → Option Motion → Side
inter-side coded motion = record { intra = false; coded = coded; motion = motion }

inter-is : (o a b : Bool) (p q : Option Motion) → inter_strength (a || b) p q ≡ named (strength_of o (inter-side a p) (inter-side b q))
unfolding strength_of
inter-is o a b p q = go (a || b) (moves_apart p q) refl refl
  where
    go : (x y : Bool) → (a || b) ≡ x → moves_apart p q ≡ y →
        (if a || b then BelowFour Two else if moves_apart p q then BelowFour One else Zero) ≡ named (if a || b then 2 else if moves_apart p q then 1 else 0)
    go true y e f = rw e refl
    go false true e f = rw (e, f) refl
    go false false e f = rw (e, f) refl

own-side : (c : Contexts) (m : CodedMacroblock) (x y : ℕ) → AreContexts c m → c.intra ≡ false → x < 4 → y < 4 →
    side_part x y m ≡ Some (inter-side (nat_lt 0 (get_or c.totals (number_of x y) 0)) (get_or c.motions (number_of x y) None))
unfolding side_part
own-side c m x y s i h k = let n = number-below x y h k in rw (s.intra, i, s.totals, s.motions (number_of x y) n) refl

own-block : (v : Bool) (c : Contexts) (m : CodedMacroblock) (line k : ℕ) → AreContexts c m → c.intra ≡ false → line < 4 → k < 4 →
    block_at v line k m ≡ Some (inter-side (nat_lt 0 (get_or c.totals (number_at v line k) 0)) (get_or c.motions (number_at v line k) None))
unfolding block_at
own-block true c m line k s i h g = own-side c m line k s i h g
own-block false c m line k s i h g = own-side c m k line s i g h

pub inner-by : (v : Bool) (line k : ℕ) (c : Contexts) (m : CodedMacroblock) (n : BoundaryStrength) → 0 < line → line < 4 → k < 4 → AreContexts c m →
    c.intra ≡ false →
    n ≡ inter_strength (nat_lt 0 (get_or c.totals (number_at v (line - 1) k) 0) || nat_lt 0 (get_or c.totals (number_at v line k) 0))
    (get_or c.motions (number_at v (line - 1) k) None) (get_or c.motions (number_at v line k) None) → n ≡ strength_at v line m m k
inner-by v line k c m n some h g s i e =
    inner-is v line k m _ _ n some h (own-block v c m (line - 1) k s i (omega arith) g) (own-block v c m line k s i h g) (e ∙ inter-is false _ _ _ _)

beside-side : (e : Edge) (k : ℕ) → e.intra ≡ false → inter-side (nat_lt 0 (get_or e.totals k 0)) (get_or e.motions k None) ≡ block_beside e k
beside-side e k i = rw i refl

pub outer-by : (v : Bool) (k : ℕ) (e : Edge) (c : Contexts) (p q : CodedMacroblock) (n : BoundaryStrength) → k < 4 → LiesAlong v e p → AreContexts c q →
    e.intra ≡ false → c.intra ≡ false →
    n ≡ inter_strength (nat_lt 0 (get_or e.totals k 0) || nat_lt 0 (get_or c.totals (number_at v 0 k) 0)) (get_or e.motions k None)
    (get_or c.motions (number_at v 0 k) None) → n ≡ strength_at v 0 p q k
outer-by v k e c p q n h b s i j is =
    let other = inter-side (nat_lt 0 (get_or c.totals (number_at v 0 k) 0)) (get_or c.motions (number_at v 0 k) None) in
    outer-is v k e p q other n h b (own-block v c q 0 k s j (omega arith) h)
    (is ∙ (inter-is true _ _ _ _ ∙ ap (λ z. named (strength_of true z other)) (beside-side e k i)))

-- ---- intra

or-true : (b : Bool) → (b || true) ≡ true
or-true true = refl
or-true false = refl

strong-outer : (v : Bool) (k : ℕ) (p q : CodedMacroblock) → (is_intra p.prediction || is_intra q.prediction) ≡ true → Four ≡ strength_at v 0 p q k
unfolding strength_at block_at side_part strength_of
strong-outer true k p q e = rw e refl
strong-outer false k p q e = rw e refl

strong-inner : (v : Bool) (line k : ℕ) (q : CodedMacroblock) → is_intra q.prediction ≡ true → BelowFour Three ≡ strength_at v (suc line) q q k
unfolding strength_at block_at side_part strength_of
strong-inner true line k q e = let z : (suc line == 0) ≡ false = grind (arith, nat_tests) in rw (e, z) refl
strong-inner false line k q e = let z : (suc line == 0) ≡ false = grind (arith, nat_tests) in rw (e, z) refl

strong-border : (v : Bool) (p q : CodedMacroblock) → (is_intra p.prediction || is_intra q.prediction) ≡ true →
    Four ∷ Four ∷ Four ∷ Four ∷ [] ≡ strengths v 0 p q
strong-border v p q e = four v 0 p q Four Four Four Four (strong-outer v 0 p q e) (strong-outer v 1 p q e) (strong-outer v 2 p q e) (strong-outer v 3 p q e)

pub strong-by-p : (v : Bool) (p q : CodedMacroblock) (b : Bool) → is_intra p.prediction ≡ b → b ≡ true → Four ∷ Four ∷ Four ∷ Four ∷ [] ≡ strengths v 0 p q
strong-by-p v p q b e t = strong-border v p q (rw (e, t) refl)

pub strong-by-q : (v : Bool) (p q : CodedMacroblock) (b : Bool) → is_intra q.prediction ≡ b → b ≡ true → Four ∷ Four ∷ Four ∷ Four ∷ [] ≡ strengths v 0 p q
strong-by-q v p q b e t = strong-border v p q (rw (e, t) (or-true (is_intra p.prediction)))

strong-line : (v : Bool) (line : ℕ) (q : CodedMacroblock) → is_intra q.prediction ≡ true →
    BelowFour Three ∷ BelowFour Three ∷ BelowFour Three ∷ BelowFour Three ∷ [] ≡ strengths v (suc line) q q
strong-line v line q e = four v (suc line) q q _ _ _ _ (strong-inner v line 0 q e) (strong-inner v line 1 q e) (strong-inner v line 2 q e)
    (strong-inner v line 3 q e)

abbrev threes : List BoundaryStrength
threes = BelowFour Three ∷ BelowFour Three ∷ BelowFour Three ∷ BelowFour Three ∷ []

pub strong-lines : (v : Bool) (q : CodedMacroblock) (b : Bool) → is_intra q.prediction ≡ b → b ≡ true → threes ∷ threes ∷ threes ∷ [] ≡ inner_lines v q
strong-lines v q b e t = three v q threes threes threes (strong-line v 0 q (e ∙ t)) (strong-line v 1 q (e ∙ t)) (strong-line v 2 q (e ∙ t))

-- ---- a macroblock whose blocks nothing tells apart

at-all : {A : Type 0} (p : A → Bool) (xs : List A) (n : ℕ) (d : A) → list_all p xs ≡ true → n < length xs → p (get_or xs n d) ≡ true
at-all p [] n d e h = absurd (omega arith)
at-all p (x ∷ xs) zero d e h = (and_parts (p x) (list_all p xs) e).0
at-all p (x ∷ xs) (suc n) d e h = at-all p xs n d (and_parts (p x) (list_all p xs) e).1 (omega arith)

pub blank : (totals : List ℕ) (n : ℕ) → are_blank totals ≡ true → n < length totals → nat_lt 0 (get_or totals n 0) ≡ false
blank totals n e h = let z : get_or totals n 0 ≡ 0 = eqb-true (get_or totals n 0) 0 (at-all (λ t. t == 0) totals n 0 e h) in rw z refl

self-far : (v : Vector) → far v v ≡ false
self-far v = let x : v.x -ℤ v.x ≡ pos 0 = omega (arith, ints) in let y : v.y -ℤ v.y ≡ pos 0 = omega (arith, ints) in rw (x, y) refl

same-far : (a b f : Vector) → int_eq a.x f.x ≡ true → int_eq a.y f.y ≡ true → int_eq b.x f.x ≡ true → int_eq b.y f.y ≡ true → far a b ≡ false
same-far a b f p q r s =
    let x : a.x ≡ f.x = (Decides-int_eq a.x f.x).0 p in let y : a.y ≡ f.y = (Decides-int_eq a.y f.y).0 q in
    let z : b.x ≡ f.x = (Decides-int_eq b.x f.x).0 r in let w : b.y ≡ f.y = (Decides-int_eq b.y f.y).0 s in
    rw (x, y, z, w) (self-far f)

pub same-moves : (a b f : Option Motion) → alike a f ≡ true → alike b f ≡ true → moves_apart a b ≡ false
same-moves None b f e g = refl
same-moves (Some a) None f e g = refl
same-moves (Some a) (Some b) None e g = absurd (cc)
same-moves (Some a) (Some b) (Some f) e g =
    let p = and_parts (a.picture == f.picture && int_eq a.vector.x f.vector.x) (int_eq a.vector.y f.vector.y) e in
    let v = and_parts (a.picture == f.picture) (int_eq a.vector.x f.vector.x) p.0 in
    let q = and_parts (b.picture == f.picture && int_eq b.vector.x f.vector.x) (int_eq b.vector.y f.vector.y) g in
    let w = and_parts (b.picture == f.picture) (int_eq b.vector.x f.vector.x) q.0 in
    let x : a.picture ≡ f.picture = eqb-true a.picture f.picture v.0 in
    let y : b.picture ≡ f.picture = eqb-true b.picture f.picture w.0 in
    let z : (a.picture == b.picture) ≡ true = rw (x, y) (eq-eqb f.picture f.picture refl) in
    rw (z, same-far a.vector b.vector f.vector v.1 p.1 w.1 q.1) refl

still-left : (a b : Option Motion) → a ≡ None → moves_apart a b ≡ false
still-left a b e = rw e refl

still-right : (a b : Option Motion) → b ≡ None → moves_apart a b ≡ false
still-right None b e = refl
still-right (Some a) b e = rw e refl

pub same-all : (xs ys : List (Option Motion)) (f : Option Motion) (i j : ℕ) → are_like f xs ≡ true → are_like f ys ≡ true →
    moves_apart (get_or xs i None) (get_or ys j None) ≡ false
same-all xs ys f i j a b = ⊎_elim
    (λ (h : i < length xs). ⊎_elim
    (λ (k : j < length ys). let p : Option Motion → Bool = λ m. alike m f in
    same-moves (get_or xs i None) (get_or ys j None) f (at-all p xs i None a h) (at-all p ys j None b k))
    (λ (k : length ys ≤ j). still-right (get_or xs i None) (get_or ys j None) (get_or_past ys j None k))
    (cases_lt j (length ys)))
    (λ (h : length xs ≤ i). still-left (get_or xs i None) (get_or ys j None) (get_or_past xs i None h))
    (cases_lt i (length xs))

pub alike-self : (m : Option Motion) → alike m m ≡ true
alike-self None = refl
alike-self (Some a) = rw (eq-eqb a.picture a.picture refl, (Decides-int_eq a.vector.x a.vector.x).1 refl, (Decides-int_eq a.vector.y a.vector.y).1 refl) refl

-- one motion does not move apart
pub none-apart : (a b : Option Motion) → a ≡ b → moves_apart a b ≡ false
none-apart a b e = rw e (same-moves b b b (alike-self b) (alike-self b))

even-strength : (a b : Bool) (p q : Option Motion) → a ≡ false → b ≡ false → moves_apart p q ≡ false → Zero ≡ inter_strength (a || b) p q
even-strength a b p q e f g = rw (e, f, g) refl

module _ (v : Bool) (c : Contexts) (m : CodedMacroblock) (s : AreContexts c m) (l : length c.totals ≡ 16) (i : c.intra ≡ false) (even : IsEven c) where
  even-at : (line k : ℕ) → 0 < line → line < 4 → k < 4 → Zero ≡ strength_at v line m m k
  even-at line k some h g =
      let p : number_at v (line - 1) k < 16 = few-at v (line - 1) k (omega arith) g in
      let q : number_at v line k < 16 = few-at v line k h g in
      inner-by v line k c m Zero some h g s i
      (even-strength (nat_lt 0 (get_or c.totals (number_at v (line - 1) k) 0)) (nat_lt 0 (get_or c.totals (number_at v line k) 0))
      (get_or c.motions (number_at v (line - 1) k) None) (get_or c.motions (number_at v line k) None)
      (blank c.totals (number_at v (line - 1) k) even.blank (omega arith)) (blank c.totals (number_at v line k) even.blank (omega arith))
      (none-apart (get_or c.motions (number_at v (line - 1) k) None) (get_or c.motions (number_at v line k) None)
      (even.one.each (number_at v (line - 1) k) p ∙ sym (even.one.each (number_at v line k) q))))

  even-line : (line : ℕ) → 0 < line → line < 4 → Zero ∷ Zero ∷ Zero ∷ Zero ∷ [] ≡ strengths v line m m
  even-line line some h = four v line m m Zero Zero Zero Zero (even-at line 0 some h (omega arith)) (even-at line 1 some h (omega arith))
      (even-at line 2 some h (omega arith)) (even-at line 3 some h (omega arith))

  pub even-lines : (Zero ∷ Zero ∷ Zero ∷ Zero ∷ []) ∷ (Zero ∷ Zero ∷ Zero ∷ Zero ∷ []) ∷ (Zero ∷ Zero ∷ Zero ∷ Zero ∷ []) ∷ [] ≡ inner_lines v m
  even-lines = three v m _ _ _ (even-line 1 (omega arith) (omega arith)) (even-line 2 (omega arith) (omega arith)) (even-line 3 (omega arith) (omega arith))

-- ---- an edge along which nothing tells the blocks apart

left-far : (a b c : Vector) → a.x ≡ b.x → a.y ≡ b.y → far a c ≡ far b c
left-far a b c x y = rw (x, y) refl

right-far : (a b c : Vector) → b.x ≡ c.x → b.y ≡ c.y → far a b ≡ far a c
right-far a b c x y = rw (x, y) refl

-- two blocks are predicted alike
alike-parts : (a b : Motion) → alike (Some a) (Some b) ≡ true → (a.picture ≡ b.picture) × (a.vector.x ≡ b.vector.x) × (a.vector.y ≡ b.vector.y)
alike-parts a b e =
    let p = and_parts (a.picture == b.picture && int_eq a.vector.x b.vector.x) (int_eq a.vector.y b.vector.y) e in
    let v = and_parts (a.picture == b.picture) (int_eq a.vector.x b.vector.x) p.0 in
    (eqb-true a.picture b.picture v.0, (Decides-int_eq a.vector.x b.vector.x).0 v.1, (Decides-int_eq a.vector.y b.vector.y).0 p.1)

left-alike : (a b c : Option Motion) → alike a b ≡ true → moves_apart a c ≡ moves_apart b c
left-alike None None c e = refl
left-alike None (Some b) c e = absurd (cc)
left-alike (Some a) None c e = absurd (cc)
left-alike (Some a) (Some b) None e = refl
left-alike (Some a) (Some b) (Some c) e = let p = alike-parts a b e in rw (p.0, left-far a.vector b.vector c.vector p.1 p.2) refl

right-alike : (a b c : Option Motion) → alike b c ≡ true → moves_apart a b ≡ moves_apart a c
right-alike None b c e = refl
right-alike (Some a) None None e = refl
right-alike (Some a) None (Some c) e = absurd (cc)
right-alike (Some a) (Some b) None e = absurd (cc)
right-alike (Some a) (Some b) (Some c) e = let p = alike-parts b c e in rw (p.0, right-far a.vector b.vector c.vector p.1 p.2) refl

one-strength : (a b : Bool) (p q r t : Option Motion) → a ≡ false → b ≡ false → moves_apart p q ≡ moves_apart r t →
    inter_strength false p q ≡ inter_strength (a || b) r t
one-strength a b p q r t e f g = rw (e, f, g) refl

module _ (v : Bool) (e : Edge) (c : Contexts) (p q : CodedMacroblock) (beside : LiesAlong v e p) (s : AreContexts c q) (i : e.intra ≡ false)
    (j : c.intra ≡ false) (k : length e.totals ≡ 4) (l : length c.totals ≡ 16)
    (m : length e.motions ≡ 4) (n : length c.motions ≡ 16) (even : IsEven c) (steady : is_steady e ≡ true) (bs : BoundaryStrength)
    (is : bs ≡ inter_strength false (get_or e.motions 0 None) (get_or c.motions 0 None)) where
  on-at : (u : ℕ) → u < 4 → bs ≡ strength_at v 0 p q u
  on-at u h =
      let b : number_at v 0 u < 16 = few-at v 0 u (omega arith) h in
      let x = and_parts (are_blank e.totals) (are_alike e.motions) steady in
      let like = at-all (λ o. alike o (get_or e.motions 0 None)) e.motions u None x.1 (omega arith) in
      let own : alike (get_or c.motions (number_at v 0 u) None) (get_or c.motions 0 None) ≡ true =
      rw (even.one.each (number_at v 0 u) b) (alike-self (get_or c.motions 0 None)) in
      outer-by v u e c p q bs h beside s i j
      (is ∙ one-strength (nat_lt 0 (get_or e.totals u 0)) (nat_lt 0 (get_or c.totals (number_at v 0 u) 0)) (get_or e.motions 0 None) (get_or c.motions 0 None)
      (get_or e.motions u None) (get_or c.motions (number_at v 0 u) None)
      (blank e.totals u x.0 (omega arith)) (blank c.totals (number_at v 0 u) even.blank (omega arith))
      (sym (left-alike (get_or e.motions u None) (get_or e.motions 0 None) (get_or c.motions (number_at v 0 u) None) like ∙
      right-alike (get_or e.motions 0 None) (get_or c.motions (number_at v 0 u) None) (get_or c.motions 0 None) own)))

  pub even-border : bs ∷ bs ∷ bs ∷ bs ∷ [] ≡ strengths v 0 p q
  even-border = four v 0 p q bs bs bs bs (on-at 0 (omega arith)) (on-at 1 (omega arith)) (on-at 2 (omega arith)) (on-at 3 (omega arith))

-- ---- the border

abbrev pub border-with : ℕ → List BoundaryStrength → Border
border-with qp strengths = record { qp = qp; strengths = strengths }

pub border-at-0 : (f : SliceFilter) (v : Bool) (p : Option CodedMacroblock) (q : CodedMacroblock) → p ≡ None → None ≡ border_of f v p q
unfolding border_of
border-at-0 f v p q e = rw e refl

pub border-none : (f : SliceFilter) (v : Bool) (o : Option Edge) (p : Option CodedMacroblock) (q : CodedMacroblock) → o ≡ None → IsEdge (LiesAlong v) o p →
    None ≡ border_of f v p q
unfolding border_of
border-none f v None None q e i = refl
border-none f v None (Some p) q e i = absurd i
border-none f v (Some o) p q e i = absurd (cc)

pub border-some : (f : SliceFilter) (v : Bool) (o : Option Edge) (e : Edge) (slice : ℕ) (p : Option CodedMacroblock) (q : CodedMacroblock)
    (b : List BoundaryStrength) → o ≡ Some e → IsEdge (LiesAlong v) o p → q.slice ≡ slice →
    ((m : CodedMacroblock) → LiesAlong v e m → b ≡ strengths v 0 m q) → filters f.deblocking (e.slice == slice) ≡ true →
    Some (border-with e.qp b) ≡ border_of f v p q
unfolding border_of
border-some f v o e slice None q b is i n s t = absurd (rw is at i)
border-some f v o e slice (Some p) q b is i n s t =
    let j : LiesAlong v e p = rw is at i in
    let t' : filters f.deblocking (p.slice == q.slice) ≡ true = rw (beside-slice v e p j, n) t in
    rw t' (ap (λ z. Some (border-with z b)) (sym (beside-qp v e p j)) ∙ ap (λ z. Some (border-with (filter_qp_of p.prediction p.qp) z)) (s p j))

pub border-skip : (f : SliceFilter) (v : Bool) (o : Option Edge) (e : Edge) (slice : ℕ) (p : Option CodedMacroblock) (q : CodedMacroblock) → o ≡ Some e →
    IsEdge (LiesAlong v) o p → q.slice ≡ slice →
    filters f.deblocking (e.slice == slice) ≡ false → None ≡ border_of f v p q
unfolding border_of
border-skip f v o e slice None q is i n t = refl
border-skip f v o e slice (Some p) q is i n t =
    let j : LiesAlong v e p = rw is at i in
    let t' : filters f.deblocking (p.slice == q.slice) ≡ false = rw (beside-slice v e p j, n) t in
    rw t' refl

-- ---- planes

pub qp-is : (slices : ℕ → SliceFilter) (plane : Component) (m : CodedMacroblock) (c : Bool) (n : ℕ) (o : ℤ) → is_chroma plane ≡ c →
    filter_qp_of m.prediction m.qp ≡ n → (slices m.slice).chroma_qp_index_offset ≡ o → plane_qp slices plane m ≡ side_qp c n o
unfolding plane_qp
qp-is slices Y m c n o e f g = rw (sym e) f
qp-is slices Cb m c n o e f g = rw (sym e, f, g) refl
qp-is slices Cr m c n o e f g = rw (sym e, f, g) refl

module _ (slices : ℕ → SliceFilter) (plane : Component) (v : Bool) (q : CodedMacroblock) (f : SliceFilter) (c : Bool) (qp : ℕ) (is : slices q.slice ≡ f)
    (own : plane_qp slices plane q ≡ qp) where
  edge-is : (line : ℕ) (p : CodedMacroblock) (a : ℕ) → plane_qp slices plane p ≡ a → parameters a qp f (strengths v line p q) ≡ edge_of slices plane v line p q
  unfolding edge_of
  edge-is line p a e = rw (sym e, sym own, sym is) refl

  pub border-in : (p : Option CodedMacroblock) → is_chroma plane ≡ c → ((n : ℕ) → (slices n).chroma_qp_index_offset ≡ f.chroma_qp_index_offset) →
      border_edge c qp f (border_of f v p q) ≡ border slices plane v p q
  unfolding border border_of
  border-in None e o = refl
  border-in (Some p) e o = go (filters f.deblocking (p.slice == q.slice)) refl
    where
      go : (t : Bool) → filters f.deblocking (p.slice == q.slice) ≡ t →
          border_edge c qp f (if filters f.deblocking (p.slice == q.slice) then Some
          (border-with (filter_qp_of p.prediction p.qp) (strengths v 0 p q)) else None) ≡
          (if filters (slices q.slice).deblocking (p.slice == q.slice) then Some (edge_of slices plane v 0 p q) else None)
      go true t = rw (is, t) (ap Some (edge-is 0 p _ (qp-is slices plane p c _ f.chroma_qp_index_offset e refl (o p.slice))))
      go false t = rw (is, t) refl

  pub inner-in : (line : ℕ) → inner_edge qp f (strengths v line q q) ≡ inner slices plane v line q
  unfolding inner
  inner-in line = go (filters f.deblocking true) refl
    where
      go : (t : Bool) → filters f.deblocking true ≡ t →
          (if filters f.deblocking true then Some (parameters qp qp f (strengths v line q q)) else None) ≡
          (if filters (slices q.slice).deblocking true then Some (edge_of slices plane v line q q) else None)
      go true t = rw (is, t) (ap Some (edge-is line q qp own))
      go false t = rw (is, t) refl

-- ---- a direction

module _ (slices : ℕ → SliceFilter) (v : Bool) (p : Option CodedMacroblock) (q : CodedMacroblock) (f : SliceFilter) (qp : ℕ) (b : Option Border)
    (lines : List (List BoundaryStrength)) (is : slices q.slice ≡ f) (o : (n : ℕ) → (slices n).chroma_qp_index_offset ≡ f.chroma_qp_index_offset)
    (eb : b ≡ border_of f v p q) (el : lines ≡ inner_lines v q) where
  pub luma-list : plane_qp slices Y q ≡ qp →
      border_edge false qp f b ∷ inner_edge qp f (get_or lines 0 []) ∷ inner_edge qp f (get_or lines 1 []) ∷ inner_edge qp f (get_or lines 2 []) ∷ [] ≡
      edges_along slices Y v p q
  unfolding edges_along inner_lines
  luma-list own = rw (
    eb,
    el,
    border-in slices Y v q f false qp is own p refl o,
    inner-in slices Y v q f false qp is own 1,
    inner-in slices Y v q f false qp is own 2,
    inner-in slices Y v q f false qp is own 3,
  ) refl

  pub chroma-list : (plane : Component) → is_chroma plane ≡ true → plane_qp slices plane q ≡ qp →
      border_edge true qp f b ∷ inner_edge qp f (get_or lines 1 []) ∷ [] ≡ edges_along slices plane v p q
  unfolding edges_along inner_lines
  chroma-list Y c own = absurd (cc)
  chroma-list Cb c own = rw (eb, el, border-in slices Cb v q f true qp is own p refl o, inner-in slices Cb v q f true qp is own 2) refl
  chroma-list Cr c own = rw (eb, el, border-in slices Cr v q f true qp is own p refl o, inner-in slices Cr v q f true qp is own 2) refl

abbrev pair : List (Option EdgeParameters) → List (Option EdgeParameters) → PlaneEdges
pair v h = record { vertical = v; horizontal = h }

pub pair-is : (slices : ℕ → SliceFilter) (width : ℕ) (picture : List CodedMacroblock) (q : CodedMacroblock) (plane : Component)
    (v h : List (Option EdgeParameters)) →
    v ≡ edges_along slices plane true (last_left width picture) q → h ≡ edges_along slices plane false (last_in width picture (length picture % width)) q →
    pair v h ≡ coded_edges slices width picture q plane
unfolding coded_edges
pair-is slices width picture q plane v h e f = ap (λ z. pair z h) e ∙ ap (pair (edges_along slices plane true (last_left width picture) q)) f

-- ---- no edge is filtered

none-border : (slices : ℕ → SliceFilter) (plane : Component) (v : Bool) (p : Option CodedMacroblock) (q : CodedMacroblock) →
    ((same : Bool) → filters (slices q.slice).deblocking same ≡ false) → None ≡ border slices plane v p q
unfolding border
none-border slices plane v None q t = refl
none-border slices plane v (Some p) q t = rw (t (p.slice == q.slice)) refl

none-inner : (slices : ℕ → SliceFilter) (plane : Component) (v : Bool) (line : ℕ) (q : CodedMacroblock) →
    ((same : Bool) → filters (slices q.slice).deblocking same ≡ false) → None ≡ inner slices plane v line q
unfolding inner
none-inner slices plane v line q t = rw (t true) refl

none-luma : (slices : ℕ → SliceFilter) (v : Bool) (p : Option CodedMacroblock) (q : CodedMacroblock) →
    ((same : Bool) → filters (slices q.slice).deblocking same ≡ false) → None ∷ None ∷ None ∷ None ∷ [] ≡ edges_along slices Y v p q
unfolding edges_along
none-luma slices v p q t = rw (
  sym (none-border slices Y v p q t),
  sym (none-inner slices Y v 1 q t),
  sym (none-inner slices Y v 2 q t),
  sym (none-inner slices Y v 3 q t),
) refl

none-chroma : (slices : ℕ → SliceFilter) (plane : Component) (v : Bool) (p : Option CodedMacroblock) (q : CodedMacroblock) → is_chroma plane ≡ true →
    ((same : Bool) → filters (slices q.slice).deblocking same ≡ false) → None ∷ None ∷ [] ≡ edges_along slices plane v p q
unfolding edges_along
none-chroma slices Y v p q c t = absurd (cc)
none-chroma slices Cb v p q c t = rw (sym (none-border slices Cb v p q t), sym (none-inner slices Cb v 2 q t)) refl
none-chroma slices Cr v p q c t = rw (sym (none-border slices Cr v p q t), sym (none-inner slices Cr v 2 q t)) refl

abbrev no_chroma : PlaneEdges
no_chroma = record { vertical = None ∷ None ∷ []; horizontal = None ∷ None ∷ [] }

abbrev no_edges : Component → PlaneEdges
no_edges Y = record { vertical = None ∷ None ∷ None ∷ None ∷ []; horizontal = None ∷ None ∷ None ∷ None ∷ [] }
no_edges Cb = no_chroma
no_edges Cr = no_chroma

off : (slices : ℕ → SliceFilter) (q : CodedMacroblock) (f : SliceFilter) → slices q.slice ≡ f → f.deblocking ≡ Off →
    (same : Bool) → filters (slices q.slice).deblocking same ≡ false
off slices q f is e same = ap (λ z. filters z.deblocking same) is ∙ ap (λ z. filters z same) e

pub none-is : (slices : ℕ → SliceFilter) (width : ℕ) (picture : List CodedMacroblock) (q : CodedMacroblock) (f : SliceFilter) → slices q.slice ≡ f →
    f.deblocking ≡ Off → (p : Component) → no_edges p ≡ coded_edges slices width picture q p
none-is slices width picture q f is e Y =
    pair-is slices width picture q Y _ _ (none-luma slices true _ q (off slices q f is e)) (none-luma slices false _ q (off slices q f is e))
none-is slices width picture q f is e Cb =
    pair-is slices width picture q Cb _ _ (none-chroma slices Cb true _ q refl (off slices q f is e))
    (none-chroma slices Cb false _ q refl (off slices q f is e))
none-is slices width picture q f is e Cr =
    pair-is slices width picture q Cr _ _ (none-chroma slices Cr true _ q refl (off slices q f is e))
    (none-chroma slices Cr false _ q refl (off slices q f is e))

-- ---- the picture's border

pub left-none : (width : ℕ) (picture : List CodedMacroblock) (c r : ℕ) → length picture ≡ r * width + c → c < width → c ≡ 0 → last_left width picture ≡ None
unfolding last_left
left-none width picture c r e h z = rw (remainder (length picture) width r c h e, z) refl

pub above-none : (width : ℕ) (picture : List CodedMacroblock) (c r : ℕ) → length picture ≡ r * width + c → c < width → r ≡ 0 →
    last_in width picture (length picture % width) ≡ None
above-none width picture c r e h z = last-above width picture (length picture % width) (omega arith) ∙ rw (quotient (length picture) width r c h e, z) refl

some-map : {A B : Type 0} (g : A → B) (o : Option A) → IsTrue (is_some (option_map g o)) → IsTrue (is_some o)
some-map g None h = h
some-map g (Some x) h = refl

pub inside : (n : ℕ) (list es : List (Option EdgeParameters)) (chroma : Bool) (qp : ℕ) (f : SliceFilter) (b : Option Border) → list ≡
    border_edge chroma qp f b ∷ es → (IsTrue (is_some b) → 0 < n) → IsTrue (is_some (get_or list 0 None)) → 0 < n
inside n list es chroma qp f b e h t = h (some-map (λ (e : Border). parameters (side_qp chroma e.qp f.chroma_qp_index_offset) qp f e.strengths) b (rw e at t))
