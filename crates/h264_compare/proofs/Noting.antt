-- What was noted of samples, and of more samples after them.
use Rattle.std.proofs.Common.{◌≡◌, ℕ, ◌+◌, ◌-◌, ◌*◌, ◌^◌, ◌<◌, ◌≤◌, ◌==◌, ◌||◌, not, true, false, List, [], ◌∷◌, ◌++◌, length, take, slice_index}
use Rattle.std.proofs.Common.{add-one, Option, Some, None, if◌then◌else◌, refl, sym, ap, ap₂, ◌∙◌, arith}
use Rattle.std.proofs.Math.Seq.{take-suc}
use Rattle.std.proofs.lemmas.List.{append_assoc, length-take-le}
use Rattle.std.specs.Option.{is_some}
use Rattle.std.proofs.lemmas.Bool.{true≢false}
use Rattle.std.proofs.lemmas.Bool.Decides.{nat_tests}
use Rattle.h264_plane.specs.declared.frame.Component.{Component}
use Rattle.h264_plane.specs.declared.frame.Component.TheVariants.{Y, Cb, Cr}
use Rattle.h264_compare.specs.declared.shown.ShownFrame.{ShownFrame}
use Rattle.h264_compare.specs.declared.numbers.Difference.{Difference}
use Rattle.h264_compare.specs.declared.numbers.Numbers.{Numbers}
use Rattle.h264_compare.specs.Places.{plane_at}
use Rattle.h264_compare.specs.Differences.{differences, difference, first_of, differ, square, squares, only}
use Rattle.h264_compare.specs.Numbers.{capped, sum_of, earlier, AreNoted}

pub only-zero : (c d : Component) → only c d 0 ≡ 0
only-zero Y Y = refl
only-zero Y Cb = refl
only-zero Y Cr = refl
only-zero Cb Y = refl
only-zero Cb Cb = refl
only-zero Cb Cr = refl
only-zero Cr Y = refl
only-zero Cr Cb = refl
only-zero Cr Cr = refl

pub square-same : (m : ℕ) → square m m ≡ 0
square-same m = let e : m - m ≡ 0 = omega arith in ap (λ d. (d + d) * (d + d)) e

pub eq-same : (m : ℕ) → (m == m) ≡ true
eq-same m = grind (arith, nat_tests)

-- ---- sums that stop

pub capped-fits : (n : ℕ) → n < 2 ^ 64 → capped n ≡ n
capped-fits n small = omega arith

pub capped-twice : (a b : ℕ) → capped (capped a + b) ≡ capped (a + b)
capped-twice a b = omega arith

-- ---- the first

pub earlier-more : (a b c : Option Difference) → earlier (earlier a b) c ≡ earlier a (earlier b c)
earlier-more None b c = refl
earlier-more (Some d) b c = refl

pub first_of-append : (xs ys : List Difference) → first_of (xs ++ ys) ≡ earlier (first_of xs) (first_of ys)
first_of-append [] ys = refl
first_of-append (x ∷ xs) ys = refl

-- ---- samples that are the same

pub differ-same : (xs : List ℕ) → differ xs xs ≡ false
unfolding differ
differ-same [] = refl
differ-same (x ∷ xs) = rw (eq-same x, differ-same xs) refl

pub differences-same : (f : ShownFrame) (byte : ℕ) (xs : List ℕ) → differences f byte xs xs ≡ []
unfolding differences
differences-same f byte [] = refl
differences-same f byte (x ∷ xs) = rw (eq-same x, differences-same f (byte + 1) xs) refl

pub squares-same : (c : Component) (f : ShownFrame) (byte : ℕ) (xs : List ℕ) → squares c f byte xs xs ≡ 0
unfolding squares
squares-same c f byte [] = refl
squares-same c f byte (x ∷ xs) = rw (square-same x, only-zero c (plane_at f byte), squares-same c f (byte + 1) xs) refl

-- ---- one sample after another

module _ (ys zs : List ℕ) where
  pub differ-append : (xs ws : List ℕ) → length xs ≡ length ws → differ (xs ++ ys) (ws ++ zs) ≡ (differ xs ws || differ ys zs)
  unfolding differ
  differ-append [] [] same = refl
  differ-append [] (w ∷ ws) same = absurd (omega (arith, same))
  differ-append (x ∷ xs) [] same = absurd (omega (arith, same))
  differ-append (x ∷ xs) (w ∷ ws) same =
      elim (not (x == w)) as (λ b. (b || differ (xs ++ ys) (ws ++ zs)) ≡ ((b || differ xs ws) || differ ys zs))
      [ true ↦ refl | false ↦ differ-append xs ws (omega (arith, same)) ]

  pub differences-append : (f : ShownFrame) (byte after : ℕ) (xs ws : List ℕ) → length xs ≡ length ws → after ≡ byte + length xs →
      differences f byte (xs ++ ys) (ws ++ zs) ≡ differences f byte xs ws ++ differences f after ys zs
  unfolding differences
  differences-append f byte after [] [] same at = ap (λ n. differences f n ys zs) (let e : byte ≡ after = omega (arith, at) in e)
  differences-append f byte after [] (w ∷ ws) same at = absurd (omega (arith, same))
  differences-append f byte after (x ∷ xs) [] same at = absurd (omega (arith, same))
  differences-append f byte after (x ∷ xs) (w ∷ ws) same at =
      let next = differences-append f (byte + 1) after xs ws (omega (arith, same)) (omega (arith, at)) in
      ap (λ l. (if x == w then [] else difference f byte x w ∷ []) ++ l) next
      ∙ sym (append_assoc (if x == w then [] else difference f byte x w ∷ []) (differences f (byte + 1) xs ws) (differences f after ys zs))

  pub squares-append : (c : Component) (f : ShownFrame) (byte after : ℕ) (xs ws : List ℕ) → length xs ≡ length ws → after ≡ byte + length xs →
      squares c f byte (xs ++ ys) (ws ++ zs) ≡ squares c f byte xs ws + squares c f after ys zs
  unfolding squares
  squares-append c f byte after [] [] same at =
      let e : byte ≡ after = omega (arith, at) in ap (λ n. squares c f n ys zs) e ∙
      (let z : squares c f after ys zs ≡ 0 + squares c f after ys zs = omega arith in z)
  squares-append c f byte after [] (w ∷ ws) same at = absurd (omega (arith, same))
  squares-append c f byte after (x ∷ xs) [] same at = absurd (omega (arith, same))
  squares-append c f byte after (x ∷ xs) (w ∷ ws) same at =
      let next = squares-append c f (byte + 1) after xs ws (omega (arith, same)) (omega (arith, at)) in rw next (omega arith)

-- ---- what is noted

-- Each sum fits 64 bits.
abbrev pub AreSmall : Numbers → Type 0
AreSmall n = (c : Component) → sum_of c n.squares < 2 ^ 64

-- of samples that are the same
pub noted-same : (f : ShownFrame) (byte : ℕ) (n : Numbers) (xs : List ℕ) → AreSmall n → AreNoted f byte n n xs xs
noted-same f byte n xs small = record {
  first = rw (differences-same f byte xs) (elim n.first as (λ o. o ≡ earlier o None) [ None ↦ refl | Some d ↦ refl ]);
  squares = λ c. let s = small c in rw (squares-same c f byte xs) (omega (arith, s));
  frames = refl;
  differing = refl;
  luma = refl;
}

-- of more samples of the frame
pub noted-more : {f : ShownFrame} {byte : ℕ} {old mid new : Numbers} {ms gs ms' gs' : List ℕ} (after : ℕ) → length ms ≡ length gs → after ≡ byte + length ms →
    AreNoted f byte old mid ms gs → AreNoted f after mid new ms' gs' → AreNoted f byte old new (ms ++ ms') (gs ++ gs')
noted-more {f} {byte} {old} {mid} {new} {ms} {gs} {ms'} {gs'} after same at a b = record {
  first = b.first ∙ ap (λ o. earlier o (first_of (differences f after ms' gs'))) a.first ∙ earlier-more old.first _ _
      ∙ ap (earlier old.first) (sym (ap first_of (differences-append ms' gs' f byte after ms gs same at) ∙ first_of-append _ _));
  squares = λ c. let s = b.squares c in let t = a.squares c in let e = squares-append ms' gs' c f byte after ms gs same at in
      s ∙ ap (λ n. capped (n + squares c f after ms' gs')) t ∙ capped-twice _ _ ∙ ap capped (let k : sum_of c old.squares + squares c f byte ms gs
      + squares c f after ms' gs' ≡ sum_of c old.squares + squares c f byte (ms ++ ms') (gs ++ gs') = omega (arith, e) in k);
  frames = b.frames ∙ a.frames;
  differing = b.differing ∙ a.differing;
  luma = b.luma ∙ a.luma;
}

-- ---- one sample

pub not-same : (m g : ℕ) → (m ≡ g → ⊥) → (m == g) ≡ false
not-same m g differs = grind (arith, nat_tests)

-- the samples of a frame, of which this one differs
pub one-differs : (f : ShownFrame) (byte m g : ℕ) → (m == g) ≡ false → differences f byte (m ∷ []) (g ∷ []) ≡ difference f byte m g ∷ []
unfolding differences
one-differs f byte m g e = rw e refl

-- what a plane's sum is given
pub sum-at : (c d d' : Component) (s n n' : ℕ) → d ≡ d' → n ≡ n' → capped (s + only c d n) ≡ capped (s + only c d' n')
sum-at c d d' s n n' e k = ap₂ (λ x y. capped (s + only c x y)) e k

pub noted-one : (f : ShownFrame) (byte m g : ℕ) (old new : Numbers) → new.first ≡ earlier old.first (first_of (differences f byte (m ∷ []) (g ∷ []))) →
    ((c : Component) → sum_of c new.squares ≡ capped (sum_of c old.squares + only c (plane_at f byte) (square m g))) →
    new.frames ≡ old.frames → new.differing ≡ old.differing → new.luma ≡ old.luma → AreNoted f byte old new (m ∷ []) (g ∷ [])
unfolding squares
noted-one f byte m g old new first sums frames differing luma = record {
  first = first;
  squares = λ c. sums c ∙ ap (λ n. capped (sum_of c old.squares + n))
      (let e : only c (plane_at f byte) (square m g) ≡ only c (plane_at f byte) (square m g) + 0 = omega arith in e);
  frames = frames;
  differing = differing;
  luma = luma;
}

-- the first difference stays where it was one, or where these samples are the same
pub first-kept : (f : ShownFrame) (byte m g : ℕ) (o : Option Difference) → is_some o ≡ true → o ≡ earlier o (first_of (differences f byte (m ∷ []) (g ∷ [])))
first-kept f byte m g None some = absurd (true≢false (sym some))
first-kept f byte m g (Some d) some = refl

pub first-same : (f : ShownFrame) (byte m g : ℕ) (o : Option Difference) → m ≡ g → o ≡ earlier o (first_of (differences f byte (m ∷ []) (g ∷ [])))
first-same f byte m g o e = rw (← e, differences-same f byte (m ∷ [])) (elim o as (λ o. o ≡ earlier o None) [ None ↦ refl | Some d ↦ refl ])

pub first-new : (f : ShownFrame) (byte m g : ℕ) (o : Option Difference) → is_some o ≡ false → (m ≡ g → ⊥) →
    Some (difference f byte m g) ≡ earlier o (first_of (differences f byte (m ∷ []) (g ∷ [])))
first-new f byte m g None none differs = rw (one-differs f byte m g (not-same m g differs)) refl
first-new f byte m g (Some d) none differs = absurd (true≢false none)

pub one-differ : (m g : ℕ) → differ (m ∷ []) (g ∷ []) ≡ not (m == g)
unfolding differ
one-differ m g = elim (not (m == g)) as (λ b. (b || false) ≡ b) [ true ↦ refl | false ↦ refl ]

-- ---- the first samples of two lists, and the next of each

module _ (ms gs : List ℕ) (k : ℕ) (m : k < length ms) (g : k < length gs) where
  one-more : (xs : List ℕ) → k < length xs → take (k + 1) xs ≡ take k xs ++ slice_index xs k ∷ []
  one-more xs lt = ap (λ n. take n xs) (add-one k) ∙ take-suc xs k 0 lt

  as-long : length (take k ms) ≡ length (take k gs)
  as-long = let a = length-take-le k ms (omega arith) in let b = length-take-le k gs (omega arith) in a ∙ sym b

  pub noted-next : {f : ShownFrame} {byte : ℕ} {old mid new : Numbers} → AreNoted f byte old mid (take k ms) (take k gs) →
      AreNoted f (byte + k) mid new (slice_index ms k ∷ []) (slice_index gs k ∷ []) → AreNoted f byte old new (take (k + 1) ms) (take (k + 1) gs)
  noted-next a b = rw (one-more ms m, one-more gs g)
      (noted-more _ as-long (let e = length-take-le k ms (omega arith) in omega (arith, e)) a b)

  pub differ-next : differ (take (k + 1) ms) (take (k + 1) gs) ≡ (differ (take k ms) (take k gs) || not (slice_index ms k == slice_index gs k))
  differ-next = rw (one-more ms m, one-more gs g)
      (differ-append _ _ (take k ms) (take k gs) as-long ∙ ap (λ b. differ (take k ms) (take k gs) || b) (one-differ _ _))

-- ---- samples of which no more was given

module _ (rest : List ℕ) where
  pub differ-longer : (ms gs : List ℕ) → length gs ≤ length ms → differ (ms ++ rest) gs ≡ differ ms gs
  unfolding differ
  differ-longer [] [] short = elim rest as (λ l. differ l [] ≡ false) [ [] ↦ refl | m ∷ l ↦ refl ]
  differ-longer [] (g ∷ gs) short = absurd (omega (arith, short))
  differ-longer (m ∷ ms) [] short = refl
  differ-longer (m ∷ ms) (g ∷ gs) short = ap (λ b. not (m == g) || b) (differ-longer ms gs (omega (arith, short)))

  pub differences-longer : (f : ShownFrame) (byte : ℕ) (ms gs : List ℕ) → length gs ≤ length ms → differences f byte (ms ++ rest) gs ≡ differences f byte ms gs
  unfolding differences
  differences-longer f byte [] [] short = elim rest as (λ l. differences f byte l [] ≡ []) [ [] ↦ refl | m ∷ l ↦ refl ]
  differences-longer f byte [] (g ∷ gs) short = absurd (omega (arith, short))
  differences-longer f byte (m ∷ ms) [] short = refl
  differences-longer f byte (m ∷ ms) (g ∷ gs) short =
      ap (λ l. (if m == g then [] else difference f byte m g ∷ []) ++ l) (differences-longer f (byte + 1) ms gs (omega (arith, short)))

  pub squares-longer : (c : Component) (f : ShownFrame) (byte : ℕ) (ms gs : List ℕ) → length gs ≤ length ms →
      squares c f byte (ms ++ rest) gs ≡ squares c f byte ms gs
  unfolding squares
  squares-longer c f byte [] [] short = elim rest as (λ l. squares c f byte l [] ≡ 0) [ [] ↦ refl | m ∷ l ↦ refl ]
  squares-longer c f byte [] (g ∷ gs) short = absurd (omega (arith, short))
  squares-longer c f byte (m ∷ ms) [] short = refl
  squares-longer c f byte (m ∷ ms) (g ∷ gs) short =
      ap (λ n. only c (plane_at f byte) (square m g) + n) (squares-longer c f (byte + 1) ms gs (omega (arith, short)))

  pub noted-longer : {f : ShownFrame} {byte : ℕ} {old new : Numbers} {ms gs : List ℕ} → length gs ≤ length ms → AreNoted f byte old new ms gs →
      AreNoted f byte old new (ms ++ rest) gs
  noted-longer {f} {byte} {old} {new} {ms} {gs} short a = record {
    first = a.first ∙ ap (λ l. earlier old.first (first_of l)) (sym (differences-longer f byte ms gs short));
    squares = λ c. a.squares c ∙ ap (λ n. capped (sum_of c old.squares + n)) (sym (squares-longer c f byte ms gs short));
    frames = a.frames;
    differing = a.differing;
    luma = a.luma;
  }
