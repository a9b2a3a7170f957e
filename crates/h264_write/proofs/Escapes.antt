-- Emulation prevention bytes: where they stand the bytes are those of a unit, and without them the bytes are the RBSP.
use Rattle.std.proofs.Common.{◌≡◌, ℕ, suc, ◌+◌, ◌-◌, ◌<◌, ◌≤◌, ◌==◌, ◌&&◌, nat_le, Bool, true, false, List, [], ◌∷◌, ◌++◌, length, get_or, drop, refl, ap}
use Rattle.std.proofs.Common.{sym, ◌∙◌, arith, append_assoc, eqb-true}
use Rattle.std.proofs.lemmas.List.{append-nil}
use Rattle.std.proofs.Math.Seq.{drop-length}
use Rattle.std.proofs.lemmas.Bool.{leb-false}
use Rattle.std.proofs.lemmas.Bool.Decides.{nat_tests}
use Rattle.h264_units.specs.Stream.{EndsUnit, IsInner, IsBody}
use Rattle.h264_rbsp.specs.Rbsp.{is_prevention, rbsp_bytes}
use Rattle.h264_write.specs.Escaped.{zeros_after, needs_prevention, escaped}
use Rattle.h264_base.proofs.Plain.{choose-true, choose-false}

escaped-with : (z b : ℕ) (rest : List ℕ) → needs_prevention z b ≡ true → escaped z (b ∷ rest) ≡ 3 ∷ b ∷ escaped (zeros_after 0 b) rest
unfolding escaped
escaped-with z b rest e = choose-true (needs_prevention z b) _ _ e

escaped-without : (z b : ℕ) (rest : List ℕ) → needs_prevention z b ≡ false → escaped z (b ∷ rest) ≡ b ∷ escaped (zeros_after z b) rest
unfolding escaped
escaped-without z b rest e = choose-false (needs_prevention z b) _ _ e

-- a byte more
pub step-with : (old mid new : List ℕ) (z next b : ℕ) (rest : List ℕ) → needs_prevention z b ≡ true → mid ≡ old ++ 3 ∷ [] → new ≡ mid ++ b ∷ [] →
    next ≡ zeros_after 0 b → new ++ escaped next rest ≡ old ++ escaped z (b ∷ rest)
step-with old mid new z next b rest e f g h = rw (g, f, h, escaped-with z b rest e) (simp append_assoc)

pub step-without : (old new : List ℕ) (z next b : ℕ) (rest : List ℕ) → needs_prevention z b ≡ false → new ≡ old ++ b ∷ [] → next ≡ zeros_after z b →
    new ++ escaped next rest ≡ old ++ escaped z (b ∷ rest)
step-without old new z next b rest e g h = rw (g, h, escaped-without z b rest e) (simp append_assoc)

pub escaped-over : (body : List ℕ) (z i : ℕ) (s whole : List ℕ) → i ≡ length s → body ++ escaped z (drop i s) ≡ whole → body ≡ whole
unfolding escaped
escaped-over body z i s whole e before = sym (append-nil body) ∙ sym (ap (λ (t : List ℕ). body ++ escaped z t) (ap (λ i. drop i s) e ∙ drop-length s)) ∙ before

-- ---- without them

head-other : (b : ℕ) (w : List ℕ) → (b == 0) ≡ false → rbsp_bytes (b ∷ w) ≡ b ∷ rbsp_bytes w
unfolding rbsp_bytes
head-other b [] e = refl
head-other b (y ∷ []) e = refl
head-other b (y ∷ z ∷ w) e = choose-false (is_prevention b y z) _ _ (ap (λ c. c && (y == 0) && (z == 3)) e)

and-false : (a : Bool) → (a && false) ≡ false
and-false true = refl
and-false false = refl

second-other : (a b : ℕ) (w : List ℕ) → (b == 0) ≡ false → rbsp_bytes (a ∷ b ∷ w) ≡ a ∷ rbsp_bytes (b ∷ w)
unfolding rbsp_bytes
second-other a b [] e = refl
second-other a b (z ∷ w) e = choose-false (is_prevention a b z) _ _ (ap (λ c. (a == 0) && c && (z == 3)) e ∙ ap (λ c. c && (z == 3)) (and-false (a == 0)))

third-other : (a b c : ℕ) (w : List ℕ) → (c == 3) ≡ false → rbsp_bytes (a ∷ b ∷ c ∷ w) ≡ a ∷ rbsp_bytes (b ∷ c ∷ w)
unfolding rbsp_bytes
third-other a b c w e = choose-false (is_prevention a b c) _ _ (ap (λ d. (a == 0) && (b == 0) && d) e ∙ and-false ((a == 0) && (b == 0)))

prevention-left : (w : List ℕ) → rbsp_bytes (0 ∷ 0 ∷ 3 ∷ w) ≡ 0 ∷ 0 ∷ rbsp_bytes w
unfolding rbsp_bytes
prevention-left w = refl

-- the bytes after none, one and two bytes 00
abbrev Unescapes : List ℕ → Type 0
Unescapes s = (rbsp_bytes (escaped 0 s) ≡ s) × (rbsp_bytes (0 ∷ escaped 1 s) ≡ 0 ∷ s) × (rbsp_bytes (0 ∷ 0 ∷ escaped 2 s) ≡ 0 ∷ 0 ∷ s)

after-other : (z b : ℕ) → (b == 0) ≡ false → zeros_after z b ≡ 0
after-other z b e = choose-false (b == 0) (z + 1) 0 e

-- a byte after none of them
pub plain : (b : ℕ) (s : List ℕ) → Unescapes s → rbsp_bytes (b ∷ escaped (zeros_after 0 b) s) ≡ b ∷ s
plain b s r = go (b == 0) refl
  where
    go : (c : Bool) → (b == 0) ≡ c → rbsp_bytes (b ∷ escaped (zeros_after 0 b) s) ≡ b ∷ s
    go true e = let n : b ≡ 0 = eqb-true b 0 e in rw n r.1
    go false e = rw (after-other 0 b e) (head-other b (escaped 0 s) e ∙ ap (λ t. b ∷ t) r.0)

after-one : (b : ℕ) (s : List ℕ) → Unescapes s → rbsp_bytes (0 ∷ b ∷ escaped (zeros_after 1 b) s) ≡ 0 ∷ b ∷ s
after-one b s r = go (b == 0) refl
  where
    go : (c : Bool) → (b == 0) ≡ c → rbsp_bytes (0 ∷ b ∷ escaped (zeros_after 1 b) s) ≡ 0 ∷ b ∷ s
    go true e = let n : b ≡ 0 = eqb-true b 0 e in rw n r.2
    go false e = rw (after-other 1 b e) (second-other 0 b (escaped 0 s) e ∙ ap (λ t. 0 ∷ t) (head-other b (escaped 0 s) e ∙ ap (λ t. b ∷ t) r.0))

large : (b k : ℕ) → nat_le b 3 ≡ false → k ≤ 3 → (b == k) ≡ false
large b k e h = grind (arith, nat_tests)

after-two : (b : ℕ) (s : List ℕ) → Unescapes s → (c : Bool) → nat_le b 3 ≡ c → rbsp_bytes (0 ∷ 0 ∷ escaped 2 (b ∷ s)) ≡ 0 ∷ 0 ∷ b ∷ s
after-two b s r true e = rw (escaped-with 2 b s e, prevention-left) (ap (λ t. 0 ∷ 0 ∷ t) (plain b s r))
after-two b s r false e =
    let n = large b 0 e (omega arith) in
    rw (escaped-without 2 b s e, after-other 2 b n)
    (third-other 0 0 b (escaped 0 s) (large b 3 e (omega arith)) ∙
    ap (λ t. 0 ∷ t) (second-other 0 b (escaped 0 s) n ∙ ap (λ t. 0 ∷ t) (head-other b (escaped 0 s) n ∙ ap (λ t. b ∷ t) r.0)))

unescapes-none : Unescapes []
unfolding escaped rbsp_bytes
unescapes-none = (refl, refl, refl)

unescapes : (s : List ℕ) → Unescapes s
unescapes [] = unescapes-none
unescapes (b ∷ s) = let r = unescapes s in (
  rw (escaped-without 0 b s refl) (plain b s r),
  rw (escaped-without 1 b s refl) (after-one b s r),
  after-two b s r (nat_le b 3) refl,
)

pub escaped-rbsp : (s : List ℕ) → rbsp_bytes (escaped 0 s) ≡ s
escaped-rbsp s = (unescapes s).0

-- ---- as the bytes of a unit

first-other : (b : ℕ) (w : List ℕ) → (b ≡ 0 → ⊥) → EndsUnit (b ∷ w) → ⊥
first-other b [] n e = n e
first-other b (y ∷ []) n e = n e.0
first-other b (y ∷ z ∷ w) n e = n e.0

next-other : (a b : ℕ) (w : List ℕ) → (b ≡ 0 → ⊥) → EndsUnit (a ∷ b ∷ w) → ⊥
next-other a b [] n e = n e.1
next-other a b (z ∷ w) n e = n e.1

-- the bytes end in one that is not 00
abbrev EndsWell : List ℕ → Type 0
EndsWell [] = ⊥
EndsWell (b ∷ []) = b ≡ 0 → ⊥
EndsWell (b ∷ c ∷ s) = EndsWell (c ∷ s)

abbrev AreInner : List ℕ → Type 0
AreInner s = IsInner (escaped 0 s) × IsInner (0 ∷ escaped 1 s) × IsInner (0 ∷ 0 ∷ escaped 2 s)

abbrev Zeros : ℕ → List ℕ → Type 0
Zeros b s = b ≡ 0 → IsInner (0 ∷ escaped 1 s) × IsInner (0 ∷ 0 ∷ escaped 2 s)

is-other : (b : ℕ) → (b == 0) ≡ false → b ≡ 0 → ⊥
is-other b e n = grind (arith, nat_tests)

inner-plain : (b : ℕ) (s : List ℕ) → IsInner (escaped 0 s) → Zeros b s → (c : Bool) → (b == 0) ≡ c → IsInner (b ∷ escaped (zeros_after 0 b) s)
inner-plain b s i z true e = let n : b ≡ 0 = eqb-true b 0 e in let r = z n in rw n r.0
inner-plain b s i z false e = rw (after-other 0 b e) (first-other b (escaped 0 s) (is-other b e), i)

inner-one : (b : ℕ) (s : List ℕ) → IsInner (escaped 0 s) → Zeros b s → (c : Bool) → (b == 0) ≡ c → IsInner (0 ∷ b ∷ escaped (zeros_after 1 b) s)
inner-one b s i z true e = let n : b ≡ 0 = eqb-true b 0 e in let r = z n in rw n r.1
inner-one b s i z false e = let n = is-other b e in rw (after-other 1 b e) (next-other 0 b (escaped 0 s) n, (first-other b (escaped 0 s) n, i))

inner-two : (b : ℕ) (s : List ℕ) → IsInner (escaped 0 s) → Zeros b s → (c : Bool) → nat_le b 3 ≡ c → IsInner (0 ∷ 0 ∷ escaped 2 (b ∷ s))
inner-two b s i z true e = rw (escaped-with 2 b s e) (
  (λ f. absurd (let h = f.2 in omega arith)),
  (
    next-other 0 3 (b ∷ escaped (zeros_after 0 b) s) (λ f. absurd (omega arith)),
    (first-other 3 (b ∷ escaped (zeros_after 0 b) s) (λ f. absurd (omega arith)), inner-plain b s i z (b == 0) refl),
  ),
)
inner-two b s i z false e =
    let n = large b 0 e (omega arith) in
    let l = leb-false b 3 e in
    let m = is-other b n in
    rw (escaped-without 2 b s e, after-other 2 b n) (
      (λ f. absurd (let h = f.2 in omega arith)),
      (next-other 0 b (escaped 0 s) m, (first-other b (escaped 0 s) m, i)),
    )

inner-more : (b : ℕ) (s : List ℕ) → IsInner (escaped 0 s) → Zeros b s → AreInner (b ∷ s)
inner-more b s i z = (
  rw (escaped-without 0 b s refl) (inner-plain b s i z (b == 0) refl),
  rw (escaped-without 1 b s refl) (inner-one b s i z (b == 0) refl),
  inner-two b s i z (nat_le b 3) refl,
)

inner-none : IsInner (escaped 0 [])
unfolding escaped
inner-none = tt

inner : (s : List ℕ) → EndsWell s → AreInner s
inner [] h = absurd h
inner (b ∷ []) h = inner-more b [] inner-none (λ e. absurd (h e))
inner (b ∷ c ∷ s) h = let r = inner (c ∷ s) h in inner-more b (c ∷ s) r.0 (λ e. (r.1, r.2))

ends-well : (s : List ℕ) → 0 < length s → (get_or s (length s - 1) 0 ≡ 0 → ⊥) → EndsWell s
ends-well [] h n = absurd (omega arith)
ends-well (b ∷ []) h n = n
ends-well (b ∷ c ∷ s) h n = ends-well (c ∷ s) (omega arith) (λ e. n (let k : length (b ∷ c ∷ s) - 1 ≡ suc (length (c ∷ s) - 1) = omega arith in rw k e))

pub escaped-body : (header : ℕ) (s : List ℕ) → 0 < header → 0 < length s → (get_or s (length s - 1) 0 ≡ 0 → ⊥) → IsBody (header ∷ escaped 0 s)
escaped-body header s h some last = (omega arith, (first-other header (escaped 0 s) (λ e. absurd (omega arith)), (inner s (ends-well s some last)).0))
