-- Each input has a list of units, and a tail.
use Rattle.std.proofs.Common.{◌≡◌, ◌≢◌, ◌⊎◌, inl, inr, ℕ, zero, suc, ◌+◌, ◌-◌, ◌<◌, ◌≤◌, min, List, [], ◌∷◌, ◌++◌, length, replicate, take, drop, refl, ap}
use Rattle.std.proofs.Common.{sym, ◌∙◌, subst, arith, append_assoc, length-append}
use Rattle.std.proofs.lemmas.Bool.{cases_lt}
use Rattle.std.proofs.lemmas.List.{append-nil, length-replicate, length-take, length-drop, take-append-drop}
use Rattle.std.proofs.lemmas.Bool.Decides.{eqb_tells}
use Rattle.h264_units.specs.Stream.{NalUnit, EndsUnit, IsInner, started, past, unit_limit, input_limit, Tail, Zeros, Stray, Bare, Long, Cut, Splits}
use Rattle.h264_units.proofs.Streams.{code-zeros, started-append, length-started}

same? : (a b : ℕ) → (a ≡ b) ⊎ (a ≢ b)
same? a b = elim (eqb_tells a b) [ inl p ↦ inl p.1 | inr p ↦ inr p.1 ]

low? : (a : ℕ) → (a < 2) ⊎ (a < 2 → ⊥)
low? zero = inl (omega arith)
low? (suc zero) = inl (omega arith)
low? (suc (suc a)) = inr (λ h. omega arith)

ends? : (l : List ℕ) → EndsUnit l ⊎ (EndsUnit l → ⊥)
ends? [] = inl tt
ends? (x ∷ []) = same? x 0
ends? (x ∷ y ∷ []) = elim (same? x 0) [ inr n ↦ inr (λ h. n h.0) | inl p ↦ elim (same? y 0) [ inr n ↦ inr (λ h. n h.1) | inl q ↦ inl (p, q) ] ]
ends? (x ∷ y ∷ z ∷ l) = elim (same? x 0) [
  | inr n ↦ inr (λ h. n h.0)
  | inl p ↦ elim (same? y 0)
      [ inr n ↦ inr (λ h. n h.1) | inl q ↦ elim (low? z) [ inr n ↦ inr (λ h. n h.2) | inl r ↦ inl (p, q, r) ] ]
]

low : (z : ℕ) → z ≡ 0 → z < 2
low z e = omega arith

ends-both : (x : ℕ) (a b : List ℕ) → EndsUnit (x ∷ a) → EndsUnit b → EndsUnit ((x ∷ a) ++ b)
ends-both x [] [] p q = p
ends-both x [] (y ∷ []) p q = (p, q)
ends-both x [] (y ∷ z ∷ []) p q = (p, q.0, low z q.1)
ends-both x [] (y ∷ z ∷ w ∷ b) p q = (p, q.0, low z q.1)
ends-both x (y ∷ []) [] p q = p
ends-both x (y ∷ []) (z ∷ []) p q = (p.0, p.1, low z q)
ends-both x (y ∷ []) (z ∷ w ∷ []) p q = (p.0, p.1, low z q.0)
ends-both x (y ∷ []) (z ∷ w ∷ v ∷ b) p q = (p.0, p.1, low z q.0)
ends-both x (y ∷ z ∷ a) b p q = p

-- three bytes that end a unit end it whatever follows
pub ends-on : (rest more : List ℕ) → 3 ≤ length rest → EndsUnit rest → EndsUnit (rest ++ more)
ends-on [] more h e = absurd (omega arith)
ends-on (x ∷ []) more h e = absurd (omega arith)
ends-on (x ∷ y ∷ []) more h e = absurd (omega arith)
ends-on (x ∷ y ∷ z ∷ rest) more h e = e

-- fewer are zeros
pub ends-zeros : (rest : List ℕ) → length rest < 3 → EndsUnit rest → rest ≡ replicate (length rest) 0
ends-zeros [] h e = refl
ends-zeros (x ∷ []) h e = ap (λ z. z ∷ []) e
ends-zeros (x ∷ y ∷ []) h e = ap (λ z. z ∷ y ∷ []) e.0 ∙ ap (λ z. 0 ∷ z ∷ []) e.1
ends-zeros (x ∷ y ∷ z ∷ rest) h e = absurd (omega arith)

-- where the first unit ends
record Ended (bytes : List ℕ) : Type 0 where
  pub body : List ℕ
  pub rest : List ℕ
  pub whole : bytes ≡ body ++ rest
  pub inner : IsInner body
  pub ends : EndsUnit rest

ended : (bytes : List ℕ) → Ended bytes
ended [] = record { body = []; rest = []; whole = refl; inner = tt; ends = tt }
ended (x ∷ bytes) = elim (ends? (x ∷ bytes)) [
  | inl p ↦ record { body = []; rest = x ∷ bytes; whole = refl; inner = tt; ends = p }
  | inr n ↦ let c = ended bytes in record {
    body = x ∷ c.body;
    rest = c.rest;
    whole = ap (λ l. x ∷ l) c.whole;
    inner = (λ h. n (subst (λ l. EndsUnit (x ∷ l)) (sym c.whole) (ends-both x c.body c.rest h c.ends)), c.inner);
    ends = c.ends;
  }
]

record Lead (bytes : List ℕ) : Type 0 where
  pub count : ℕ
  pub after : List ℕ
  pub whole : bytes ≡ replicate count 0 ++ after
  pub other : (after ≡ []) ⊎ ((b : ℕ) × (r : List ℕ) × (after ≡ b ∷ r) × (b ≢ 0))

lead : (bytes : List ℕ) → Lead bytes
lead [] = record { count = 0; after = []; whole = refl; other = inl refl }
lead (x ∷ bytes) = elim (same? x 0) [
  | inl e ↦ let l = lead bytes in record { count = suc l.count; after = l.after; whole = ap (λ y. y ∷ bytes) e ∙ ap (λ m. 0 ∷ m) l.whole; other = l.other }
  | inr n ↦ record { count = 0; after = x ∷ bytes; whole = refl; other = inr (x, bytes, refl, n) }
]

two? : (n : ℕ) → ((m : ℕ) × (n ≡ m + 2)) ⊎ (n < 2)
two? zero = inr (omega arith)
two? (suc zero) = inr (omega arith)
two? (suc (suc n)) = inl (n, omega arith)

pub record SomeSplit (at : ℕ) (bytes : List ℕ) : Type 0 where
  pub units : List NalUnit
  pub tail : Tail
  pub splits : Splits at bytes units tail

-- These bytes are judged: no more follow, or so many follow that the input's limit is after these.
abbrev IsFront : ℕ → List ℕ → List ℕ → Type 0
IsFront at front more = ((more ≡ []) × (at + length front ≤ input_limit)) ⊎ ((0 < length more) × (at + length front ≡ input_limit))

front-fits : (at : ℕ) (front more : List ℕ) → IsFront at front more → at + length front ≤ input_limit
front-fits at front more (inl f) = f.1
front-fits at front more (inr f) = let e : at + length front ≡ input_limit = f.1 in omega arith

front-after : (at at' : ℕ) (front rest more : List ℕ) → at + length front ≡ at' + length rest → IsFront at front more → IsFront at' rest more
front-after at at' front rest more e (inl f) = let h : at + length front ≤ input_limit = f.1 in inl (f.0, omega arith)
front-after at at' front rest more e (inr f) = let h : at + length front ≡ input_limit = f.1 in inr (f.0, omega arith)

-- how the first unit of these bytes goes on, once its start code is known
module _ (at : ℕ) (front more : List ℕ) (judged : IsFront at front more) (m : ℕ) (r : List ℕ) (e : front ≡ started m r) (c : Ended r) where
  whole : front ++ more ≡ started m ((c.body ++ c.rest) ++ more)
  whole = ap (λ l. l ++ more) e ∙ started-append m r more ∙ ap (λ l. started m (l ++ more)) c.whole

  following : front ++ more ≡ started m (c.body ++ (c.rest ++ more))
  following = whole ∙ ap (started m) (append_assoc c.body c.rest more)

  total : length front ≡ m + 3 + length c.body + length c.rest
  total =
      let a : length front ≡ m + 3 + length r = ap length e ∙ length-started m r in
      let b : length r ≡ length c.body + length c.rest = ap length c.whole ∙ length-append c.body c.rest in
      omega arith

  long : unit_limit < length c.body → SomeSplit at (front ++ more)
  long h = let f = front-fits at front more judged in
      record {
        units = [];
        tail = Long (at + m + 3);
        splits = record {
          zeros = m;
          body = c.body;
          rest = c.rest ++ more;
          whole = following;
          inner = c.inner;
          too_many = h;
          place_is = refl;
          shown = let t = total in omega arith;
        };
      }

  -- the end is shown
  shown : length c.body ≤ unit_limit → EndsUnit (c.rest ++ more) → at + m + 3 + length c.body + min 3 (length (c.rest ++ more)) ≤ input_limit →
      ((at' : ℕ) → at' ≡ at + m + 3 + length c.body → 0 < length c.body → SomeSplit at' (c.rest ++ more)) → SomeSplit at (front ++ more)
  shown fits ends by next = cases c.body refl
    where
      cases : (b : List ℕ) → c.body ≡ b → SomeSplit at (front ++ more)
      cases [] b = record {
        units = [];
        tail = Bare (at + m + 3);
        splits = record {
          zeros = m;
          rest = c.rest ++ more;
          whole = following ∙ ap (λ l. started m (l ++ (c.rest ++ more))) b;
          ends = ends;
          place_is = refl;
          shown = omega arith;
        };
      }
      cases (y ∷ b) e =
          let u : NalUnit = record { from = at + m + 3; body = c.body } in
          let more_than_none : 0 < length c.body = let k = ap length e in omega arith in
          let n = next (past u) refl more_than_none in
          record {
            units = u ∷ n.units;
            tail = n.tail;
            splits = (
              c.rest ++ more,
              record {
                first = record { zeros = m; whole = following; body = (more_than_none, c.inner); ends = ends; from = refl };
                fits = fits;
                shown = by;
              },
              n.splits,
            );
          }

  stays : length c.body ≤ unit_limit → length c.rest < 3 → (0 < length more) → at + length front ≡ input_limit → SomeSplit at (front ++ more)
  stays fits short goes f = record {
    units = [];
    tail = Cut;
    splits = record {
      front = front;
      rest = more;
      whole = refl;
      front_ends = f;
      goes_on = goes;
      undecided = inr (record {
        zeros = m;
        body = c.body;
        held = length c.rest;
        whole = e ∙
            ap (started m) (c.whole ∙ ap (λ l. c.body ++ l) (ends-zeros c.rest short c.ends));
        inner = c.inner;
        fits = fits;
        few = short;
      });
    };
  }

  coded : ((at' : ℕ) → at' ≡ at + m + 3 + length c.body → 0 < length c.body → SomeSplit at' (c.rest ++ more)) → SomeSplit at (front ++ more)
  coded next = elim (cases_lt unit_limit (length c.body)) [
    | inl h ↦ long h
    | inr fits ↦ elim (cases_lt (length c.rest) 3) [
      | inl short ↦ ending judged fits short
      | inr three ↦ let f = front-fits at front more judged in let t = total in
          let n : length (c.rest ++ more) ≡ length c.rest + length more = length-append c.rest more in
          shown fits (ends-on c.rest more three c.ends) (omega arith) next
    ]
  ]
    where
      ending : IsFront at front more → length c.body ≤ unit_limit → length c.rest < 3 → SomeSplit at (front ++ more)
      ending (inl f) fits short =
          let f1 : at + length front ≤ input_limit = f.1 in
          let t = total in
          let n : length (c.rest ++ more) ≡ length c.rest = ap (λ l. length (c.rest ++ l)) f.0 ∙ ap length (append-nil c.rest) in
          shown fits (subst EndsUnit (sym (append-nil c.rest) ∙ ap (λ l. c.rest ++ l) (sym f.0)) c.ends) (omega arith) next
      ending (inr f) fits short = stays fits short f.0 f.1

after-lead : (fuel at : ℕ) (front more : List ℕ) → IsFront at front more → length front ≤ suc fuel →
    ((at : ℕ) (l : List ℕ) → IsFront at l more → length l ≤ fuel → SomeSplit at (l ++ more)) → SomeSplit at (front ++ more)
after-lead fuel at front more judged h next = by (lead front).other
  where
    l : Lead front
    l = lead front

    only-zeros : front ≡ replicate l.count 0 → IsFront at front more → SomeSplit at (front ++ more)
    only-zeros e (inl f) =
        let n : length front ≡ l.count = ap length e ∙ length-replicate l.count 0 in
        let k : at + length front ≤ input_limit = f.1 in
        record { units = []; tail = Zeros; splits = (l.count, ap (λ x. front ++ x) f.0 ∙ append-nil front ∙ e, omega arith) }
    only-zeros e (inr f) = record {
      units = [];
      tail = Cut;
      splits = record { front = front; rest = more; whole = refl; front_ends = f.1; goes_on = f.0; undecided = inl (l.count, e) };
    }

    strays : (b : ℕ) (r : List ℕ) → l.after ≡ b ∷ r → b ≢ 0 → (b ≡ 1 → l.count < 2) → SomeSplit at (front ++ more)
    strays b r e n p =
        let w : front ≡ replicate l.count 0 ++ b ∷ r = l.whole ∙ ap (λ x. replicate l.count 0 ++ x) e in
        let s : length front ≡ l.count + suc (length r) = ap length w ∙ length-append (replicate l.count 0) (b ∷ r) ∙
        ap (λ k. k + suc (length r)) (length-replicate l.count 0) in
        let f = front-fits at front more judged in
        record {
          units = [];
          tail = Stray (at + l.count);
          splits = record {
            zeros = l.count;
            byte = b;
            rest = r ++ more;
            whole = ap (λ x. x ++ more) w ∙ append_assoc (replicate l.count 0) (b ∷ r) more;
            other = n;
            no_code = p;
            place_is = refl;
            shown = omega arith;
          };
        }

    codes : (m : ℕ) (r : List ℕ) → front ≡ started m r → SomeSplit at (front ++ more)
    codes m r e = coded at front more judged m r e (ended r) (λ at' p some.
        let t = total at front more judged m r e (ended r) in
        next at' (ended r).rest (front-after at at' front (ended r).rest more (omega arith) judged) (omega arith))

    by : (l.after ≡ []) ⊎ ((b : ℕ) × (r : List ℕ) × (l.after ≡ b ∷ r) × (b ≢ 0)) → SomeSplit at (front ++ more)
    by (inl e) = only-zeros (l.whole ∙ ap (λ x. replicate l.count 0 ++ x) e ∙ append-nil (replicate l.count 0)) judged
    by (inr o) = elim (same? o.0 1) [
      | inr n ↦ strays o.0 o.1 o.2 o.3 (λ h. absurd (n h))
      | inl one ↦ elim (two? l.count) [
        | inr small ↦ strays o.0 o.1 o.2 o.3 (λ h. small)
        | inl m ↦ codes m.0 o.1 (l.whole ∙ ap (λ x. replicate l.count 0 ++ x) (o.2 ∙ ap (λ b. b ∷ o.1) one) ∙ ap (λ k. replicate k 0 ++ 1 ∷ o.1) m.1 ∙
            sym (code-zeros m.0 o.1))
      ]
    ]

bounded : (fuel at : ℕ) (front more : List ℕ) → IsFront at front more → length front ≤ fuel → SomeSplit at (front ++ more)
bounded zero at [] more (inl f) h = record { units = []; tail = Zeros; splits = (0, f.0, omega (arith, f.1)) }
bounded zero at [] more (inr f) h = record {
  units = [];
  tail = Cut;
  splits = record { front = []; rest = more; whole = refl; front_ends = f.1; goes_on = f.0; undecided = inl (0, refl) };
}
bounded zero at (x ∷ front) more judged h = absurd (omega arith)
bounded (suc fuel) at front more judged h = after-lead fuel at front more judged h (λ at l f k. bounded fuel at l more f k)

pub some-split : (at : ℕ) (bytes : List ℕ) → at ≤ input_limit → SomeSplit at bytes
some-split at bytes h = elim (cases_lt input_limit (at + length bytes)) [
  | inl over ↦ let room = input_limit - at in
      let n = length-take room bytes in
      let d = length-drop room bytes in
      subst (SomeSplit at) (take-append-drop room bytes)
      (bounded (length (take room bytes)) at (take room bytes) (drop room bytes) (inr (omega arith, omega arith)) (omega arith))
  | inr within ↦ subst (SomeSplit at) (append-nil bytes) (bounded (length bytes) at bytes [] (inl (refl, within)) (omega arith))
]
