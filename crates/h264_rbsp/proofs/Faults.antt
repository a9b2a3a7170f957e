-- Where the rule on emulation prevention is broken first.
use Rattle.std.proofs.Common.{◌≡◌, ◌≢◌, inl, inr, ℕ, ◌+◌, ◌-◌, ◌<◌, ◌≤◌, List, length, get_or, refl, ap, sym, ◌∙◌, subst, arith}
use Rattle.std.proofs.lemmas.Bool.{cases_lt}
use Rattle.h264_rbsp.specs.Emulation.{AfterZeros, IsFourth, IsBroken, IsFault, IsFirstFault}
use Rattle.h264_rbsp.specs.Found.{IsFound}

-- the rule is not broken after two 00 bytes before this place
abbrev pub NoneBelow : List ℕ → ℕ → Type 0
NoneBelow body n = (third place : ℕ) → third < n → AfterZeros body third → IsBroken body third place → ⊥

found : (body : List ℕ) (third place : ℕ) → AfterZeros body third → IsBroken body third place → IsFound body 2 third
found body third place z (inl b) = let e : get_or body third 0 ≡ 2 = b.byte in record { zeros = z; low = omega arith; high = omega arith }
found body third place z (inr (inl b)) = let e : get_or body third 0 ≡ 3 = b.byte in record { zeros = z; low = omega arith; high = omega arith }
found body third place z (inr (inr b)) = let e : get_or body third 0 ≡ 3 = b.byte in record { zeros = z; low = omega arith; high = omega arith }

-- the fault is no place before the third byte
pub third-before : (body : List ℕ) (third place : ℕ) → IsBroken body third place → third ≤ place
third-before body third place (inl b) = let e : place ≡ third = b.place_is in omega arith
third-before body third place (inr (inl b)) = let e : place ≡ third = b.place_is in omega arith
third-before body third place (inr (inr b)) = let e : place ≡ third + 1 = b.place_is in omega arith

pub none-at-all : (body : List ℕ) (n : ℕ) → NoneBelow body n → length body ≤ n → (place : ℕ) → IsFault body place → ⊥
none-at-all body n none h place f = let w : f.third < length body = f.zeros.within in none f.third place (omega arith) f.zeros f.broken

-- the search went on from the start to this place
module _ (body : List ℕ) (start here : ℕ) (below : NoneBelow body (start + 2))
    (none : (place : ℕ) → start + 2 ≤ place → place < here → IsFound body 2 place → ⊥) where
  pub none-before : NoneBelow body here
  none-before third place lt z b = elim (cases_lt third (start + 2))
      [ inl low ↦ below third place low z b | inr high ↦ none third high lt (found body third place z b) ]

  pub first-here : AfterZeros body here → IsBroken body here here → IsFirstFault body here
  first-here z b = record {
    fault = record { third = here; zeros = z; broken = b };
    before = λ other lt f. none-before f.third other (let k = third-before body f.third other f.broken in omega arith) f.zeros f.broken;
  }

  pub first-two : IsFound body 2 here → get_or body here 0 ≡ 2 → IsFirstFault body here
  first-two f e = first-here f.zeros (inl (record { byte = e; place_is = refl }))

  three : IsFound body 2 here → get_or body here 0 ≢ 2 → get_or body here 0 ≡ 3
  three f n = let l : 2 ≤ get_or body here 0 = f.low in let h : get_or body here 0 ≤ 3 = f.high in omega arith

  pub first-last : IsFound body 2 here → get_or body here 0 ≢ 2 → here + 1 ≡ length body → IsFirstFault body here
  first-last f n e = first-here f.zeros (inr (inl (record { byte = three f n; last = e; place_is = refl })))

  -- after the third byte alone
  not-here : get_or body here 0 ≢ 2 → here + 1 ≢ length body → (place : ℕ) → IsBroken body here place → IsFourth body here place
  not-here n m place (inl b) = absurd (n b.byte)
  not-here n m place (inr (inl b)) = absurd (m b.last)
  not-here n m place (inr (inr b)) = b

  pub first-fourth : IsFound body 2 here → get_or body here 0 ≢ 2 → here + 1 ≢ length body → 3 < get_or body (here + 1) 0 → IsFirstFault body (here + 1)
  first-fourth f n m above =
      let w : here < length body = f.zeros.within in
      record {
        fault = record { third = here; zeros = f.zeros; broken = inr (inr (record { byte = three f n; more = omega arith; above = above; place_is = refl })) };
        before = before;
      }
    where
      at-here : (other : ℕ) → other < here + 1 → (g : IsFault body other) → g.third ≡ here → ⊥
      at-here other lt g e = let k : other ≡ here + 1 = (not-here n m other (subst (λ t. IsBroken body t other) e g.broken)).place_is in omega arith

      before : (other : ℕ) → other < here + 1 → IsFault body other → ⊥
      before other lt g = elim (cases_lt g.third here) [
        | inl low ↦ none-before g.third other low g.zeros g.broken
        | inr high ↦ let k = third-before body g.third other g.broken in at-here other lt g (omega arith)
      ]

  pub none-more : IsFound body 2 here → get_or body here 0 ≢ 2 → here + 1 ≢ length body → get_or body (here + 1) 0 ≤ 3 → NoneBelow body (here + 1 + 2)
  none-more f n m low third place lt z b = elim (cases_lt third here) [
    | inl before ↦ none-before third place before z b
    | inr high ↦ elim (cases_lt third (here + 1)) [
      | inl at ↦ let e : third ≡ here = omega arith in
          let above : 3 < get_or body (here + 1) 0 = (not-here n m place (subst (λ t. IsBroken body t place) e b)).above in omega arith
      | inr following ↦
          let byte : get_or body here 0 ≡ 3 = three f n in
          elim (cases_lt third (here + 2)) [
            | inl one ↦ let e : third - 1 ≡ here = omega arith in let zero : get_or body (third - 1) 0 ≡ 0 = z.second in
                let h : get_or body here 0 ≡ 0 = sym (ap (λ k. get_or body k 0) e) ∙ zero in omega arith
            | inr two ↦ let e : third - 2 ≡ here = omega arith in let zero : get_or body (third - 2) 0 ≡ 0 = z.first in
                let h : get_or body here 0 ≡ 0 = sym (ap (λ k. get_or body k 0) e) ∙ zero in omega arith
          ]
    ]
  ]
