-- Places at which a search finds nothing.
use Rattle.std.proofs.Common.{◌≡◌, ◌≢◌, inl, inr, ℕ, ◌+◌, ◌-◌, ◌<◌, ◌≤◌, List, get_or, ◌∙◌, ap, subst, arith}
use Rattle.std.proofs.lemmas.Bool.{cases_lt}
use Rattle.h264_rbsp.specs.Found.{IsFound}

-- where another byte than 00 stands that is not found itself, nothing is found before the third place after it
pub after-other : (bytes : List ℕ) (least p place : ℕ) → get_or bytes p 0 ≢ 0 → (IsFound bytes least p → ⊥) → p ≤ place → place < p + 3 →
    IsFound bytes least place → ⊥
after-other bytes least p place other none low high f = elim (cases_lt p place) [
  | inr h ↦ let e : place ≡ p = omega arith in none (subst (λ q. IsFound bytes least q) e f)
  | inl h ↦ elim (cases_lt (p + 1) place) [
    | inr k ↦ let e : p ≡ place - 1 = omega arith in other (ap (λ q. get_or bytes q 0) e ∙ f.zeros.second)
    | inl k ↦ let e : p ≡ place - 2 = omega arith in other (ap (λ q. get_or bytes q 0) e ∙ f.zeros.first)
  ]
]

pub after-high : (bytes : List ℕ) (least p place : ℕ) → 3 < get_or bytes p 0 → p ≤ place → place < p + 3 → IsFound bytes least place → ⊥
after-high bytes least p place above low high f =
    after-other bytes least p place (λ e. let z : get_or bytes p 0 ≡ 0 = e in omega arith) (λ g. let h : get_or bytes p 0 ≤ 3 = g.high in omega arith) low
    high f
