use Rattle.std.proofs.Common.{◌≡◌, ◌≢◌, ℕ, ◌+◌, ◌<◌, ◌≤◌, ⊎_elim, List, Option, Some, None, get_or, length, set, ap, sym, ◌∙◌, subst, arith}
use Rattle.std.proofs.lemmas.Bool.{cases_lt}
use Rattle.std.proofs.lemmas.List.{get_or-set_same, get_or-set_other, length-set}
use Rattle.h264_verify.specs.declared.decoder.Decoder.{Decoder}
use Rattle.h264_verify.specs.Keeping.{IsNear}
use Rattle.h264_verify.proofs.decoder.Decoder.frame_places.Goals.{in-Some, in_default}
use Rattle.h264_verify.proofs.decoder.Decoder.frame_places.Goals as goal

abbrev AreNear : Decoder → List (Option ℕ) → List ℕ → ℕ → Type 0
AreNear d references places all = (k n : ℕ) → k < all → get_or references k None ≡ Some n → IsNear d n (get_or places k 0)

with-place : (d : Decoder) (references : List (Option ℕ)) (old new : List ℕ) (i picture place : ℕ) → AreNear d references old i → i < length old →
    get_or references i None ≡ Some picture → IsNear d picture place → new ≡ set old i place → AreNear d references new (i + 1)
with-place d references old new i picture place near short is h e = λ k n l f. ⊎_elim
    (λ (q : k < i). let other : k ≢ i = λ g. absurd (omega (arith, g, q)) in
    subst (IsNear d n) (sym (ap (λ (x : List ℕ). get_or x k 0) e ∙ get_or-set_other old i k place 0 other)) (near k n q f))
    (λ (q : i ≤ k).
    let same : k ≡ i = omega (arith, q, l) in
    let named : ◌≡◌ {A = Option ℕ} (Some picture) (Some n) = sym is ∙ ap (λ (x : ℕ). get_or references x None) (sym same) ∙ f in
    let number : picture ≡ n = cc in
    let at : get_or new k 0 ≡ place = ap (λ (x : List ℕ). get_or x k 0) e ∙ ap (λ (x : ℕ). get_or (set old i place) x 0) same ∙
    get_or-set_same old i place 0 short in
    subst (λ (x : ℕ). IsNear d x (get_or new k 0)) number (subst (IsNear d picture) (sym at) h))
    (cases_lt k i)

without-place : (d : Decoder) (references : List (Option ℕ)) (old new : List ℕ) (i : ℕ) → AreNear d references old i → get_or references i None ≡ None →
    new ≡ old → AreNear d references new (i + 1)
without-place d references old new i near none e = λ k n l f. ⊎_elim
    (λ (q : k < i). subst (λ (x : List ℕ). IsNear d n (get_or x k 0)) (sym e) (near k n q f))
    (λ (q : i ≤ k).
    let same : k ≡ i = omega (arith, q, l) in
    let named : ◌≡◌ {A = Option ℕ} None (Some n) = sym none ∙ ap (λ (x : ℕ). get_or references x None) (sym same) ∙ f in
    cc)
    (cases_lt k i)

pub loop-k-preserved : goal.loop-k-preserved
loop-k-preserved c = elim c.match-references-k.branch [
  | in-Some w ↦ record {
    near = with-place c.args.self.now c.args.references.now c.loop-k.places c.match-references-k.places c.loop-k.k w.in-Some.picture w.place_of.result
        c.loop-k.invariant.near (let a = c.loop-k.invariant.all in let t = c.loop-k-test.true in omega (arith, a, t)) w.in-Some.is w.place_of.ensures
        w.places-is;
    all = ap (λ (x : List ℕ). length x) w.places-is ∙ length-set c.loop-k.places c.loop-k.k w.place_of.result ∙ c.loop-k.invariant.all;
  }
  | in_default w ↦ record {
    near = without-place c.args.self.now c.args.references.now c.loop-k.places c.match-references-k.places c.loop-k.k c.loop-k.invariant.near w.in_default.is
        w.places-is;
    all = ap (λ (x : List ℕ). length x) w.places-is ∙ c.loop-k.invariant.all;
  }
]

pub returns : goal.returns
returns c = λ k n l e. c.loop-k.invariant.near k n (let t = c.loop-k-test.false in omega (arith, t, l)) e
