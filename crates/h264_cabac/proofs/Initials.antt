-- Contexts written one after another.
use Rattle.std.proofs.Common.{◌≡◌, ◌≢◌, ℕ, zero, suc, ◌+◌, ◌<◌, ◌≤◌, List, [], ◌∷◌, map, length, Some, None, ℤ, refl, sym, ap, ◌∙◌, arith, inl, inr, rules}
use Rattle.std.specs.Prelude.{slice_get}
use Rattle.std.proofs.lemmas.Bool.{cases_lt, lt-leb}
use Rattle.std.proofs.Math.ListN.{set, length-set}
use Rattle.h264_cabac.specs.declared.initial.InitTable.{InitTable}
use Rattle.h264_cabac.specs.declared.initial.InitTable.TheVariants.{Intra, CabacInit0, CabacInit1, CabacInit2}
use Rattle.std.specs.Option.{option_map}
use Rattle.std.proofs.lemmas.Option.{slice_get-map}
use Rattle.h264_cabac.specs.declared.context.Context.{Context}
use Rattle.h264_cabac.specs.Given.{state_of}
use Rattle.h264_cabac.specs.Contexts.{pair_of, i_place, p_place, initial_state}

pub set-same : {X : Type 0} (xs : List X) (i : ℕ) (x : X) → i < length xs → slice_get (set xs i x) i ≡ Some x
unfolding set
set-same [] i x h = absurd (omega arith)
set-same (y ∷ xs) zero x h = refl
set-same (y ∷ xs) (suc i) x h = set-same xs i x (omega arith)

pub set-other : {X : Type 0} (xs : List X) (i k : ℕ) (x : X) → k ≢ i → slice_get (set xs i x) k ≡ slice_get xs k
unfolding set
set-other [] i k x h = refl
set-other (y ∷ xs) zero zero x h = absurd (h refl)
set-other (y ∷ xs) zero (suc k) x h = refl
set-other (y ∷ xs) (suc i) zero x h = refl
set-other (y ∷ xs) (suc i) (suc k) x h = set-other xs i k x (λ e. h (ap suc e))

none-far : (index : ℕ) → 436 ≤ index → (i_place index ≡ None) × (p_place index ≡ None)
unfolding i_place p_place
none-far index h = (
  rw (lt-leb index 10 (omega arith), lt-leb index 69 (omega arith), lt-leb index 275 (omega arith), lt-leb index 435 (omega arith)) (search rules),
  rw (lt-leb index 23 (omega arith), lt-leb index 69 (omega arith), lt-leb index 275 (omega arith), lt-leb index 435 (omega arith)) (search rules),
)

pub pair-below : (table : InitTable) (index : ℕ) (pair : ℤ × ℤ) → pair_of table index ≡ Some pair → index < 436
unfolding pair_of
pair-below table index pair e = elim (cases_lt index 436) [
  | inl below ↦ below
  | inr far ↦ absurd (go table (none-far index far) e)
]
  where
    go : (table : InitTable) → (i_place index ≡ None) × (p_place index ≡ None) → pair_of table index ≡ Some pair → ⊥
    go Intra n e = let f = (rw n.0 at e) in cc
    go CabacInit0 n e = let f = (rw n.1 at e) in cc
    go CabacInit1 n e = let f = (rw n.1 at e) in cc
    go CabacInit2 n e = let f = (rw n.1 at e) in cc

-- the contexts up to i are those that the slice begins with
pub record AreInitial (table : InitTable) (slice_qp i : ℕ) (xs : List Context) : Type 0 where
  pub count : length xs ≡ 436
  pub states : (k : ℕ) → k < i → (pair : ℤ × ℤ) → pair_of table k ≡ Some pair → slice_get (map state_of xs) k ≡ Some (initial_state pair slice_qp)

pub one-more : (table : InitTable) (slice_qp i : ℕ) (xs : List Context) (x : Context) → AreInitial table slice_qp i xs →
    ((pair : ℤ × ℤ) → pair_of table i ≡ Some pair → state_of x ≡ initial_state pair slice_qp) → i < 436 →
    AreInitial table slice_qp (i + 1) (set xs i x)
one-more table slice_qp i xs x before here below = record {
  count = length-set xs i x ∙ before.count;
  states = λ k h pair e. elim (cases_lt k i) [
    | inl before_i ↦
        let ne : k ≢ i = omega arith in
        slice_get-map state_of (set xs i x) k ∙ (ap (option_map state_of) (set-other xs i k x ne) ∙
        (sym (slice_get-map state_of xs k) ∙ before.states k before_i pair e))
    | inr above ↦
        let same : k ≡ i = omega arith in
        slice_get-map state_of (set xs i x) k ∙ (ap (λ n. option_map state_of (slice_get (set xs i x) n)) same ∙
        (ap (option_map state_of) (set-same xs i x (let n = before.count in omega arith)) ∙ ap Some (here pair (rw same at e))))
  ];
}
