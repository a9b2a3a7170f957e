-- Turns of the loops over levels and over runs.
use Rattle.std.proofs.Common.{◌≡◌, ℕ, suc, ◌+◌, ◌-◌, ◌<◌, ◌≤◌, Bool, List, [], ◌∷◌, ◌++◌, length, ℤ, Result, Ok, Err, OnOk, ap, sym, ◌∙◌, subst, arith}
use Rattle.h264_base.specs.declared.stop.Stop.{Stop}
use Rattle.h264_base.specs.Call.{Call, span}
use Rattle.h264_base.specs.Grammar.{Grammar}
use Rattle.h264_base.specs.Meets.{Reader, Meets, Is}
use Rattle.h264_base.proofs.Steps.{Leads, leads-starts, leads-on, stop, done, finish}
use Rattle.h264_cavlc.specs.Level.{level, more_levels, is_never_one, next_suffix_length}
use Rattle.h264_cavlc.specs.Zeros.{run_before, runs_before}

module _ {S : Type 0} {took : S → List Call → Type 0} {failures : S → ℕ} where
  -- the first level after the trailing ones
  pub levels-start : (ones n s i : ℕ) (before : List ℤ) (m : ℕ) (old : Reader) (z : S) → s ≡ i → n ≡ m →
      Leads took failures (more_levels ones before s n) (more_levels ones before i m) old old z z
  levels-start ones n s i before m old z e f = rw (e, f) (leads-starts took failures (more_levels ones before i m) old z)

  -- one more level
  pub levels-next : {g : Grammar (List ℤ)} {old now mid : Reader} {s s' s'' : S} {x : ℤ} (ones total k length' next : ℕ) (never_one : Bool)
      (before after : List ℤ) → k < total → length before ≡ k → never_one ≡ is_never_one ones k → next ≡ next_suffix_length length' x →
      after ≡ before ++ x ∷ [] → Leads took failures g (more_levels ones before length' (total - k)) old now s s' →
      Meets (span took failures s' s'') (Is (λ (x : ℤ). x)) (level length' never_one) now mid (Ok x) →
      Leads took failures g (more_levels ones after next (total - (k + 1))) old mid s s''
  unfolding more_levels
  levels-next {g} {old} {now} {mid} {s} {s'} {s''} {x} ones total k length' next never_one before after h sized never is e l m =
      let n : total - k ≡ suc (total - (k + 1)) = omega arith in
      let P : ℕ → Type 0 = λ n. Leads took failures g (more_levels ones before length' n) old now s s' in
      let M : Bool → Type 0 = λ b. Meets (span took failures s' s'') (Is (λ (x : ℤ). x)) (level length' b) now mid (Ok x) in
      let b : never_one ≡ is_never_one ones (length before) = never ∙ ap (is_never_one ones) (sym sized) in
      rw (e, is) (leads-on (λ t. more_levels ones (before ++ t ∷ []) (next_suffix_length length' t) (total - (k + 1))) (subst P n l) (subst M b m))

  -- a level stops
  pub levels-stop : {g : Grammar (List ℤ)} {Y : Type 0} {R : Y → List ℤ → Type 0} {old now mid : Reader} {s s' s'' : S} {e : Stop} (ones total k length' : ℕ)
      (never_one : Bool) (before : List ℤ) → k < total → length before ≡ k → never_one ≡ is_never_one ones k →
      Leads took failures g (more_levels ones before length' (total - k)) old now s s' →
      Meets {X = ℤ} (span took failures s' s'') (Is (λ (x : ℤ). x)) (level length' never_one) now mid (Err e) →
      Meets {X = Y} (span took failures s s'') R g old mid (Err e)
  unfolding more_levels
  levels-stop {g} {old = old} {now} {mid} {s} {s'} {s''} {e} ones total k length' never_one before h sized never l m =
      let n : total - k ≡ suc (total - (k + 1)) = omega arith in
      let P : ℕ → Type 0 = λ n. Leads took failures g (more_levels ones before length' n) old now s s' in
      let M : Bool → Type 0 = λ b. Meets {X = ℤ} (span took failures s' s'') (Is (λ (x : ℤ). x)) (level length' b) now mid (Err e) in
      let b : never_one ≡ is_never_one ones (length before) = never ∙ ap (is_never_one ones) (sym sized) in
      finish (subst P n l) (stop (λ t. more_levels ones (before ++ t ∷ []) (next_suffix_length length' t) (total - (k + 1))) (subst M b m))

  -- no level is left
  pub levels-over : {g : Grammar (List ℤ)} {Y : Type 0} {R : Y → List ℤ → Type 0} {old now : Reader} {s s' : S} (ones total k length' : ℕ) (before : List ℤ)
      (y : Y) → total ≤ k → R y before → Leads took failures g (more_levels ones before length' (total - k)) old now s s' →
      Meets (span took failures s s') R g old now (Ok y)
  unfolding more_levels
  levels-over {g} {R = R} {old} {now} {s} {s'} ones total k length' before y h r l =
      let n : total - k ≡ 0 = omega arith in
      let P : ℕ → Type 0 = λ n. Leads took failures g (more_levels ones before length' n) old now s s' in
      finish (subst P n l) (done took failures R before now s' y r)

  -- before the first run
  pub runs-start : (zeros n m : ℕ) (old : Reader) (z : S) → n ≡ m → Leads took failures (runs_before [] zeros n) (runs_before [] zeros m) old old z z
  runs-start zeros n m old z e = rw e (leads-starts took failures (runs_before [] zeros m) old z)

  -- one more run
  pub runs-next : {g : Grammar (List ℕ)} {old now mid : Reader} {s s' s'' : S} {x : ℕ} (n k left next : ℕ) (before : List ℕ) → k < n → next ≡ left - x →
      Leads took failures g (runs_before before left (n - k)) old now s s' →
      Meets (span took failures s' s'') (Is (λ (x : ℕ). x)) (run_before left) now mid (Ok x) →
      Leads took failures g (runs_before (before ++ x ∷ []) next (n - (k + 1))) old mid s s''
  unfolding runs_before
  runs-next {g} {old} {now} {mid} {s} {s'} {s''} {x} n k left next before h is l m =
      let e : n - k ≡ suc (n - (k + 1)) = omega arith in
      let P : ℕ → Type 0 = λ n. Leads took failures g (runs_before before left n) old now s s' in
      rw is (leads-on (λ t. runs_before (before ++ t ∷ []) (left - t) (n - (k + 1))) (subst P e l) m)

  -- a run stops
  pub runs-stop : {g : Grammar (List ℕ)} {Y : Type 0} {R : Y → List ℕ → Type 0} {old now mid : Reader} {s s' s'' : S} {e : Stop} (n k left : ℕ)
      (before : List ℕ) → k < n → Leads took failures g (runs_before before left (n - k)) old now s s' →
      Meets {X = ℕ} (span took failures s' s'') (Is (λ (x : ℕ). x)) (run_before left) now mid (Err e) →
      Meets {X = Y} (span took failures s s'') R g old mid (Err e)
  unfolding runs_before
  runs-stop {g} {old = old} {now} {mid} {s} {s'} {s''} n k left before h l m =
      let e : n - k ≡ suc (n - (k + 1)) = omega arith in
      let P : ℕ → Type 0 = λ n. Leads took failures g (runs_before before left n) old now s s' in
      finish (subst P e l) (stop (λ t. runs_before (before ++ t ∷ []) (left - t) (n - (k + 1))) m)

  -- no run is left
  pub runs-over : {g : Grammar (List ℕ)} {Y : Type 0} {R : Y → List ℕ → Type 0} {old now : Reader} {s s' : S} (n k left : ℕ) (before : List ℕ) (y : Y) →
      n ≤ k → R y before → Leads took failures g (runs_before before left (n - k)) old now s s' → Meets (span took failures s s') R g old now (Ok y)
  unfolding runs_before
  runs-over {g} {R = R} {old} {now} {s} {s'} n k left before y h r l =
      let e : n - k ≡ 0 = omega arith in
      let P : ℕ → Type 0 = λ n. Leads took failures g (runs_before before left n) old now s s' in
      finish (subst P e l) (done took failures R before now s' y r)

pub quiet-after : {X : Type 0} (r : Result X Stop) (a b c : ℕ) → b ≡ a → OnOk r (c ≡ b) → OnOk r (c ≡ a)
quiet-after (Ok x) a b c e o = o ∙ e
quiet-after (Err s) a b c e o = tt
