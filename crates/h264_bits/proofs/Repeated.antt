-- A loop that reads a part so often: its turns, and an array that keeps what they read.
use Rattle.std.proofs.Common.{◌≡◌, ℕ, suc, ◌+◌, ◌-◌, ◌<◌, ◌≤◌, List, [], ◌∷◌, ◌++◌, drop, replicate, Ok, Err, ap, sym, ◌∙◌, subst, arith}
use Rattle.std.proofs.lemmas.List.{drop-drop}
use Rattle.h264_base.specs.declared.stop.Stop.{Stop}
use Rattle.h264_base.specs.Call.{Call, span}
use Rattle.h264_base.specs.Grammar.{Grammar}
use Rattle.h264_base.specs.Meets.{Reader, Meets, Is}
use Rattle.h264_base.proofs.Steps.{Leads, leads-starts, leads-on, stop, done, finish}
use Rattle.h264_bits.specs.Forms.{repeated}

module _ {A S : Type 0} {took : S → List Call → Type 0} {failures : S → ℕ} where
  -- before the first turn
  pub repeated-starts : (part : Grammar A) (n : ℕ) (before : List A) (old : Reader) (s : S) → before ≡ [] →
      Leads took failures (repeated part [] n) (repeated part before (n - 0)) old old s s
  repeated-starts part n before old s e =
      let whole : n - 0 ≡ n = omega arith in
      rw (whole, e) (leads-starts took failures (repeated part [] n) old s)

  -- one more turn
  pub repeated-next : {g : Grammar (List A)} {X : Type 0} {view : X → A} {old now mid : Reader} {s s' s'' : S} {x : X} (part : Grammar A) (n i : ℕ)
      (before after : List A) → i < n → after ≡ before ++ view x ∷ [] → Leads took failures g (repeated part before (n - i)) old now s s' →
      Meets (span took failures s' s'') (Is view) part now mid (Ok x) → Leads took failures g (repeated part after (n - (i + 1))) old mid s s''
  unfolding repeated
  repeated-next {g} {view = view} {old} {now} {mid} {s} {s'} {s''} {x} part n i before after h e l m =
      let k : n - i ≡ suc (n - (i + 1)) = omega arith in
      let P : ℕ → Type 0 = λ k. Leads took failures g (repeated part before k) old now s s' in
      rw e (leads-on (λ t. repeated part (before ++ t ∷ []) (n - (i + 1))) (subst P k l) m)

  -- a turn stops
  pub repeated-stop : {g : Grammar (List A)} {X Y : Type 0} {R : Y → List A → Type 0} {view : X → A} {old now mid : Reader} {s s' s'' : S} {e : Stop}
      (part : Grammar A) (n i : ℕ) (before : List A) → i < n → Leads took failures g (repeated part before (n - i)) old now s s' →
      Meets {X = X} (span took failures s' s'') (Is view) part now mid (Err e) → Meets {X = Y} (span took failures s s'') R g old mid (Err e)
  unfolding repeated
  repeated-stop {g} {old = old} {now} {s = s} {s'} part n i before h l m =
      let k : n - i ≡ suc (n - (i + 1)) = omega arith in
      let P : ℕ → Type 0 = λ k. Leads took failures g (repeated part before k) old now s s' in
      finish (subst P k l) (stop (λ t. repeated part (before ++ t ∷ []) (n - (i + 1))) m)

  -- the loop is over
  pub repeated-over : {g : Grammar (List A)} {Y : Type 0} {R : Y → List A → Type 0} {old now : Reader} {s s' : S} (part : Grammar A) (n i : ℕ)
      (before : List A) (y : Y) → n ≤ i → R y before → Leads took failures g (repeated part before (n - i)) old now s s' →
      Meets (span took failures s s') R g old now (Ok y)
  unfolding repeated
  repeated-over {g} {R = R} {old} {now} {s} {s'} part n i before y h r l =
      let k : n - i ≡ 0 = omega arith in
      let P : ℕ → Type 0 = λ k. Leads took failures g (repeated part before k) old now s s' in
      finish (subst P k l) (done took failures R before now s' y r)

-- the places after the first i + 1 are as they were
pub rest-kept : {X : Type 0} (xs : List X) (i n : ℕ) (z : X) → i < n → drop i xs ≡ replicate (n - i) z → drop (i + 1) xs ≡ replicate (n - (i + 1)) z
rest-kept xs i n z h e =
    let k : n - i ≡ suc (n - (i + 1)) = omega arith in
    sym (drop-drop 1 i xs) ∙ ap (drop 1) e ∙ ap (λ m. drop 1 (replicate m z)) k
