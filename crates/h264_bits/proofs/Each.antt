-- A loop that reads an element under each name of a list: its turns.
use Rattle.std.proofs.Common.{◌≡◌, ℕ, suc, ◌+◌, ◌<◌, List, [], ◌∷◌, ◌++◌, drop, length, Ok, Err, subst, arith, get_or}
use Rattle.std.proofs.Math.Seq.{drop-cons}
use Rattle.h264_base.specs.declared.element_name.ElementName.{ElementName}
use Rattle.h264_base.specs.declared.stop.Stop.{Stop}
use Rattle.h264_base.specs.Call.{Call, span}
use Rattle.h264_base.specs.Grammar.{Grammar}
use Rattle.h264_base.specs.Meets.{Reader, Meets, Is}
use Rattle.h264_base.proofs.Steps.{Leads, leads-starts, leads-on, stop, done, finish}
use Rattle.h264_bits.specs.Forms.{each}

module _ {A S : Type 0} {took : S → List Call → Type 0} {failures : S → ℕ} where
  -- before the first turn
  pub each-starts : (form : ElementName → Grammar A) (names : List ElementName) (before : List A) (old : Reader) (s : S) → before ≡ [] →
      Leads took failures (each form [] names) (each form before (drop 0 names)) old old s s
  each-starts form names before old s e = rw e (leads-starts took failures (each form [] names) old s)

  -- one more turn
  pub each-next : {g : Grammar (List A)} {X : Type 0} {view : X → A} {old now mid : Reader} {s s' s'' : S} {x : X} (form : ElementName → Grammar A)
      (names : List ElementName) (i : ℕ) (d : ElementName) (before after : List A) → i < length names → after ≡ before ++ view x ∷ [] →
      Leads took failures g (each form before (drop i names)) old now s s' →
      Meets (span took failures s' s'') (Is view) (form (get_or names i d)) now mid (Ok x) →
      Leads took failures g (each form after (drop (i + 1) names)) old mid s s''
  unfolding each
  each-next {g} {view = view} {old} {now} {mid} {s} {s'} {s''} {x} form names i d before after h e l m =
      let P : List ElementName → Type 0 = λ rest. Leads took failures g (each form before rest) old now s s' in
      let next : i + 1 ≡ suc i = omega arith in
      rw (e, next) (leads-on (λ t. each form (before ++ t ∷ []) (drop (suc i) names)) (subst P (drop-cons names i d h) l) m)

  -- a turn stops
  pub each-stop : {g : Grammar (List A)} {X Y : Type 0} {R : Y → List A → Type 0} {view : X → A} {old now mid : Reader} {s s' s'' : S} {e : Stop}
      (form : ElementName → Grammar A) (names : List ElementName) (i : ℕ) (d : ElementName) (before : List A) → i < length names →
      Leads took failures g (each form before (drop i names)) old now s s' →
      Meets {X = X} (span took failures s' s'') (Is view) (form (get_or names i d)) now mid (Err e) →
      Meets {X = Y} (span took failures s s'') R g old mid (Err e)
  unfolding each
  each-stop {g} {old = old} {now} {s = s} {s'} form names i d before h l m =
      let P : List ElementName → Type 0 = λ rest. Leads took failures g (each form before rest) old now s s' in
      finish (subst P (drop-cons names i d h) l) (stop (λ t. each form (before ++ t ∷ []) (drop (suc i) names)) m)

  -- the loop is over
  pub each-over : {g : Grammar (List A)} {Y : Type 0} {R : Y → List A → Type 0} {old now : Reader} {s s' : S} (form : ElementName → Grammar A)
      (names : List ElementName) (i : ℕ) (before : List A) (y : Y) → drop i names ≡ [] → R y before →
      Leads took failures g (each form before (drop i names)) old now s s' → Meets (span took failures s s') R g old now (Ok y)
  unfolding each
  each-over {g} {R = R} {old} {now} {s} {s'} form names i before y e r l =
      let P : List ElementName → Type 0 = λ rest. Leads took failures g (each form before rest) old now s s' in
      finish (subst P e l) (done took failures R before now s' y r)
