-- The entries of a list that a code ends: their turns, their codes, and what other codes are.
use Rattle.std.proofs.Common.{◌≡◌, ◌≢◌, ℕ, zero, suc, ◌+◌, ◌-◌, ◌<◌, ◌≤◌, ◌==◌, List, [], ◌∷◌, ◌++◌, Option, Some, None, Ok, Err, refl}
use Rattle.std.proofs.Common.{subst, arith}
use Rattle.h264_base.specs.declared.stop.Stop.{Stop}
use Rattle.h264_base.specs.Call.{Call, span}
use Rattle.h264_base.specs.declared.element_name.ElementName.TheVariants.{AbsDiffPicNumMinus1}
use Rattle.h264_base.specs.Grammar.{Grammar, Done, ◌>>=◌}
use Rattle.h264_base.specs.Meets.{Reader, Meets, Is}
use Rattle.h264_base.proofs.Steps.{Leads, leads-starts, leads-on, stop, done, finish}
use Rattle.h264_header.specs.Listed.{listed, listed_on}
use Rattle.h264_bits.specs.Forms.{unsigned, unsigned_to}
use Rattle.h264_header.specs.declared.header.FilterOffsets.{FilterOffsets}
use Rattle.h264_header.specs.declared.header.Deblocking.{Deblocking}
use Rattle.h264_header.specs.declared.header.Modification.{Modification}
use Rattle.h264_header.specs.declared.header.Operation.{Operation}
use Rattle.h264_header.specs.Header.{deblocking_of, filter_offsets}
use Rattle.std.proofs.Common.{IsTrue, length, not, Result}
use Rattle.std.specs.Prelude.{OnOk}
use Rattle.std.proofs.lemmas.Bool.Decides.{nat_tests}
use Rattle.h264_header.specs.declared.header.MarkingOperation.{MarkingOperation}
use Rattle.h264_header.specs.Marking.{operands, is_repeated, is_operation_allowed}
use Rattle.h264_header.specs.Parts.{operand_name, with_operand}
use Rattle.h264_header.specs.RefList.{command, is_command_allowed}

-- what follows where a result is there
pub where-ok : {X E P Q : Type 0} (r : Result X E) → (P → Q) → OnOk r P → OnOk r Q
where-ok (Ok x) f p = f p
where-ok (Err e) f p = tt

module _ {A S : Type 0} {took : S → List Call → Type 0} {failures : S → ℕ} where
  -- before the first entry
  pub listed-starts : (entry : List A → Grammar (Option A)) (n : ℕ) (before : List A) (old : Reader) (s : S) → before ≡ [] →
      Leads took failures (listed entry n []) (listed entry (n - 0) before) old old s s
  listed-starts entry n before old s e =
      let whole : n - 0 ≡ n = omega arith in
      rw (whole, e) (leads-starts took failures (listed entry n []) old s)

  -- one more entry
  pub listed-next : {g : Grammar (List A)} {old now mid : Reader} {s s' s'' : S} {x : A} (entry : List A → Grammar (Option A)) (n i : ℕ)
      (before after : List A) → i < n → after ≡ before ++ x ∷ [] → Leads took failures g (listed entry (n - i) before) old now s s' →
      Meets (span took failures s' s'') (Is (λ (o : Option A). o)) (entry before) now mid (Ok (Some x)) →
      Leads took failures g (listed entry (n - (i + 1)) after) old mid s s''
  unfolding listed
  listed-next {g} {old} {now} {mid} {s} {s'} {s''} entry n i before after h e l m =
      let k : n - i ≡ suc (n - (i + 1)) = omega arith in
      let P : ℕ → Type 0 = λ k. Leads took failures g (listed entry k before) old now s s' in
      rw e (leads-on (listed_on (listed entry (n - (i + 1))) before) (subst P k l) m)

  -- an entry stops
  pub listed-stop : {g : Grammar (List A)} {Y : Type 0} {R : Y → List A → Type 0} {old now mid : Reader} {s s' s'' : S} {e : Stop}
      (entry : List A → Grammar (Option A)) (n i : ℕ) (before : List A) → i < n → Leads took failures g (listed entry (n - i) before) old now s s' →
      Meets (span took failures s' s'') (Is (λ (o : Option A). o)) (entry before) now mid (Err e) →
      Meets {X = Y} (span took failures s s'') R g old mid (Err e)
  unfolding listed
  listed-stop {g} {old = old} {now} {s = s} {s'} entry n i before h l m =
      let k : n - i ≡ suc (n - (i + 1)) = omega arith in
      let P : ℕ → Type 0 = λ k. Leads took failures g (listed entry k before) old now s s' in
      finish (subst P k l) (stop (listed_on (listed entry (n - (i + 1))) before) m)

  -- the end
  pub listed-ends : {g : Grammar (List A)} {Y : Type 0} {R : Y → List A → Type 0} {old now mid : Reader} {s s' s'' : S} (entry : List A → Grammar (Option A))
      (n i : ℕ) (before : List A) (y : Y) → i < n → R y before → Leads took failures g (listed entry (n - i) before) old now s s' →
      Meets (span took failures s' s'') (Is (λ (o : Option A). o)) (entry before) now mid (Ok None) → Meets (span took failures s s'') R g old mid (Ok y)
  unfolding listed
  listed-ends {g} {R = R} {old} {now} {mid} {s} {s'} {s''} entry n i before y h r l m =
      let k : n - i ≡ suc (n - (i + 1)) = omega arith in
      let P : ℕ → Type 0 = λ k. Leads took failures g (listed entry k before) old now s s' in
      finish (leads-on (listed_on (listed entry (n - (i + 1))) before) (subst P k l) m) (done took failures R before mid s'' y r)

  -- no turn is left
  pub listed-over : {g : Grammar (List A)} {Y : Type 0} {R : Y → List A → Type 0} {old now : Reader} {s s' : S} (entry : List A → Grammar (Option A))
      (n i : ℕ) (before : List A) (y : Y) → n ≤ i → R y before → Leads took failures g (listed entry (n - i) before) old now s s' →
      Meets (span took failures s s') R g old now (Ok y)
  unfolding listed
  listed-over {g} {R = R} {old} {now} {s} {s'} entry n i before y h r l =
      let k : n - i ≡ 0 = omega arith in
      let P : ℕ → Type 0 = λ k. Leads took failures g (listed entry k before) old now s s' in
      finish (subst P k l) (done took failures R before now s' y r)

-- what may stand after others and does not end them has room
pub command-room : (active before idc : ℕ) → idc ≢ 3 → IsTrue (is_command_allowed active before idc) → before < active
command-room active before idc h t = grind (arith, nat_tests)

pub command-known : (active before idc : ℕ) → idc ≢ 3 → IsTrue (is_command_allowed active before idc) → idc ≤ 2
command-known active before idc h t = grind (arith, nat_tests)

pub operation-room : (before : List MarkingOperation) (number : ℕ) → number ≢ 0 → IsTrue (is_operation_allowed before number) → length before < 36
operation-room before number h t = grind (arith, nat_tests)

pub operation-known : (before : List MarkingOperation) (number : ℕ) → number ≢ 0 → IsTrue (is_operation_allowed before number) → number ≤ 6
operation-known before number h t = grind (arith, nat_tests)

-- the code's own test of a repetition
pub allowed-by : (before : List MarkingOperation) (number : ℕ) → number ≢ 0 → number ≤ 6 → length before < 36 →
    is_operation_allowed before number ≡ not (is_repeated before number)
allowed-by before number h k l = grind (arith, nat_tests)

-- where a command has a difference, that stops
pub difference-stops : {S : Type 0} {took : S → List Call → Type 0} {failures : S → ℕ} {old new : Reader} {s s' : S} {e : Stop} (greatest idc : ℕ) → idc ≤ 2 →
    idc ≢ 2 → Meets {X = ℕ} (span took failures s s') (Is (λ x. x)) (unsigned_to AbsDiffPicNumMinus1 greatest) old new (Err e) →
    Meets {X = Modification} (span took failures s s') (Is Some) (command greatest idc) old new (Err e)
unfolding command
difference-stops greatest zero h k m = stop _ m
difference-stops greatest (suc zero) h k m = stop _ m
difference-stops greatest (suc (suc zero)) h k m = absurd (k refl)
difference-stops greatest (suc (suc (suc n))) h k m = absurd (omega arith)

-- values of disable_deblocking_filter_idc other than 0 and 1
pub deblocking-other : (n : ℕ) → n ≢ 0 → n ≢ 1 → deblocking_of n ≡ deblocking_of 2
unfolding deblocking_of
deblocking-other zero a b = absurd (a refl)
deblocking-other (suc zero) a b = absurd (b refl)
deblocking-other (suc (suc n)) a b = refl

-- where disable_deblocking_filter_idc is not 1, the offsets stop
pub offsets-stop : {S : Type 0} {took : S → List Call → Type 0} {failures : S → ℕ} {old new : Reader} {s s' : S} {e : Stop} (n : ℕ) → n ≢ 1 →
    Meets {X = FilterOffsets} (span took failures s s') (Is (λ x. x)) filter_offsets old new (Err e) →
    Meets {X = Deblocking} (span took failures s s') (Is (λ x. x)) (deblocking_of n) old new (Err e)
unfolding deblocking_of
offsets-stop zero h m = stop _ m
offsets-stop (suc zero) h m = absurd (h refl)
offsets-stop (suc (suc n)) h m = stop _ m

-- the operand of an operation that has one
pub one-operand : (n : ℕ) → 0 < n → n ≤ 6 → n ≢ 3 → n ≢ 5 → operands n ≡ (unsigned (operand_name n) >>= (λ v. Done (Some (with_operand n v))))
unfolding operands
one-operand zero h k a b = absurd (omega arith)
one-operand (suc zero) h k a b = refl
one-operand (suc (suc zero)) h k a b = refl
one-operand (suc (suc (suc zero))) h k a b = absurd (a refl)
one-operand (suc (suc (suc (suc zero)))) h k a b = refl
one-operand (suc (suc (suc (suc (suc zero))))) h k a b = absurd (b refl)
one-operand (suc (suc (suc (suc (suc (suc zero)))))) h k a b = refl
one-operand (suc (suc (suc (suc (suc (suc (suc n))))))) h k a b = absurd (omega arith)

-- the first operand stops
pub operand-stops : {S : Type 0} {took : S → List Call → Type 0} {failures : S → ℕ} {old new : Reader} {s s' : S} {e : Stop} (n : ℕ) → 0 < n → n ≤ 6 → n ≢ 5 →
    Meets {X = ℕ} (span took failures s s') (Is (λ x. x)) (unsigned (operand_name n)) old new (Err e) →
    Meets {X = Operation} (span took failures s s') (Is Some) (operands n) old new (Err e)
unfolding operands
operand-stops zero h k b m = absurd (omega arith)
operand-stops (suc zero) h k b m = stop _ m
operand-stops (suc (suc zero)) h k b m = stop _ m
operand-stops (suc (suc (suc zero))) h k b m = stop _ m
operand-stops (suc (suc (suc (suc zero)))) h k b m = stop _ m
operand-stops (suc (suc (suc (suc (suc zero))))) h k b m = absurd (b refl)
operand-stops (suc (suc (suc (suc (suc (suc zero)))))) h k b m = stop _ m
operand-stops (suc (suc (suc (suc (suc (suc (suc n))))))) h k b m = absurd (omega arith)
