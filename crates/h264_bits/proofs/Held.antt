-- What bits that are held say of the words among them.
use Rattle.std.proofs.Common.{◌≡◌, ℕ, ◌+◌, ◌*◌, ◌-◌, ◌/◌, ◌%◌, ◌^◌, ◌≤◌, pos, List, length, Some, Ok, Err, refl, arith}
use Rattle.std.proofs.lemmas.Nat.{mod-mul-add}
use Rattle.std.specs.Option.{option_map}
use Rattle.h264_base.specs.declared.stop.Stop.{Stop}
use Rattle.h264_base.specs.declared.stop.Stop.TheVariants.{No, Outside, Memory, Read as ReadFailed, Write}
use Rattle.h264_base.specs.Body.{Body}
use Rattle.h264_base.specs.Call.{Call, span}
use Rattle.h264_base.specs.Word.{Fixed, Words, Reads}
use Rattle.h264_base.specs.Grammar.{Grammar}
use Rattle.h264_base.specs.Meets.{Reader, Meets, MeetsBy, Is}
use Rattle.h264_base.proofs.Words.{value-reads}
use Rattle.h264_tables.specs.declared.front.Entry.{Entry}
use Rattle.h264_tables.specs.Entry.{entry_of}
use Rattle.h264_tables.specs.Front.{front_of}
use Rattle.h264_tables.specs.declared.table.Table.{Table}
use Rattle.h264_tables.specs.Table.{rows_of, code_table}
use Rattle.h264_bits.specs.Peek.{peek_at}
use Rattle.h264_bits.specs.Stretch.{AreTogether}
use Rattle.h264_bits.proofs.Peeks.{peek-split, peek-top, peek-below, fixed-inside}
use Rattle.h264_bits.proofs.Tables.{entry-inside}

-- the first of some bits that stand together
pub fewer : (body : Body) (i n m : ℕ) → m ≤ n → AreTogether body i n → AreTogether body i m
fewer body i n m few t = let a = t.inside in let b = t.fits in record { inside = omega arith; steady = λ k h. t.steady k (omega arith); fits = omega arith }

-- the word of a table that 16 bits begin with
pub held-word : (table : Table) (bytes : List ℕ) (i : ℕ) (e : Entry) → Some e ≡ option_map entry_of (front_of 16 (rows_of table) (peek_at 16 bytes i)) →
    i + e.length ≤ 8 * length bytes → Reads (Words (code_table table)) bytes i (pos e.value) (i + e.length)
held-word table bytes i e f inside = value-reads (Words (code_table table)) bytes i (pos e.value) (i + e.length)
    (entry-inside table bytes i _ refl e f (omega arith))

-- a number of so many bits
pub held-fixed : (n : ℕ) (bytes : List ℕ) (i v : ℕ) → v ≡ peek_at n bytes i → i + n ≤ 8 * length bytes → Reads (Fixed n) bytes i (pos v) (i + n)
held-fixed n bytes i v e inside = rw e (value-reads (Fixed n) bytes i _ (i + n) (fixed-inside n bytes i (omega arith)))

-- the bits after the first of them, and before the last
pub peek-middle : (a b n : ℕ) (bytes : List ℕ) (i : ℕ) → a + b ≤ n → peek_at n bytes i / 2 ^ (n - (a + b)) % 2 ^ b ≡ peek_at b bytes (i + a)
peek-middle a b n bytes i few =
    rw (peek-top (a + b) n bytes i few, peek-split a b (a + b) bytes i refl)
    (mod-mul-add (peek_at a bytes i) (2 ^ b) (peek_at b bytes (i + a)) (peek-below b bytes (i + a)))

stopped : {X Y A S : Type 0} (took : S → List Call → Type 0) (failures : S → ℕ) (R : X → A → Type 0) (R' : Y → A → Type 0) (g : Grammar A) (body : Body)
    (i j k : ℕ) (s s' : S) (e : Stop) → MeetsBy (span took failures s s') R g (record { body = body; at = i }) j (Err e) →
    MeetsBy (span took failures s s') R' g (record { body = body; at = i }) k (Err e)
stopped took failures R R' g body i j k s s' Write m = m
stopped took failures R R' g body i j k s s' (No b q) m = m
stopped took failures R R' g body i j k s s' (Outside b q) m = m
stopped took failures R R' g body i j k s s' Memory m = m
stopped took failures R R' g body i j k s s' ReadFailed m = m

-- where a structure stops, the reader may stand at any bit of the body, and it does not matter what would be given
pub stopped-as : {X Y A S : Type 0} {took : S → List Call → Type 0} {failures : S → ℕ} {R : X → A → Type 0} {R' : Y → A → Type 0} {g : Grammar A}
    {old new : Reader} {s s' : S} {e : Stop} (mid : Reader) → mid.body ≡ old.body → Meets (span took failures s s') R g old new (Err e) →
    Meets (span took failures s s') R' g old mid (Err e)
stopped-as {took = took} {failures} {R} {R'} {g} {old} {new} {s} {s'} {e} mid same m =
    record { meets = stopped took failures R R' g old.body old.at new.at mid.at s s' e m.meets; same = same }

pub stopped-at : {X A S : Type 0} {took : S → List Call → Type 0} {failures : S → ℕ} {R : X → A → Type 0} {g : Grammar A} {old new : Reader} {s s' : S}
    {e : Stop} (mid : Reader) → mid.body ≡ old.body → Meets (span took failures s s') R g old new (Err e) →
    Meets (span took failures s s') R g old mid (Err e)
stopped-at mid same m = stopped-as mid same m

-- what was told is given
pub given : {A S : Type 0} {took : S → List Call → Type 0} {failures : S → ℕ} {v : A} {g : Grammar A} {old new : Reader} {s s' : S} →
    Meets {X = Unit {0}} (span took failures s s') (Is (λ x. v)) g old new (Ok tt) → Meets (span took failures s s') (Is (λ (x : A). x)) g old new (Ok v)
given m = record { meets = m.meets; same = m.same }
