-- Ways on and out of a reader, said of its result as the code has it.
use Rattle.h264_base.specs.Run.{run}
use Rattle.std.proofs.Common.{◌≡◌, ℕ, ◌<◌, Bool, true, false, List, [], Result, Ok, Err, Option, Some, None, refl, sym, subst}
use Rattle.std.specs.Result.{IsErrAnd}
use Rattle.h264_base.specs.declared.rule.Rule.{Rule}
use Rattle.h264_base.specs.declared.stop.Stop.{Stop}
use Rattle.h264_base.specs.Call.{Call, span}
use Rattle.h264_base.specs.Grammar.{Grammar, ◌>>=◌, check}
use Rattle.h264_base.specs.Meets.{Reader, Meets, Is, Checks}
use Rattle.h264_base.proofs.Steps.{finish, tells-none, bind, bind_as, stop, done, checked, kept}
use Rattle.h264_bits.specs.Forms.{optional}
use Rattle.h264_sps.specs.VuiParts.{there as there_of}

-- what a part stopped with is passed on
pub passed-on : {Y B S : Type 0} {took : S → List Call → Type 0} {failures : S → ℕ} {R : Y → B → Type 0} {g : Grammar B} {old new : Reader} {s s' : S}
    {e : Stop} (r : Result Y Stop) → IsErrAnd r (λ y. y ≡ e) → Meets (span took failures s s') R g old new (Err e) →
    Meets (span took failures s s') R g old new r
passed-on (Ok x) h m = absurd h
passed-on (Err y) h m = rw h m

-- the same structure, written in other parts
pub as-parts : {Y B S : Type 0} {took : S → List Call → Type 0} {failures : S → ℕ} {R : Y → B → Type 0} {g g' : Grammar B} {old new : Reader} {s s' : S}
    {r : Result Y Stop} → g ≡ g' → Meets (span took failures s s') R g' old new r → Meets (span took failures s s') R g old new r
as-parts {took} {failures} {R} {old} {new} {s} {s'} {r} e m = subst (λ g. Meets (span took failures s s') R g old new r) (sym e) m

-- a structure whose run is that of another
pub by-run : {Y B S : Type 0} {took : S → List Call → Type 0} {failures : S → ℕ} {R : Y → B → Type 0} {g g' : Grammar B} {old new : Reader} {s s' : S}
    {r : Result Y Stop} → run g old.body old.at ≡ run g' old.body old.at → Meets (span took failures s s') R g' old new r →
    Meets (span took failures s s') R g old new r
by-run {took} {s} e m = finish (record { before = []; goes = e; tells = tells-none took s; quiet = refl; same = refl }) m

-- a check of what a function answered
pub checked-so : {S : Type 0} {took : S → List Call → Type 0} {failures : S → ℕ} {rule : Rule} {bit : ℕ} {found holds : Bool} {old : Reader} {s : S}
    {r : Result (Unit {0}) Stop} → found ≡ holds → Checks rule bit found r →
    Meets (span took failures s s) (Is (λ (u : Unit {0}). u)) (check rule bit holds) old old r
checked-so {rule} {bit} {r} e c = checked _ _ _ _ (subst (λ holds. Checks rule bit holds r) e c)

-- a part that is not there
pub absent : {A S : Type 0} {took : S → List Call → Type 0} {failures : S → ℕ} {b : Bool} {old : Reader} {s : S} (part : Grammar A) → b ≡ false →
    Meets (span took failures s s) (Is (λ (x : Option A). x)) (optional b part) old old (Ok None)
unfolding optional
absent part e = rw e (done _ _ _ _ _ _ _ refl)

-- a part that is there stops
pub there-stop : {A S : Type 0} {took : S → List Call → Type 0} {failures : S → ℕ} {part : Grammar A} {b : Bool} {old new : Reader} {s s' : S} {e : Stop} →
    b ≡ true → Meets (span took failures s s') (Is (λ (x : A). x)) part old new (Err e) →
    Meets (span took failures s s') (Is (λ (x : Option A). x)) (optional b part) old new (Err e)
unfolding optional
there-stop t m = rw t (stop _ m)

-- a part that is there was read
pub there-read : {A S : Type 0} {took : S → List Call → Type 0} {failures : S → ℕ} {part : Grammar A} {b : Bool} {old new : Reader} {s s' : S} {x : A} →
    b ≡ true → Meets (span took failures s s') (Is (λ (x : A). x)) part old new (Ok x) →
    Meets (span took failures s s') (Is (λ (x : Option A). x)) (optional b part) old new (Ok (Some x))
unfolding optional
there-read t m = rw t (bind _ m (done _ _ _ _ _ _ _ refl))

either : {A S : Type 0} {took : S → List Call → Type 0} {failures : S → ℕ} {part : Grammar A} {b : Bool} {old new : Reader} {s s' : S} (r : Result A Stop) →
    b ≡ true → Meets (span took failures s s') (Is (λ (x : A). x)) part old new r →
    Meets (span took failures s s') (Is (λ (x : Option A). x)) (optional b part) old new (there_of r)
either (Ok x) t m = there-read t m
either (Err e) t m = there-stop t m

-- a part that is there was read, or stops
pub there : {A S : Type 0} {took : S → List Call → Type 0} {failures : S → ℕ} {part : Grammar A} {b : Bool} {old new : Reader} {s s' : S} {r : Result A Stop}
    {r' : Result (Option A) Stop} → b ≡ true → r' ≡ there_of r → Meets (span took failures s s') (Is (λ (x : A). x)) part old new r →
    Meets (span took failures s s') (Is (λ (x : Option A). x)) (optional b part) old new r'
there {r} t e m = rw e (either r t m)

-- reading a part whose value is made of what the structure gives, and then the rest
pub bind-of : {X Y A B S : Type 0} {took : S → List Call → Type 0} {failures : S → ℕ} {made : A → X} {R' : Y → B → Type 0} {g : Grammar A} (f : X → Grammar B)
    {old mid new : Reader} {s0 s1 s2 : S} {x : X} {r : Result Y Stop} → Meets (span took failures s0 s1) (λ x v. x ≡ made v) g old mid (Ok x) →
    Meets (span took failures s1 s2) R' (f x) mid new r → Meets (span took failures s0 s2) R' (g >>= (λ v. f (made v))) old new r
bind-of f a b = bind_as _ a (λ v e. rw (← e) b)

-- what was read took no call that failed, so as many may fail as before
pub still : {X A S : Type 0} {took : S → List Call → Type 0} {failures : S → ℕ} {R : X → A → Type 0} {g : Grammar A} {old new : Reader} {s s' : S} {x : X}
    {n : ℕ} → Meets (span took failures s s') R g old new (Ok x) → failures s < n → failures s' < n
still m h = rw (kept m) h
