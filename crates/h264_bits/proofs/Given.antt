-- What a bounded number gives.
use Rattle.std.proofs.Common.{ℕ, ◌≤◌}
use Rattle.std.proofs.lemmas.Bool.{leb-true}
use Rattle.h264_base.specs.declared.element_name.ElementName.{ElementName}
use Rattle.h264_base.specs.Grammar.{Grammar, ◌>>=◌, read_word, check}
use Rattle.h264_base.proofs.Gives.{Gives, gives-bind}
use Rattle.h264_bits.specs.Forms.{natural, unsigned_to}

bounded : (name : ElementName) (max : ℕ) → Gives (unsigned_to name max) (λ n. n ≤ max)
unfolding unsigned_to read_word check ◌>>=◌ Gives
bounded name max = λ e t. leb-true (natural e.value) max t

-- after a number of at most max
pub gives-to : {B : Type 0} (name : ElementName) (max : ℕ) (f : ℕ → Grammar B) (P : B → Type 0) → ((n : ℕ) → n ≤ max → Gives (f n) P) →
    Gives (unsigned_to name max >>= f) P
gives-to name max f P h = gives-bind (λ n. n ≤ max) P (unsigned_to name max) f (bounded name max) h
