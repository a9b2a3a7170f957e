-- What is kept of an input, and given once more.
use Rattle.std.proofs.Common.{◌≡◌, ℕ, zero, suc, ◌+◌, ◌-◌, ◌<◌, ◌≤◌, List, [], ◌++◌, length, take, drop, Option, Some, None, refl, ap, sym, subst, ◌∙◌, arith}
use Rattle.std.proofs.lemmas.Grind.{common_steps}
use Rattle.std.proofs.lemmas.List.{take-append-le}
use Rattle.std.proofs.Math.Seq.{take-append-add}
use Rattle.std.specs.Io.KnownBytes.{Consumes, IsAtEnd}
use Rattle.h264_command.specs.Keeping.{GaveAgain, counted_bytes, in_order, left_kept}
use Rattle.h264_command.specs.declared.storing.KeptBytes.{KeptBytes}

module _ (old new piece piece' : List ℕ) (n : ℕ) (gave : GaveAgain old new piece piece' n) where
  -- what was given is the front of what was to be given
  front : old ≡ take n piece' ++ new
  front = let c = gave.count in let b = gave.bytes in let r = gave.rest in grind (arith, common_steps)

-- A read gives from memory, whatever comes after that.
gave-first : (old new piece piece' : List ℕ) (stored : Option (List ℕ)) (refused : List ℕ) (n : ℕ) → GaveAgain old new piece piece' n →
    Consumes (in_order old stored refused) (in_order new stored refused) (take n piece')
gave-first old new piece piece' None refused n gave = tt
gave-first old new piece piece' (Some xs) refused n gave = let f = front old new piece piece' n gave in grind (arith, common_steps)

-- of known bytes those that were counted are the first
counted-known : (n : ℕ) (xs : List ℕ) → counted_bytes n (Some xs) ≡ Some (take n xs)
counted-known zero xs = refl
counted-known (suc n) xs = refl

-- and of unknown bytes none are known, where any were counted
counted-unknown : (n : ℕ) → 0 < n → counted_bytes n None ≡ None
counted-unknown zero some = absurd (omega (arith, some))
counted-unknown (suc n) some = refl

-- a front of a list that begins so, and goes on
front-after : (k m : ℕ) (p ys : List ℕ) → k ≡ length p + m → take k (p ++ ys) ≡ p ++ take m ys
front-after k m p ys e = ap (λ i. take i (p ++ ys)) e ∙ take-append-add p ys m

module _ (stored n : ℕ) (piece rest : List ℕ) (some : 0 < n) (counted : n ≤ stored) (fits : n ≤ length piece) where
  -- A read of a store gives the first of the bytes that were counted, where it gives no more than these.
  pub counted-read : (old new : Option (List ℕ)) → Consumes old new (take n piece) →
      Consumes (counted_bytes stored old) (counted_bytes (stored - n) new) (take n (piece ++ rest))
  counted-read None new gave = rw (counted-unknown stored (omega arith)) tt
  counted-read (Some xs) None gave = absurd gave
  counted-read (Some xs) (Some ys) gave =
      let e : stored ≡ length (take n piece) + (stored - n) = grind (arith, common_steps) in
      let on = ap (λ q. q ++ take (stored - n) ys) (sym (take-append-le n piece rest fits)) in
      rw (counted-known stored xs) (rw (counted-known (stored - n) ys)
      (ap (λ zs. take stored zs) gave ∙ (front-after stored (stored - n) (take n piece) ys e ∙ on)))

-- what is consumed after nothing
pub after-nothing : (a b c d : Option (List ℕ)) (piece : List ℕ) → Consumes a b [] → c ≡ b → Consumes c d piece → Consumes a d piece
after-nothing None b c d piece none same on = tt
after-nothing (Some xs) None c d piece none same on = absurd none
after-nothing (Some xs) (Some ys) c d piece none same on = rw none (subst (λ k. Consumes k d piece) same on)

module _ {S : Type 0} (remaining : S → Option (List ℕ)) where
  -- A read gives the next bytes from memory.
  pub gave-memory : (old new : KeptBytes S) (piece piece' : List ℕ) (n : ℕ) → new ≡ record old { given = new.given } →
      GaveAgain (drop old.given old.memory.items) (drop new.given new.memory.items) piece piece' n →
      Consumes (left_kept remaining old) (left_kept remaining new) (take n piece')
  gave-memory old new piece piece' n same gave =
      let past' = drop new.given new.memory.items in
      let given = gave-first (drop old.given old.memory.items) past' piece piece' (counted_bytes old.stored (remaining old.store)) old.refused.items n gave in
      subst (λ k. Consumes (left_kept remaining old) (in_order past' (counted_bytes k.stored (remaining k.store)) k.refused.items) (take n piece'))
      (sym same) given

  -- Nothing is left where memory has nothing, nothing is counted of the store, and nothing was refused.
  pub at-end : (k : KeptBytes S) → drop k.given k.memory.items ≡ [] → k.stored ≡ 0 → k.refused.items ≡ [] → IsAtEnd (left_kept remaining k)
  at-end k no-memory no-store no-refused = rw no-store (rw no-memory (rw no-refused refl))
