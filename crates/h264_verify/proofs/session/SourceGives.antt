-- What a source gave in one read, and in several.
use Rattle.std.proofs.Common.{◌≡◌, ℕ, zero, suc, ◌+◌, ◌==◌, arith, Bool, true, false, List, [], ◌++◌, take, drop, Option, Some, refl, sym, ap, subst, ◌∙◌}
use Rattle.std.proofs.lemmas.Bool.{false≢true, false_from_ne_true, eqb-true}
use Rattle.std.proofs.lemmas.List.{append_assoc, append-nil}
use Rattle.h264_base.specs.Call.{IsQuiet}
use Rattle.h264_verify.specs.Giving.{Gives, source_span}

nothing-left : (n : ℕ) → drop n [] ≡ (let none : List ℕ = [] in none)
nothing-left zero = refl
nothing-left (suc n) = refl

module _ {R : Type 0} (left : R → Option (List ℕ)) (gave : R → List ℕ → Bool → Type 0) (failures : R → ℕ) where
  -- nothing was read
  pub gives-none : (s : R) → Gives (source_span left gave failures s s) [] false
  gives-none s = record {
    so_far = λ before g. subst (λ (l : List ℕ). gave s l false) (sym (append-nil before)) g;
    first = λ known e. (known, refl, λ h. absurd (false≢true h), λ quiet. e);
  }

  module _ (old new : R) where
    -- a read was interrupted
    pub gives-interrupted : ((before : List ℕ) (ended : Bool) → gave old before ended → gave new before ended) →
        ((known : List ℕ) → left old ≡ Some known → left new ≡ Some known) →
        Gives (source_span left gave failures old new) [] false
    gives-interrupted keeps stays = record {
      so_far = λ before g. subst (λ (l : List ℕ). gave new l false) (sym (append-nil before)) (keeps before false g);
      first = λ known e. (known, refl, λ h. absurd (false≢true h), λ quiet. stays known e);
    }

    -- one failed
    pub gives-failed : ((before : List ℕ) (ended : Bool) → gave old before ended → gave new before ended) → failures new ≡ failures old + 1 →
        Gives (source_span left gave failures old new) [] false
    gives-failed keeps failed = record {
      so_far = λ before g. subst (λ (l : List ℕ). gave new l false) (sym (append-nil before)) (keeps before false g);
      first = λ known e. (known, refl, λ h. absurd (false≢true h), λ quiet. absurd (not-quiet quiet));
    } where
      not-quiet : IsQuiet failures old new → ⊥
      not-quiet quiet = omega (arith, quiet, failed)

    module _ (piece : List ℕ) (n : ℕ) (gives : (before : List ℕ) (ended : Bool) → gave old before ended → gave new (before ++ take n piece) (n == 0))
        (bytes : (known : List ℕ) → left old ≡ Some known → (known ≡ take n piece ++ drop n known) × (left new ≡ Some (drop n known))) where
      -- one gave bytes
      pub gives-piece : (n ≡ 0 → ⊥) → Gives (source_span left gave failures old new) (take n piece) false
      gives-piece some = record {
        so_far = λ before g. subst (λ (b : Bool). gave new (before ++ take n piece) b) (false_from_ne_true (n == 0) (λ e. some (eqb-true n 0 e)))
            (gives before false g);
        first = λ known e. let b = bytes known e in (drop n known, b.0, λ h. absurd (false≢true h), λ quiet. b.1);
      }

      -- one gave none, which is the end
      pub gives-end : n ≡ 0 → ((known : List ℕ) → left old ≡ Some known → n ≡ 0 → known ≡ []) → Gives (source_span left gave failures old new) [] true
      gives-end none end = record {
        so_far = λ before g. subst (λ (m : ℕ). gave new (before ++ take m piece) (m == 0)) none (gives before false g);
        first = λ known e. let b = bytes known e in let nothing = end known e none in
            ([], nothing, λ h. refl, λ quiet. b.1 ∙ ap (λ l. Some (drop n l)) nothing ∙ ap Some (nothing-left n));
      }

  -- one after another
  pub gives-then : (old mid new : R) (given more : List ℕ) (ended : Bool) → IsQuiet failures old mid →
      Gives (source_span left gave failures old mid) given false →
      Gives (source_span left gave failures mid new) more ended → Gives (source_span left gave failures old new) (given ++ more) ended
  gives-then old mid new given more ended quiet g h = record {
    so_far = λ before b. subst (λ (l : List ℕ). gave new l ended) (append_assoc before given more) (h.so_far (before ++ given) (g.so_far before b));
    first = λ known e.
        let p = g.first known e in
        let q = h.first p.0 (p.3 quiet) in
        (q.0, p.1 ∙ ap (λ l. given ++ l) q.1 ∙ sym (append_assoc given more q.0), q.2, λ k. q.3 (k ∙ sym quiet));
  }

  -- and then the end
  pub gives-last : (old mid new : R) (given : List ℕ) → IsQuiet failures old mid → Gives (source_span left gave failures old mid) given false →
      Gives (source_span left gave failures mid new) [] true →
      Gives (source_span left gave failures old new) given true
  gives-last old mid new given quiet g h =
      subst (λ (l : List ℕ). Gives (source_span left gave failures old new) l true) (append-nil given) (gives-then old mid new given [] true quiet g h)
