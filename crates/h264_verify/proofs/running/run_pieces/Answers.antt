use Rattle.std.proofs.Common.{◌≡◌, ◌<◌, ◌+◌, ◌++◌, ℕ, suc, zero, List, [], ◌∷◌, sym, ap, arith, refl, ◌∙◌, length, take, drop, get_or, append_assoc}
use Rattle.std.specs.List.{flat_map}
use Rattle.std.proofs.Math.Seq.{take-length}
use Rattle.std.proofs.lemmas.List.{append-nil}
use Rattle.h264_verify.proofs.language.OutcomesPlayed.{err-as, told-as, told-after}
use Rattle.h264_verify.proofs.laws.OneVerdict.{none-judged}
use Rattle.h264_verify.proofs.session.SessionSteps.{goes-none, goes-both, comes-after, comes-as, comes-judged}
use Rattle.h264_verify.specs.Units.{terms_of}
use Rattle.h264_verify.proofs.running.run_pieces.Goals as goal

-- pieces up to one, that one, and those after it
module _ {X : Type 0} (f : X → List ℕ) where
  pieces-split : (xs : List X) (i : ℕ) (d : X) → i < length xs →
      flat_map f xs ≡ (flat_map f (take i xs) ++ f (get_or xs i d)) ++ flat_map f (drop (suc i) xs)
  pieces-split [] i d h = absurd (omega arith)
  pieces-split (x ∷ xs) zero d h = ap (λ l. l ++ flat_map f xs) refl
  pieces-split (x ∷ xs) (suc i) d h =
      ap (λ l. f x ++ l) (pieces-split xs i d (omega arith))
      ∙ sym (append_assoc (f x) (flat_map f (take i xs) ++ f (get_or xs i d)) (flat_map f (drop (suc i) xs)))
      ∙ ap (λ l. l ++ flat_map f (drop (suc i) xs)) (sym (append_assoc (f x) (flat_map f (take i xs)) (f (get_or xs i d))))

  more-pieces : (xs : List X) (i : ℕ) (d : X) → i < length xs → flat_map f (take i xs) ++ f (get_or xs i d) ≡ flat_map f (take (suc i) xs)
  more-pieces [] i d h = absurd (omega arith)
  more-pieces (x ∷ xs) zero d h = sym (append-nil (f x))
  more-pieces (x ∷ xs) (suc i) d h = append_assoc (f x) (flat_map f (take i xs)) (f (get_or xs i d)) ∙ ap (λ l. f x ++ l) (more-pieces xs i d (omega arith))

  module _ (xs : List X) (i : ℕ) (x : X) (piece : List ℕ) (h : i < length xs) (e : x ≡ get_or xs i x) (p : piece ≡ f x) where
    this : piece ≡ f (get_or xs i x)
    this = p ∙ ap f e

    up-to : flat_map f (take i xs) ++ piece ≡ flat_map f (take (i + 1) xs)
    up-to = ap (λ l. flat_map f (take i xs) ++ l) this ∙ more-pieces xs i x h ∙ ap (λ n. flat_map f (take n xs)) (next i)
      where
        next : (i : ℕ) → suc i ≡ i + 1
        next i = omega arith

    all-with : (flat_map f (take i xs) ++ piece) ++ flat_map f (drop (suc i) xs) ≡ flat_map f xs
    all-with = ap (λ l. (flat_map f (take i xs) ++ l) ++ flat_map f (drop (suc i) xs)) this ∙ sym (pieces-split xs i x h)

all-pieces : {X : Type 0} (f : X → List ℕ) (xs : List X) (n : ℕ) → n ≡ length xs → flat_map f (take n xs) ≡ flat_map f xs
all-pieces f xs n e = ap (λ l. flat_map f l) (ap (λ k. take k xs) e ∙ take-length xs)

pub returns-in-Err-clause-verdict : goal.returns-in-Err-clause-verdict
returns-in-Err-clause-verdict g c = rw c.in-Err.ensures.err (λ frames x. none-judged (terms_of c.args.mode c.args.target) _ _ _ frames _ x)

pub loop-piece-init : goal.loop-piece-init
loop-piece-init g c = record { goes = λ terms frames told f. goes-none f _; runs = c.in-Ok.ensures.fresh.stop; kept = refl }

pub returns-in-Err-advance-clause-verdict : goal.returns-in-Err-advance-clause-verdict
returns-in-Err-advance-clause-verdict g c = λ frames x.
    let f = c.in-Ok.ensures.fed frames x in
    let h = c.loop-piece.invariant.goes _ frames [] f in
    comes-judged f (comes-as f (all-with (λ piece. piece.items) c.args.pieces.now c.loop-piece.piece-index c.piece-item.result _ c.loop-piece-test.true
    c.piece-item.is c.as_slice.ensures.value) (comes-after f h (c.in-Err-advance.ensures.stops _ _ _ _ h.fed _)))

pub loop-piece-preserved : goal.loop-piece-preserved
loop-piece-preserved g c = record {
  goes = λ terms frames told f.
      let h = c.loop-piece.invariant.goes terms frames told f in
      let more = up-to (λ piece. piece.items) c.args.pieces.now c.loop-piece.piece-index c.piece-item.result _ c.loop-piece-test.true c.piece-item.is
      c.as_slice.ensures.value in
      rw more at (goes-both f h (c.in-Ok-advance.ensures.goes _ _ _ _ h.fed));
  runs = c.in-Ok-advance.ensures.going;
  kept = c.in-Ok-advance.ensures.kept ∙ c.loop-piece.invariant.kept;
}

pub returns-clause-verdict : goal.returns-clause-verdict
returns-clause-verdict g c = λ frames x.
    let f = c.in-Ok.ensures.fed frames x in
    let h = c.loop-piece.invariant.goes _ frames [] f in
    let n : c.loop-piece.piece-index ≡ length c.args.pieces.now = omega arith in
    comes-judged f (comes-as f (all-pieces (λ piece. piece.items) c.args.pieces.now c.loop-piece.piece-index n)
    (comes-after f h (c.conclude.ensures.comes _ _ _ _ h.fed)))

pub returns-in-Err-advance-clause-no_read : goal.returns-in-Err-advance-clause-no_read
returns-in-Err-advance-clause-no_read g c = λ h. c.in-Err-advance.ensures.no_read (err-as _ _ h)

pub returns-in-Err-advance-clause-write : goal.returns-in-Err-advance-clause-write
returns-in-Err-advance-clause-write g c = λ h. c.in-Err-advance.ensures.write (err-as _ _ h) ∙ ap (λ n. n + 1) c.loop-piece.invariant.kept

pub returns-in-Err-advance-clause-write_told : goal.returns-in-Err-advance-clause-write_told
returns-in-Err-advance-clause-write_told g c = told-after c.loop-piece.invariant.kept (told-as _ c.in-Err-advance.ensures.write_told)

pub returns-clause-write : goal.returns-clause-write
returns-clause-write g c = λ h. c.conclude.ensures.write h ∙ ap (λ n. n + 1) c.loop-piece.invariant.kept

pub returns-clause-write_told : goal.returns-clause-write_told
returns-clause-write_told g c = told-after c.loop-piece.invariant.kept c.conclude.ensures.write_told
