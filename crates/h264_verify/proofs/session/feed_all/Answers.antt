use Rattle.std.proofs.Common.{◌≡◌, ◌<◌, ◌≤◌, ◌==◌, ◌++◌, ℕ, true, false, List, [], ap, take, drop, length, length-drop, arith, refl, sym, ◌∙◌, append_assoc}
use Rattle.std.proofs.lemmas.Bool.{eqb-true}
use Rattle.std.proofs.lemmas.List.{append-nil, nil_from_length, take-append-drop}
use Rattle.std.proofs.lemmas.Result.{err_from_is_err_and}
use Rattle.h264_verify.proofs.session.SessionSteps.{goes-none, goes-both, comes-after, comes-as}
use Rattle.h264_verify.proofs.session.feed_all.Goals as goal

-- where no bytes are left, the loop is over
none-more : (rest : List ℕ) → rest ≡ [] → (length rest == 0) ≡ false → ⊥
none-more rest e h = let f : (length rest == 0) ≡ true = ap (λ (l : List ℕ). length l == 0) e in cc

none-left : (rest : List ℕ) → (length rest == 0) ≡ true → rest ≡ []
none-left rest e = nil_from_length rest (eqb-true (length rest) 0 e)

-- some bytes more of a piece
cut-more : (piece front rest next : List ℕ) (n : ℕ) → piece ≡ front ++ rest → next ≡ drop n rest → piece ≡ (front ++ take n rest) ++ next
cut-more piece front rest next n e d =
    e ∙ ap (λ l. front ++ l) (sym (take-append-drop n rest)) ∙ sym (append_assoc front (take n rest) (drop n rest)) ∙
    ap (λ l. (front ++ take n rest) ++ l) (sym d)

-- the same stream
cut-whole : (bytes piece front rest later : List ℕ) → piece ≡ front ++ rest → ((bytes ++ front) ++ rest) ++ later ≡ (bytes ++ piece) ++ later
cut-whole bytes piece front rest later e = ap (λ l. l ++ later) (append_assoc bytes front rest ∙ ap (λ l. bytes ++ l) (sym e))

pub loop-rest-init : goal.loop-rest-init
loop-rest-init g c = record {
  goes = ([], refl, λ bytes frames told f. goes-none f _);
  ready = c.requires.ready;
  kept = refl;
  no_bytes = λ e. (e, refl, refl, refl);
}

pub returns-in_err-n : goal.returns-in_err-n
returns-in_err-n g c =
    let p = err_from_is_err_and c.from_residual.result c.from_residual.ensures.1 in
    let h = c.loop-rest.invariant.goes in
    rw (p.1, p.2) (record {
      goes = λ bytes frames told f. tt;
      ready = tt;
      kept = tt;
      stops = λ bytes frames told f later. comes-as f (cut-whole bytes _ h.0 _ later h.1)
          (comes-after f (h.2 bytes frames told f) (c.in_err-n.ensures.stops _ _ _ (h.2 bytes frames told f).fed later));
      no_read = c.in_err-n.ensures.no_read;
      no_bytes = λ e. absurd (none-more _ (c.loop-rest.invariant.no_bytes e).0 (sym c.is_empty.ensures ∙ c.loop-rest-test.true));
    })

pub loop-rest-preserved : goal.loop-rest-preserved
loop-rest-preserved g c = let h = c.loop-rest.invariant.goes in record {
  goes = (
    h.0 ++ take c.in_ok-n.n c.loop-rest.rest.now,
    cut-more _ h.0 _ _ c.in_ok-n.n h.1 c.after-rest.ensures,
    λ bytes frames told f. goes-both f (h.2 bytes frames told f) (c.in_ok-n.ensures.goes _ _ _ (h.2 bytes frames told f).fed),
  );
  ready = c.in_ok-n.ensures.ready;
  kept = c.in_ok-n.ensures.kept ∙ c.loop-rest.invariant.kept;
  no_bytes = λ e. absurd (none-more _ (c.loop-rest.invariant.no_bytes e).0 (sym c.is_empty.ensures ∙ c.loop-rest-test.true));
}

pub returns-clause-goes : goal.returns-clause-goes
returns-clause-goes g c = λ bytes frames told f.
    let h = c.loop-rest.invariant.goes in
    let none = none-left c.loop-rest.rest.now (sym c.is_empty.ensures ∙ c.loop-rest-test.false) in
    let whole = sym (h.1 ∙ ap (λ l. h.0 ++ l) none ∙ append-nil h.0) in
    rw whole at (h.2 bytes frames told f)

pub returns-clause-no_bytes : goal.returns-clause-no_bytes
returns-clause-no_bytes g c = λ e. let k = c.loop-rest.invariant.no_bytes e in (refl, k.1, k.2, k.3)

-- a piece gets shorter by what was taken of it
shorter : (rest next : List ℕ) (n : ℕ) → next ≡ drop n rest → 0 < n → n ≤ length rest → length next < length rest
shorter rest next n e p l = rw e (simp length-drop (omega (arith, p, l)))

pub loop-rest-smaller : goal.loop-rest-smaller
loop-rest-smaller g c = shorter c.loop-rest.rest.now c.after-rest.result.now c.in_ok-n.n c.after-rest.ensures c.in_ok-n.ensures.within.0
    c.in_ok-n.ensures.within.1
