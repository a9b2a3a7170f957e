use Rattle.std.proofs.Common.{◌≡◌, ◌+◌, ◌++◌, ◌∙◌, [], List, ℕ, false, inl, inr, refl, arith, append_assoc, ap}
use Rattle.std.proofs.lemmas.Result.{err_from_is_err_and}
use Rattle.h264_verify.proofs.language.OutcomesPlayed.{told-as, told-after}
use Rattle.h264_verify.proofs.session.SessionSteps.{goes-none, goes-both, comes-after, comes-as}
use Rattle.h264_verify.proofs.session.SessionRest.{comes-read}
use Rattle.h264_verify.proofs.session.SourceGives.{gives-none, gives-then, gives-last}
use Rattle.h264_verify.proofs.running.read_all.Goals as goal

pub loop-init : goal.loop-init
loop-init g c = record {
  fed = ([], gives-none g.R.Source.left g.R.Source.gave g.R.Source.failures _, λ terms bytes frames told f. goes-none f _);
  runs = c.requires.runs;
  kept = refl;
  quiet = refl;
  turns = λ n r. let e : n + 0 ≡ n = omega arith in rw e r;
}

pub loop-preserved : goal.loop-preserved
loop-preserved g c = record {
  fed =
      let h = c.loop.invariant.fed in
      let s = c.in_ok-turn.ensures.more c.if-not-branch.false in (
        h.0 ++ s.0,
        gives-then g.R.Source.left g.R.Source.gave g.R.Source.failures _ _ _ h.0 s.0 false c.loop.invariant.quiet h.1 s.1,
        λ terms bytes frames told f. goes-both f (h.2 terms bytes frames told f) (s.2 _ _ _ _ (h.2 terms bytes frames told f).fed),
      );
  runs = c.in_ok-turn.ensures.kept.0;
  kept = c.in_ok-turn.ensures.kept.1 ∙ c.loop.invariant.kept;
  quiet = c.in_ok-turn.ensures.kept.2 ∙ c.loop.invariant.quiet;
  turns = λ n r. let e : (n + c.loop.counter) + 1 ≡ n + (c.loop.counter + 1) = omega arith in
      rw (← e) (c.in_ok-turn.ensures.again (n + c.loop.counter) (c.loop.invariant.turns n r));
}

-- the same stream
in-all : (bytes given more later : List ℕ) → ((bytes ++ given) ++ more) ++ later ≡ (bytes ++ (given ++ more)) ++ later
in-all bytes given more later = ap (λ l. l ++ later) (append_assoc bytes given more)

pub returns-in_err-turn-clause-stops : goal.returns-in_err-turn-clause-stops
returns-in_err-turn-clause-stops g c =
    let p = err_from_is_err_and c.from_residual.result c.from_residual.ensures.1 in
    let h = c.loop.invariant.fed in
    let s = c.in_err-turn.ensures.stops in
    rw (p.1, p.2) (
      h.0 ++ s.0,
      gives-then g.R.Source.left g.R.Source.gave g.R.Source.failures _ _ _ h.0 s.0 false c.loop.invariant.quiet h.1 s.1,
      λ terms bytes frames told f later. comes-as f (in-all bytes h.0 s.0 later)
          (comes-after f (h.2 terms bytes frames told f) (s.2 _ _ _ _ (h.2 terms bytes frames told f).fed later)),
    )

pub returns-then-not-branch-clause-fed : goal.returns-then-not-branch-clause-fed
returns-then-not-branch-clause-fed g c =
    let e = c.in_ok-turn.ensures.end c.if-not-branch.true in
    let h = c.loop.invariant.fed in (
      h.0,
      gives-last g.R.Source.left g.R.Source.gave g.R.Source.failures _ _ _ h.0 c.loop.invariant.quiet h.1 e.2,
      rw (e.0, e.1) h.2,
    )

pub returns-clause-stops : goal.returns-clause-stops
returns-clause-stops g c =
    let h = c.loop.invariant.fed in (
      h.0,
      h.1,
      λ terms bytes frames told f later. comes-after f (h.2 terms bytes frames told f) (comes-read (h.2 terms bytes frames told f).fed later _ _ _),
    )

pub returns-clause-read : goal.returns-clause-read
returns-clause-read g c = λ h. inr (λ n r.
    let e : n + c.loop.counter ≡ n + 2199023255552 = let t = c.loop-test.false in let a = c.loop.auto.counter-end in omega arith in
    rw (← e) (c.loop.invariant.turns n r))

pub returns-in_err-turn-clause-read_told : goal.returns-in_err-turn-clause-read_told
returns-in_err-turn-clause-read_told g c = let p = err_from_is_err_and c.from_residual.result c.from_residual.ensures.1 in
    rw (p.1, p.2) (told-after c.loop.invariant.quiet (told-as _ c.in_err-turn.ensures.read_told))

pub returns-in_err-turn-clause-write_told : goal.returns-in_err-turn-clause-write_told
returns-in_err-turn-clause-write_told g c = let p = err_from_is_err_and c.from_residual.result c.from_residual.ensures.1 in
    rw (p.1, p.2) (told-after c.loop.invariant.kept (told-as _ c.in_err-turn.ensures.write_told))

pub returns-then-not-branch-clause-read_told : goal.returns-then-not-branch-clause-read_told
returns-then-not-branch-clause-read_told g c = inl (c.in_ok-turn.ensures.kept.2 ∙ c.loop.invariant.quiet)

pub returns-then-not-branch-clause-write_told : goal.returns-then-not-branch-clause-write_told
returns-then-not-branch-clause-write_told g c = inl (c.in_ok-turn.ensures.kept.1 ∙ c.loop.invariant.kept)

pub returns-clause-read_told : goal.returns-clause-read_told
returns-clause-read_told g c = inr refl

pub returns-clause-write_told : goal.returns-clause-write_told
returns-clause-write_told g c = inl c.loop.invariant.kept
