-- Steps that a sink is told, one after another.
use Rattle.std.proofs.Common.{◌≡◌, ℕ, ◌+◌, ◌<◌, Bool, true, false, IsTrue, not, ◌||◌, ◌&&◌, List, [], ◌∷◌, ◌++◌, length, get_or, Result, Ok, Err, refl, ap}
use Rattle.std.proofs.Common.{sym, ◌∙◌, subst, arith, ℤ, zero, suc, append_assoc, Option}
use Rattle.std.proofs.lemmas.List.{append-nil}
use Rattle.std.proofs.lemmas.List.Concat.{flat_map-append}
use Rattle.h264_base.specs.declared.stop.Stop.{Stop}
use Rattle.h264_base.specs.Call.{Call, Tells, TellsFront, span}
use Rattle.h264_plane.specs.declared.frame.Frame.{Frame}
use Rattle.h264_dpb.specs.Shown.{is_shown}
use Rattle.h264_dpb.specs.declared.entry.Entry.{Entry}
use Rattle.h264_dpb.specs.declared.entry.Placed.{Placed}
use Rattle.h264_dpb.specs.Bumping.{Step, leaves, and_then, is_next}
use Rattle.h264_dpb.specs.Writing.{calls_at, calls_of, Writes}
use Rattle.h264_dpb.specs.Buffered.{AreReady, Steps, StepsBy}
use Rattle.h264_dpb.proofs.Tellings.{front-after, front-before}
use Rattle.h264_base.proofs.Steps.{tells-none, tells-both}

-- a frame that waits is at its place
lent-if : (waiting lent : Bool) → IsTrue (not waiting || lent) → waiting ≡ true → IsTrue lent
lent-if true lent h w = h
lent-if false lent h w = cc

waits : (waiting same : Bool) → (waiting && same) ≡ true → waiting ≡ true
waits true same h = refl
waits false same h = h

pub ready-at : (lent : ℕ → Option Frame) (c : ℤ) (es : List (Entry Placed)) (k : ℕ) (d : Entry Placed) → AreReady lent es → k < length es →
    is_next c (get_or es k d) ≡ true → IsTrue (is_shown lent (get_or es k d).of)
ready-at lent c [] k d r l n = absurd (omega (arith, l))
ready-at lent c (e ∷ es) zero d r l n = lent-if e.waiting (is_shown lent e.of) r.0 (waits e.waiting _ n)
ready-at lent c (e ∷ es) (suc k) d r l n = ready-at lent c es k d r.1 (omega (arith, l)) n

module _ {S : Type 0} (took : S → List Call → Type 0) (failures : S → ℕ) (lent : ℕ → Option Frame) where
  pub steps-idle : {X : Type 0} (step : Step Placed) (es : List (Entry Placed)) (s : S) (x : X) → step ≡ leaves es →
      Steps (span took failures s s) lent step es (Ok x)
  steps-idle {X} step es s x h = subst (λ t. Steps {X = X} (span took failures s s) lent t es (Ok x)) (sym h)
      (record { steps = (refl, tells-none took s, refl) })

  -- one frame was written
  pub steps-one : {X Y : Type 0} (step : Step Placed) (e : Entry Placed) (es new : List (Entry Placed)) (s s' : S) (x : X) (y : Y) →
      (let t : Step Placed = record { written = e ∷ []; entries = es } in step ≡ t) → new ≡ es →
      Writes {X = X} took failures (calls_of lent (e ∷ [])) s s' (Ok x) → Steps {X = Y} (span took failures s s') lent step new (Ok y)
  steps-one {Y} step e es new s s' x y h n w =
      subst (λ t. Steps {X = Y} (span took failures s s') lent t new (Ok y)) (sym h) (record { steps = (n, w.writes.0, w.writes.1) })

  pub steps-failed : {X Y : Type 0} (step : Step Placed) (e : Entry Placed) (es new : List (Entry Placed)) (s s' : S) (stop : Stop) →
      (let t : Step Placed = record { written = e ∷ []; entries = es } in step ≡ t) → Writes {X = X} took failures (calls_of lent (e ∷ [])) s s' (Err stop) →
      Steps {X = Y} (span took failures s s') lent step new (Err stop)
  steps-failed {Y} step e es new s s' stop h w =
      subst (λ t. Steps {X = Y} (span took failures s s') lent t new (Err stop)) (sym h) (record { steps = (w.writes.0, w.writes.1, w.writes.2) })

  -- a step has come so far, and the rest is still to come
  pub record SoFar (whole rest : Step Placed) (s s' : S) : Type 0 where
    pub written : List (Entry Placed)
    pub whole_is : (let t : Step Placed = record { written = written ++ rest.written; entries = rest.entries } in whole ≡ t)
    pub tells : Tells took s s' (calls_of lent written)
    pub kept : failures s' ≡ failures s

  pub so-far-first : (whole rest : Step Placed) (s : S) → whole ≡ rest → SoFar whole rest s s
  so-far-first whole rest s e = record { written = []; whole_is = e; tells = tells-none took s; kept = refl }

  -- one step more, and then the next one
  pub so-far-next : {X : Type 0} (whole rest step : Step Placed) (next : List (Entry Placed) → Step Placed) (new : List (Entry Placed)) (s s1 s2 : S)
      (x : X) → SoFar whole rest s s1 → rest ≡ and_then step next → Steps (span took failures s1 s2) lent step new (Ok x) → SoFar whole (next new) s s2
  so-far-next whole rest step next new s s1 s2 x f e t = record {
    written = f.written ++ step.written;
    whole_is = f.whole_is ∙ ap (λ (r : Step Placed). (let u : Step Placed = record { written = f.written ++ r.written; entries = r.entries } in u))
        (e ∙ ap (λ (l : List (Entry Placed)). (let u : Step Placed = record { written = step.written ++ (next l).written; entries = (next l).entries } in u))
        (sym t.steps.0)) ∙ ap (λ (l : List (Entry Placed)). (let u : Step Placed = record { written = l; entries = (next new).entries } in u))
        (sym (append_assoc f.written step.written (next new).written));
    tells = subst (λ (l : List Call). Tells took s s2 l) (sym (flat_map-append (calls_at lent) f.written step.written)) (tells-both f.tells t.steps.1);
    kept = t.steps.2 ∙ f.kept;
  }

  -- nothing more is to come
  pub so-far-last : {X : Type 0} (whole rest : Step Placed) (new : List (Entry Placed)) (s s' : S) (x : X) → SoFar whole rest s s' → rest ≡ leaves new →
      Steps (span took failures s s') lent whole new (Ok x)
  so-far-last {X} whole rest new s s' x f e =
      let is : (let u : Step Placed = record { written = f.written; entries = new } in whole ≡ u) = f.whole_is ∙
      ap (λ (r : Step Placed). (let u : Step Placed = record { written = f.written ++ r.written; entries = r.entries } in u)) e ∙
      ap (λ (l : List (Entry Placed)). (let u : Step Placed = record { written = l; entries = new } in u)) (append-nil f.written) in
      subst (λ (t : Step Placed). Steps {X = X} (span took failures s s') lent t new (Ok x)) (sym is) (record { steps = (refl, f.tells, f.kept) })

  -- one more step is the last
  pub so-far-ends : {X : Type 0} (whole rest : Step Placed) (new : List (Entry Placed)) (s s1 s2 : S) (r : Result X Stop) → SoFar whole rest s s1 →
      Steps {X = X} (span took failures s1 s2) lent rest new r → Steps {X = X} (span took failures s s2) lent whole new r
  so-far-ends {X} whole rest new s s1 s2 r f t =
      subst (λ (u : Step Placed). Steps {X = X} (span took failures s s2) lent u new r) (sym f.whole_is) (record { steps = by r t.steps })
    where
      calls-are : calls_of lent (f.written ++ rest.written) ≡ calls_of lent f.written ++ calls_of lent rest.written
      calls-are = flat_map-append (calls_at lent) f.written rest.written

      by : (r : Result X Stop) → StepsBy {X = X} (span took failures s1 s2) lent rest new r →
          (let u : Step Placed = record { written = f.written ++ rest.written; entries = rest.entries } in
          StepsBy {X = X} (span took failures s s2) lent u new r)
      by (Ok x) t = (t.0, subst (λ (l : List Call). Tells took s s2 l) (sym calls-are) (tells-both f.tells t.1), t.2 ∙ f.kept)
      by (Err e) t = (t.0, subst (λ (l : List Call). TellsFront took s s2 l) (sym calls-are) (front-after f.tells t.1), t.2 ∙ ap (λ n. n + 1) f.kept)

  -- the sink failed in the first of two steps
  pub steps-front : {X Y : Type 0} (step whole : Step Placed) (next : List (Entry Placed) → Step Placed) (es new : List (Entry Placed)) (s s' : S)
      (e : Stop) → whole ≡ and_then step next → Steps {X = X} (span took failures s s') lent step es (Err e) →
      Steps {X = Y} (span took failures s s') lent whole new (Err e)
  steps-front {Y} step whole next es new s s' e w t =
      subst (λ (u : Step Placed). Steps {X = Y} (span took failures s s') lent u new (Err e)) (sym w)
      (record {
        steps = (
          t.steps.0,
          front-before (calls_of lent (next step.entries).written)
              (flat_map-append (calls_at lent) step.written (next step.entries).written) t.steps.1,
          t.steps.2,
        );
      })

  -- the last thing is a frame that is written
  pub steps-write : {X : Type 0} (step : Step Placed) (e : Entry Placed) (es : List (Entry Placed)) (s s' : S) (r : Result X Stop) →
      (let t : Step Placed = record { written = e ∷ []; entries = es } in step ≡ t) → Writes {X = X} took failures (calls_of lent (e ∷ [])) s s' r →
      Steps {X = X} (span took failures s s') lent step es r
  steps-write step e es s s' (Ok x) h w = steps-one step e es es s s' x x h refl w
  steps-write step e es s s' (Err stop) h w = steps-failed step e es es s s' stop h w
