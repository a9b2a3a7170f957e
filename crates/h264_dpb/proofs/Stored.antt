-- What a picture leaves in the buffer that is stored.
use Rattle.std.proofs.Common.{◌≡◌, ℕ, ◌+◌, ◌-◌, ◌<◌, ◌≤◌, IsTrue, OnOk, Result, Ok, Err, Bool, true, false, List, [], ◌∷◌, length, length-append, refl, ap}
use Rattle.std.proofs.Common.{sym, subst, arith, Option}
use Rattle.h264_base.specs.declared.stop.Stop.{Stop}
use Rattle.h264_base.specs.Call.{Call, span}
use Rattle.h264_plane.specs.declared.frame.Frame.{Frame}
use Rattle.h264_dpb.specs.declared.entry.Entry.{Entry}
use Rattle.h264_dpb.specs.declared.entry.Placed.{Placed}
use Rattle.h264_dpb.specs.Bumping.{made_room, marked, stored_reference, stored_other, flushed, emptied}
use Rattle.h264_dpb.specs.Buffered.{AreReady, is_ready, references, Steps}
use Rattle.h264_dpb.proofs.Room.{ready-made_room, ready-joins, ready-placed, ready-marked, short-placed}
use Rattle.h264_dpb.proofs.Bounded.{used-marked, made_room-frees}
use Rattle.h264_base.proofs.Steps.{tells-none}

pub ready-reference : (lent : ℕ → Option Frame) (places : ℕ) (e : Entry Placed) (held : Placed → Bool) (es new : List (Entry Placed)) → AreReady lent es →
    IsTrue (is_ready lent e) → new ≡ (stored_reference places e (marked held es)).entries → AreReady lent new
unfolding stored_reference
ready-reference lent places e held es new h r n =
    subst (λ (l : List (Entry Placed)). AreReady lent l) (sym n)
    (ready-joins lent e _ (ready-made_room lent (length (marked held es)) places (marked held es) (ready-marked lent held es h)) r)

pub ready-missing : (lent : ℕ → Option Frame) (places : ℕ) (held : Placed → Bool) (es new : List (Entry Placed)) → AreReady lent es →
    new ≡ (made_room (length (marked held es)) places (marked held es)).entries → AreReady lent new
ready-missing lent places held es new h n =
    subst (λ (l : List (Entry Placed)). AreReady lent l) (sym n)
    (ready-made_room lent (length (marked held es)) places (marked held es) (ready-marked lent held es h))

pub short-reference : (size missing : ℕ) (e : Entry Placed) (held : Placed → Bool) (es new : List (Entry Placed)) →
    references (marked held es) + missing < size → new ≡ (stored_reference (size - missing) e (marked held es)).entries → length new + missing ≤ size
unfolding stored_reference
short-reference size missing e held es new r n =
    let f = made_room-frees (size - missing) (marked held es) (used-marked held es) (omega (arith, r)) in
    let a = length-append (made_room (length (marked held es)) (size - missing) (marked held es)).entries (e ∷ []) in
    let l = ap (λ (l : List (Entry Placed)). length l) n in
    omega (arith, f, a, l, r)

pub short-missing : (size missing : ℕ) (held : Placed → Bool) (es new : List (Entry Placed)) → 0 < missing → references (marked held es) + missing ≤ size →
    new ≡ (made_room (length (marked held es)) (size - (missing - 1)) (marked held es)).entries → length new + missing ≤ size
short-missing size missing held es new some r n =
    let f = made_room-frees (size - (missing - 1)) (marked held es) (used-marked held es) (omega (arith, r, some)) in
    let l = ap (λ (l : List (Entry Placed)). length l) n in
    omega (arith, f, l, r, some)

module _ {S X : Type 0} (took : S → List Call → Type 0) (failures : S → ℕ) (lent : ℕ → Option Frame) where
  pub ready-other : (places : ℕ) (e : Entry Placed) (es new : List (Entry Placed)) (s s' : S) (r : Result X Stop) → AreReady lent es →
      IsTrue (is_ready lent e) → Steps {X = X} (span took failures s s') lent (stored_other places e es) new r → OnOk r (AreReady lent new)
  unfolding stored_other
  ready-other places e es new s s' (Ok x) h o t =
      subst (λ (l : List (Entry Placed)). AreReady lent l) (sym t.steps.0) (ready-placed lent (length es) places e es h o)
  ready-other places e es new s s' (Err x) h o t = tt

  pub short-other : (size missing : ℕ) (e : Entry Placed) (es new : List (Entry Placed)) (s s' : S) (r : Result X Stop) → length es + missing ≤ size →
      Steps {X = X} (span took failures s s') lent (stored_other (size - missing) e es) new r → OnOk r (length new + missing ≤ size)
  unfolding stored_other
  short-other size missing e es new s s' (Ok x) h t = let p = short-placed (length es) (size - missing) e es (omega (arith, h)) in
      let l = ap (λ (l : List (Entry Placed)). length l) t.steps.0 in omega (arith, p, l, h)
  short-other size missing e es new s s' (Err x) h t = tt

  -- the buffer is emptied once all is written
  pub steps-emptied : {Y : Type 0} (es mid new : List (Entry Placed)) (s s' : S) (x : X) (y : Y) → new ≡ [] →
      Steps {X = X} (span took failures s s') lent (made_room (length es) 0 es) mid (Ok x) →
      Steps {X = Y} (span took failures s s') lent (flushed true es) new (Ok y)
  unfolding flushed emptied
  steps-emptied es mid new s s' x y n t = record { steps = (n, t.steps.1, t.steps.2) }

  pub steps-unfinished : {Y : Type 0} (es mid new : List (Entry Placed)) (s s' : S) (e : Stop) →
      Steps {X = X} (span took failures s s') lent (made_room (length es) 0 es) mid (Err e) →
      Steps {X = Y} (span took failures s s') lent (flushed true es) new (Err e)
  unfolding flushed emptied
  steps-unfinished es mid new s s' e t = record { steps = (t.steps.0, t.steps.1, t.steps.2) }

pub steps-dropped : {S Y : Type 0} (took : S → List Call → Type 0) (failures : S → ℕ) (lent : ℕ → Option Frame) (es new : List (Entry Placed)) (s : S)
    (y : Y) → new ≡ [] → Steps {X = Y} (span took failures s s) lent (flushed false es) new (Ok y)
unfolding flushed
steps-dropped took failures lent es new s y n = record { steps = (n, tells-none took s, refl) }
