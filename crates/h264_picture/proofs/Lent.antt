-- A frame is moved out of its place, and the one that was is put back.
use Rattle.std.proofs.Common.{◌≡◌, ◌≢◌, ℕ, ◌<◌, ◌==◌, ◌&&◌, Bool, true, false, if◌then◌else◌, List, length, Some, None, slice_set, arith, ◌∙◌, refl, sym, ap}
use Rattle.std.proofs.lemmas.Bool.{eqb-true, eqb-false}
use Rattle.std.proofs.Math.ListN.{length-set}
use Rattle.std.proofs.lemmas.List.{set-set}
use Rattle.std.proofs.lemmas.Grind.{common_steps}
use Rattle.h264_plane.specs.declared.frame.Frame.{Frame}
use Rattle.h264_plane.specs.Frames.{frame_at, IsFrame, KeepsOtherFrames}
use Rattle.h264_picture.specs.declared.frames.Frames.{Frames}
use Rattle.std.specs.Prelude.{nat_lt}
use Rattle.h264_picture.specs.Lent.{AreFrames, frame_within, lent_within}

-- what is put where a frame was taken out stands there as in the pool before
pub put-again : (pool taken mid : List Frame) (place : ℕ) (none frame : Frame) → taken ≡ slice_set pool place none → mid ≡ slice_set taken place frame →
    mid ≡ slice_set pool place frame
put-again pool taken mid place none frame e f = f ∙ ap (λ (p : List Frame). slice_set p place frame) e ∙ set-set pool place none frame

-- what was lent and is not written is lent
still : (t u v : Bool) (x y : Frame) → x ≡ y → v ≡ false → (if t then (if u then None else Some y) else None) ≢ None →
    (if t then (if v then None else Some x) else None) ≡ (if t then (if u then None else Some y) else None)
still false u v x y e f some = refl
still true true v x y e f some = absurd (some refl)
still true false v x y e f some = rw (f, e) refl

module _ (old : Frames) (place : ℕ) (mid pool : List Frame) (frame : Frame) (put : mid ≡ slice_set old.pool old.place old.frame)
    (inside : old.place < length old.pool) (taken : frame ≡ frame_at mid place) (others : KeepsOtherFrames mid pool place) where
  put-back : (k : ℕ) → frame_at mid k ≡ frame_within old k
  put-back k = grind (arith, common_steps)

  count : length pool ≡ length old.pool
  count = others.count ∙ ap length put ∙ simp length-set

  pub same-frame : (k : ℕ) → (if k == place then frame else frame_at pool k) ≡ frame_within old k
  same-frame k = by (k == place) refl
    where
      by : (t : Bool) → (k == place) ≡ t → (if k == place then frame else frame_at pool k) ≡ frame_within old k
      by true e = let p = eqb-true k place e in let b = put-back k in grind (arith, common_steps)
      by false e = let p = eqb-false k place e in let b = put-back k in let o = others.kept k p in grind (arith, common_steps)

  pub same-size : (w h : ℕ) (new : Frames) → new.pool ≡ pool → new.place ≡ place → new.frame ≡ frame → AreFrames w h old → AreFrames w h new
  same-size w h new p q r a = record {
    each =
        λ k i. rw (p, q, r) (rw (same-frame k) (a.each k (let n = count in let m : length new.pool ≡ length pool = ap length p in omega arith)));
  }

  pub lent-others : (begun : Bool) (k : ℕ) → k ≢ place → lent_within old k ≢ None →
      (if nat_lt k (length pool) then (if k == place && begun then None else Some (if k == place then frame else frame_at pool k)) else None) ≡
      lent_within old k
  lent-others begun k other some =
      rw count (still (nat_lt k (length old.pool)) (k == old.place && old.begun) (k == place && begun) (if k == place then frame else frame_at pool k)
      (frame_within old k) (same-frame k) (off (k == place) refl) some)
    where
      off : (t : Bool) → (k == place) ≡ t → (k == place && begun) ≡ false
      off true e = absurd (other (eqb-true k place e))
      off false e = rw e refl

-- the first frame of a pool is moved out
pub first-taken : (w h : ℕ) (pool : List Frame) (new : Frames) → ((k : ℕ) → k < length pool → IsFrame (frame_at pool k) w h) → 0 < length pool →
    new.frame ≡ frame_at pool 0 → KeepsOtherFrames pool new.pool 0 → new.place ≡ 0 → AreFrames w h new
first-taken w h pool new size some first others here = record { each = λ k i. by k i (k == new.place) refl }
  where
    by : (k : ℕ) → k < length new.pool → (t : Bool) → (k == new.place) ≡ t → IsFrame (frame_within new k) w h
    by k i true e = rw (e, first) (size 0 some)
    by k i false e = let other : k ≢ 0 = λ z. eqb-false k new.place e (z ∙ sym here) in
        rw (e, others.kept k other) (size k (let n = others.count in omega arith))
