-- The frames of two sequences take turns at the places.
use Rattle.std.proofs.Common.{◌≡◌, ◌≢◌, ℕ, ◌+◌, ◌-◌, ◌%◌, ◌<◌, ◌≤◌, Bool, true, false, ◌&&◌, Option, Some, None, length, refl, ap, sym, ◌∙◌, arith}
use Rattle.std.proofs.Common.{if◌then◌else◌, ◌⊎◌, inl, inr}
use Rattle.std.specs.Prelude.{nat_lt}
use Rattle.std.specs.Option.{option_and_then}
use Rattle.std.proofs.lemmas.Bool.Decides.{nat_tests}
use Rattle.h264_plane.specs.declared.frame.Frame.{Frame}
use Rattle.h264_picture.specs.declared.frames.Frames.{Frames}
use Rattle.h264_picture.specs.Lent.{lent_in, frames_in, KeepsLent}
use Rattle.std.proofs.Common.{◌==◌}
use Rattle.h264_plane.specs.Samples.{at}
use Rattle.h264_plane.specs.Frames.{plane_of, frame_at}
use Rattle.h264_plane.specs.declared.frame.Component.{Component}
use Rattle.h264_picture.specs.declared.sequence.Sequence.{Sequence}
use Rattle.h264_picture.specs.Holds.{IsActive}
use Rattle.h264_picture.specs.Making.{pool_of, setting_of}
use Rattle.h264_picture.specs.Places.{is_active_place, purpose_of, lent, HasBegunIn}
use Rattle.h264_picture.specs.Purposes.{makes_frames}
use Rattle.h264_picture.specs.declared.canvas.Canvas.{Canvas}
use Rattle.h264_picture.specs.declared.purpose.Purpose.TheVariants as purpose
use Rattle.h264_picture.specs.declared.work.Work.{Work}
use Rattle.std.proofs.Common.{is_some}

-- the frame that is lent, of the frames of two sequences
abbrev pub lent_of : ℕ → Option Frames → Option Frames → ℕ → Option Frame
lent_of base active older p = if is_active_place base p then lent_in active (p - base) else lent_in older (p - (17 - base))

turns : (base : ℕ) → base ≤ 17 → base % 17 ≡ 0 → (base ≡ 0) ⊎ (base ≡ 17)
turns base low turn = by (nat_lt base 17) refl
  where
    by : (t : Bool) → nat_lt base 17 ≡ t → (base ≡ 0) ⊎ (base ≡ 17)
    by true e = let l : base < 17 = grind (arith, nat_tests) in inl (omega arith)
    by false e = let l : 17 ≤ base = grind (arith, nat_tests) in inr (omega arith)

-- no place is one of both
apart : (base p : ℕ) → (base ≡ 0) ⊎ (base ≡ 17) → is_active_place base p ≡ true → is_active_place (17 - base) p ≡ false
apart base p (inl z) e = let l : p < 17 = grind (arith, nat_tests) in grind (arith, nat_tests)
apart base p (inr z) e = let l : 17 ≤ p = grind (arith, nat_tests) in grind (arith, nat_tests)

-- the frames of the active sequence become the older ones
pub turned : (base : ℕ) (active new : Option Frames) (p : ℕ) → base ≤ 17 → base % 17 ≡ 0 → lent_of base active None p ≢ None →
    lent_of (17 - base) new active p ≡ lent_of base active None p
turned base active new p low turn some = by (is_active_place base p) refl
  where
    by : (t : Bool) → is_active_place base p ≡ t → lent_of (17 - base) new active p ≡ lent_of base active None p
    by true e =
        let o : is_active_place (17 - base) p ≡ false = apart base p (turns base low turn) e in
        let b : 17 - (17 - base) ≡ base = omega arith in
        ap (λ t. if t then lent_in new (p - (17 - base)) else lent_in active (p - (17 - (17 - base)))) o ∙ ap (λ n. lent_in active (p - n)) b ∙
        sym (ap (λ t. if t then lent_in active (p - base) else None) e)
    by false e = absurd (some (ap (λ t. if t then lent_in active (p - base) else None) e))

-- and stand at none of the places of the next one
pub older-place : (base : ℕ) (active : Option Frames) (p : ℕ) → base ≤ 17 → base % 17 ≡ 0 → lent_of base active None p ≢ None →
    is_active_place (17 - base) p ≡ false
older-place base active p low turn some = by (is_active_place base p) refl
  where
    by : (t : Bool) → is_active_place base p ≡ t → is_active_place (17 - base) p ≡ false
    by true e = apart base p (turns base low turn) e
    by false e = absurd (some (ap (λ t. if t then lent_in active (p - base) else None) e))

-- the frame at a place of the active sequence
pub lent-begun : (base place k : ℕ) (o older : Option Frames) → base + k ≡ place → k < 17 → lent_of base o older place ≡ lent_in o k
lent-begun base place k o older e i =
    let active : is_active_place base place ≡ true = grind (arith, nat_tests) in
    let is : place - base ≡ k = omega arith in
    ap (λ t. if t then lent_in o (place - base) else lent_in older (place - (17 - base))) active ∙ ap (lent_in o) is

pick : (t u b : Bool) (x y f : Frame) → (if t then (if u && b then None else Some (if u then x else y)) else None) ≡ Some f → b ≡ true → y ≡ f
pick true true true x y f h e = cc
pick true true false x y f h e = cc
pick true false b x y f h e = cc
pick false u b x y f h e = cc

-- what is lent beside the frame that is written stands in the pool
lent-beside : (base place n : ℕ) (o : Option Canvas) (older : Option Frames) (f : Frame) → n < 17 → HasBegunIn base place o →
    lent_of base (frames_in o) older (base + n) ≡ Some f → frame_at (pool_of o) n ≡ f
lent-beside base place n None older f i b h =
    let none : ◌≡◌ {A = Option Frame} None (Some f) = sym (lent-begun base (base + n) n None older refl i) ∙ h in absurd (cc)
lent-beside base place n (Some c) older f i b h =
    let g = c.frames in
    pick (nat_lt n (length g.pool)) (n == g.place) g.begun g.frame (frame_at g.pool n) f (sym (lent-begun base (base + n) n (Some g) older refl i) ∙ h) b.0

pub lent-references : (base place n : ℕ) (o : Option Sequence) (older : Option Frames) (f : Frame) →
    IsActive (λ (s : Sequence). HasBegunIn base place s.canvas) o → n < 17 →
    lent_of base (option_and_then (λ (s : Sequence). frames_in s.canvas) o) older (base + n) ≡ Some f →
    IsActive (λ (s : Sequence). (p : Component) (x y : ℕ) → (setting_of s).reference n p x y ≡ at (plane_of p f) x y) o
lent-references base place n None older f h i e = absurd h
lent-references base place n (Some s) older f h i e =
    λ p x y. ap (λ (g : Frame). at (plane_of p g) x y) (lent-beside base place n s.canvas older f i h e)

-- what was lent stays lent, of the older sequence and where the frames of the active one keep it
pub lent-kept : (base : ℕ) (old new older : Option Frames) → KeepsLent old new → (p : ℕ) → lent_of base old older p ≢ None →
    lent_of base new older p ≡ lent_of base old older p
lent-kept base old new older kept p = by (is_active_place base p)
  where
    by : (t : Bool) → (if t then lent_in old (p - base) else lent_in older (p - (17 - base))) ≢ None →
        (if t then lent_in new (p - base) else lent_in older (p - (17 - base))) ≡
        (if t then lent_in old (p - base) else lent_in older (p - (17 - base)))
    by true some = kept (p - base) some
    by false some = refl

-- and where they keep all but one
pub lent-others : (base : ℕ) (old new older : Option Frames) (place : ℕ) → base ≤ place →
    ((k : ℕ) → k ≢ place - base → lent_in old k ≢ None → lent_in new k ≡ lent_in old k) →
    (p : ℕ) → p ≢ place → lent_of base old older p ≢ None → lent_of base new older p ≡ lent_of base old older p
lent-others base old new older place low kept p other = by (is_active_place base p) refl
  where
    by : (t : Bool) → is_active_place base p ≡ t → (if t then lent_in old (p - base) else lent_in older (p - (17 - base))) ≢ None →
        (if t then lent_in new (p - base) else lent_in older (p - (17 - base))) ≡
        (if t then lent_in old (p - base) else lent_in older (p - (17 - base)))
    by true e some = let l : base ≤ p = grind (arith, nat_tests) in kept (p - base) (λ same. other (omega arith)) some
    by false e some = refl

-- ---- no frames

-- where no frame is made none is lent
none-in : (o : Option Sequence) (b : Bool) → ((s : Sequence) → o ≡ Some s → is_some s.canvas ≡ b) → b ≡ false → (k : ℕ) →
    lent_in (option_and_then (λ (s : Sequence). frames_in s.canvas) o) k ≡ None
none-in None b now e k = refl
none-in (Some s) b now e k = by s.canvas (now s refl ∙ e)
  where
    by : (c : Option Canvas) → is_some c ≡ false → lent_in (frames_in c) k ≡ None
    by None q = refl
    by (Some c) q = absurd (cc)

none-older : (o : Option Frames) (b : Bool) → (is_some o ≡ true → b ≡ true) → b ≡ false → (k : ℕ) → lent_in o k ≡ None
none-older None b before e k = refl
none-older (Some f) b before e k = let h : true ≡ false = sym (before refl) ∙ e in absurd (cc)

pub nothing-lent : (work : Work) → purpose_of work ≡ purpose.Verdict → (p : ℕ) → lent work p ≡ None
nothing-lent work is p = by (is_active_place work.base p)
  where
    off : makes_frames work.purpose ≡ false
    off = ap makes_frames is

    by : (t : Bool) → (if t then lent_in (option_and_then (λ (s : Sequence). frames_in s.canvas) work.active) (p - work.base)
        else lent_in work.older (p - (17 - work.base))) ≡ None
    by true = none-in work.active _ work.made.now off (p - work.base)
    by false = none-older work.older _ work.made.before off (p - (17 - work.base))
