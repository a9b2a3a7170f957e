-- The memory of samples, where there is one: what stays of it while samples are written, and where a picture is begun in it.
use Rattle.std.proofs.Common.{◌≡◌, ◌≢◌, ℕ, ◌+◌, ◌<◌, Bool, true, false, List, length, Option, Some, None, is_some, ap, subst, sym, ◌∙◌, refl, arith}
use Rattle.std.proofs.Common.{◌&&◌, ◌==◌, if◌then◌else◌}
use Rattle.std.specs.Prelude.{nat_lt}
use Rattle.std.specs.Option.{option_and_then, option_map_or}
use Rattle.std.proofs.lemmas.Bool.Decides.{nat_tests}
use Rattle.h264_plane.specs.Frames.{frame_at}
use Rattle.h264_plane.specs.declared.frame.Frame.{Frame}
use Rattle.h264_near.specs.Coded.{CodedMacroblock}
use Rattle.h264_recon.specs.Inter.{Setting}
use Rattle.h264_picture.specs.declared.canvas.Canvas.{Canvas}
use Rattle.h264_picture.specs.declared.frames.Frames.{Frames}
use Rattle.h264_picture.specs.declared.purpose.Purpose.{Purpose}
use Rattle.h264_picture.specs.declared.sequence.Sequence.{Sequence}
use Rattle.h264_picture.specs.Lent.{lent_within, lent_in, frames_in, written_place, IsBegun, KeepsLent, Rest, rest_of}
use Rattle.h264_picture.specs.Making.{Making, HasSamplesIn}
use Rattle.h264_picture.specs.Places.{HasBegunIn}
use Rattle.h264_picture.specs.Purposes.{makes_frames, IsFor}
use Rattle.h264_picture.specs.Sound.{ArePlacesIn, IsPlaceIn, IsCanvas, HasCanvas}
use Rattle.h264_picture.proofs.Sound.{same-places}

-- what stays while samples are written
pub same-places-in : (old new : Option Canvas) (ps : List ℕ) → rest_of new ≡ rest_of old → ArePlacesIn old ps → ArePlacesIn new ps
same-places-in old None ps e a = tt
same-places-in None (Some n) ps e a = absurd (cc)
same-places-in (Some o) (Some n) ps e a =
    let r : ◌≡◌ {A = Rest} (record { pool = n.frames.pool; place = n.frames.place; begun = n.frames.begun })
    (record { pool = o.frames.pool; place = o.frames.place; begun = o.frames.begun }) = cc in
    same-places o.frames n.frames ps (ap (λ (x : Rest). length x.pool) r) (ap (λ (x : Rest). x.place) r) a

pub same-some : (old new : Option Canvas) → rest_of new ≡ rest_of old → is_some new ≡ is_some old
same-some None None e = refl
same-some None (Some n) e = absurd (cc)
same-some (Some o) None e = absurd (cc)
same-some (Some o) (Some n) e = refl

-- one canvas, and none
pub one-canvas : (across down places : ℕ) (n : Canvas) → IsCanvas across down places n → HasCanvas across down places (Some n)
one-canvas across down places n h k e = let same : n ≡ k = cc in subst (IsCanvas across down places) same h

pub no-canvas : (across down places : ℕ) → HasCanvas across down places None
no-canvas across down places k e = absurd (cc)

one-rest : (n o : Canvas) → rest_of (Some n) ≡ rest_of (Some o) → ◌≡◌ {A = Rest}
    (record { pool = n.frames.pool; place = n.frames.place; begun = n.frames.begun })
    (record { pool = o.frames.pool; place = o.frames.place; begun = o.frames.begun })
one-rest n o e = cc

-- ---- frames that are lent

pick : (t u : Bool) (x y z : Frame) → (if t then (if u && true then None else Some (if u then x else z)) else None) ≡
    (if t then (if u && true then None else Some (if u then y else z)) else None)
pick true true x y z = refl
pick true false x y z = refl
pick false u x y z = refl

within-kept : (f g : Frames) → g.pool ≡ f.pool → g.place ≡ f.place → g.begun ≡ true → f.begun ≡ true → (k : ℕ) → lent_within g k ≡ lent_within f k
within-kept f g p q b b' k = rw (p, q, b, b') (pick (nat_lt k (length f.pool)) (k == f.place) g.frame f.frame (frame_at f.pool k))

-- the frame that is written is not lent
pub lent-stays : (old new : Option Canvas) → rest_of new ≡ rest_of old → IsBegun old → KeepsLent (frames_in old) (frames_in new)
lent-stays None None e b k some = refl
lent-stays None (Some n) e b k some = absurd (cc)
lent-stays (Some o) None e b k some = absurd (cc)
lent-stays (Some o) (Some n) e b k some =
    let r = one-rest n o e in
    within-kept o.frames n.frames (ap (λ (x : Rest). x.pool) r) (ap (λ (x : Rest). x.place) r) (ap (λ (x : Rest). x.begun) r ∙ b) b k

-- ---- where a picture is begun

pub begun-stays : (base place : ℕ) (old new : Option Canvas) → rest_of new ≡ rest_of old → HasBegunIn base place old → HasBegunIn base place new
begun-stays base place old None e h = tt
begun-stays base place None (Some n) e h = absurd (cc)
begun-stays base place (Some o) (Some n) e h =
    let r = one-rest n o e in
    (ap (λ (x : Rest). x.begun) r ∙ h.0, ap (λ (x : Rest). base + x.place) r ∙ h.1)

pub is-begun : (base place : ℕ) (o : Option Canvas) → HasBegunIn base place o → IsBegun o
is-begun base place None h = tt
is-begun base place (Some c) h = h.0

pub written-at : (base place : ℕ) (o : Option Canvas) → is_some o ≡ true → HasBegunIn base place o →
    (base + written_place o ≡ place) × (written_place o < 17)
written-at base place None s h = absurd (cc)
written-at base place (Some c) s h = (h.1, let w = c.frames.within in omega arith)

-- another place is one that can be read
pub another-place : (base place n : ℕ) (s : Sequence) → HasBegunIn base place s.canvas → n < s.places → base + n ≢ place → IsPlaceIn s.canvas n
another-place base place n s h i other = by s.canvas refl h
  where
    by : (o : Option Canvas) → s.canvas ≡ o → HasBegunIn base place o → IsPlaceIn o n
    by None is b = tt
    by (Some c) is b = let count = (s.drawn c is).count in
        record { inside = omega arith; other = λ e. other (ap (λ (x : ℕ). base + x) e ∙ b.1) }

-- a frame that is lent is at one of the places
below-by : (k n : ℕ) (o : Option Frame) (f : Frame) (b : Bool) → nat_lt k n ≡ b → (if b then o else None) ≡ Some f → k < n
below-by k n o f true t e = grind (arith, nat_tests)
below-by k n o f false t e = absurd (cc)

below-canvas : (k : ℕ) (f : Frame) (s : Sequence) (o : Option Canvas) → s.canvas ≡ o → lent_in (frames_in o) k ≡ Some f → k < s.places
below-canvas k f s None is e = absurd (cc)
below-canvas k f s (Some c) is e =
    let count = (s.drawn c is).count in
    let below = below-by k (length c.frames.pool) _ f _ refl e in
    omega arith

pub below-places : (o : Option Sequence) (k : ℕ) (f : Frame) → lent_in (option_and_then (λ (s : Sequence). frames_in s.canvas) o) k ≡ Some f →
    k < option_map_or (λ (s : Sequence). s.places) o 0
below-places None k f e = absurd (cc)
below-places (Some s) k f e = below-canvas k f s s.canvas refl e

-- ---- whether there is one

-- samples of a picture have theirs
pub has-canvas : (k : Setting) (making : Making) (picture : List CodedMacroblock) (o : Option Canvas) → HasSamplesIn k making picture o → is_some o ≡ true
has-canvas k making picture None h = absurd h
has-canvas k making picture (Some c) h = refl

older-some : (b : Bool) (o : Option Canvas) → is_some o ≡ b → is_some (frames_in o) ≡ true → b ≡ true
older-some b None e h = absurd (cc)
older-some b (Some c) e h = sym e

older-made : (b : Bool) (o : Option Sequence) → ((s : Sequence) → o ≡ Some s → is_some s.canvas ≡ b) →
    is_some (option_and_then (λ (s : Sequence). frames_in s.canvas) o) ≡ true → b ≡ true
older-made b None now h = absurd (cc)
older-made b (Some s) now h = older-some b s.canvas (now s refl) h

-- another sequence becomes the active one
pub for-next : (p : Purpose) (active next : Option Sequence) (older older' : Option Frames) (s : Sequence) → IsFor p active older → next ≡ Some s →
    is_some s.canvas ≡ makes_frames p → older' ≡ option_and_then (λ (s : Sequence). frames_in s.canvas) active → IsFor p next older'
for-next p active next older older' s h n e o = record {
  now = λ t is. let same : s ≡ t = cc in subst (λ (x : Sequence). is_some x.canvas ≡ makes_frames p) same e;
  before = λ some. older-made (makes_frames p) active h.now (sym (ap (λ (x : Option Frames). is_some x) o) ∙ some);
}

-- the active one changes
pub for-changed : (p : Purpose) (active older : _) (old new : Sequence) → IsFor p active older → active ≡ Some old →
    is_some new.canvas ≡ is_some old.canvas → IsFor p (Some new) older
for-changed p active older old new h is e = record {
  now = λ t q. let same : new ≡ t = cc in subst (λ (x : Sequence). is_some x.canvas ≡ makes_frames p) same (e ∙ h.now old is);
  before = h.before;
}
