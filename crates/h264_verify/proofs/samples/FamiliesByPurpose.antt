-- Families of frames by what pictures are decoded for.
use Rattle.std.proofs.Common.{◌≡◌, ◌≢◌, ℕ, List, [], ◌∷◌, Bool, true, false, IsTrue, not, ◌||◌, Option, Some, None, refl, sym, ◌∙◌, subst}
use Rattle.std.specs.Prelude.{IfSome}
use Rattle.h264_plane.specs.declared.frame.Frame.{Frame}
use Rattle.h264_plane.specs.Frames.{no_frame}
use Rattle.h264_picture.specs.declared.purpose.Purpose.{Purpose}
use Rattle.h264_picture.specs.declared.purpose.Purpose.TheVariants as purposes
use Rattle.h264_picture.specs.declared.work.Work.{Work}
use Rattle.h264_picture.specs.Places.{lent, purpose_of, MakesFrames}
use Rattle.h264_picture.proofs.Turns.{nothing-lent}
use Rattle.h264_dpb.specs.declared.entry.Entry.{Entry}
use Rattle.h264_dpb.specs.declared.entry.Placed.{Placed}
use Rattle.h264_dpb.specs.declared.output.Output.{Output}
use Rattle.h264_dpb.specs.Buffered.{AreReady, is_ready}
use Rattle.h264_dpb.specs.Kept.{HasFrames, IsReady}
use Rattle.h264_dpb.specs.Writing.{LendsNone}
use Rattle.h264_verify.specs.Telling.{Family, IsFamilyFor, Agree}
use Rattle.h264_verify.proofs.samples.ToldFrames.{IsLentFor}

-- where there is a family of frames, frames are made
pub made-for : (p : Purpose) (f : ℕ → Frame) → IsFamilyFor p (Some f) → p ≡ purposes.Frames
made-for purposes.Frames f h = refl
made-for purposes.Verdict f h = absurd h

-- and where there is none, none is made
pub none-for : (p : Purpose) → IsFamilyFor p None → p ≡ purposes.Verdict
none-for purposes.Frames h = absurd h
none-for purposes.Verdict h = refl

pub family-kept : (frames : Family) (old new : Work) → purpose_of new ≡ purpose_of old → IsFamilyFor (purpose_of old) frames →
    IsFamilyFor (purpose_of new) frames
family-kept frames old new e h = subst (λ (p : Purpose). IsFamilyFor p frames) (sym e) h

pub lends-none : (work : Work) → IsFamilyFor (purpose_of work) None → LendsNone (lent work)
lends-none work h = nothing-lent work (none-for (purpose_of work) h)

-- the frames of the buffer are lent, where frames are made
pub lent-for : (frames : Family) (work : Work) (output : Output) → IsFamilyFor (purpose_of work) frames →
    IfSome frames (λ f. HasFrames f (lent work) output) → IsLentFor frames (lent work) output
lent-for None work output m h = lends-none work m
lent-for (Some f) work output m h = h

pub lent-some : (frames : Family) (work : Work) (output : Output) → IsLentFor frames (lent work) output → IfSome frames (λ f. HasFrames f (lent work) output)
lent-some None work output h = tt
lent-some (Some f) work output h = h

-- nothing has to be shown where nothing is lent
true-last : (b : Bool) → IsTrue (b || true)
true-last true = refl
true-last false = refl

each-unlent : (lent : ℕ → Option Frame) → LendsNone lent → (es : List (Entry Placed)) → AreReady lent es
each-unlent lent n [] = tt
each-unlent lent n (e ∷ es) =
    (subst (λ (o : Option Frame). IsTrue (is_ready (λ (p : ℕ). o) e)) (sym (n e.of.place)) (true-last (not e.waiting)), each-unlent lent n es)

pub ready-unlent : (lent : ℕ → Option Frame) (output : Output) → LendsNone lent → IsReady lent output
ready-unlent lent output n = record { ready = each-unlent lent n output.buffer.entries }

-- on what is true where there is a value
pub some-map : {A : Type 0} (P Q : A → Type 0) (o : Option A) → ((x : A) → P x → Q x) → IfSome o P → IfSome o Q
some-map P Q None f h = tt
some-map P Q (Some x) f h = f x h

pub some-both : {A : Type 0} (P Q R : A → Type 0) (o : Option A) → ((x : A) → P x → Q x → R x) → IfSome o P → IfSome o Q → IfSome o R
some-both P Q R None f h k = tt
some-both P Q R (Some x) f h k = f x h k

pub frames-at : (P : (ℕ → Frame) → Type 0) (frames : Family) (f : ℕ → Frame) → frames ≡ Some f → IfSome frames P → P f
frames-at P frames f e h = let k : IfSome (Some f) P = subst (λ (x : Family). IfSome x P) e h in k

pub all-some : (P : (ℕ → Frame) → Type 0) (frames : Family) → ((f : ℕ → Frame) → P f) → IfSome frames P
all-some P None h = tt
all-some P (Some f) h = h f

pub family-is : (frames : Family) (p q : Purpose) → p ≡ q → IsFamilyFor q frames → IsFamilyFor p frames
family-is frames p q e h = subst (λ (x : Purpose). IsFamilyFor x frames) (sym e) h

-- what is so where there is a family is so where frames are made
pub some-of : (P : Type 0) (frames : Family) (work : Work) → IsFamilyFor (purpose_of work) frames → MakesFrames work → IfSome frames (λ f. P) → P
some-of P None work h m k = let e : purposes.Frames ≡ purposes.Verdict = sym m ∙ none-for (purpose_of work) h in cc
some-of P (Some f) work h m k = k

pub some-made : (frames : Family) (work : Work) → IsFamilyFor (purpose_of work) frames → IfSome frames (λ f. MakesFrames work)
some-made None work h = tt
some-made (Some f) work h = made-for (purpose_of work) f h

-- where a frame is lent, frames are made
pub lent-made : (frames : Family) (work : Work) → IsFamilyFor (purpose_of work) frames → (p : ℕ) → lent work p ≢ None → MakesFrames work
lent-made None work h p n = absurd (n (lends-none work h p))
lent-made (Some f) work h p n = made-for (purpose_of work) f h

-- two families that agree are for the same
pub family-on : (p : Purpose) (n : ℕ) (f g : Family) → Agree n f g → IsFamilyFor p f → IsFamilyFor p g
family-on p n None None a h = h
family-on p n None (Some g) a h = absurd a
family-on p n (Some f) None a h = absurd a
family-on purposes.Frames n (Some f) (Some g) a h = tt
family-on purposes.Verdict n (Some f) (Some g) a h = absurd h

-- there is a family for each
pub some-family : Purpose → Family
some-family purposes.Frames = Some (λ n. no_frame)
some-family purposes.Verdict = None

pub some-family-for : (p : Purpose) → IsFamilyFor p (some-family p)
unfolding some-family
some-family-for purposes.Frames = tt
some-family-for purposes.Verdict = tt

-- what is so of each family is so of that one
pub with-family : {P : Family → Type 0} (p : Purpose) → ((f : Family) → IsFamilyFor p f → P f) → P (some-family p)
with-family p h = h (some-family p) (some-family-for p)
