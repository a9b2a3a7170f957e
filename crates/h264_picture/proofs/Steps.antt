-- What the work holds after one macroblock more.
use Rattle.std.proofs.Common.{Bool, true, false, ◌==◌, Option, nat_lt, if◌then◌else◌, Result, Ok, Err, IsErrOf, ◌≡◌, ℕ, ◌+◌, ◌-◌, ◌<◌, ◌≤◌, List, [], ◌∷◌}
use Rattle.std.proofs.Common.{◌++◌, length, Some, None, refl, sym, ◌∙◌, arith, length-append, subst}
use Rattle.std.specs.List.{slice_get}
use Rattle.h264_near.specs.Coded.{CodedMacroblock}
use Rattle.h264_near.specs.declared.motion.Vector.{Vector}
use Rattle.h264_near.specs.Keeps.{Keeps}
use Rattle.h264_near.proofs.Places.{seam}
use Rattle.h264_vectors.specs.declared.slice.SliceContext.{SliceContext}
use Rattle.std.proofs.lemmas.Bool.{eqb-true}
use Rattle.h264_base.specs.declared.stop.Stop.{Stop}
use Rattle.h264_base.specs.declared.stop.Stop.TheVariants.{No, Outside, Memory, Read, Write}
use Rattle.h264_base.specs.Call.{Call, span}
use Rattle.h264_base.specs.Grammar.{Grammar}
use Rattle.h264_base.specs.Meets.{Reader, Answers, Meets, MeetsBy}
use Rattle.h264_base.specs.Body.{Body}
use Rattle.h264_base.proofs.OneAnswer.{answers}
use Rattle.h264_mbsyntax.specs.Macroblock.{predicted_qp, qp_of, coded}
use Rattle.h264_mbsyntax.specs.Slice.{skipped_of, macroblocks}
use Rattle.h264_mbsyntax.proofs.Quantiser.{predicted-next}
use Rattle.h264_picture.specs.declared.sequence.Sequence.{Sequence}
use Rattle.h264_mbsyntax.specs.declared.slice.Standing.{Standing}
use Rattle.h264_picture.specs.Holds.{HoldsIn, IsPast, IsWithin, KeepsPlace}
use Rattle.h264_picture.specs.Making.{Making, MakesWith, HasSamples, HasSamplesIn, MakesIn, Reads, setting_of, beginning_at}
use Rattle.std.proofs.Common.{get_or, ◌≢◌, IsTrue}
use Rattle.std.specs.Prelude.{nat_le}
use Rattle.std.proofs.lemmas.Bool.Decides.{nat_tests}
use Rattle.h264_picture.specs.Sound.{IsPlace, IsPlaceIn}
use Rattle.h264_picture.specs.declared.canvas.Canvas.{Canvas}
use Rattle.h264_picture.specs.declared.samples.SliceSamples.{SliceSamples}
use Rattle.h264_picture.specs.declared.slice.Slice.{Slice}

pub past-next : (slice : SliceContext) (picture : List CodedMacroblock) (m : CodedMacroblock) → m.slice ≡ slice.number → slice.number ≤ length picture →
    IsPast (picture ++ m ∷ [])
past-next slice picture m e f x g =
    let l = length-append picture (m ∷ []) in
    let last : slice_get (picture ++ m ∷ []) (length (picture ++ m ∷ []) - 1) ≡ Some m = seam picture m [] _ (omega arith) in
    let same : x ≡ m = cc in
    rw same (omega arith)

-- one macroblock more
pub kept-on : (width size : ℕ) (making : Option Making) (slice : Slice) (picture : List CodedMacroblock) (m : CodedMacroblock) (old new : Sequence) →
    HoldsIn width size picture old → new.across ≡ old.across → slice.context.number ≤ length picture → Keeps width (picture ++ m ∷ []) new.picture.near →
    m.qp ≡ new.mb.qp → m.slice ≡ slice.context.number → new.size ≡ old.size → new.picture.next ≡ old.picture.next + 1 →
    HasSamples making (picture ++ m ∷ []) new → MakesIn making slice → Reads width size making slice (picture ++ m ∷ []) new
kept-on width size making slice picture m old new h w f k q e s n has makes =
    let l = length-append picture (m ∷ []) in
    record {
      holds = record {
        keeps = k;
        columns = w ∙ h.columns;
        macroblocks = s ∙ h.macroblocks;
        next = (let x = h.next in omega arith);
        past = past-next slice.context picture m e f;
      };
      first = omega arith;
      predicted = sym q ∙ predicted-next slice.context picture m e;
      samples = has;
      makes = makes;
    }

-- another macroblock in its place changes nothing of that
pub moved : (width size : ℕ) (picture : List CodedMacroblock) (old new : Sequence) → HoldsIn width size picture old → new.picture.near ≡ old.picture.near →
    new.across ≡ old.across → new.size ≡ old.size → new.picture.next ≡ old.picture.next → HoldsIn width size picture new
moved width size picture old new h a w b c =
    record { keeps = subst (Keeps width picture) (sym a) h.keeps; columns = w ∙ h.columns; macroblocks = b ∙ h.macroblocks; next = c ∙ h.next; past = h.past }

pub skipped-slice : (slice : SliceContext) (picture : List CodedMacroblock) (v : Vector) → (skipped_of slice picture v).slice ≡ slice.number
unfolding skipped_of coded
skipped-slice slice picture v = refl

pub within-on : (a b : ℕ) (s : Standing) → a ≡ b → IsWithin a s → IsWithin b s
within-on a b s e h = rw (sym e) h

-- a slice that begins there
pub begins-there : (slice : SliceContext) (n : ℕ) → slice.number ≡ n → beginning_at n slice ≡ slice
begins-there slice n e = rw (sym e) refl

-- the first macroblock of a slice is predicted from SliceQP_Y
pub qp-first : (slice : SliceContext) (picture : List CodedMacroblock) → slice.number ≡ length picture → IsPast picture → slice.qp ≡ predicted_qp slice picture
unfolding predicted_qp
qp-first slice picture n p = go (nat_lt 0 (length picture)) (slice_get picture (length picture - 1)) refl
  where
    other : (m : CodedMacroblock) (t : Bool) → (m.slice == slice.number) ≡ t → m.slice < length picture →
        slice.qp ≡ (if m.slice == slice.number then m.qp else slice.qp)
    other m true e l = absurd (let x = eqb-true m.slice slice.number e in omega arith)
    other m false e l = rw e refl

    go : (t : Bool) (o : Option CodedMacroblock) → slice_get picture (length picture - 1) ≡ o → slice.qp ≡ qp_of slice (if t then o else None)
    go false o e = refl
    go true None e = refl
    go true (Some m) e = other m (m.slice == slice.number) refl (p m e)

none : {X A S : Type 0} (took : S → List Call → Type 0) (failures : S → ℕ) (R : X → A → Type 0) (g : Grammar A) (old new : Reader) (s s' : S)
    (r : Result X Stop) → Answers (span took failures s s') R g old new r → IsErrOf r Memory → ⊥
none took failures R g old new s s' (Ok x) a e = absurd (cc)
none took failures R g old new s s' (Err (No bit rule)) a e = absurd (cc)
none took failures R g old new s s' (Err (Outside bit feature)) a e = absurd (cc)
none took failures R g old new s s' (Err Memory) a e = a
none took failures R g old new s s' (Err Read) a e = a
none took failures R g old new s s' (Err Write) a e = absurd (cc)

-- an answer is no want of memory
pub no-memory : {X A S : Type 0} {took : S → List Call → Type 0} {failures : S → ℕ} {R : X → A → Type 0} {g : Grammar A} {old new : Reader} {s s' : S}
    {r : Result X Stop} → Meets (span took failures s s') R g old new r → IsErrOf r Memory → ⊥
no-memory {took = took} {failures = failures} {R = R} {g = g} {old = old} {new = new} {s = s} {s' = s'} {r = r} m e =
    none took failures R g old new s s' r (answers m) e

-- so many macroblocks are left
pub left-is : {X S : Type 0} {took : S → List Call → Type 0} {failures : S → ℕ} {R : X → List CodedMacroblock → Type 0} {old new : Reader} {s s' : S}
    {r : Result X Stop} (a b : ℕ) (fits : CodedMacroblock → Bool) (width : ℕ) (slice : SliceContext) (standing : Standing) (picture : List CodedMacroblock) →
    a ≡ b → Meets (span took failures s s') R (macroblocks fits width slice b standing picture) old new r →
    Meets (span took failures s s') R (macroblocks fits width slice a standing picture) old new r
left-is a b fits width slice standing picture e m = rw e m

-- the frames stand where they stood
pub same-place : (s : Sequence) → KeepsPlace s s
same-place s = record { across = refl; down = refl; places = refl; rest = refl }

pub both-places : (a b c : Sequence) → KeepsPlace a b → KeepsPlace b c → KeepsPlace a c
both-places a b c h k = record { across = k.across ∙ h.across; down = k.down ∙ h.down; places = k.places ∙ h.places; rest = k.rest ∙ h.rest }

-- the samples are those of the lines and the frames
pub same-samples : (making : Option Making) (picture : List CodedMacroblock) (old new : Sequence) → new.across ≡ old.across → new.down ≡ old.down →
    new.canvas ≡ old.canvas → HasSamples making picture old → HasSamples making picture new
same-samples None picture old new a d c h = tt
same-samples (Some making) picture old new a d c h = rw (a, d, c) h

-- a slice begins, with the places of its reference pictures among the frames
pub makes-with : (making : Option Making) (picture : List CodedMacroblock) (slice : Slice) (samples : SliceSamples) (base : ℕ) (old : Sequence) →
    ((c : Canvas) → old.canvas ≡ Some c → (n : ℕ) → n < 16 → base ≤ get_or samples.places n 0 → IsPlace c.frames (get_or samples.places n 0 - base) →
    get_or slice.places n 0 ≡ get_or samples.places n 0 - base) → slice.filter ≡ samples.filter → slice.weights ≡ samples.weights →
    HasSamples making picture old → MakesWith making slice.context samples base old → MakesIn making slice
makes-with None picture slice samples base old values f w s h = tt
makes-with (Some making) picture slice samples base old values f w s h = record {
  parameters = rw (f, w) h.parameters;
  offset = rw f h.offset;
  offsets = rw f h.offsets;
  placed = record { each = λ k n i e. let p = h.placed k n i e in at old.canvas refl s k n i p.0 p.1 };
}
  where
    at : (o : Option Canvas) → old.canvas ≡ o → HasSamplesIn (setting_of old) making picture o → (k n : ℕ) → k < 16 →
        get_or samples.places k 0 ≡ base + making.place n → IsPlaceIn o (making.place n) → get_or slice.places k 0 ≡ making.place n
    at None is s k n i e p = absurd s
    at (Some c) is s k n i e p =
        let there : get_or samples.places k 0 - base ≡ making.place n = omega arith in
        values c is k i (omega arith) (subst (IsPlace c.frames) (sym there) p) ∙ there

weaker-by : {X A S : Type 0} (took : S → List Call → Type 0) (failures : S → ℕ) (R R' : X → A → Type 0) (g : Grammar A) (body : Body) (i j : ℕ) (s s' : S)
    (r : Result X Stop) → ((x : X) (v : A) → R x v → R' x v) → MeetsBy (span took failures s s') R g (record { body = body; at = i }) j r →
    MeetsBy (span took failures s s') R' g (record { body = body; at = i }) j r
weaker-by took failures R R' g body i j s s' (Ok x) f m = (m.0, f x m.0 m.1, m.2, m.3, m.4)
weaker-by took failures R R' g body i j s s' (Err (No bit rule)) f m = m
weaker-by took failures R R' g body i j s s' (Err (Outside bit feature)) f m = m
weaker-by took failures R R' g body i j s s' (Err Memory) f m = m
weaker-by took failures R R' g body i j s s' (Err Read) f m = m
weaker-by took failures R R' g body i j s s' (Err Write) f m = m

-- what is said of the value may be less
pub weaker : {X A S : Type 0} {took : S → List Call → Type 0} {failures : S → ℕ} {R R' : X → A → Type 0} {g : Grammar A} {old new : Reader} {s s' : S}
    {r : Result X Stop} → ((x : X) (v : A) → R x v → R' x v) → Meets (span took failures s s') R g old new r → Meets (span took failures s s') R' g old new r
weaker {took = took} {failures = failures} {R = R} {R' = R'} {g = g} {old = old} {new = new} {s = s} {s' = s'} {r = r} f m =
    record { meets = weaker-by took failures R R' g old.body old.at new.at s s' r f m.meets; same = m.same }

-- ---- macroblocks that are left

pub some-left : (left : ℕ) → IsTrue (nat_lt 0 left) → 0 < left
some-left left h = grind (arith, nat_tests)

pub one-left : (next size left : ℕ) → IsTrue (nat_lt 0 left) → next + left ≤ size → next < size
one-left next size left h room = let some = some-left left h in omega arith

pub run-left : (run left : ℕ) → IsTrue (nat_le run left) → run ≢ 0 → run - 1 < left
run-left run left h some = let most : run ≤ left = grind (arith, nat_tests) in omega arith
