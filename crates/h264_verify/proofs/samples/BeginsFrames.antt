-- What is kept before slice data are read.
use Rattle.std.proofs.Common.{◌≡◌, ◌≢◌, ℕ, ◌+◌, ◌*◌, ◌<◌, ◌≤◌, Bool, true, false, List, [], ◌∷◌, Option, Some, None, Result, OnOk, refl, ap, sym, ◌∙◌, subst}
use Rattle.std.proofs.Common.{arith, length, ◌==◌, ◌||◌, eqb-true, IsTrue, ◌⊎◌, inl, inr}
use Rattle.std.proofs.lemmas.Bool.Decides.{nat_tests}
use Rattle.std.specs.Option.{is_some}
use Rattle.h264_plane.specs.declared.frame.Frame.{Frame}
use Rattle.h264_sps.specs.declared.sps.Sps.{Sps}
use Rattle.h264_picture.specs.Buffer.{buffer_size}
use Rattle.h264_picture.specs.Making.{Making, HoldsSamples}
use Rattle.h264_picture.specs.Holds.{HoldsMacroblocks, Serves}
use Rattle.h264_picture.specs.Places.{lent, first_place, places, is_active_place, HasBegun}
use Rattle.h264_picture.specs.Places.{HasSize, IsReleased, KeepsOthers, KeepsFrames as KeepsLent, MakesFrames, purpose_of}
use Rattle.h264_dpb.specs.declared.output.Output.{Output}
use Rattle.h264_dpb.specs.declared.entry.Entry.{Entry}
use Rattle.h264_dpb.specs.declared.entry.Placed.{Placed}
use Rattle.h264_dpb.specs.Kept.{Each, IsAtPlace, IsOrdered, is_occupied, size_of, HasFrames}
use Rattle.h264_dpb.specs.Numbered.{is_taken}
use Rattle.h264_verify.specs.declared.decoder.Decoder.{Decoder}
use Rattle.h264_verify.specs.declared.decoder.Format.{Format}
use Rattle.h264_verify.specs.Pictures.{CodedSlice, CodedPicture}
use Rattle.h264_verify.specs.Keeping.{HasFormat, IsSettled, IsSized, IsRoomFor, AreOlder, KeepsFrames, EntersFrames, EntersSome, EntersBy, IsPlaced}
use Rattle.h264_verify.specs.Memory.{format_of}
use Rattle.h264_verify.specs.Keeping.{HasFreePlace, BegunFrames, BeginsFrames}
use Rattle.h264_verify.proofs.samples.FillsFrames.{sized}
use Rattle.h264_verify.proofs.samples.LentFrames.{some-not, output-kept, holds-serves}
use Rattle.h264_verify.proofs.samples.FamiliesByPurpose.{family-kept, some-of, some-made, some-map, lent-made}
use Rattle.h264_verify.specs.Telling.{Family, IsFamilyFor}

-- a slice that begins no picture finds what was kept
pub goes-on : (frames : Family) (on : Bool) (s : CodedSlice) (pictures : List CodedPicture) (d : Decoder) (begins : Bool) → begins ≡ false →
    (begins ≡ false → on ≡ true) → EntersBy frames begins s on pictures d → BeginsFrames frames begins s pictures d
goes-on frames on s pictures d true e live k = cc
goes-on frames on s [] d false e live k = absurd k
goes-on frames on s (p ∷ ps) d false e live k = subst (λ (x : Bool). KeepsFrames frames x false (p ∷ ps) d) (live e) k

-- and one that begins a picture has a place for it
pub begins-now : {X E : Type 0} (frames : Family) (on : Bool) (s : CodedSlice) (pictures : List CodedPicture) (old new : Decoder) (begins : Bool)
    (r : Result X E) → begins ≡ true → (EntersFrames frames s pictures old → OnOk r (BegunFrames frames s pictures new)) →
    EntersBy frames begins s on pictures old → OnOk r (BeginsFrames frames begins s pictures new)
begins-now frames on s pictures old new true r e f k = f k
begins-now frames on s pictures old new false r e f k = cc

-- another format comes with an IDR picture alone
settled-if : (old new : Decoder) (o o' : Option Format) → IsSettled old → o' ≡ old.format → IsReleased new.work → new.output ≡ old.output → new.format ≡ o' →
    IsSettled new
settled-if old new o o' k e r out f = record {
  released = r;
  sized = subst (λ (x : Output). IsSized new.format x) (sym out) (subst (λ (x : Option Format). IsSized x old.output) (sym (f ∙ e)) k.sized);
}

-- A picture was begun at a place where no frame of the buffer stands.
module _ (frames : Family) (s : CodedSlice) (pictures : List CodedPicture) (old mid new : Decoder) (sps : Sps) (place : ℕ)
    (k : EntersFrames frames s pictures old) (sps-is : s.sps ≡ sps)
    (room : IsRoomFor (format_of sps) mid.work) (format : mid.format ≡ Some (format_of sps)) (kept : KeepsLent old.work mid.work)
    (others : old.format ≡ Some (format_of sps) → mid ≡ old) (output : mid.output ≡ old.output)
    (out : new.output ≡ mid.output) (same : new.format ≡ mid.format) (at : new.place ≡ place) where
  pub begun-frames : is_active_place (first_place mid.work) place ≡ true → first_place new.work ≡ first_place mid.work →
      (MakesFrames mid.work → is_occupied place mid.output ≡ false) → ((width size : ℕ) → Serves width size mid.work →
      HoldsMacroblocks width size [] new.work) →
      (MakesFrames mid.work → (width size : ℕ) (making : Making) → Serves width size mid.work → HoldsSamples width size making [] new.work) →
      HasBegun place new.work → KeepsOthers place mid.work new.work → places new.work ≡ places mid.work →
      ((width height : ℕ) → HasSize width height mid.work → HasSize width height new.work) → (IsReleased mid.work → IsReleased new.work) →
      purpose_of new.work ≡ purpose_of mid.work → purpose_of mid.work ≡ purpose_of old.work → BegunFrames frames s pictures new
  begun-frames active first free holds samples begun others-kept places-are size released purpose purpose-mid =
      let width = s.sps.frame_size.width in
      let count = s.sps.frame_size.width * s.sps.frame_size.height in
      let serves : Serves width count mid.work =
      subst (λ (x : Sps). Serves x.frame_size.width (x.frame_size.width * x.frame_size.height) mid.work) (sym sps-is) room.serves in
      let is : mid.format ≡ Some (format_of s.sps) = format ∙ ap (λ (x : Sps). Some (format_of x)) (sym sps-is) in
      let sized : HasSize width s.sps.frame_size.height mid.work =
      subst (λ (x : Sps). HasSize x.frame_size.width x.frame_size.height mid.work) (sym sps-is) room.size in
      let all : places mid.work ≡ buffer_size s.sps + 1 = room.places ∙ ap (λ (x : Sps). buffer_size x + 1) (sym sps-is) in
      let fits : IsRoomFor (format_of s.sps) new.work =
      record { serves = holds-serves width count [] new.work (holds width count serves); size = size _ _ sized; places = places-are ∙ all } in
      record {
        output = output-kept frames _ _ old new k.output (out ∙ output) (purpose ∙ purpose-mid) lent-on
            (subst (λ (o : Option Format). HasFormat o new.work) (sym (same ∙ is)) fits);
        picture = record {
          begun = subst (λ (p : ℕ). HasBegun p new.work) (sym at) begun;
          placed = some-map (λ f. MakesFrames mid.work) (λ f. IsPlaced new) frames (λ f m. record {
            active = subst (λ (p : ℕ). is_active_place (first_place new.work) p ≡ true) (sym at)
                (subst (λ (b : ℕ). is_active_place b place ≡ true) (sym first) active);
            free = subst (λ (o : Output). is_occupied new.place o ≡ false) (sym out)
                (subst (λ (p : ℕ). is_occupied p mid.output ≡ false) (sym at) (free m));
          }) (some-made frames mid.work family);
          format = same ∙ is;
          settled = λ not.
              let e = others (k.format not ∙ ap (λ (x : Sps). Some (format_of x)) sps-is) in
              settled-if old new old.format mid.format k.settled (ap (λ (d : Decoder). d.format) e)
              (released (subst (λ (d : Decoder). IsReleased d.work) (sym e) k.settled.released)) (out ∙ output) same;
          so_far = record {
            holds = holds width count serves;
            numbers = tt;
            sets = tt;
            frames_are = some-map (λ f. MakesFrames mid.work) _ frames
                (λ f m. record { references = tt; samples = λ making n. samples m width count making serves })
                (some-made frames mid.work family);
          };
        };
      }
    where
      family : IsFamilyFor (purpose_of mid.work) frames
      family = family-kept frames old.work mid.work purpose-mid k.output.made

      lent-on : (p : ℕ) → is_taken old.output.buffer.entries p ≡ true → lent old.work p ≢ None → lent new.work p ≡ lent old.work p
      lent-on p t n =
          let first = kept p n in
          let apart : p ≢ place = λ e. let f : is_occupied p old.output ≡ false =
          subst (λ (q : ℕ). is_occupied q old.output ≡ false) (sym e) (subst (λ (o : Output). is_occupied place o ≡ false) output
          (free (purpose-mid ∙ lent-made frames old.work k.output.made p n))) in
          let g : true ≡ false = sym t ∙ f in cc in
          others-kept p apart (λ e. n (sym first ∙ e)) ∙ first

pub is-active : (first place : ℕ) → first ≤ place → place < first + 17 → is_active_place first place ≡ true
is-active first place l h = grind (arith, nat_tests)

-- ---- a place is free

not-taken : (frames : ℕ → Frame) (at : ℕ → Option Frame) (first : ℕ) (es : List (Entry Placed)) → Each (IsAtPlace frames at) es →
    ((p : ℕ) → at p ≢ None → is_active_place first p ≡ false) → is_taken es first ≡ false
not-taken frames at first [] h older = refl
not-taken frames at first (e ∷ es) h older =
    both-false (e.of.place == first) (is_taken es first) (apart (e.of.place == first) refl) (not-taken frames at first es h.1 older)
  where
    both-false : (a b : Bool) → a ≡ false → b ≡ false → (a || b) ≡ false
    both-false true b f g = cc
    both-false false b f g = g

    apart : (b : Bool) → (e.of.place == first) ≡ b → b ≡ false
    apart true q =
        let same : e.of.place ≡ first = eqb-true _ _ q in
        let no : is_active_place first first ≡ false = subst (λ (p : ℕ). is_active_place first p ≡ false) same (older e.of.place (some-not _ _ h.0.0)) in
        let yes : is_active_place first first ≡ true = is-active first first (omega arith) (omega arith) in
        cc
    apart false q = refl

-- the buffer has fewer frames than there are places, or its frames stand at those of the sequence before
module _ (old mid : Decoder) (sps : Sps) (k : EntersSome old) (room : IsRoomFor (format_of sps) mid.work) (format : mid.format ≡ Some (format_of sps))
    (output : mid.output ≡ old.output) where
  pub is-small : IsSized mid.format mid.output → size_of mid.output < places mid.work
  is-small s = let e = sized mid.format (format_of sps) mid.output format s in let p = room.places in omega (arith, e, p)

  pub in-order : IsOrdered (length k.pictures) mid.output
  in-order = subst (λ (o : Output). IsOrdered (length k.pictures) o) (sym output) k.keeps.output.ordered

  pub is-fresh : MakesFrames old.work → AreOlder old.work mid.work → is_occupied (first_place mid.work) mid.output ≡ false
  is-fresh m older = subst (λ (o : Output). is_occupied (first_place mid.work) o ≡ false) (sym output)
      (some-of (is_occupied (first_place mid.work) old.output ≡ false) k.frames old.work k.keeps.output.made m
      (some-map (λ f. HasFrames f (lent old.work) old.output) (λ f. is_occupied (first_place mid.work) old.output ≡ false) k.frames
      (λ f h. not-taken f (lent old.work) (first_place mid.work) old.output.buffer.entries h.each older) k.keeps.output.frames_are))

  pub some-place : 0 < places mid.work
  some-place = let p = room.places in omega (arith, p)

  pub always-place : MakesFrames old.work → IsSized mid.format mid.output ⊎ AreOlder old.work mid.work → HasFreePlace mid
  always-place m (inl s) = inl (length k.pictures, in-order, is-small s)
  always-place m (inr older) = inr (is-fresh m older)

-- so one of the places is found
pub some-free : (d : Decoder) (r : Option ℕ) (first count : ℕ) → first ≡ first_place d.work → count ≡ places d.work → 0 < places d.work →
    ((next : ℕ) → IsOrdered next d.output → size_of d.output < count → IsTrue (is_some r)) →
    (is_occupied first d.output ≡ false → 0 < count → IsTrue (is_some r)) → HasFreePlace d → IsTrue (is_some r)
some-free d r first count f c some small fresh (inl h) = small h.0 h.1 (let l = h.2 in omega (arith, c, l))
some-free d r first count f c some small fresh (inr free) =
    fresh (subst (λ (n : ℕ). is_occupied n d.output ≡ false) (sym f) free) (omega (arith, c, some))

pub none-some : {A : Type 0} (o : Option A) → o ≡ None → IsTrue (is_some o) → ⊥
none-some None e t = cc
none-some (Some x) e t = cc
