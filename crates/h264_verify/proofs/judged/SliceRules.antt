-- The rules of a slice, by what is kept of the pictures before it.
use Rattle.std.proofs.Common.{◌≡◌, ℕ, ◌<◌, ◌≤◌, ◌^◌, ◌==◌, ◌||◌, not, Bool, true, false, List, [], ◌∷◌, map, length, Option, Some, None, Result, Ok, Err}
use Rattle.std.proofs.Common.{OnOk, refl, ap, sym, ◌∙◌, subst, arith}
use Rattle.h264_verify.specs.declared.state.Depth.{Depth}
use Rattle.std.specs.Prelude.{IfSome}
use Rattle.h264_sps.specs.declared.sps.Sps.{Sps}
use Rattle.h264_header.specs.declared.header.Header.{Header}
use Rattle.h264_header.specs.Picture.{is_idr}
use Rattle.h264_marking.specs.Gaps.{unused_short_term_frame_nums}
use Rattle.h264_marking.specs.Ended.{numbering_of}
use Rattle.h264_dpb.specs.Turns.{turn_then}
use Rattle.h264_verify.specs.declared.decoder.Decoder.{Decoder}
use Rattle.h264_verify.specs.declared.slices.PicturesSoFar.{PicturesSoFar}
use Rattle.h264_verify.specs.declared.picture.OpenPicture.{OpenPicture}
use Rattle.h264_verify.specs.Buffering.{after_all, gaps_turn}
use Rattle.h264_verify.specs.Demands.{judged}
use Rattle.h264_verify.specs.Slices.{is_i, type_demand, pictures_before, slices_before}
use Rattle.h264_verify.specs.Order.{first_slice_rules}
use Rattle.h264_verify.specs.Pictures.{CodedSlice, CodedPicture, open_of, begins_after, goes_on, runs_of, counted, prev_ref_frame_num_of, held_after, held_in}
use Rattle.h264_verify.proofs.kept.KeepsOutput.{gap-by, ended-gap}
use Rattle.h264_verify.proofs.kept.WhereMade.{made-then, made-with, made-some, made-same}
use Rattle.h264_verify.proofs.samples.FillsFrames.{sized}
use Rattle.h264_verify.proofs.laws.SoundPictures.{places-fit, set-few, ended-sound-of}
use Rattle.h264_verify.specs.Sound.{HasSet, AreSound, has_ended}
use Rattle.h264_verify.specs.History.{History}
use Rattle.h264_sps.specs.Usable.{is_usable}
use Rattle.h264_marking.specs.Frames.{References, frame_places}
use Rattle.h264_picture.specs.Buffer.{buffer_size}
use Rattle.h264_dpb.specs.Kept.{size_of}
use Rattle.h264_verify.specs.Keeping.{format_in, IsMadeAs, GoesWith, IsSettled, KeepsFrames, WhereMade, FillsFrames, EntersBy, HoldsOpen}
use Rattle.h264_verify.specs.Memory.{format_of}
use Rattle.h264_verify.specs.Keeping.{KeepsPictures, KeepsSlices, KeepsSomeGap, KeepsSomeRules, pictures_by, slices_by, is_typed}
use Rattle.h264_verify.proofs.language.SliceSteps.{ok-true}
use Rattle.h264_verify.specs.Telling.{Family}

-- ---- before a picture that begins

few : (count length : ℕ) → count ≡ length → count < 2 ^ 42 → length < 2 ^ 62
few count length e h = omega (arith, e, h)

some-ended : (slices : PicturesSoFar) (d : Option Decoder) (k : KeepsSomeRules true slices d) → slices.pictures < 2 ^ 42 → KeepsSomeGap d
some-ended slices d k h = record {
  depth = k.depth;
  frames = k.frames;
  turn = after_all (runs_of k.before);
  next = length (runs_of k.before);
  few = few slices.pictures (length (runs_of k.before)) k.slices_are.kept.pictures_are h;
  keeps = ended-gap k.depth k.frames _ (runs_of k.before) d k.keeps;
}

pub some-begun : (begins : Bool) (slices : PicturesSoFar) (d : Option Decoder) → begins ≡ true → KeepsSomeRules begins slices d → slices.pictures < 2 ^ 42 →
    KeepsSomeGap d
some-begun true slices d b k h = some-ended slices d k h
some-begun false slices d b k h = cc

-- the rules of a picture's first slice
pub first-rules : (depth : Depth) (on : Bool) (pictures : List CodedPicture) (slices : PicturesSoFar) (s : CodedSlice) → KeepsPictures on true pictures slices →
    first_slice_rules depth (pictures_by slices (map counted pictures) (after_all pictures).buffer) s ≡ first_slice_rules depth (pictures_before pictures) s
first-rules depth true pictures slices s k = rw (k.newest_idr, k.prev_ref, k.held) refl
first-rules depth false pictures slices s k = rw (k.newest_idr, k.prev_ref, k.held) refl

-- what is true wherever there is a decoder, of a picture that is no IDR picture
idr-some : (idr : Bool) (P : Decoder → Type 0) (d : Option Decoder) → (idr ≡ false → IfSome d P) → IfSome d (λ (x : Decoder). idr ≡ false → P x)
idr-some idr P None f = tt
idr-some idr P (Some d) f = f

-- after the gap
abbrev Gap : Family → List CodedPicture → CodedSlice → ℕ → References → Decoder → Type 0
Gap frames pictures slice prev held =
    FillsFrames frames (turn_then (after_all pictures)
    (gaps_turn (numbering_of slice.sps slice.header) (unused_short_term_frame_nums (is_idr slice.header) prev (numbering_of slice.sps slice.header))
    held)) (length pictures)

enters-held : (depth : Depth) (frames : Family) (on : Bool) (pictures : List CodedPicture) (slice : CodedSlice) (d : Option Decoder) →
    (is_idr slice.header ≡ false → IsMadeAs (format_of slice.sps) d) →
    WhereMade depth (Gap frames pictures slice (prev_ref_frame_num_of pictures) (held_after pictures)) d →
    WhereMade depth (EntersBy frames true slice on pictures) d
enters-held depth frames on pictures slice d m k =
    made-with _ _ _ depth d (λ x k m. record { format = m; output = k.output; settled = k.settled }) k
    (idr-some (is_idr slice.header) (λ (x : Decoder). x.format ≡ Some (format_of slice.sps)) d m)

pub held-all : (on : Bool) (pictures : List CodedPicture) (slices : PicturesSoFar) → KeepsPictures on true pictures slices → slices.held ≡ held_after pictures
held-all true pictures slices k = k.held
held-all false pictures slices k = k.held

pub enters-first : {X E : Type 0} (r : Result X E) (depth : Depth) (frames : Family) (on : Bool) (pictures : List CodedPicture) (slices : PicturesSoFar)
    (slice : CodedSlice) (old new : Option Decoder) → WhereMade depth (KeepsFrames frames on true pictures) old → format_in new ≡ format_in old →
    (is_idr slice.header ≡ false → IsMadeAs (format_of slice.sps) old) → KeepsPictures on true pictures slices →
    OnOk r (WhereMade depth (Gap frames pictures slice slices.prev_ref_frame_num slices.held) new) →
    OnOk r (WhereMade depth (EntersBy frames true slice on pictures) new)
enters-first (Err e) depth frames on pictures slices slice old new keeps same m k g = tt
enters-first (Ok x) depth frames on pictures slices slice old new keeps same m k g =
    enters-held depth frames on pictures slice new (λ i. made-same _ _ depth (format_of slice.sps) old new keeps g same (m i))
    (rw (k.prev_ref, held-all on pictures slices k) at g)

-- a picture that is no IDR picture goes on with the sequence of those before it
module _ (sps : Sps) (usable : is_usable sps ≡ true) where
  fit : (size : ℕ) → size ≡ buffer_size sps → frame_places sps.max_num_ref_frames ≤ size
  fit size e = let f = places-fit sps usable in omega (arith, e, f)

  settled-places : (d : Decoder) → d.format ≡ Some (format_of sps) → IsSettled d → frame_places sps.max_num_ref_frames ≤ size_of d.output
  settled-places d e s = fit (size_of d.output) (sized d.format (format_of sps) d.output e s.sized)

  format-with : (frames : Family) (on : Bool) (pictures : List CodedPicture) → HasSet sps pictures →
      (d : Decoder) → KeepsFrames frames on true pictures d → d.format ≡ Some (format_of sps)
  format-with frames on [] h d k = absurd h
  format-with frames on (p ∷ ps) h d k = k.format ∙ ap (λ (x : Sps). Some (format_of x)) h

  places-with : (frames : Family) (on : Bool) (pictures : List CodedPicture) → HasSet sps pictures →
      (d : Decoder) → KeepsFrames frames on true pictures d → frame_places sps.max_num_ref_frames ≤ size_of d.output
  places-with frames on pictures h d k = settled-places d (format-with frames on pictures h d k) (gap-by frames on pictures d k).settled

  goes-after : (depth : Depth) (frames : Family) (on : Bool) (pictures : List CodedPicture) (slices : PicturesSoFar) (decoder : Option Decoder) →
      KeepsPictures on true pictures slices → AreSound (has_ended on true) pictures → WhereMade depth (KeepsFrames frames on true pictures) decoder →
      HasSet sps pictures → GoesWith sps slices.held decoder
  goes-after depth frames on pictures slices decoder k s f h = record {
    few = subst (λ (r : References). length r.frames ≤ frame_places sps.max_num_ref_frames) (sym (held-all on pictures slices k))
        (set-few sps pictures h (ended-sound-of on pictures s));
    places = made-some _ depth decoder (made-then _ (λ d. frame_places sps.max_num_ref_frames ≤ size_of d.output) depth decoder
        (places-with frames on pictures h) f);
    format = made-some _ depth decoder (made-then _ (λ d. d.format ≡ Some (format_of sps)) depth decoder (format-with frames on pictures h) f);
  }

  pub goes-with : (depth : Depth) (begins : Bool) (frames : Family) (before : History) (slices : PicturesSoFar) (decoder : Option Decoder) → begins ≡ true →
      KeepsSlices before begins slices → WhereMade depth (KeepsFrames frames (goes_on before) begins (runs_of before)) decoder → HasSet sps (runs_of before) →
      GoesWith sps slices.held decoder
  goes-with depth true frames before slices decoder b k f h = goes-after depth frames (goes_on before) (runs_of before) slices decoder k.kept k.sound f h
  goes-with depth false frames before slices decoder b k f h = cc

-- ---- a slice that goes on

enters-on : (frames : Family) (on : Bool) (pictures : List CodedPicture) (slice : CodedSlice) (h : Header) → begins_after (open_of on pictures) h ≡ false →
    (d : Decoder) → KeepsFrames frames on false pictures d → EntersBy frames false slice on pictures d
enters-on frames on [] slice h b d k = cc
enters-on frames on (p ∷ ps) slice h b d k = k

pub enters-later : (depth : Depth) (frames : Family) (on : Bool) (pictures : List CodedPicture) (slice : CodedSlice) (h : Header)
    (decoder : Option Decoder) → begins_after (open_of on pictures) h ≡ false → WhereMade depth (KeepsFrames frames on false pictures) decoder →
    WhereMade depth (EntersBy frames false slice on pictures) decoder
enters-later depth frames on pictures slice h decoder b k = made-then _ _ depth decoder (enters-on frames on pictures slice h b) k

later-open : (p : CodedPicture) (ps : List CodedPicture) (slices : PicturesSoFar) (o : Option OpenPicture) → slices.picture ≡ o → HoldsOpen (Some p) o →
    slices.held ≡ held_in (p ∷ ps) → slices_by slices ≡ slices_before (p ∷ ps)
later-open p ps slices None e k held = absurd k
later-open p ps slices (Some o) e k held = rw (e, k.types, k.marking, held) refl

-- what its rules look at
pub later-rules : (on : Bool) (pictures : List CodedPicture) (slices : PicturesSoFar) (h : Header) → begins_after (open_of on pictures) h ≡ false →
    KeepsPictures on false pictures slices → slices_by slices ≡ slices_before pictures
later-rules on [] slices h b k = cc
later-rules false (p ∷ ps) slices h b k = cc
later-rules true (p ∷ ps) slices h b k = later-open p ps slices slices.picture refl k.picture k.held

-- ---- a slice of an IDR picture is I

type-less : (a b c : Bool) → (a || not (b || c)) ≡ true → (a || not b) ≡ true
type-less true b c h = refl
type-less false true c h = h
type-less false false c h = refl

pub type-met : (sps : Sps) (h : Header) (x : Unit {0}) → Ok x ≡ judged (type_demand sps h ∷ []) → is_typed h ≡ true
type-met sps h x e = type-less (is_i h.kind.value) (is_idr h) (sps.max_num_ref_frames == 0) (ok-true _ x _ e)
