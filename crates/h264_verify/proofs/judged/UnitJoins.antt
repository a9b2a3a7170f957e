-- How a unit joins those before it.
use Rattle.std.proofs.Common.{◌≡◌, ℕ, ◌+◌, ◌==◌, ◌||◌, ◌&&◌, not, true, false, Bool, ◌∷◌, [], List, Option, Some, Result, Ok, Err, OnOk, refl, ap, sym}
use Rattle.std.proofs.Common.{subst, ◌∙◌, length}
use native.Mathlib.Numerals.{unary_clauses}
use Rattle.h264_verify.specs.declared.state.Depth.{Depth}
use Rattle.h264_verify.specs.declared.state.Depth.TheVariants as depths
use Rattle.h264_base.specs.declared.stop.Stop.{Stop}
use Rattle.h264_base.specs.Call.{Call, span}
use Rattle.h264_verify.specs.Telling.{took_with, Agree, frame_span, Family}
use Rattle.h264_verify.specs.declared.decoder.Decoder.{Decoder}
use Rattle.h264_units.specs.Stream.{NalUnit}
use Rattle.h264_verify.specs.declared.state.State.{State}
use Rattle.h264_verify.specs.Outcome.{◌>>=◌, gives, Plays}
use Rattle.h264_verify.specs.Content.{Content}
use Rattle.h264_verify.specs.Content as contents
use Rattle.h264_verify.specs.History.{History, ReadUnit, maps_of, maps_with}
use Rattle.h264_units.specs.UnitHeader.{header_of, nal_unit_type, ends_picture}
use Rattle.h264_verify.specs.Pictures.{CodedPicture, with_sets, goes_on, runs_of, begins_at, joined_to, joined_by, ended_pictures}
use Rattle.std.specs.Option.{option_map}
use Rattle.h264_near.specs.Coded.{CodedMacroblock}
use Rattle.h264_sets.specs.Sets.{Maps}
use Rattle.h264_sps.specs.declared.sps.Sps.{Sps}
use Rattle.h264_pps.specs.declared.Pps.{Pps}
use Rattle.h264_header.specs.Layout.{sets_of}
use Rattle.h264_verify.specs.KeepingUnits.{Keeps, KeepsWithin, KeepsSome}
use Rattle.h264_verify.specs.Keeping.{KeepsSomeSlice, KeepsFrames, WhereMade, IsLeft, KeepsSlices, ended_in}
use Rattle.h264_header.specs.declared.header.Header.{Header}
use Rattle.h264_base.specs.Grammar.{Grammar}
use Rattle.h264_rbsp.specs.Rbsp.{body_of}
use Rattle.h264_verify.specs.declared.state.Extent.{Extent}
use Rattle.h264_verify.specs.Order.{content, content_steps, slice_steps, data_course, content_then, content_course}
use Rattle.h264_verify.specs.Course.{Course, Steps, Ends, ◌>>◌}
use Rattle.h264_verify.specs.CourseOutcome.{outcome_of, structure_from}
use Rattle.h264_verify.specs.Turning.{Joins, Pauses, is_ending, ended_before}
use Rattle.h264_verify.specs.UnitOutcome.{joins, content_outcome, content_to_data}
use Rattle.h264_verify.proofs.language.Played.{ComesTo, starts, read, unread, played, stops, ends, ended, ends-plays}
use Rattle.h264_verify.proofs.language.OutcomesPlayed.{gives-plays}
use Rattle.h264_verify.proofs.kept.KeepsEntered.{IsNoSlice, EndsBefore, passed-keeps}
use Rattle.h264_verify.specs.declared.slices.PicturesSoFar.{PicturesSoFar}
use Rattle.h264_verify.proofs.kept.WhereMade.{MakesNone, made-then}

module _ {S : Type 0} (extent : Extent) (frames : Family) (took : S → List Call → Type 0) (failures : S → ℕ) (before : History) (unit : NalUnit)
    (new : State) (made : Family) (same : Agree (ended_before before unit) frames made) where
  abbrev one_more : Content → History
  one_more found = record { unit = unit; content = found } ∷ before

  abbrev what_is_in : Grammar Content
  what_is_in = content extent (nal_unit_type (header_of unit)) before unit

  abbrev what_follows : Content → ℕ → Course Content
  what_follows found bit = data_course extent.depth before unit found bit

  abbrev Joined : S → S → Result (Unit {0}) Stop → Type 0
  Joined s s' r = Joins {X = Unit {0}} extent (frame_span took failures frames s s') before unit new r

  -- it is judged up to this rest
  abbrev Comes : Course Content → S → S → Type 0
  Comes rest s s' = ComesTo (took_with made took) failures (joins before unit) (content_outcome extent before unit) rest s s'

  comes : (s : S) → Comes (content_course extent before unit) s s
  comes s = starts (took_with made took) failures (joins before unit) (content_course extent before unit) s

  stops-with : (s s' : S) (e : Stop) → Plays {X = Unit {0}} (span (took_with made took) failures s s') (λ u. []) (content_outcome extent before unit) (Err e) →
      Joined s s' (Err e)
  stops-with s s' e p = record { made = made; same = same; after = []; plays = p; keeps = tt }

  module _ {X : Type 0} (view : X → Content × ℕ) where
    -- what is in a unit cannot be read
    pub joins-stops : (s s' : S) (e : Stop) →
        Plays {X = X} (span (took_with made took) failures s s') view (structure_from what_is_in (body_of unit) 0) (Err e) → Joined s s' (Err e)
    joins-stops s s' e p = stops-with s s' e (unread _ _ (comes s) p)

    module _ (s s1 : S) (x : X) (there : Plays (span (took_with made took) failures s s1) view (structure_from what_is_in (body_of unit) 0) (Ok x)) where
      abbrev steps : Steps
      steps = content_steps extent.depth before unit (view x).0

      is-read : Comes (steps >> what_follows (view x).0 (view x).1) s s1
      is-read = read _ _ (comes s) there

      -- a rule on it is broken
      pub joins-broken : (s2 : S) (e : Stop) → Plays {X = Unit {0}} (span (took_with made took) failures s1 s2) (λ u. u) (outcome_of steps) (Err e) →
          Joined s s2 (Err e)
      joins-broken s2 e p = stops-with s s2 e (stops _ _ steps _ is-read p)

      -- its rules are met, and this comes of what stands after it
      pub joins-after : (s2 : S) (y : Unit {0}) → Plays (span (took_with made took) failures s1 s2) (λ (u : Unit {0}). u) (outcome_of steps) (Ok y) →
          (s3 : S) (found : Content) (r : Result (Unit {0}) Stop) →
          Plays (span (took_with made took) failures s2 s3) (λ (u : Unit {0}). one_more found)
          (outcome_of (what_follows (view x).0 (view x).1) >>= joins before unit) r → OnOk r (Keeps extent.depth made (one_more found) new) → Joined s s3 r
      joins-after s2 y met s3 found r p k = record {
        made = made;
        same = same;
        after = one_more found;
        plays = ends _ _ (played _ _ steps _ is-read met) p;
        keeps = k;
      }

      -- its rules are met, and nothing stands after it
      pub joins-on : (s2 : S) (y : Unit {0}) → Plays (span (took_with made took) failures s1 s2) (λ (u : Unit {0}). u) (outcome_of steps) (Ok y) →
          what_follows (view x).0 (view x).1 ≡ Ends (view x).0 → Keeps extent.depth made (one_more (view x).0) new → Joined s s2 (Ok tt)
      joins-on s2 y met none k = joins-after s2 y met s2 (view x).0 (Ok tt)
          (subst (λ (q : Course Content). Plays (span (took_with made took) failures s2 s2) (λ (u : Unit {0}). one_more (view x).0)
          (outcome_of q >>= joins before unit) (Ok tt)) (sym none)
          (ends-plays _ _ (joins before unit) (gives-plays (took_with made took) failures (λ (u : Unit {0}). one_more (view x).0) tt s2))) k

-- memory is wanting for a slice whose rules are met
pub slice-pauses : {S : Type 0} (extent : Extent) (frames : Family) (took : S → List Call → Type 0) (failures : S → ℕ) (before : History) (unit : NalUnit)
    (made : Family) → Agree (ended_before before unit) frames made → (h : Header) (bit : ℕ) (s s1 s2 : S) (x y : Unit {0}) →
    Plays (span (took_with made took) failures s s1) (λ (u : Unit {0}). (contents.OfSlice h [], bit))
    (structure_from (content extent (nal_unit_type (header_of unit)) before unit) (body_of unit) 0) (Ok x) →
    Plays (span (took_with made took) failures s1 s2) (λ (u : Unit {0}). u) (outcome_of (slice_steps extent.depth before unit h)) (Ok y) →
    Pauses (frame_span took failures frames s s2) (ended_before before unit) (content_to_data extent before unit)
slice-pauses extent frames took failures before unit made same h bit s s1 s2 x y there met =
    let t = took_with made took in
    let read_to : ComesTo t failures gives (content_to_data extent before unit) (slice_steps extent.depth before unit h >> Ends (contents.OfSlice h [])) s s1 =
    read _ _ (starts t failures gives (content_then extent before unit (λ found bit. Ends found)) s) there in
    record {
      made = made;
      same = same;
      found = contents.OfSlice h [];
      plays = ended _ _ (played _ _ (slice_steps extent.depth before unit h) _ read_to met)
          (gives-plays t failures (λ (u : Unit {0}). contents.OfSlice h []) tt s2);
    }

-- nothing follows a slice's header where no frames are made
pub headers-end : (depth : Depth) (before : History) (unit : NalUnit) (h : Header) (ms : List CodedMacroblock) (bit : ℕ) → MakesNone depth →
    data_course depth before unit (contents.OfSlice h ms) bit ≡ Ends (contents.OfSlice h ms)
headers-end depths.Units before unit h ms bit none = refl
headers-end depths.Headers before unit h ms bit none = refl
headers-end depths.Full before unit h ms bit none = absurd none

-- one more unit
pub units-with : (before : History) (r : ReadUnit) (old new : ℕ) → new ≡ old + 1 → old ≡ length before → new ≡ length (r ∷ before)
units-with before r old new n k = simp unary_clauses at (n ∙ ap (λ x. x + 1) k)

-- a picture that may go on is kept, or is none any more
left-by : (frames : Family) (ends on : Bool) (pictures : List CodedPicture) (d : Decoder) → KeepsFrames frames on ends pictures d →
    KeepsFrames frames (not ends && on) false pictures d
left-by frames ends on [] d h = record { format = tt; output = h.output; picture = h.picture }
left-by frames true true (p ∷ ps) d h = record { format = h.format; output = h.output; picture = h.picture }
left-by frames true false (p ∷ ps) d h = record { format = h.format; output = h.output; picture = h.picture }
left-by frames false true (p ∷ ps) d h = h
left-by frames false false (p ∷ ps) d h = h

left-decoder : (depth : Depth) (frames : Family) (ends on : Bool) (pictures : List CodedPicture) (d : Option Decoder) →
    WhereMade depth (KeepsFrames frames on ends pictures) d → WhereMade depth (KeepsFrames frames (not ends && on) false pictures) d
left-decoder depth frames ends on pictures d h = made-then _ _ depth d (left-by frames ends on pictures) h

module _ (depth : Depth) (frames : Family) (before : History) (unit : NalUnit) (d : Option Decoder)
    (k : WhereMade depth (KeepsFrames frames (goes_on before) (ends_picture (nal_unit_type (header_of unit))) (runs_of before)) d) where
  pub passed-decoder : (c : Content) → IsNoSlice c →
      WhereMade depth (KeepsFrames frames (goes_on (record { unit = unit; content = c } ∷ before)) false
      (runs_of (record { unit = unit; content = c } ∷ before))) d
  passed-decoder (contents.OfSps set) h = left-decoder depth frames (ends_picture (nal_unit_type (header_of unit))) (goes_on before) (runs_of before) d k
  passed-decoder (contents.OfPps set) h = left-decoder depth frames (ends_picture (nal_unit_type (header_of unit))) (goes_on before) (runs_of before) d k
  passed-decoder (contents.OfSlice h ms) n = absurd n
  passed-decoder contents.Passed h = left-decoder depth frames (ends_picture (nal_unit_type (header_of unit))) (goes_on before) (runs_of before) d k

-- a unit that is no slice belongs to what is kept
pub passed-joins : (depth : Depth) (frames : Family) (before : History) (unit : NalUnit) (c : Content) (kind : ℕ) (old new : State) → IsNoSlice c →
    EndsBefore kind c → kind ≡ nal_unit_type (header_of unit) → KeepsWithin depth frames before (ends_picture kind) old → new.units ≡ old.units + 1 →
    new.sets ≡ maps_with (maps_of before) c → IsLeft (ends_picture kind) old.slices.picture new.slices.picture →
    new.slices.due ≡ ((kind == 10 || kind == 11) || old.slices.due) → new.slices ≡ record old.slices { picture = new.slices.picture; due = new.slices.due } →
    new.decoder ≡ old.decoder → Keeps depth frames (record { unit = unit; content = c } ∷ before) new
passed-joins depth frames before unit c kind old new n b k keeps units sets left due same decoder = record {
  units = units-with before (record { unit = unit; content = c }) old.units new.units units keeps.units;
  sets = sets;
  slices = passed-keeps before unit kind old.slices new.slices k keeps.slices left due same c n b;
  decoder = subst (λ d. WhereMade depth (KeepsFrames frames (goes_on (record { unit = unit; content = c } ∷ before)) false
      (runs_of (record { unit = unit; content = c } ∷ before))) d) (sym decoder)
      (passed-decoder depth frames before unit old.decoder
      (subst (λ (x : ℕ). WhereMade depth (KeepsFrames frames (goes_on before) (ends_picture x) (runs_of before)) old.decoder) k keeps.decoder) c n);
}

-- there are units of which this is kept, before a slice
pub some-slice : (depth : Depth) (ended : Bool) (state : State) → ended ≡ false → KeepsSome depth ended state →
    KeepsSomeSlice state.slices state.sets state.decoder
some-slice depth ended state e k =
    let s = subst (λ (b : Bool). KeepsSome depth b state) e k in record {
      depth = depth;
      frames = s.frames;
      before = s.before;
      sets_are = s.keeps.sets;
      slices_are = s.keeps.slices;
      keeps = s.keeps.decoder;
    }

-- no picture ends before it
pub none-ends : (frames made : Family) (before : History) (unit : NalUnit) → is_ending unit ≡ false → Agree (ended_in before) frames made →
    Agree (ended_before before unit) frames made
none-ends frames made before unit e a = subst (λ (b : Bool). Agree (length (ended_pictures (goes_on before) b (runs_of before))) frames made) (sym e) a

-- the pictures with one more slice
pub runs-with : (before : History) (unit : NalUnit) (h : Header) (ms : List CodedMacroblock) (maps : Maps) (begins : Bool) (sets : Pps × Sps) → begins ≡
    begins_at before h → maps ≡ maps_of before → sets_of maps h.pic_parameter_set_id.value ≡ Some sets →
    joined_to begins (with_sets unit h ms sets) (runs_of before) ≡ runs_of (record { unit = unit; content = contents.OfSlice h ms } ∷ before)
runs-with before unit h ms maps begins sets b maps-are named =
    ap (λ x. joined_to x (with_sets unit h ms sets) (runs_of before)) b
    ∙ ap (λ o. joined_by (option_map (with_sets unit h ms) o) (goes_on before) (runs_of before))
    (sym named ∙ ap (λ m. sets_of m h.pic_parameter_set_id.value) maps-are)

-- the rest of what is kept stays
pub within : {depth : Depth} {frames made : Family} {before : History} {ended : Bool} (state : State) (slices : PicturesSoFar) (decoder : Option Decoder) →
    Keeps depth frames before state → KeepsSlices before ended slices → WhereMade depth (KeepsFrames made (goes_on before) ended (runs_of before)) decoder →
    KeepsWithin depth made before ended (record state { slices = slices; decoder = decoder })
within state slices decoder k s d = record { units = k.units; sets = k.sets; slices = s; decoder = d }
