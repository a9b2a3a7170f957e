-- What legal units leave: slices that were read, pictures that are sound, and frames of those that have ended.
use Rattle.std.proofs.Common.{◌≡◌, ℕ, ◌*◌, ◌||◌, ◌&&◌, not, Bool, true, false, List, [], ◌∷◌, ◌++◌, Option, Some, None, Ok, refl, sym, ◌∙◌, subst}
use Rattle.std.proofs.Common.{if◌then◌else◌}
use Rattle.std.specs.Option.{is_some}
use Rattle.h264_verify.specs.Units.{extent_at, slice_unit}
use Rattle.h264_base.specs.declared.mode.Target.{Target}
use Rattle.h264_verify.specs.declared.state.Depth.TheVariants as depths
use Rattle.h264_base.specs.Grammar.{Done, ◌>>=◌}
use Rattle.h264_base.proofs.Gives.{Gives, gives-done, gives-bind}
use Rattle.h264_rbsp.specs.Rbsp.{body_of}
use Rattle.h264_units.specs.Stream.{NalUnit}
use Rattle.h264_sps.specs.declared.sps.Sps.{Sps}
use Rattle.h264_pps.specs.declared.Pps.{Pps}
use Rattle.h264_sets.specs.Sets.{Maps}
use Rattle.h264_header.specs.declared.header.Header.{Header}
use Rattle.h264_header.specs.Layout.{sets_of}
use Rattle.h264_near.specs.Coded.{CodedMacroblock}
use Rattle.h264_mbsyntax.specs.OfSlice.{AreOfSlice}
use Rattle.h264_mbsyntax.proofs.OfSlice.{of-slice}
use Rattle.h264_vectors.specs.declared.slice.SliceContext.{SliceContext}
use Rattle.h264_picture.specs.Context.{slice_context}
use Rattle.h264_picture.specs.Levels.{transform_fits}
use Rattle.h264_verify.specs.Telling.{Told}
use Rattle.h264_verify.specs.Content.{Content}
use Rattle.h264_verify.specs.Content as contents
use Rattle.h264_verify.specs.Course.{Reads, Ends, ◌>>◌, needs, Runs}
use Rattle.h264_units.specs.UnitHeader.{header_of, nal_unit_type, ends_picture}
use Rattle.h264_verify.specs.History.{History, ReadUnit, maps_of, maps_with}
use Rattle.h264_verify.specs.Pictures.{CodedSlice, CodedPicture, last_in, last_slice, picture_size, with_sets, sets_at, goes_on, open_of}
use Rattle.h264_verify.specs.Pictures.{begins_after, begins_at, joined_to, runs_of}
use Rattle.h264_verify.specs.Order.{header_demands, closing_demands, close_steps, close_if, standing_demands, coded_before, slice_rules, told_rules}
use Rattle.h264_verify.specs.Order.{own_steps, steps_by}
use Rattle.h264_verify.specs.Order.{later_slice_rules, slice_steps, content_steps, data_course, end_steps}
use Rattle.h264_verify.specs.Lists.{list_in}
use Rattle.h264_verify.specs.Demands.{Demand}
use Rattle.h264_verify.specs.Slices.{is_idr_due, first_mb_demands, type_demand, idr_num_demand, slices_before}
use Rattle.h264_verify.specs.Data.{picture_set, coded_so_far, slice_syntax, data_by, slice_data_at}
use Rattle.h264_verify.specs.Decoding.{EachSlice}
use Rattle.h264_verify.specs.Sound.{IsMarked, AreSound, has_ended, HasActive}
use Rattle.h264_verify.specs.Verdict.{IsLegal, AreLegal}
use Rattle.h264_verify.proofs.samples.FamiliesInPicture.{last-of}
use Rattle.h264_verify.proofs.kept.KeepsEntered.{IsNoSlice, left-active}
use Rattle.h264_verify.proofs.judged.UnitJoins.{runs-with}
use Rattle.h264_verify.proofs.language.MetRules.{Met, IsMet, AreMet, runs-met, steps-met, rules-met, all-met, met-judged, closing-met}
use Rattle.h264_verify.proofs.laws.LegalUnit.{has-met, IsHeader, IsContent, is-content, marked-alone, header-marked, read-gives}
use Rattle.h264_verify.proofs.samples.NamedSizes.{IsOfKind, AreRead}
use Rattle.h264_verify.proofs.laws.SoundUnits.{closes-sound, passed-sound, begun-sound, begun-filled}
use Rattle.h264_verify.proofs.judged.SliceSets.{stands-set, stands-if, usable-set, idr-same, joined-sound, joined-active}

-- ---- what legal units leave

pub record Stands (before : History) : Type 0 where
  pub read : AreRead (runs_of before)
  pub active : HasActive (is_idr_due before) (runs_of before) (maps_of before)
  pub sound : AreSound (has_ended (goes_on before) false) (runs_of before)

-- ---- a slice

i-of : (i idr none : Bool) → (i || not (idr || none)) ≡ true → idr ≡ true → i ≡ true
i-of true idr none h e = refl
i-of false true none h e = cc
i-of false false none h e = cc

last-each : (P : CodedSlice → Type 0) (first : CodedSlice) (later : List CodedSlice) → EachSlice P (later ++ first ∷ []) → P (last_in first later)
last-each P first [] h = h.0
last-each P first (s ∷ later) h = h.0

module _ (before : History) (unit : NalUnit) (h : Header) (ms : List CodedMacroblock) (pps : Pps) (sps : Sps) (named : sets_at before h ≡ Some (pps, sps))
    (marked : IsMarked h) where
  abbrev maps : Maps
  maps = maps_of before

  abbrev bare : CodedSlice
  bare = with_sets unit h [] (pps, sps)

  abbrev slice : CodedSlice
  slice = with_sets unit h ms (pps, sps)

  abbrev context : Bool → List CodedPicture → SliceContext
  context begins pictures = slice_context pps sps h (list_in (joined_to begins bare pictures) bare)

  abbrev IsOwn : Bool → List CodedPicture → List CodedMacroblock → Type 0
  IsOwn begins pictures all = AreOfSlice (picture_set begins bare pictures).frame_size.width (context begins pictures) (coded_so_far begins pictures) all

  -- its rules: those on its sets, and those from its type on
  abbrev IsPlaced : Bool → Bool → Type 0
  IsPlaced begins due = AreMet (standing_demands begins sps due maps (8 * unit.from) h)

  abbrev Rules : Bool → List CodedPicture → Type 0
  Rules begins pictures = IsMet (slice_rules depths.Full begins pictures bare)

  is-typed : (begins : Bool) (pictures : List CodedPicture) → Rules begins pictures → (type_demand sps h).met ≡ true
  is-typed true pictures m = (rules-met (type_demand sps h ∷ idr_num_demand h ∷ []) _ _ m).0.0
  is-typed false pictures m = (all-met (later_slice_rules (slices_before pictures) bare) m).0

  joined-read : (begins on due : Bool) (pictures : List CodedPicture) → begins ≡ begins_after (open_of on pictures) h → AreRead pictures →
      HasActive due pictures maps → IsPlaced begins due → Rules begins pictures → IsOwn begins pictures ms →
      AreRead (joined_to begins slice pictures)
  joined-read true on due pictures b r a stands rules own = (
    record {
      set = λ f. stands-set due pictures maps sps (8 * unit.from) h a (met-judged (standing_demands true sps due maps (8 * unit.from) h) stands) f;
      alone = marked-alone h marked;
      kinds = (record { idr = refl; intra = i-of _ _ _ (is-typed true pictures rules) }, tt);
      slices = (own, tt);
    },
    r,
  )
  joined-read false on due [] b r a stands rules own = cc
  joined-read false false due (p ∷ ps) b r a stands rules own = cc
  joined-read false true due (p ∷ ps) b r a stands rules own =
      let last = last-each (IsOfKind p.first) p.first p.later r.0.kinds in (
        record {
          set = r.0.set;
          alone = r.0.alone;
          kinds = (record { idr = idr-same (last_slice p).header h (sym b) ∙ last.idr; intra = i-of _ _ _ (is-typed false (p ∷ ps) rules) }, r.0.kinds);
          slices = (subst (λ x. AreOfSlice p.first.sps.frame_size.width (context false (p ∷ ps)) x ms) (sym (last-of p.first p.later)) own, r.0.slices);
        },
        r.1,
      )

  abbrev begins : Bool
  begins = begins_at before h

  abbrev pictures : List CodedPicture
  pictures = runs_of before

  abbrev after : History
  after = record { unit = unit; content = contents.OfSlice h ms } ∷ before

  -- its steps: the end of the picture before it, where it begins one, and its own
  abbrev HasMetSteps : Type 0
  HasMetSteps = IsMet (slice_steps depths.Full before unit h)

  closed-met : HasMetSteps → AreMet (if begins then closing_demands before else [])
  closed-met m = closing-met begins depths.Full before
      (steps-met (close_if begins depths.Full before) (steps_by depths.Full (sets_at before h) before unit h) _ m).0

  own-met : HasMetSteps → IsMet (own_steps depths.Full begins (is_idr_due before) maps pictures bare)
  own-met m = subst (λ (o : Option (Pps × Sps)). IsMet (steps_by depths.Full o before unit h)) named
      (steps-met (close_if begins depths.Full before) (steps_by depths.Full (sets_at before h) before unit h) _ m).1

  abbrev placed : List Demand
  placed = first_mb_demands depths.Full (coded_before begins pictures) h

  stands-met : HasMetSteps → IsPlaced begins (is_idr_due before)
  stands-met m = (rules-met (standing_demands begins sps (is_idr_due before) maps (8 * unit.from) h)
      (needs placed >> told_rules depths.Full begins pictures bare) _ (own-met m)).0

  own-rules : HasMetSteps → Rules begins pictures
  own-rules m = (steps-met (slice_rules depths.Full begins pictures bare) _ _ (rules-met placed (told_rules depths.Full begins pictures bare) _
      (rules-met (standing_demands begins sps (is_idr_due before) maps (8 * unit.from) h)
      (needs placed >> told_rules depths.Full begins pictures bare) _ (own-met m)).1).1).0

  -- the pictures with the slice are sound
  slice-sound : HasActive (is_idr_due before) pictures maps → AreSound (has_ended (goes_on before) false) pictures → HasMetSteps →
      AreSound false (joined_to begins slice pictures)
  slice-sound a s m =
      let ok = met-judged (standing_demands begins sps (is_idr_due before) maps (8 * unit.from) h) (stands-met m) in
      joined-sound begins (goes_on before) slice pictures refl (begun-sound begins (goes_on before) pictures s (closed-met m)) marked
      (usable-set maps h.pic_parameter_set_id.value pps sps named)
      (stands-if begins (is_idr_due before) pictures maps sps (8 * unit.from) h a ok) (begun-filled begins pictures bare (own-rules m))

  slice-stands : Stands before → HasMetSteps → IsOwn begins pictures ms → Stands after
  slice-stands s met read =
      let runs : joined_to begins slice pictures ≡ runs_of after = runs-with before unit h ms maps begins (pps, sps) refl refl named in
      record {
        read = subst AreRead runs (joined-read begins (goes_on before) (is_idr_due before) pictures refl s.read s.active (stands-met met) (own-rules met) read);
        active = subst (λ ps. HasActive false ps (maps_with maps (contents.OfSlice h ms))) runs
            (joined-active maps slice named begins (goes_on before) pictures (is_idr_due before) (8 * unit.from) refl s.active
            (met-judged (standing_demands begins sps (is_idr_due before) maps (8 * unit.from) h) (stands-met met)));
        sound = subst (λ ps. AreSound false ps) runs (slice-sound s.active s.sound met);
      }

-- its slice data
module _ (before : History) (unit : NalUnit) (h : Header) (pps : Pps) (sps : Sps) (named : sets_at before h ≡ Some (pps, sps)) where
  abbrev begin : Bool
  begin = begins_at before h

  abbrev first : CodedSlice
  first = with_sets unit h [] (pps, sps)

  abbrev IsData : List CodedMacroblock → Type 0
  IsData all = AreOfSlice (picture_set begin first (runs_of before)).frame_size.width
      (slice_context pps sps h (list_in (joined_to begin first (runs_of before)) first)) (coded_so_far begin (runs_of before)) all

  abbrev IsSlice : Content → Type 0
  IsSlice c = (ms : List CodedMacroblock) × (c ≡ contents.OfSlice h ms) × IsData ms

  data-gives : Gives (slice_data_at before unit h) IsData
  unfolding slice_data_at slice_syntax
  data-gives =
      let context = slice_context pps sps h (list_in (joined_to begin first (runs_of before)) first) in
      let set = picture_set begin first (runs_of before) in
      subst (λ (o : Option (Pps × Sps)). Gives (data_by o before unit h) IsData) (sym named)
      (of-slice (transform_fits context) set.frame_size.width context (coded_so_far begin (runs_of before)) (picture_size set))

  whole-gives : Gives (slice_data_at before unit h >>= (λ ms. Done (contents.OfSlice h ms))) IsSlice
  whole-gives = gives-bind IsData IsSlice _ _ data-gives (λ ms d. gives-done IsSlice _ (ms, refl, d))

-- ---- one unit more

module _ (before : History) (unit : NalUnit) (s : Stands before) where
  abbrev kind : ℕ
  kind = nal_unit_type (header_of unit)

  abbrev one_more : Content → History
  one_more c = record { unit = unit; content = c } ∷ before

  abbrev EndsMet : Type 0
  EndsMet = AreMet (if ends_picture kind then closing_demands before else [])

  left-sound : EndsMet → AreSound (has_ended (not (ends_picture kind) && goes_on before) false) (runs_of before)
  left-sound e = passed-sound (ends_picture kind) (goes_on before) (runs_of before) s.sound e

  passed-stands : EndsMet → (c : Content) → IsNoSlice c → Stands (one_more c)
  passed-stands e (contents.OfSps set) n =
      record { read = s.read; active = left-active _ (is_idr_due before) (runs_of before) (maps_of before) _ refl s.active; sound = left-sound e }
  passed-stands e (contents.OfPps set) n =
      record { read = s.read; active = left-active _ (is_idr_due before) (runs_of before) (maps_of before) _ refl s.active; sound = left-sound e }
  passed-stands e (contents.OfSlice h ms) n = absurd n
  passed-stands e contents.Passed n =
      record { read = s.read; active = left-active _ (is_idr_due before) (runs_of before) (maps_of before) _ refl s.active; sound = left-sound e }

  abbrev HeaderMet : Type 0
  HeaderMet = AreMet (header_demands (8 * unit.from) (header_of unit))

  with-data : (h : Header) (c : Content) (bit : ℕ) → HeaderMet → IsHeader (sets_of (maps_of before)) (slice_unit unit) h →
      IsMet (slice_steps depths.Full before unit h) →
      Met (Reads (body_of unit) bit (slice_data_at before unit h >>= (λ ms. Done (contents.OfSlice h ms))) (λ whole end. Ends whole)) (λ x. x ≡ c) →
      (o : Option (Pps × Sps)) → sets_at before h ≡ o → is_some o ≡ true → Stands (one_more c)
  with-data h c bit top k m r None e t = cc
  with-data h c bit top k m r (Some sets) e t =
      let x = read-gives (body_of unit) (slice_data_at before unit h >>= (λ ms. Done (contents.OfSlice h ms))) bit c
      (IsSlice before unit h sets.0 sets.1 e) (whole-gives before unit h sets.0 sets.1 e) r in
      subst (λ y. Stands (one_more y)) (sym x.1) (slice-stands before unit h x.0 sets.0 sets.1 e (header-marked before unit h top k) s m x.2)

  by-content : (c found : Content) (bit : ℕ) → HeaderMet → EndsMet → IsContent before unit found →
      IsMet (content_steps depths.Full before unit found) → Met (data_course depths.Full before unit found bit) (λ x. x ≡ c) → Stands (one_more c)
  by-content c (contents.OfSps set) bit top e k m r = subst (λ y. Stands (one_more y)) r (passed-stands e (contents.OfSps set) tt)
  by-content c (contents.OfPps set) bit top e k m r = subst (λ y. Stands (one_more y)) r (passed-stands e (contents.OfPps set) tt)
  by-content c (contents.OfSlice h ms) bit top e k m r = with-data h c bit top k m r (sets_at before h) refl k.named
  by-content c contents.Passed bit top e k m r = subst (λ y. Stands (one_more y)) r (passed-stands e contents.Passed tt)

stands-next : (target : Target) (before : History) (r : ReadUnit) (calls : List Told) → Stands before →
    IsLegal (extent_at depths.Full target) before r calls → Stands (r ∷ before)
stands-next target before r calls s l =
    let m = has-met target before r calls l in
    by-content before r.unit s r.content m.found m.bit m.header m.ends (is-content target before r.unit r.content m) m.rules m.following

pub stands : (target : Target) (before : History) (calls : List Told) → AreLegal (extent_at depths.Full target) before calls → Stands before
stands target [] calls l = record { read = tt; active = refl; sound = tt }
stands target (r ∷ before) calls l = stands-next target before r l.1 (stands target before l.0 l.2) l.3

-- their slices were read
pub legal-read : (target : Target) (before : History) (calls : List Told) → AreLegal (extent_at depths.Full target) before calls → AreRead (runs_of before)
legal-read target before calls l = (stands target before calls l).read

-- ---- at the end of the input

-- all pictures have ended
pub all-sound : (target : Target) (units : History) (first last : List Told) (bit : ℕ) → AreLegal (extent_at depths.Full target) units first →
    Runs (end_steps depths.Full units bit) last (Ok tt) → AreSound true (runs_of units)
all-sound target units first last bit l e =
    closes-sound (goes_on units) (runs_of units) (stands target units first l).sound
    (closing-met true depths.Full units (steps-met (close_steps depths.Full units) _ _ (runs-met (end_steps depths.Full units bit) last tt e)).0)
