-- What a slice, another unit and the end of a picture leave.
use Rattle.std.proofs.Common.{◌≡◌, ℕ, ◌+◌, Bool, true, false, List, [], ◌∷◌, map, length, Option, Some, None, refl, ap, sym, ◌∙◌, subst, arith, ◌==◌, ◌||◌}
use Rattle.std.proofs.Common.{not, ◌&&◌, if◌then◌else◌}
use Rattle.std.specs.Option.{option_map}
use Rattle.h264_units.specs.Stream.{NalUnit}
use Rattle.h264_sps.specs.declared.sps.Sps.{Sps}
use Rattle.h264_pps.specs.declared.Pps.{Pps}
use Rattle.h264_header.specs.declared.header.Header.{Header}
use Rattle.h264_header.specs.Layout.{sets_of}
use Rattle.h264_header.specs.Picture.{begins_picture, picture_elements}
use Rattle.h264_poc.specs.Counts.{Keeps as KeepsCounts}
use Rattle.h264_sets.specs.Sets.{Maps, set_at}
use Rattle.h264_sets.specs.declared.SetPair.{SetPair}
use Rattle.h264_verify.specs.Content.{Content}
use Rattle.h264_verify.specs.Content as contents
use Rattle.h264_verify.specs.declared.slices.PicturesSoFar.{PicturesSoFar}
use Rattle.h264_verify.specs.declared.picture.OpenPicture.{OpenPicture}
use Rattle.h264_units.specs.UnitHeader.{header_of, nal_unit_type, ends_picture}
use Rattle.h264_verify.specs.History.{History, maps_with, maps_of}
use Rattle.h264_verify.specs.Sound.{AreSound, has_ended, HasActive, NamesSet}
use Rattle.h264_near.specs.Coded.{CodedMacroblock}
use Rattle.h264_verify.specs.Keeping.{HoldsEnd, HoldsOpen, IsLeft, KeepsPictures, KeepsSlices, Entered, held_by, begins_by}
use Rattle.h264_verify.specs.Pictures.{CodedSlice, CodedPicture, last_slice, with_sets, goes_on, open_of, begins_after, begins_at, joined_to, joined_by}
use Rattle.h264_verify.specs.Pictures.{runs_of, counted}
use Rattle.h264_verify.specs.Slices.{idr_id, is_idr_due, newest_idr_of}

-- it begins a picture, as the code finds it
begins-by : (o : Option CodedPicture) (kept : Option OpenPicture) (h : Header) → HoldsOpen o kept → begins_by kept h ≡ begins_after o h
begins-by None None h k = refl
begins-by None (Some o) h k = absurd k
begins-by (Some p) None h k = absurd k
begins-by (Some p) (Some o) h k = ap (λ e. begins_picture e (picture_elements h)) k.last

pub begins-as : (before : History) (h : Header) (slices : PicturesSoFar) (begins : Bool) → KeepsSlices before false slices → begins ≡
    begins_by slices.picture h →
    begins ≡ begins_at before h
begins-as before h slices begins keeps b = b ∙ begins-by (open_of (goes_on before) (runs_of before)) slices.picture h keeps.kept.picture

-- a unit that is no slice
abbrev pub IsNoSlice : Content → Type 0
IsNoSlice (contents.OfSps set) = Unit {0}
IsNoSlice (contents.OfPps set) = Unit {0}
IsNoSlice (contents.OfSlice h macroblocks) = ⊥
IsNoSlice contents.Passed = Unit {0}

left-open : (ends on : Bool) (pictures : List CodedPicture) (old new : Option OpenPicture) → HoldsOpen (open_of on pictures) old → IsLeft ends old new →
    HoldsOpen (open_of (not ends && on) pictures) new
left-open true on [] old new h e = rw e tt
left-open true on (p ∷ ps) old new h e = rw e tt
left-open false on pictures old new h e = rw e h

left-end : (ends : Bool) (pictures : List CodedPicture) (old new : Option OpenPicture) → HoldsEnd pictures old → IsLeft ends old new → HoldsEnd pictures new
left-end ends [] old new h e = tt
left-end true (p ∷ ps) old new h e = rw e tt
left-end false (p ∷ ps) old new h e = rw e h

left-held : (ends on : Bool) (pictures : List CodedPicture) → held_by ends on pictures ≡ held_by false (not ends && on) pictures
left-held true true pictures = refl
left-held true false pictures = refl
left-held false on pictures = refl

-- and one that is a picture parameter set ends the picture before it
abbrev pub EndsBefore : ℕ → Content → Type 0
EndsBefore kind (contents.OfSps set) = Unit {0}
EndsBefore kind (contents.OfPps set) = ends_picture kind ≡ true
EndsBefore kind (contents.OfSlice h macroblocks) = Unit {0}
EndsBefore kind contents.Passed = Unit {0}

left-ended : (ends on : Bool) → has_ended on ends ≡ has_ended (not ends && on) false
left-ended true true = refl
left-ended true false = refl
left-ended false true = refl
left-ended false false = refl

pub left-active : (a due : Bool) (pictures : List CodedPicture) (maps maps' : Maps) → maps'.active ≡ maps.active → HasActive due pictures maps →
    HasActive (a || due) pictures maps'
left-active true due [] maps maps' e h = refl
left-active false due [] maps maps' e h = h
left-active a due (p ∷ ps) maps maps' e h = ap (λ (o : Option SetPair). option_map (λ q. SetPair.sps q) o) e ∙ h

left-named : (ends on : Bool) (pictures : List CodedPicture) (maps maps' : Maps) → (ends ≡ false → maps'.pps ≡ maps.pps) → NamesSet on pictures maps →
    NamesSet (not ends && on) pictures maps'
left-named ends on [] maps maps' e h = tt
left-named true on (p ∷ ps) maps maps' e h = tt
left-named false true (p ∷ ps) maps maps' e h = ap (λ (l : List (Option Pps)). set_at l (last_slice p).header.pic_parameter_set_id.value) (e refl) ∙ h
left-named false false (p ∷ ps) maps maps' e h = tt

module _ (before : History) (unit : NalUnit) (kind : ℕ) (old new : PicturesSoFar) (n : kind ≡ nal_unit_type (header_of unit))
    (keeps : KeepsSlices before (ends_picture kind) old) (left : IsLeft (ends_picture kind) old.picture new.picture)
    (due : new.due ≡ ((kind == 10 || kind == 11) || old.due)) (same : new ≡ record old { picture = new.picture; due = new.due }) where
  is-due : new.due ≡ ((nal_unit_type (header_of unit) == 10 || nal_unit_type (header_of unit) == 11) || is_idr_due before)
  is-due = due ∙ ap (λ x. (x == 10 || x == 11) || old.due) n ∙
      ap (λ x. (nal_unit_type (header_of unit) == 10 || nal_unit_type (header_of unit) == 11) || x) keeps.due

  kept : KeepsPictures (not (ends_picture (nal_unit_type (header_of unit))) && goes_on before) false (runs_of before) new
  kept = record {
    picture = subst (λ x. HoldsOpen (open_of (not (ends_picture x) && goes_on before) (runs_of before)) new.picture) n
        (left-open (ends_picture kind) (goes_on before) (runs_of before) old.picture new.picture keeps.kept.picture left);
    end = left-end (ends_picture kind) (runs_of before) old.picture new.picture keeps.kept.end left;
    newest_idr = ap (λ (s : PicturesSoFar). s.newest_idr) same ∙ keeps.kept.newest_idr;
    counts = subst (λ (s : PicturesSoFar). KeepsCounts (map counted (runs_of before)) s.counts) (sym same) keeps.kept.counts;
    count = ap (λ (s : PicturesSoFar). s.count) same ∙ keeps.kept.count;
    pictures_are = ap (λ (s : PicturesSoFar). s.pictures) same ∙ keeps.kept.pictures_are;
    prev_ref = ap (λ (s : PicturesSoFar). s.prev_ref_frame_num) same ∙ keeps.kept.prev_ref;
    held = ap (λ (s : PicturesSoFar). s.held) same ∙ keeps.kept.held ∙ left-held (ends_picture kind) (goes_on before) (runs_of before) ∙
        ap (λ x. held_by false (not (ends_picture x) && goes_on before) (runs_of before)) n;
  }

  sound : AreSound (has_ended (not (ends_picture (nal_unit_type (header_of unit))) && goes_on before) false) (runs_of before)
  sound = subst (λ x. AreSound (has_ended (not (ends_picture x) && goes_on before) false) (runs_of before)) n
      (subst (λ b. AreSound b (runs_of before)) (left-ended (ends_picture kind) (goes_on before)) keeps.sound)

  active : (maps : Maps) → maps.active ≡ (maps_of before).active →
      HasActive ((nal_unit_type (header_of unit) == 10 || nal_unit_type (header_of unit) == 11) || is_idr_due before) (runs_of before) maps
  active maps e = left-active _ (is_idr_due before) (runs_of before) (maps_of before) maps e keeps.active

  names : (maps : Maps) → (ends_picture kind ≡ false → maps.pps ≡ (maps_of before).pps) →
      NamesSet (not (ends_picture (nal_unit_type (header_of unit))) && goes_on before) (runs_of before) maps
  names maps e = subst (λ x. NamesSet (not (ends_picture x) && goes_on before) (runs_of before) maps) n
      (left-named (ends_picture kind) (goes_on before) (runs_of before) (maps_of before) maps e keeps.named)

  pub passed-keeps : (c : Content) → IsNoSlice c → EndsBefore kind c → KeepsSlices (record { unit = unit; content = c } ∷ before) false new
  passed-keeps (contents.OfSps set) h e = record { due = is-due; kept = kept; sound = sound; active = active _ refl; named = names _ (λ f. refl) }
  passed-keeps (contents.OfPps set) h e = record { due = is-due; kept = kept; sound = sound; active = active _ refl; named = names _ (λ f. cc) }
  passed-keeps (contents.OfSlice h macroblocks) k e = absurd k
  passed-keeps contents.Passed h e = record { due = is-due; kept = kept; sound = sound; active = active _ refl; named = names _ (λ f. refl) }

-- a slice that goes on changes nothing of the end of its picture
pub end-on : (begins : Bool) (slice : CodedSlice) (pictures : List CodedPicture) (old new : Option OpenPicture) (o p : OpenPicture) → begins ≡ false →
    HoldsEnd pictures old → old ≡ Some o → new ≡ Some p → p.ended ≡ o.ended → HoldsEnd (joined_to begins slice pictures) new
end-on true slice pictures old new o p b h e n k = cc
end-on false slice [] old new o p b h e n k = tt
end-on false slice (q ∷ qs) old new o p b h e n k = rw n (k ∙ subst (HoldsEnd (q ∷ qs)) e h)

pub end-begun : (begins : Bool) (slice : CodedSlice) (pictures : List CodedPicture) (new : Option OpenPicture) → begins ≡ true →
    HoldsEnd (record { first = slice; later = [] } ∷ pictures) new → HoldsEnd (joined_to begins slice pictures) new
end-begun true slice pictures new b h = h
end-begun false slice pictures new b h = cc

-- What a slice leaves: a later slice of a picture changes none of counts, marking and numbers.
module _ (before : History) (unit : NalUnit) (h : Header) (ms : List CodedMacroblock) (old new : PicturesSoFar) (begins : Bool) (sets : Pps × Sps)
    (entered : Entered before begins (with_sets unit h ms sets) old) where
  abbrev slice : CodedSlice
  slice = with_sets unit h ms sets

  abbrev pictures : List CodedPicture
  pictures = joined_to begins slice (runs_of before)

  newest : (x : Bool) (ps : List CodedPicture) → (if x then idr_id h.idr_pic_id else newest_idr_of ps) ≡ newest_idr_of (joined_to x slice ps)
  newest true ps = refl
  newest false [] = refl
  newest false (p ∷ ps) = refl

  one-more : (x : Bool) (ps : List CodedPicture) → (if x then length ps + 1 else length ps) ≡ length (joined_to x slice ps)
  one-more true ps = omega arith
  one-more false [] = refl
  one-more false (p ∷ ps) = refl

  pub slice-kept : HoldsOpen (open_of true pictures) new.picture → HoldsEnd pictures new.picture →
      new.newest_idr ≡ (if begins then idr_id h.idr_pic_id else old.newest_idr) → new.pictures ≡ (if begins then old.pictures + 1 else old.pictures) →
      new ≡ record old { picture = new.picture; newest_idr = new.newest_idr; pictures = new.pictures; due = new.due } → KeepsPictures true false pictures new
  slice-kept picture end id n same = record {
    picture = picture;
    end = end;
    newest_idr = id ∙ ap (λ x. if begins then idr_id h.idr_pic_id else x) entered.newest_idr ∙ newest begins (runs_of before);
    counts = subst (λ (s : PicturesSoFar). KeepsCounts (map counted pictures) s.counts) (sym same) entered.counts;
    count = ap (λ (s : PicturesSoFar). s.count) same ∙ entered.count;
    pictures_are = n ∙ ap (λ x. if begins then x + 1 else x) entered.pictures_are ∙ one-more begins (runs_of before);
    prev_ref = ap (λ (s : PicturesSoFar). s.prev_ref_frame_num) same ∙ entered.prev_ref;
    held = ap (λ (s : PicturesSoFar). s.held) same ∙ entered.held;
  }

-- and what is known of the sets and of the rules that are met
pub slice-keeps : (before : History) (unit : NalUnit) (h : Header) (ms : List CodedMacroblock) (maps : Maps) (new : PicturesSoFar) (begins : Bool)
    (sets : Pps × Sps) → begins ≡ begins_at before h → maps ≡ maps_of before → sets_of maps h.pic_parameter_set_id.value ≡ Some sets →
    KeepsPictures true false (joined_to begins (with_sets unit h ms sets) (runs_of before)) new → new.due ≡ false →
    AreSound false (joined_to begins (with_sets unit h ms sets) (runs_of before)) →
    HasActive false (joined_to begins (with_sets unit h ms sets) (runs_of before)) (maps_with maps (contents.OfSlice h ms)) →
    NamesSet true (joined_to begins (with_sets unit h ms sets) (runs_of before)) (maps_with maps (contents.OfSlice h ms)) →
    KeepsSlices (record { unit = unit; content = contents.OfSlice h ms } ∷ before) false new
slice-keeps before unit h ms maps new begins sets b maps-are named kept due sound active named-set =
    let runs-are : joined_to begins (with_sets unit h ms sets) (runs_of before) ≡ runs_of (record { unit = unit; content = contents.OfSlice h ms } ∷ before) =
    ap (λ x. joined_to x (with_sets unit h ms sets) (runs_of before)) b
    ∙ ap (λ o. joined_by (option_map (with_sets unit h ms) o) (goes_on before) (runs_of before))
    (sym named ∙ ap (λ m. sets_of m h.pic_parameter_set_id.value) maps-are) in
    record {
      due = due;
      sound = subst (λ ps. AreSound false ps) runs-are sound;
      active = subst (λ m. HasActive false (runs_of (record { unit = unit; content = contents.OfSlice h ms } ∷ before)) (maps_with m (contents.OfSlice h ms)))
          maps-are (subst (λ ps. HasActive false ps (maps_with maps (contents.OfSlice h ms))) runs-are active);
      named = subst (λ m. NamesSet true (runs_of (record { unit = unit; content = contents.OfSlice h ms } ∷ before)) (maps_with m (contents.OfSlice h ms)))
          maps-are (subst (λ ps. NamesSet true ps (maps_with maps (contents.OfSlice h ms))) runs-are named-set);
      kept = subst (λ ps. KeepsPictures true false ps new) runs-are kept;
    }
