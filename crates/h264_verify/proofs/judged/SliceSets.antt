-- The sets of a slice, and those of the pictures before it.
use Rattle.std.proofs.Common.{◌≡◌, ℕ, ◌||◌, not, nat_le, Bool, true, false, List, [], ◌∷◌, Option, Some, None, Result, Ok, Err, refl, ap, sym, ◌∙◌, subst}
use Rattle.std.proofs.Common.{eqb-true, if◌then◌else◌}
use Rattle.std.proofs.lemmas.Bool.{and_parts}
use Rattle.std.specs.Option.{is_some, option_and_then}
use Rattle.h264_base.proofs.Chains.{map-some, then-some}
use Rattle.h264_base.specs.declared.stop.Stop.{Stop}
use Rattle.h264_sps.specs.declared.sps.Sps.{Sps}
use Rattle.h264_sps.specs.Usable.{has_lengths, is_usable, is_accepted}
use Rattle.h264_pps.specs.declared.Pps.{Pps}
use Rattle.h264_sets.specs.Sets.{Maps, IsActive, sps_of, pps_of, with_sps_of, pair_of, with_active}
use Rattle.h264_sets.specs.declared.SetPair.{SetPair}
use Rattle.h264_header.specs.declared.header.Header.{Header}
use Rattle.h264_header.specs.Layout.{if_accepted, sps_named, sets_of}
use Rattle.h264_header.specs.Picture.{begins_picture, picture_elements, is_idr, idr_differs}
use Rattle.h264_header.proofs.Named.{named-pair}
use Rattle.h264_bits.specs.declared.element.Found.{Found}
use Rattle.h264_marking.specs.Frames.{References}
use Rattle.h264_marking.specs.Gaps.{unused_short_term_frame_nums, all_filled}
use Rattle.h264_marking.specs.Ended.{numbering_of}
use Rattle.h264_verify.specs.Demands.{judged}
use Rattle.h264_verify.specs.declared.slices.PicturesSoFar.{PicturesSoFar}
use Rattle.h264_verify.specs.History.{History, with_pair, maps_of}
use Rattle.h264_verify.specs.Slices.{is_active}
use Rattle.h264_verify.specs.Pictures.{CodedSlice, CodedPicture, last_slice, goes_on, open_of, begins_after, joined_to, runs_of, held_after}
use Rattle.h264_verify.specs.Order.{standing_demands}
use Rattle.h264_verify.specs.Keeping.{KeepsSlices}
use Rattle.h264_verify.specs.Sound.{IsMarked, HasSet, HasPps, AreSound, has_ended, HasActive, NamesSet, has_gap_filled}
use Rattle.h264_verify.proofs.language.SliceSteps.{content-active}
use Rattle.h264_verify.proofs.laws.SoundPictures.{met-by, ended-sound-of}
use Rattle.h264_verify.proofs.judged.SliceRules.{held-all}
use Rattle.h264_base.proofs.Plain.{first-false}

-- ---- rules that are met

pub first-met : (b : Bool) (r : Result (Unit {0}) Stop) (e : Stop) → (let o : Result (Unit {0}) Stop = Ok tt in o ≡ (if b then r else Err e)) → (b ≡ true) ×
    (Ok tt ≡ r)
first-met true r e h = (refl, h)
first-met false r e h = cc

never : (due idr : Bool) → (not due || idr) ≡ true → due ≡ true → idr ≡ false → ⊥
never true true h d i = cc
never true false h d i = cc
never false idr h d i = cc

or-other : (a b : Bool) → (a || b) ≡ true → a ≡ false → b ≡ true
or-other true b h e = cc
or-other false b h e = h

one-set : (a b : Sps) (o : Option Sps) → o ≡ Some a → o ≡ Some b → a ≡ b
one-set a b o e f = let k : ◌≡◌ {A = Option Sps} (Some a) (Some b) = sym e ∙ f in cc

one-pps : (a b : Pps) (o : Option Pps) → o ≡ Some a → o ≡ Some b → a ≡ b
one-pps a b o e f = let k : ◌≡◌ {A = Option Pps} (Some a) (Some b) = sym e ∙ f in cc

-- a picture that is no IDR picture has the set of the one before it
pub stands-set : (due : Bool) (pictures : List CodedPicture) (maps : Maps) (sps : Sps) (bit : ℕ) (h : Header) → HasActive due pictures maps →
    (let o : Result (Unit {0}) Stop = Ok tt in o ≡ judged (standing_demands true sps due maps bit h)) → is_idr h ≡ false → HasSet sps pictures
stands-set due [] maps sps bit h a ok i = let m = first-met (not due || is_idr h) _ _ ok in absurd (never due (is_idr h) m.0 a i)
stands-set due (p ∷ ps) maps sps bit h a ok i =
    let m = first-met (not due || is_idr h) _ _ ok in
    let c = met-by (is_idr h || is_active maps sps) _ m.1 in
    one-set p.first.sps sps _ a (content-active maps.active sps (or-other _ _ c i))

-- and so has a slice that goes on with a picture
pub stands-same : (due : Bool) (p : CodedPicture) (ps : List CodedPicture) (maps : Maps) (sps : Sps) (bit : ℕ) (h : Header) → HasActive due (p ∷ ps) maps →
    (let o : Result (Unit {0}) Stop = Ok tt in o ≡ judged (standing_demands false sps due maps bit h)) → p.first.sps ≡ sps
stands-same due p ps maps sps bit h a ok = one-set p.first.sps sps _ a (content-active maps.active sps (met-by (is_active maps sps) _ ok))

pub stands-if : (begins due : Bool) (pictures : List CodedPicture) (maps : Maps) (sps : Sps) (bit : ℕ) (h : Header) → HasActive due pictures maps →
    (let o : Result (Unit {0}) Stop = Ok tt in o ≡ judged (standing_demands begins sps due maps bit h)) → begins ≡ true → is_idr h ≡ false →
    HasSet sps pictures
stands-if true due pictures maps sps bit h a ok b i = stands-set due pictures maps sps bit h a ok i
stands-if false due pictures maps sps bit h a ok b i = cc

-- what is kept of the units before it
pub before-active : (before : History) (ended : Bool) (slices : PicturesSoFar) (maps : Maps) → KeepsSlices before ended slices → maps ≡ maps_of before →
    HasActive slices.due (runs_of before) maps
before-active before ended slices maps k m =
    subst (λ (x : Maps). HasActive slices.due (runs_of before) x) (sym m)
    (subst (λ (b : Bool). HasActive b (runs_of before) (maps_of before)) (sym k.due) k.active)

-- a set that a slice names is one that some unit may give
if-usable : (b : Bool) (x : Bool) (pps q : Pps) (sps s : Sps) → is_accepted sps ≡ x →
    (let o : Option (Pps × Sps) = if b then (if x then Some (pps, sps) else None) else None in o ≡ Some (q, s)) → is_accepted s ≡ true
if-usable true true pps q sps s a e = let p : ◌≡◌ {A = Pps × Sps} (pps, sps) (q, s) = cc in
    subst (λ (t : Sps). is_accepted t ≡ true) (ap (λ (r : Pps × Sps). r.1) p) a
if-usable true false pps q sps s a e = cc
if-usable false x pps q sps s a e = cc

named-accepted : (b : Bool) (pps q : Pps) (o : Option Sps) (s : Sps) → (if b then option_and_then (if_accepted pps) o else None) ≡ Some (q, s) →
    is_accepted s ≡ true
named-accepted b pps q (Some sps) s e = if-usable b _ pps q sps s refl e
named-accepted true pps q None s e = cc
named-accepted false pps q None s e = cc

pub usable-set : (maps : Maps) (id : ℕ) (pps : Pps) (sps : Sps) → sets_of maps id ≡ Some (pps, sps) → is_usable sps ≡ true
usable-set maps id pps sps named =
    let s = then-some (sps_named maps) (pps_of maps id) (pps, sps) named in
    (and_parts (has_lengths sps) (is_usable sps) (named-accepted (nat_le s.0.seq_parameter_set_id 31) s.0 pps (sps_of maps s.0.seq_parameter_set_id) sps s.2)).1

-- ---- with one more slice

or-last : (a b : Bool) → (a || b) ≡ false → b ≡ false
or-last true b h = cc
or-last false b h = h

idr-by : (a b : Option (Found ℕ)) → idr_differs a b ≡ false → is_some b ≡ is_some a
idr-by None None h = refl
idr-by None (Some y) h = cc
idr-by (Some x) None h = cc
idr-by (Some x) (Some y) h = refl

pub idr-same : (old new : Header) → begins_picture (picture_elements old) (picture_elements new) ≡ false → is_idr new ≡ is_idr old
idr-same old new h = idr-by old.idr_pic_id new.idr_pic_id (or-last _ _ (first-false _ _ h))

pub joined-sound : (begins on : Bool) (slice : CodedSlice) (pictures : List CodedPicture) → begins ≡ begins_after (open_of on pictures) slice.header →
    AreSound (has_ended on begins) pictures → IsMarked slice.header → is_usable slice.sps ≡ true →
    (begins ≡ true → is_idr slice.header ≡ false → HasSet slice.sps pictures) →
    (begins ≡ true → has_gap_filled (record { first = slice; later = [] }) pictures ≡ true) → AreSound false (joined_to begins slice pictures)
joined-sound true on slice pictures b s m u set f =
    (record { marked = m; usable = u; set = set refl; filled = f refl; last = refl }, λ e. cc, ended-sound-of on pictures s)
joined-sound false on slice [] b s m u set f = tt
joined-sound false true slice (p ∷ ps) b s m u set f = (
  record {
    marked = s.0.marked;
    usable = s.0.usable;
    set = s.0.set;
    filled = s.0.filled;
    last = idr-same (last_slice p).header slice.header (sym b) ∙
        s.0.last;
  },
  λ e. cc,
  s.2,
)
joined-sound false false slice (p ∷ ps) b s m u set f = cc

-- the gap before a picture that begins was filled
pub gap-filled : (before : History) (begins : Bool) (old : PicturesSoFar) (held : References) (slice : CodedSlice) → KeepsSlices before begins old →
    begins ≡ true →
    all_filled (numbering_of slice.sps slice.header)
    (unused_short_term_frame_nums (is_idr slice.header) old.prev_ref_frame_num (numbering_of slice.sps slice.header)) old.held ≡ Some held →
    has_gap_filled (record { first = slice; later = [] }) (runs_of before) ≡ true
gap-filled before false old held slice k b e = cc
gap-filled before true old held slice k b e =
    let n = numbering_of slice.sps slice.header in
    let idr = is_idr slice.header in
    ap (λ (o : Option References). is_some o)
    (ap (λ (prev : ℕ). all_filled n (unused_short_term_frame_nums idr prev n) (held_after (runs_of before))) (sym k.kept.prev_ref)
    ∙ ap (λ (r : References). all_filled n (unused_short_term_frame_nums idr old.prev_ref_frame_num n) r)
    (sym (held-all (goes_on before) (runs_of before) old k.kept)) ∙ e)

named-pps : (maps : Maps) (id : ℕ) (pps : Pps) (sps : Sps) → sets_of maps id ≡ Some (pps, sps) → pps_of maps id ≡ Some pps
named-pps maps id pps sps named =
    let s = then-some (with_sps_of maps) (pps_of maps id) (record { pps = pps; sps = sps }) (named-pair maps id (pps, sps) named) in
    let t = map-some (λ (x : Sps). let pair : SetPair = record { pps = s.0; sps = x } in pair) _ _ s.2 in
    s.1 ∙ ap Some (ap (λ (q : SetPair). q.pps) t.2)

-- what the pair that the slice names leaves
module _ (maps : Maps) (slice : CodedSlice) (named : sets_of maps slice.header.pic_parameter_set_id.value ≡ Some (slice.pps, slice.sps)) where
  abbrev after : Maps
  after = with_pair maps (pair_of maps slice.header.pic_parameter_set_id.value)

  after-is : after ≡ with_active maps (record { pps = slice.pps; sps = slice.sps })
  after-is = ap (λ (o : Option SetPair). with_pair maps o) (named-pair maps slice.header.pic_parameter_set_id.value (slice.pps, slice.sps) named)

  active-after : IsActive after slice.sps
  active-after = subst (λ (m : Maps). IsActive m slice.sps) (sym after-is) refl

  names-after : pps_of after slice.header.pic_parameter_set_id.value ≡ Some slice.pps
  names-after = ap (λ (m : Maps). pps_of m slice.header.pic_parameter_set_id.value) after-is ∙
      named-pps maps slice.header.pic_parameter_set_id.value slice.pps slice.sps named

  pub joined-active : (begins on : Bool) (pictures : List CodedPicture) (due : Bool) (bit : ℕ) → begins ≡ begins_after (open_of on pictures) slice.header →
      HasActive due pictures maps → (let o : Result (Unit {0}) Stop = Ok tt in o ≡ judged (standing_demands begins slice.sps due maps bit slice.header)) →
      HasActive false (joined_to begins slice pictures) after
  joined-active true on pictures due bit b a ok = active-after
  joined-active false on [] due bit b a ok = cc
  joined-active false on (p ∷ ps) due bit b a ok =
      subst (λ (s : Sps). IsActive after s) (sym (stands-same due p ps maps slice.sps bit slice.header a ok)) active-after

  -- a slice that goes on with a picture names the picture parameter set of its first one
  pub later-pps : (p : CodedPicture) → begins_picture (picture_elements (last_slice p).header) (picture_elements slice.header) ≡ false →
      pps_of maps (last_slice p).header.pic_parameter_set_id.value ≡ Some p.first.pps → p.first.pps ≡ slice.pps
  later-pps p b n =
      let same = id-same _ _ (first-false _ _ (first-false _ _ (first-false _ _ (first-false _ _ (first-false _ _ b))))) in
      one-pps p.first.pps slice.pps _ (ap (λ (id : ℕ). pps_of maps id) (sym (eqb-true _ _ same)) ∙ n)
      (named-pps maps slice.header.pic_parameter_set_id.value slice.pps slice.sps named)
    where
      id-same : (a b : Bool) → (a || not b) ≡ false → b ≡ true
      id-same true b h = cc
      id-same false true h = refl
      id-same false false h = cc

  pub later-set : (begins on : Bool) (pictures : List CodedPicture) → begins ≡ begins_after (open_of on pictures) slice.header → NamesSet on pictures maps →
      begins ≡ false → HasPps slice.pps pictures
  later-set true on pictures b n f = cc
  later-set false on [] b n f = cc
  later-set false true (p ∷ ps) b n f = later-pps p (sym b) n
  later-set false false (p ∷ ps) b n f = cc

  pub joined-named : (begins on : Bool) (pictures : List CodedPicture) → begins ≡ begins_after (open_of on pictures) slice.header →
      NamesSet on pictures maps → NamesSet true (joined_to begins slice pictures) after
  joined-named true on pictures b n = names-after
  joined-named false on [] b n = tt
  joined-named false true (p ∷ ps) b n = names-after ∙ ap Some (sym (later-pps p (sym b) n))
  joined-named false false (p ∷ ps) b n = cc
