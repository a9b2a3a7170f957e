-- The level of a set has a place for a frame of its size at least: MaxDpbFrames is not 0 (A.3.1, Table A-1).
use Rattle.std.proofs.Common.{◌≡◌, ℕ, ◌*◌, ◌<◌, ◌≤◌, nat_le, ◌==◌, Bool, true, false, List, [], ◌∷◌, ◌++◌, find, Option, Some, None, refl, ap, sym}
use Rattle.std.proofs.Common.{subst, arith}
use Rattle.std.proofs.lemmas.Bool.{and_parts, leb-true}
use Rattle.std.specs.Prelude.{unwrap_or, IfSome}
use Rattle.std.specs.List.{list_all}
use Rattle.std.specs.Option.{is_some, option_map, option_map_or}
use Rattle.std.proofs.lemmas.Nat.{le-div, mul-le}
use Rattle.h264_base.specs.declared.mode.Target.{Target}
use Rattle.h264_verify.specs.declared.state.Depth.TheVariants as depths
use Rattle.h264_base.specs.Grammar.{Done, ◌>>=◌, read_word, check, support}
use Rattle.h264_base.proofs.Chains.{map-some, then-some}
use Rattle.h264_bits.specs.Forms.{natural}
use Rattle.h264_base.proofs.Gives.{Gives, gives-done, gives-any, gives-bind, gives-following}
use Rattle.h264_rbsp.specs.Rbsp.{body_of}
use Rattle.h264_tables.specs.declared.level.Limits.{Limits}
use Rattle.h264_tables.specs.Level.{LevelRow, level_rows, level_named, limits_of}
use Rattle.h264_sps.specs.declared.sps.FrameSize.{FrameSize}
use Rattle.h264_sps.specs.declared.sps.Sps.{Sps}
use Rattle.h264_sps.specs.Sps.{LevelNamed, ProfileAndLevel, no_limits, max_dpb_frames, level, profile_and_level, fits, frame_size, sps}
use Rattle.h264_pps.specs.declared.Pps.{Pps}
use Rattle.h264_sets.specs.declared.SetPair.{SetPair}
use Rattle.h264_sets.specs.Sets.{Maps, EachSet, sps_of, pps_of, with_sps_of, pair_of}
use Rattle.h264_sets.proofs.Each.{none-each, put-each, of-each}
use Rattle.h264_sps.specs.Usable.{dpb_frames}
use Rattle.h264_header.specs.declared.header.Header.{Header}
use Rattle.h264_header.specs.Layout.{sets_of}
use Rattle.h264_header.specs.Header.{header}
use Rattle.h264_header.proofs.Named.{named-pair}
use Rattle.h264_near.specs.Coded.{CodedMacroblock}
use Rattle.h264_verify.specs.Telling.{Told}
use Rattle.h264_verify.specs.Content.{Content}
use Rattle.h264_verify.specs.Content as contents
use Rattle.h264_verify.specs.Data.{slice_data_at}
use Rattle.h264_verify.specs.History.{History, ReadUnit, with_pair, maps_with, maps_of}
use Rattle.h264_verify.specs.Pictures.{ended_pictures}
use Rattle.h264_verify.specs.Pictures.{CodedSlice, CodedPicture, with_sets, slice_in, goes_on, joined_to, joined_by, begins_after, open_of, runs_of}
use Rattle.h264_units.specs.UnitHeader.{header_of, nal_unit_type}
use Rattle.h264_verify.specs.Units.{extent_at, slice_unit}
use Rattle.h264_verify.specs.Order.{data_course}
use Rattle.h264_verify.specs.Verdict.{IsLegal, AreLegal}
use Rattle.h264_verify.proofs.judged.HeaderSets.{content-gives}
use Rattle.h264_verify.proofs.laws.LegalUnit.{given, has-met, read-gives}
use Rattle.h264_verify.proofs.language.MetRules.{Met}

abbrev pub HasRoom : Sps → Type 0
HasRoom set = 0 < dpb_frames set

-- ---- Table A-1

abbrev holds_frame : LevelRow → Bool
holds_frame r = nat_le r.limits.max_fs r.limits.max_dpb_mbs

abbrev HoldsFrame : Limits → Type 0
HoldsFrame l = l.max_fs ≤ l.max_dpb_mbs

-- in each row MaxDpbMbs is at least MaxFS
row-holds : (p : LevelRow → Bool) (rows : List LevelRow) → list_all holds_frame rows ≡ true →
    IfSome (option_map (λ (r : LevelRow). r.limits) (find p rows)) HoldsFrame
row-holds p [] a = tt
row-holds p (r ∷ rows) a =
    let b = and_parts (holds_frame r) (list_all holds_frame rows) a in
    go (p r) refl b.0 (row-holds p rows b.1)
  where
    go : (t : Bool) → p r ≡ t → holds_frame r ≡ true → IfSome (option_map (λ (r : LevelRow). r.limits) (find p rows)) HoldsFrame →
        IfSome (option_map (λ (r : LevelRow). r.limits) (find p (r ∷ rows))) HoldsFrame
    go true e l f = rw e (leb-true r.limits.max_fs r.limits.max_dpb_mbs l)
    go false e l f = rw e f

limits-hold : (n : ℕ) (set3 : Bool) → IfSome (limits_of n set3) HoldsFrame
unfolding limits_of level_rows
limits-hold n set3 = row-holds (λ (r : LevelRow). r.level == level_named n set3) level_rows refl

-- ---- a set

record HasLevel (set3 : Bool) (n : LevelNamed) : Type 0 where
  pub is : limits_of n.level_idc set3 ≡ Some n.limits
  pub holds : HoldsFrame n.limits

level-of : (o : Option Limits) → is_some o ≡ true → IfSome o HoldsFrame → (o ≡ Some (unwrap_or o no_limits)) × HoldsFrame (unwrap_or o no_limits)
level-of None h b = cc
level-of (Some l) h b = (refl, b)

level-gives : (set3 : Bool) → Gives (level set3) (HasLevel set3)
unfolding level read_word support check ◌>>=◌ Gives
level-gives set3 = λ e _ t. let l = level-of (limits_of (natural e.value) set3) t (limits-hold (natural e.value) set3) in record { is = l.0; holds = l.1 }

abbrev HasFront : ProfileAndLevel → Type 0
HasFront f = HasLevel f.flags.set3 f.named

front-gives : (target : Target) → Gives (profile_and_level target) HasFront
unfolding profile_and_level
front-gives target = gives-following _ _ HasFront
    (λ profile. gives-following _ _ _ (λ flags. gives-following _ _ _ (λ x. gives-following _ _ _ (λ reserved.
    gives-bind (HasLevel flags.set3) HasFront _ _ (level-gives flags.set3) (λ named h. gives-done HasFront _ h)))))

-- the size is one of the level
record HasSize (limits : Limits) (size : FrameSize) : Type 0 where
  pub wide : 0 < size.width
  pub high : 0 < size.height
  pub macroblocks : size.width * size.height ≤ limits.max_fs

size-gives : (limits : Limits) (refs : ℕ) → Gives (frame_size limits refs) (HasSize limits)
unfolding frame_size fits read_word check ◌>>=◌ Gives
size-gives limits refs = λ w h a b c d. record { wide = omega arith; high = omega arith; macroblocks = leb-true _ _ a }

room : (limits : Limits) (size : FrameSize) → HoldsFrame limits → HasSize limits size → 0 < max_dpb_frames limits size
room limits size l h =
    let wide = h.wide in
    let high = h.high in
    let some = mul-le 1 1 size.width size.height (omega (arith, wide)) (omega (arith, high)) in
    let most = h.macroblocks in
    let one = le-div 1 limits.max_dpb_mbs (size.width * size.height) (omega (arith, some)) (omega (arith, most, l)) in
    omega (arith, one)

sps-gives : (target : Target) → Gives (sps target) HasRoom
unfolding sps
sps-gives target = gives-bind HasFront HasRoom _ _ (front-gives target)
    (λ front named. gives-following _ _ _ (λ id. gives-following _ _ _ (λ log2. gives-following _ _ _ (λ count. gives-following _ _ _
    (λ refs. gives-following _ _ _ (λ gaps. gives-bind (HasSize front.named.limits) HasRoom _ _ (size-gives front.named.limits refs)
    (λ size h. gives-following _ _ _ (λ only. gives-following _ _ _ (λ direct. gives-following _ _ _ (λ crop. gives-following _ _ _
    (λ usability. gives-following _ _ _ (λ end. gives-done HasRoom _ (subst (λ (o : Option Limits). 0 < option_map_or
    (λ (l : Limits). max_dpb_frames l size) o 0) (sym named.is) (room front.named.limits size named.holds h))))))))))))))

-- ---- a unit

abbrev IsRoomy : Content → Type 0
IsRoomy (contents.OfSps set) = HasRoom set
IsRoomy (contents.OfPps set) = Unit {0}
IsRoomy (contents.OfSlice h macroblocks) = Unit {0}
IsRoomy contents.Passed = Unit {0}

unit-room : (target : Target) (before : History) (r : ReadUnit) (calls : List Told) → IsLegal (extent_at depths.Full target) before r calls → IsRoomy r.content
unit-room target before r calls l =
    let m = has-met target before r calls l in
    by m.found m.bit (given IsRoomy _ (body_of r.unit) 0 m.elements m.found m.bit
    (content-gives IsRoomy (extent_at depths.Full target) (nal_unit_type (header_of r.unit)) before r.unit (sps-gives target) (λ set. tt)
    (λ slice. gives-any (header (sets_of (maps_of before)) (slice_unit r.unit))) tt) m.says) m.following
  where
    by : (found : Content) (bit : ℕ) → IsRoomy found → Met (data_course depths.Full before r.unit found bit) (λ c. c ≡ r.content) → IsRoomy r.content
    by (contents.OfSps set) bit h e = subst IsRoomy e h
    by (contents.OfPps set) bit h e = subst IsRoomy e h
    by (contents.OfSlice h ms) bit k d =
        read-gives (body_of r.unit) (slice_data_at before r.unit h >>= (λ ms. Done (contents.OfSlice h ms))) bit r.content IsRoomy
        (gives-bind _ IsRoomy _ _ (gives-any _) (λ ms a. gives-done IsRoomy _ tt)) d
    by contents.Passed bit h e = subst IsRoomy e h

-- ---- the sets by id

abbrev HaveRoom : List (Option Sps) → Type 0
HaveRoom sets = EachSet HasRoom sets

active-each : (maps : Maps) (o : Option SetPair) → HaveRoom maps.sps → HaveRoom (with_pair maps o).sps
active-each maps None e = e
active-each maps (Some pair) e = e

maps-each : (maps : Maps) (c : Content) → IsRoomy c → HaveRoom maps.sps → HaveRoom (maps_with maps c).sps
maps-each maps (contents.OfSps set) h e = put-each HasRoom maps.sps set.seq_parameter_set_id set h e
maps-each maps (contents.OfPps set) h e = e
maps-each maps (contents.OfSlice h ms) k e = active-each maps (pair_of maps h.pic_parameter_set_id.value) e
maps-each maps contents.Passed h e = e

-- the set of a slice
named-room : (maps : Maps) (id : ℕ) (sets : Pps × Sps) → HaveRoom maps.sps → sets_of maps id ≡ Some sets → HasRoom sets.1
named-room maps id sets e n =
    let s = then-some (with_sps_of maps) (pps_of maps id) (record { pps = sets.0; sps = sets.1 }) (named-pair maps id sets n) in
    let t = map-some (λ (x : Sps). let pair : SetPair = record { pps = s.0; sps = x } in pair) (sps_of maps s.0.seq_parameter_set_id) _ s.2 in
    subst HasRoom (ap (λ (q : SetPair). q.sps) t.2) (of-each HasRoom maps.sps s.0.seq_parameter_set_id t.0 e t.1)

-- ---- the pictures

abbrev pub EachRoom : List CodedPicture → Type 0
EachRoom [] = Unit {0}
EachRoom (p ∷ ps) = HasRoom p.first.sps × EachRoom ps

joined-room : (begins : Bool) (slice : CodedSlice) (pictures : List CodedPicture) → HasRoom slice.sps → EachRoom pictures →
    EachRoom (joined_to begins slice pictures)
joined-room true slice pictures h e = (h, e)
joined-room false slice [] h e = tt
joined-room false slice (p ∷ ps) h e = e

pictures-room : (before : History) (r : ReadUnit) → HaveRoom (maps_of before).sps → EachRoom (runs_of before) → EachRoom (runs_of (r ∷ before))
pictures-room before r m e = by r.content
  where
    named : (h : Header) (ms : List CodedMacroblock) (o : Option (Pps × Sps)) → sets_of (maps_of before) h.pic_parameter_set_id.value ≡ o →
        EachRoom (joined_by (option_map (with_sets r.unit h ms) o) (goes_on before) (runs_of before))
    named h ms None n = e
    named h ms (Some sets) n = joined-room (begins_after (open_of (goes_on before) (runs_of before)) h) (with_sets r.unit h ms sets) (runs_of before)
        (named-room (maps_of before) h.pic_parameter_set_id.value sets m n) e

    by : (c : Content) → EachRoom (joined_by (slice_in (maps_of before) r.unit c) (goes_on before) (runs_of before))
    by (contents.OfSps set) = e
    by (contents.OfPps set) = e
    by (contents.OfSlice h ms) = named h ms (sets_of (maps_of before) h.pic_parameter_set_id.value) refl
    by contents.Passed = e

record Rooms (before : History) : Type 0 where
  pub sets : HaveRoom (maps_of before).sps
  pub pictures : EachRoom (runs_of before)

rooms : (target : Target) (before : History) (calls : List Told) → AreLegal (extent_at depths.Full target) before calls → Rooms before
rooms target [] calls l = record { sets = none-each HasRoom 32; pictures = tt }
rooms target (r ∷ before) calls l =
    let s = rooms target before l.0 l.2 in
    record {
      sets = maps-each (maps_of before) r.content (unit-room target before r l.1 l.3) s.sets;
      pictures = pictures-room before r s.sets s.pictures;
    }

-- of units that are legal
pub legal-room : (target : Target) (before : History) (calls : List Told) → AreLegal (extent_at depths.Full target) before calls → EachRoom (runs_of before)
legal-room target before calls l = (rooms target before calls l).pictures

-- those that have ended
pub ended-room : (on : Bool) (pictures : List CodedPicture) → EachRoom pictures → EachRoom (ended_pictures on false pictures)
ended-room on [] e = tt
ended-room true (p ∷ ps) e = e.1
ended-room false (p ∷ ps) e = e

-- one of these
pub room-at : (later : List CodedPicture) (p : CodedPicture) (ps : List CodedPicture) → EachRoom (later ++ p ∷ ps) → HasRoom p.first.sps
room-at [] p ps e = e.0
room-at (q ∷ later) p ps e = room-at later p ps e.1
