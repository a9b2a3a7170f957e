-- What is told of a stream is in order: its pictures end one after another, and a frame is shown once its picture has ended.
use Rattle.std.proofs.Common.{IsTrue, ◌≡◌, ℕ, ◌<◌, ◌≤◌, ◌*◌, Bool, true, false, not, ◌&&◌, ◌||◌, ◌==◌, List, [], ◌∷◌, ◌++◌, length, Option, Some, inl, inr}
use Rattle.std.proofs.Common.{None, Result, Ok, Err, refl, ap, sym, ◌∙◌, subst, arith, if◌then◌else◌}
use Rattle.std.specs.Option.{is_some, option_map}
use Rattle.std.proofs.lemmas.Bool.Decides.{nat_tests}
use Rattle.h264_verify.specs.declared.state.Depth.{Depth}
use Rattle.h264_verify.specs.declared.state.Depth.TheVariants as depths
use Rattle.h264_base.specs.declared.stop.Stop.{Stop}
use Rattle.h264_verify.specs.CourseOutcome.{outcome_of}
use Rattle.h264_verify.proofs.samples.FamiliesAgree.{of-more}
use Rattle.h264_base.specs.Body.{Body}
use Rattle.h264_base.specs.Grammar.{Element, Says, Done, ◌>>=◌ as ◌bind◌}
use Rattle.h264_base.specs.declared.summary.Summary.{Summary}
use Rattle.h264_units.specs.Stream.{NalUnit, Tail}
use Rattle.h264_rbsp.specs.Rbsp.{body_of}
use Rattle.h264_near.specs.Coded.{CodedMacroblock}
use Rattle.h264_sps.specs.declared.sps.Sps.{Sps}
use Rattle.h264_sps.specs.Sps.{sps}
use Rattle.h264_pps.specs.declared.Pps.{Pps}
use Rattle.h264_header.specs.declared.header.Header.{Header}
use Rattle.h264_header.specs.Layout.{sets_of}
use Rattle.h264_header.specs.Picture.{is_idr, is_reference}
use Rattle.h264_marking.specs.Frames.{References}
use Rattle.h264_marking.specs.declared.frame.Numbering.{Numbering}
use Rattle.h264_marking.specs.Window.{filled}
use Rattle.h264_marking.specs.Gaps.{unused_short_term_frame_nums}
use Rattle.h264_marking.specs.Ended.{numbering_of}
use Rattle.h264_dpb.specs.declared.entry.Entry.{Entry}
use Rattle.h264_dpb.specs.Buffered.{Buffered}
use Rattle.h264_dpb.specs.Kept.{Each}
use Rattle.h264_dpb.specs.Turns.{Shown, missing_turn}
use Rattle.h264_verify.specs.Telling.{Told, Said, Decodes, Shows, AreOf, Family, HasFrame, AreDecoded}
use Rattle.h264_verify.specs.Content.{Content}
use Rattle.h264_verify.specs.Content as contents
use Rattle.h264_verify.specs.Demands.{Demand}
use Rattle.h264_verify.specs.Course.{Course, Ends, Needs, Tells, Reads, ◌>>=◌ as ◌then◌, nothing, ◌>>◌, needs, tells, told, Runs}
use Rattle.h264_units.specs.UnitHeader.{header_of, nal_unit_type, ends_picture, is_slice}
use Rattle.h264_verify.specs.History.{History, ReadUnit, maps_of}
use Rattle.h264_verify.specs.Pictures.{CodedSlice, CodedPicture, sets_at, with_sets, goes_on, open_of, begins_after, begins_at, joined_to}
use Rattle.h264_verify.specs.Pictures.{joined_by, runs_of, prev_ref_frame_num_of, held_after, ended_pictures}
use Rattle.h264_verify.specs.Order.{content_course, header_demands, closing_demands, whole_picture, whole_steps, close_steps, close_if, content, content_steps}
use Rattle.h264_verify.specs.Order.{data_course, rules_before_gap, gap_rules, rules_after_gap, first_slice_rules, later_slice_rules, slice_rules, steps_by}
use Rattle.h264_verify.specs.Order.{standing_demands, coded_before, slice_steps, unit_course, end_steps}
use Rattle.h264_verify.specs.Slices.{pictures_before, slices_before, is_idr_due, new_num_demand, first_mb_demands, first_bit, slice_call}
use Rattle.h264_verify.specs.Data.{slice_data_at}
use Rattle.h264_verify.specs.declared.state.Extent.{Extent}
use Rattle.h264_verify.specs.Units.{unit_call, slice_unit, picture_demand}
use Rattle.h264_verify.specs.Buffering.{missing_on, missing_steps, told_frames, told_picture, end_frames, closing_frames, last_frames, after_all}
use Rattle.h264_verify.specs.Buffering.{within_newest, ended_turn}
use Rattle.h264_verify.specs.Keeping.{ended_in}
use Rattle.h264_verify.specs.Verdict.{IsLegal, AtBytes, InCourse, AreLegal, Holds, IsStopAfter, AtNext, AtTail, AtEnd, Verdict, remainder}
use Rattle.h264_base.proofs.Gives.{Gives, gives-done, gives-any, gives-bind, gives-weaker, gives-derived}
use Rattle.h264_verify.proofs.language.MetRules.{AreMet}
use Rattle.h264_verify.proofs.judged.HeaderSets.{sets-given, content-gives}
use Rattle.h264_verify.proofs.samples.ShownFirst.{IsFirst, ended-first, within-first, missing-first, after-first, last-first}

-- ---- pictures that have ended

-- and they have their frames
abbrev pub HaveFrames : Family → List CodedPicture → Type 0
HaveFrames frames [] = Unit {0}
HaveFrames frames (p ∷ ps) = HasFrame frames (p ∷ ps) × HaveFrames frames ps

-- of the pictures that have ended, those that were decoded, which are none where no slice data are read
abbrev pub decoded_at : Depth → List CodedPicture → List CodedPicture
decoded_at depths.Units pictures = []
decoded_at depths.Headers pictures = []
decoded_at depths.Full pictures = pictures

all-ended : (pictures : List CodedPicture) → ended_pictures false false pictures ≡ pictures
all-ended [] = refl
all-ended (p ∷ ps) = refl

-- the pictures that have ended once a slice stands in its picture
abbrev ended_by : Bool → List CodedPicture → List CodedPicture
ended_by true pictures = pictures
ended_by false pictures = ended_pictures true false pictures

-- ---- what is in a unit

-- a slice stands in the unit of a slice, and has its sets
abbrev pub IsSound : ℕ → History → Content → Type 0
IsSound kind before (contents.OfSps set) = Unit {0}
IsSound kind before (contents.OfPps set) = Unit {0}
IsSound kind before (contents.OfSlice h macroblocks) = (is_slice kind ≡ true) × (is_some (sets_at before h) ≡ true)
IsSound kind before contents.Passed = Unit {0}

sound-content : (extent : Extent) (kind : ℕ) (before : History) (unit : NalUnit) → Gives (content extent kind before unit) (IsSound kind before)
sound-content extent kind before unit = content-gives (IsSound kind before) extent kind before unit (gives-any (sps extent.target)) (λ set. tt)
    (λ slice. gives-weaker _ _ _ (sets-given (sets_of (maps_of before)) (slice_unit unit)) (λ h has. (slice, has))) tt

pub slice-goes : (kind : ℕ) → is_slice kind ≡ true → ends_picture kind ≡ false
slice-goes kind h = by (kind == 1) refl (kind == 5) refl h
  where
    by : (a : Bool) → (kind == 1) ≡ a → (b : Bool) → (kind == 5) ≡ b → (a || b) ≡ true → ends_picture kind ≡ false
    by true e b f t = let one : kind ≡ 1 = grind (arith, nat_tests) in rw one refl
    by false e true f t = let five : kind ≡ 5 = grind (arith, nat_tests) in rw five refl
    by false e false f t = absurd cc

-- a later slice goes on with the picture that is open
pub goes-later : (on : Bool) (pictures : List CodedPicture) (h : Header) → begins_after (open_of on pictures) h ≡ false → on ≡ true
goes-later on [] h e = absurd cc
goes-later true (p ∷ ps) h e = refl
goes-later false (p ∷ ps) h e = absurd cc

-- the pictures that have ended once it stands in its picture
joined-ended : (b : Bool) (s : CodedSlice) (pictures : List CodedPicture) → ended_pictures true false (joined_to b s pictures) ≡ ended_by b pictures
joined-ended true s pictures = refl
joined-ended false s [] = refl
joined-ended false s (p ∷ ps) = refl

-- the pictures that have ended after these units, of which those were decoded
abbrev pub ended_at : Depth → History → List CodedPicture
ended_at depth before = decoded_at depth (ended_pictures (goes_on before) false (runs_of before))

few-ended : (on : Bool) (pictures : List CodedPicture) → length (ended_pictures on false pictures) ≤ length pictures
few-ended on [] = omega arith
few-ended true (p ∷ ps) = omega arith
few-ended false (p ∷ ps) = omega arith

-- no fewer have ended
passed-grows : (ends on : Bool) (pictures : List CodedPicture) →
    length (ended_pictures on false pictures) ≤ length (ended_pictures (not ends && on) false pictures)
passed-grows true on pictures = let few = few-ended on pictures in let whole = ap (λ (l : List CodedPicture). length l) (all-ended pictures) in omega arith
passed-grows false on pictures = omega arith

by-grows : (on b : Bool) (pictures : List CodedPicture) → (b ≡ false → on ≡ true) →
    length (ended_pictures on false pictures) ≤ length (ended_by b pictures)
by-grows on true pictures g = few-ended on pictures
by-grows on false pictures g = let e = ap (λ (x : Bool). length (ended_pictures x false pictures)) (g refl) in omega (arith, e)

-- slice data give the macroblocks of a slice
abbrev IsWith : Header → Content → Type 0
IsWith h found = (ms : List CodedMacroblock) × (found ≡ contents.OfSlice h ms)

module _ (extent : Extent) (before : History) (unit : NalUnit) where
  abbrev kind : ℕ
  kind = nal_unit_type (header_of unit)

  abbrev one_more : Content → History
  one_more found = record { unit = unit; content = found } ∷ before

  abbrev after : Content → List CodedPicture
  after found = ended_at extent.depth (one_more found)

  -- of a slice that has its sets
  slice-after : (h : Header) (ms : List CodedMacroblock) → is_some (sets_at before h) ≡ true →
      after (contents.OfSlice h ms) ≡ decoded_at extent.depth (ended_by (begins_at before h) (runs_of before))
  slice-after h ms t = by (sets_at before h) refl t
    where
      by : (o : Option (Pps × Sps)) → sets_at before h ≡ o → is_some o ≡ true →
          after (contents.OfSlice h ms) ≡ decoded_at extent.depth (ended_by (begins_at before h) (runs_of before))
      by None e s = absurd cc
      by (Some sets) e s =
          ap (λ (o : Option (Pps × Sps)). decoded_at extent.depth (ended_pictures true false
          (joined_by (option_map (with_sets unit h ms) o) (goes_on before) (runs_of before)))) e ∙
          ap (decoded_at extent.depth) (joined-ended (begins_at before h) (with_sets unit h ms sets) (runs_of before))

  -- no fewer pictures have ended with it
  abbrev Grows : Content → Type 0
  Grows found = ended_in before ≤ ended_in (one_more found)

  slice-grows : (h : Header) (ms : List CodedMacroblock) → is_some (sets_at before h) ≡ true → Grows (contents.OfSlice h ms)
  slice-grows h ms t = by (sets_at before h) refl t
    where
      by : (o : Option (Pps × Sps)) → sets_at before h ≡ o → is_some o ≡ true → Grows (contents.OfSlice h ms)
      by None e s = absurd cc
      by (Some sets) e s =
          let b = begins_at before h in
          let runs = ap (λ (o : Option (Pps × Sps)). length (ended_pictures true false
          (joined_by (option_map (with_sets unit h ms) o) (goes_on before) (runs_of before)))) e in
          let ended = ap (λ (l : List CodedPicture). length l) (joined-ended b (with_sets unit h ms sets) (runs_of before)) in
          let grows = by-grows (goes_on before) b (runs_of before) (goes-later (goes_on before) (runs_of before) h) in
          omega (arith, runs, ended, grows)

  abbrev passed : List CodedPicture
  passed = decoded_at extent.depth (ended_pictures (not (ends_picture kind) && goes_on before) false (runs_of before))

-- a fact of each picture that ends, with those before it
module _ (P : List CodedPicture → Type 0) where
  -- ---- in order

  -- From these pictures, which have ended, to those: each picture that ends follows on them, with this fact of it and those before it, and each frame that is
  -- shown is of one of them.
  abbrev pub InOrder : List CodedPicture → List Told → List CodedPicture → Type 0
  InOrder done [] end = end ≡ done
  InOrder done (Said call ∷ told) end = InOrder done told end
  InOrder done (Decodes [] ∷ told) end = ⊥
  InOrder done (Decodes (p ∷ ps) ∷ told) end = (ps ≡ done) × P (p ∷ ps) × InOrder (p ∷ ps) told end
  InOrder done (Shows e ∷ told) end = (e.of.picture < length done) × InOrder done told end

  pub in-both : (xs ys : List Told) (a b c : List CodedPicture) → InOrder a xs b → InOrder b ys c → InOrder a (xs ++ ys) c
  in-both [] ys a b c h k = subst (λ d. InOrder d ys c) h k
  in-both (Said call ∷ xs) ys a b c h k = in-both xs ys a b c h k
  in-both (Decodes [] ∷ xs) ys a b c h k = absurd h
  in-both (Decodes (p ∷ ps) ∷ xs) ys a b c h k = (h.0, h.1, in-both xs ys (p ∷ ps) b c h.2 k)
  in-both (Shows e ∷ xs) ys a b c h k = (h.0, in-both xs ys a b c h.1 k)

  -- so is the first part of it, and the rest
  pub in-parts : (xs ys : List Told) (a c : List CodedPicture) → InOrder a (xs ++ ys) c → (b : List CodedPicture) × InOrder a xs b × InOrder b ys c
  in-parts [] ys a c h = (a, refl, h)
  in-parts (Said call ∷ xs) ys a c h = in-parts xs ys a c h
  in-parts (Decodes [] ∷ xs) ys a c h = absurd h
  in-parts (Decodes (p ∷ ps) ∷ xs) ys a c h = let r = in-parts xs ys (p ∷ ps) c h.2 in (r.0, (h.0, h.1, r.1), r.2)
  in-parts (Shows e ∷ xs) ys a c h = let r = in-parts xs ys a c h.1 in (r.0, (h.0, r.1), r.2)

  in-elements : (body : Body) (es : List Element) (a : List CodedPicture) → InOrder a (told body es) a
  in-elements body [] a = refl
  in-elements body (e ∷ es) a = in-elements body es a

  -- no fewer have ended
  in-grows : (told : List Told) (a b : List CodedPicture) → InOrder a told b → length a ≤ length b
  in-grows [] a b h = let e = ap (λ (l : List CodedPicture). length l) h in omega (arith, e)
  in-grows (Said call ∷ told) a b h = in-grows told a b h
  in-grows (Decodes [] ∷ told) a b h = absurd h
  in-grows (Decodes (p ∷ ps) ∷ told) a b h =
      let e = ap (λ (l : List CodedPicture). length l) h.0 in let g = in-grows told (p ∷ ps) b h.2 in omega (arith, e, g)
  in-grows (Shows e ∷ told) a b h = in-grows told a b h.1

  -- the fact of each of them
  pub in-fact : (told : List Told) (a b : List CodedPicture) → InOrder a told b → P a → P b
  in-fact [] a b h k = subst P (sym h) k
  in-fact (Said call ∷ told) a b h k = in-fact told a b h k
  in-fact (Decodes [] ∷ told) a b h k = absurd h
  in-fact (Decodes (p ∷ ps) ∷ told) a b h k = in-fact told (p ∷ ps) b h.2 h.1
  in-fact (Shows e ∷ told) a b h k = in-fact told a b h.1 k

  pub in-one : (first later : List Told) (p : CodedPicture) (ps a b : List CodedPicture) → InOrder a (first ++ Decodes (p ∷ ps) ∷ later) b → P (p ∷ ps)
  in-one first later p ps a b h = let parts = in-parts first (Decodes (p ∷ ps) ∷ later) a b h in parts.2.1

  -- what is told is of the pictures that have ended then
  pub in-of : (told : List Told) (a b : List CodedPicture) → InOrder a told b → AreOf (length b) told
  in-of [] a b h = tt
  in-of (Said call ∷ told) a b h = (tt, in-of told a b h)
  in-of (Decodes [] ∷ told) a b h = absurd h
  in-of (Decodes (p ∷ ps) ∷ told) a b h = (in-grows told (p ∷ ps) b h.2, in-of told (p ∷ ps) b h.2)
  in-of (Shows e ∷ told) a b h = (let l = in-grows told a b h.1 in omega (arith, l, h.0), in-of told a b h.1)

  pub in-frames : (frames : Family) (told : List Told) (a b : List CodedPicture) → InOrder a told b → HaveFrames frames a → AreDecoded frames told →
      HaveFrames frames b
  in-frames frames [] a b h k d = subst (HaveFrames frames) (sym h) k
  in-frames frames (Said call ∷ told) a b h k d = in-frames frames told a b h k d
  in-frames frames (Decodes [] ∷ told) a b h k d = absurd h
  in-frames frames (Decodes (p ∷ ps) ∷ told) a b h k d = in-frames frames told (p ∷ ps) b h.2 (d.0, subst (HaveFrames frames) (sym h.0) k) d.1
  in-frames frames (Shows e ∷ told) a b h k d = in-frames frames told a b h.1 k d

  -- ---- a course

  -- What this course tells is in order, as far as its rules are met, and this holds of the pictures that have then ended, and of what comes of it.
  abbrev pub CourseIn : {A : Type 0} → List CodedPicture → Course A → (List CodedPicture → A → Type 0) → Type 0
  CourseIn a (Ends x) Q = Q a x
  CourseIn a (Needs d c) Q = IsTrue d.met → CourseIn a c Q
  CourseIn a (Tells (Said call) c) Q = CourseIn a c Q
  CourseIn a (Tells (Decodes []) c) Q = ⊥
  CourseIn a (Tells (Decodes (p ∷ ps)) c) Q = (ps ≡ a) × P (p ∷ ps) × CourseIn (p ∷ ps) c Q
  CourseIn a (Tells (Shows e) c) Q = (e.of.picture < length a) × CourseIn a c Q
  CourseIn a (Reads body bit g next) Q =
      (es : List Element) (found : Content) (end : ℕ) → Says g body bit es (Ok (found, end)) → CourseIn a (next found end) Q

  -- up to some pictures
  abbrev pub ToSome : List CodedPicture → List Told → Type 0
  ToSome a calls = (b : List CodedPicture) × InOrder a calls b

  none-in : (calls : List Told) (a : List CodedPicture) → calls ≡ [] → ToSome a calls
  none-in calls a e = (a, subst (λ l. InOrder a l a) (sym e) refl)

  abbrev ToldBy : {A : Type 0} → (List CodedPicture → A → Type 0) → List CodedPicture → List Told → Result A Stop → Type 0
  ToldBy Q a calls (Ok x) = (b : List CodedPicture) × InOrder a calls b × Q b x
  ToldBy Q a calls (Err stop) = ToSome a calls

  module _ {A : Type 0} (Q : List CodedPicture → A → Type 0) where
    told-with : (a from : List CodedPicture) (calls later : List Told) (answer : Result A Stop) →
        ((b : List CodedPicture) → InOrder from later b → InOrder a calls b) → ToldBy Q from later answer → ToldBy Q a calls answer
    told-with a from calls later (Ok x) f k = (k.0, f k.0 k.1, k.2)
    told-with a from calls later (Err stop) f k = (k.0, f k.0 k.1)

    pub runs-in : (c : Course A) (calls : List Told) (answer : Result A Stop) (a : List CodedPicture) → CourseIn a c Q → Runs c calls answer →
        ToldBy Q a calls answer
    runs-in (Ends x) calls answer a q r = subst (λ r. ToldBy Q a calls r) (sym r.1) (a, subst (λ l. InOrder a l a) (sym r.0) refl, q)
    runs-in (Needs d c) calls answer a q (inl r) = runs-in c calls answer a (q r.0) r.1
    runs-in (Needs d c) calls answer a q (inr r) = subst (λ r. ToldBy Q a calls r) (sym r.2) (none-in calls a r.1)
    runs-in (Tells (Said call) c) calls answer a q r =
        told-with a a calls r.0 answer (λ b h. subst (λ l. InOrder a l b) (sym r.1) h) (runs-in c r.0 answer a q r.2)
    runs-in (Tells (Decodes []) c) calls answer a q r = absurd q
    runs-in (Tells (Decodes (p ∷ ps)) c) calls answer a q r =
        told-with a (p ∷ ps) calls r.0 answer (λ b h. subst (λ l. InOrder a l b) (sym r.1) (q.0, q.1, h)) (runs-in c r.0 answer (p ∷ ps) q.2 r.2)
    runs-in (Tells (Shows e) c) calls answer a q r =
        told-with a a calls r.0 answer (λ b h. subst (λ l. InOrder a l b) (sym r.1) (q.0, h)) (runs-in c r.0 answer a q.1 r.2)
    runs-in (Reads body bit g next) calls answer a q (inl r) =
        told-with a a calls r.3 answer
        (λ b h. subst (λ l. InOrder a l b) (sym r.6) (in-both (told body r.0) r.3 a a b (in-elements body r.0 a) h))
        (runs-in (next r.1 r.2) r.3 answer a (q r.0 r.1 r.2 r.4) r.5)
    runs-in (Reads body bit g next) calls answer a q (inr r) =
        subst (λ r. ToldBy Q a calls r) (sym r.4) (a, subst (λ l. InOrder a l a) (sym r.3) (in-elements body r.0 a))

  -- one course, and then another
  in-then : {A B : Type 0} (c : Course A) (f : A → Course B) (a : List CodedPicture) (Q : List CodedPicture → B → Type 0) →
      CourseIn a c (λ b x. CourseIn b (f x) Q) → CourseIn a (◌then◌ c f) Q
  unfolding ◌then◌
  in-then (Ends x) f a Q q = q
  in-then (Needs d c) f a Q q = λ t. in-then c f a Q (q t)
  in-then (Tells (Said call) c) f a Q q = in-then c f a Q q
  in-then (Tells (Decodes []) c) f a Q q = absurd q
  in-then (Tells (Decodes (p ∷ ps)) c) f a Q q = (q.0, q.1, in-then c f (p ∷ ps) Q q.2)
  in-then (Tells (Shows e) c) f a Q q = (q.0, in-then c f a Q q.1)
  in-then (Reads body bit g next) f a Q q = λ es found end says. in-then (next found end) f a Q (q es found end says)

  -- rules alone, and rules before a course
  needs-in : (ds : List Demand) (a : List CodedPicture) (Q : List CodedPicture → Unit {0} → Type 0) → (AreMet ds → Q a tt) → CourseIn a (needs ds) Q
  unfolding needs
  needs-in [] a Q q = q tt
  needs-in (d ∷ ds) a Q q = λ t. needs-in ds a Q (λ m. q (t, m))

  rules-then : {A : Type 0} (ds : List Demand) (c : Course A) (a : List CodedPicture) (Q : List CodedPicture → A → Type 0) → (AreMet ds → CourseIn a c Q) →
      CourseIn a (needs ds >> c) Q
  rules-then ds c a Q q = in-then (needs ds) (λ _. c) a Q (needs-in ds a (λ b u. CourseIn b c Q) q)

  -- what must hold of the pictures that have ended after steps
  abbrev After : Type 1
  After = List CodedPicture → Unit {0} → Type 0

  frames-in : (depth : Depth) (written : List (Entry Shown)) (pictures : List CodedPicture) (Q : After) → Each (IsFirst (length pictures)) written →
      Q (decoded_at depth pictures) tt → CourseIn (decoded_at depth pictures) (told_frames depth written) Q
  frames-in depths.Units written pictures Q h q = q
  frames-in depths.Headers written pictures Q h q = q
  frames-in depths.Full [] pictures Q h q = q
  frames-in depths.Full (e ∷ written) pictures Q h q = (h.0, frames-in depths.Full written pictures Q h.1 q)

  picture-in : (depth : Depth) (p : CodedPicture) (ps : List CodedPicture) (Q : After) → P (p ∷ ps) → Q (decoded_at depth (p ∷ ps)) tt →
      CourseIn (decoded_at depth ps) (told_picture depth (p ∷ ps)) Q
  picture-in depths.Units p ps Q k q = q
  picture-in depths.Headers p ps Q k q = q
  picture-in depths.Full p ps Q k q = (refl, k, q)

  -- the frame of the picture that may go on
  closes-in : (depth : Depth) (on : Bool) (pictures : List CodedPicture) (Q : After) → (on ≡ true → P pictures) → Q (decoded_at depth pictures) tt →
      CourseIn (decoded_at depth (ended_pictures on false pictures)) (if on then end_frames depth pictures else nothing) Q
  closes-in depth true [] Q k q = q
  closes-in depth false [] Q k q = q
  closes-in depth false (p ∷ ps) Q k q = q
  closes-in depth true (p ∷ ps) Q k q =
      in-then (told_picture depth (p ∷ ps)) (λ _. told_frames depth (ended_turn p ps (within_newest (p ∷ ps)).buffer).written) (decoded_at depth ps) Q
      (picture-in depth p ps _ (k refl)
      (frames-in depth _ (p ∷ ps) Q (ended-first p ps (within_newest (p ∷ ps)).buffer (within-first p ps).1).0 q))

  whole-in : (depth : Depth) (before : History) (a : List CodedPicture) (Q : After) → Q a tt → CourseIn a (whole_steps depth before) Q
  whole-in depths.Units before a Q q = q
  whole-in depths.Headers before a Q q = q
  whole-in depths.Full before a Q q = by (goes_on before) (runs_of before)
    where
      by : (on : Bool) (pictures : List CodedPicture) → CourseIn a (if on then whole_picture pictures else nothing) Q
      by true [] = q
      by true (p ∷ ps) = λ t. q
      by false pictures = q

  -- The fact holds of all pictures where the picture that may go on has met the rules of its end.
  abbrev pub EndsWith : History → Type 0
  EndsWith before = AreMet (closing_demands before) → goes_on before ≡ true → P (runs_of before)

  -- that picture ends
  close-in : (depth : Depth) (before : History) (Q : After) → EndsWith before → Q (decoded_at depth (runs_of before)) tt →
      CourseIn (ended_at depth before) (close_steps depth before) Q
  close-in depth before Q k q =
      let a = ended_at depth before in
      in-then (whole_steps depth before) (λ _. needs (closing_demands before) >> closing_frames depth before) a Q
      (whole-in depth before a _ (rules-then (closing_demands before) (closing_frames depth before) a Q
      (λ m. closes-in depth (goes_on before) (runs_of before) Q (k m) q)))

  -- the missing numbers before a picture
  missing-in : (depth : Depth) (bit : ℕ) (current : Numbering) (numbers : List ℕ) (refs : References) (b : Buffered Shown) (pictures : List CodedPicture)
      (Q : After) → Each (IsFirst (length pictures)) b.entries → Q (decoded_at depth pictures) tt →
      CourseIn (decoded_at depth pictures) (missing_steps depth bit current numbers refs b) Q
  missing-in depth bit current [] refs b pictures Q h q = q
  missing-in depth bit current (number ∷ numbers) refs b pictures Q h q = λ t.
      by (filled (record current { frame_num = number }) refs) (λ held left more. missing-in depth bit current numbers held left pictures Q more q)
    where
      by : (o : Option References) → ((held : References) (left : Buffered Shown) → Each (IsFirst (length pictures)) left.entries →
          CourseIn (decoded_at depth pictures) (missing_steps depth bit current numbers held left) Q) →
          CourseIn (decoded_at depth pictures) (missing_on o (λ held. told_frames depth (missing_turn held b).written >>
          missing_steps depth bit current numbers held (missing_turn held b).buffer)) Q
      by None more = q
      by (Some held) more =
          let one = missing-first (length pictures) held b h in
          in-then (told_frames depth (missing_turn held b).written)
          (λ _. missing_steps depth bit current numbers held (missing_turn held b).buffer) (decoded_at depth pictures) Q
          (frames-in depth (missing_turn held b).written pictures _ one.0 (more held (missing_turn held b).buffer one.1))

  -- ---- a slice

  first-in : (depth : Depth) (pictures : List CodedPicture) (s : CodedSlice) (Q : After) → Q (decoded_at depth pictures) tt →
      CourseIn (decoded_at depth pictures) (first_slice_rules depth (pictures_before pictures) s) Q
  first-in depth pictures s Q q =
      let idr = is_idr s.header in
      let bit = s.header.frame_num.bit in
      let current = numbering_of s.sps s.header in
      let prev = prev_ref_frame_num_of pictures in
      let done = decoded_at depth pictures in
      let before = pictures_before pictures in
      let last = rules_after_gap before s in
      let missing = missing_steps depth bit current (unused_short_term_frame_nums idr prev current) (held_after pictures) (after_all pictures).buffer in
      let number = new_num_demand idr (is_reference s.header) bit prev current (held_after pictures) ∷ [] in
      rules-then (rules_before_gap s) _ done Q (λ m.
      in-then (gap_rules depth s prev (held_after pictures) (after_all pictures).buffer) (λ _. needs last) done Q
      (rules-then _ (missing >> needs number) done _ (λ m. in-then missing (λ _. needs number) done _
      (missing-in depth bit current (unused_short_term_frame_nums idr prev current) (held_after pictures) (after_all pictures).buffer pictures _
      (after-first pictures).1 (needs-in number done _ (λ m. needs-in last done Q (λ m. q)))))))

  rules-in : (depth : Depth) (begins : Bool) (pictures : List CodedPicture) (s : CodedSlice) (done : List CodedPicture) (Q : After) →
      (begins ≡ true → done ≡ decoded_at depth pictures) → Q done tt → CourseIn done (slice_rules depth begins pictures s) Q
  rules-in depth true pictures s done Q e q =
      subst (λ d. CourseIn d (first_slice_rules depth (pictures_before pictures) s) Q) (sym (e refl))
      (first-in depth pictures s Q (subst (λ d. Q d tt) (e refl) q))
  rules-in depth false pictures s done Q e q = needs-in (later_slice_rules (slices_before pictures) s) done Q (λ m. q)

  by-in : (depth : Depth) (o : Option (Pps × Sps)) (before : History) (unit : NalUnit) (h : Header) (done : List CodedPicture) (Q : After) →
      (begins_at before h ≡ true → done ≡ decoded_at depth (runs_of before)) → Q done tt → CourseIn done (steps_by depth o before unit h) Q
  by-in depth None before unit h done Q e q = q
  by-in depth (Some sets) before unit h done Q e q =
      let b = begins_at before h in
      let s = with_sets unit h [] sets in
      rules-then (standing_demands b s.sps (is_idr_due before) (maps_of before) (first_bit s) h) _ done Q (λ m.
      rules-then (first_mb_demands depth (coded_before b (runs_of before)) h) _ done Q (λ m.
      in-then (slice_rules depth b (runs_of before) s) (λ _. tells (Said (slice_call (joined_to b s (runs_of before)) s) ∷ [])) done Q
      (rules-in depth b (runs_of before) s done _ e q)))

  begins-in : (depth : Depth) (before : History) (b : Bool) (Q : After) → (b ≡ false → goes_on before ≡ true) → EndsWith before →
      Q (decoded_at depth (ended_by b (runs_of before))) tt → CourseIn (ended_at depth before) (close_if b depth before) Q
  begins-in depth before true Q g k q = close-in depth before Q k q
  begins-in depth before false Q g k q = subst (λ (on : Bool). Q (decoded_at depth (ended_pictures on false (runs_of before))) tt) (sym (g refl)) q

  slice-in : (depth : Depth) (before : History) (unit : NalUnit) (h : Header) (Q : After) → (begins_at before h ≡ false → goes_on before ≡ true) →
      EndsWith before → Q (decoded_at depth (ended_by (begins_at before h) (runs_of before))) tt →
      CourseIn (ended_at depth before) (slice_steps depth before unit h) Q
  slice-in depth before unit h Q g k q =
      let b = begins_at before h in
      in-then (close_if b depth before) (λ _. steps_by depth (sets_at before h) before unit h) (ended_at depth before) Q
      (begins-in depth before b _ g k
      (by-in depth (sets_at before h) before unit h (decoded_at depth (ended_by b (runs_of before))) Q
      (λ e. ap (λ (x : Bool). decoded_at depth (ended_by x (runs_of before))) e) q))

  -- ---- a unit

  passes-in : (depth : Depth) (before : History) (ends : Bool) (Q : After) → EndsWith before →
      Q (decoded_at depth (ended_pictures (not ends && goes_on before) false (runs_of before))) tt →
      CourseIn (ended_at depth before) (close_if ends depth before) Q
  passes-in depth before true Q k q = close-in depth before Q k (subst (λ ps. Q (decoded_at depth ps) tt) (all-ended (runs_of before)) q)
  passes-in depth before false Q k q = q

  module _ (extent : Extent) (before : History) (unit : NalUnit) where
    abbrev type_of : ℕ
    type_of = kind extent before unit

    abbrev left : List CodedPicture
    left = passed extent before unit

    -- these pictures have then ended, and no fewer than before
    abbrev Leaves : List CodedPicture → Content → Type 0
    Leaves b found = (b ≡ after extent before unit found) × Grows extent before unit found

    data-in : (depth : Depth) (h : Header) (ms : List CodedMacroblock) (bit : ℕ) (a : List CodedPicture) →
        ((ms : List CodedMacroblock) → (after extent before unit (contents.OfSlice h ms) ≡ a) × Grows extent before unit (contents.OfSlice h ms)) →
        CourseIn a (data_course depth before unit (contents.OfSlice h ms) bit) Leaves
    data-in depths.Units h ms bit a e = (sym (e ms).0, (e ms).1)
    data-in depths.Headers h ms bit a e = (sym (e ms).0, (e ms).1)
    data-in depths.Full h ms bit a e = λ es found end says.
        let is : IsWith h found = gives-derived (◌bind◌ (slice_data_at before unit h) (λ ms. Done (contents.OfSlice h ms))) (IsWith h) (body_of unit) bit es end
        found (gives-bind _ (IsWith h) _ _ (gives-any (slice_data_at before unit h)) (λ ms _. gives-done (IsWith h) (contents.OfSlice h ms) (ms, refl))) says in
        (sym (ap (after extent before unit) is.1 ∙ (e is.0).0), subst (Grows extent before unit) (sym is.1) (e is.0).1)

    content-in : (found : Content) (bit : ℕ) → EndsWith before → IsSound type_of before found →
        CourseIn left (content_steps extent.depth before unit found >> data_course extent.depth before unit found bit) Leaves
    content-in (contents.OfSps set) bit k s =
        in-then nothing (λ _. Ends (contents.OfSps set)) left Leaves (refl, passed-grows (ends_picture type_of) (goes_on before) (runs_of before))
    content-in (contents.OfPps set) bit k s =
        in-then nothing (λ _. Ends (contents.OfPps set)) left Leaves (refl, passed-grows (ends_picture type_of) (goes_on before) (runs_of before))
    content-in contents.Passed bit k s =
        in-then nothing (λ _. Ends contents.Passed) left Leaves (refl, passed-grows (ends_picture type_of) (goes_on before) (runs_of before))
    content-in (contents.OfSlice h ms) bit k s =
        let same : left ≡ ended_at extent.depth before =
        ap (λ (x : Bool). decoded_at extent.depth (ended_pictures (not x && goes_on before) false (runs_of before))) (slice-goes type_of s.0) in
        let rest = data_course extent.depth before unit (contents.OfSlice h ms) bit in
        subst (λ a. CourseIn a (slice_steps extent.depth before unit h >> rest) Leaves) (sym same)
        (in-then (slice_steps extent.depth before unit h) (λ _. rest) (ended_at extent.depth before) Leaves
        (slice-in extent.depth before unit h _ (goes-later (goes_on before) (runs_of before) h) k
        (data-in extent.depth h ms bit (decoded_at extent.depth (ended_by (begins_at before h) (runs_of before)))
        (λ ms. (slice-after extent before unit h ms s.1, slice-grows extent before unit h ms s.1)))))

    course-in : EndsWith before → CourseIn (ended_at extent.depth before) (unit_course extent before unit) Leaves
    course-in k =
        let start = ended_at extent.depth before in
        let says = tells (Said (unit_call unit.from (header_of unit) (length unit.body)) ∷ []) in
        let closes = close_if (ends_picture type_of) extent.depth before in
        rules-then (header_demands (8 * unit.from) (header_of unit)) _ start Leaves (λ m.
        in-then says (λ _. closes >> content_course extent before unit) start Leaves
        (in-then closes (λ _. content_course extent before unit) start Leaves
        (passes-in extent.depth before (ends_picture type_of) _ k (λ es found end says.
        content-in found end k
        (gives-derived (content extent type_of before unit) (IsSound type_of before) (body_of unit) 0 es end found (sound-content extent type_of before unit)
        says)))))

    abbrev ToldTo : List Told → Result Content Stop → Type 0
    ToldTo calls (Ok c) = InOrder (ended_at extent.depth before) calls (after extent before unit c) × Grows extent before unit c
    ToldTo calls (Err stop) = ToSome (ended_at extent.depth before) calls

    pub unit-in : EndsWith before → (calls : List Told) (answer : Result Content Stop) → Runs (unit_course extent before unit) calls answer →
        ToldTo calls answer
    unit-in k calls answer r = by answer (runs-in Leaves (unit_course extent before unit) calls answer (ended_at extent.depth before) (course-in k) r)
      where
        by : (answer : Result Content Stop) → ToldBy Leaves (ended_at extent.depth before) calls answer → ToldTo calls answer
        by (Ok c) t = (subst (λ b. InOrder (ended_at extent.depth before) calls b) t.2.0 t.1, t.2.1)
        by (Err stop) t = t

  -- ---- legal units, and a verdict

  -- the fact holds of the pictures of all legal units that have met the rules of their end
  abbrev pub HoldsAtEnds : Extent → Type 0
  HoldsAtEnds extent = (before : History) (told : List Told) → AreLegal extent before told → EndsWith before

  module _ (extent : Extent) (holds : HoldsAtEnds extent) where
    pub legal-in : (before : History) (told : List Told) → AreLegal extent before told → InOrder [] told (ended_at extent.depth before)
    legal-in [] told l = subst (λ t. InOrder [] t (ended_at extent.depth [])) (sym l) (none extent.depth)
      where
        none : (depth : Depth) → decoded_at depth [] ≡ []
        none depths.Units = refl
        none depths.Headers = refl
        none depths.Full = refl
    legal-in (r ∷ before) told l =
        subst (λ t. InOrder [] t (ended_at extent.depth (r ∷ before))) (sym l.4)
        (in-both l.0 l.1 [] (ended_at extent.depth before) (ended_at extent.depth (r ∷ before)) (legal-in before l.0 l.2)
        (unit-in extent before r.unit (holds before l.0 l.2) l.1 (Ok r.content) l.3.runs).0)

    abbrev AllEnded : History → List CodedPicture → Unit {0} → Type 0
    AllEnded before b u = b ≡ decoded_at extent.depth (runs_of before)

    end-in : (before : History) (bit : ℕ) → EndsWith before →
        CourseIn (ended_at extent.depth before) (end_steps extent.depth before bit) (AllEnded before)
    end-in before bit k =
        let depth = extent.depth in
        let last = picture_demand depth before bit ∷ [] in
        in-then (close_steps depth before) (λ _. needs last >> last_frames depth (runs_of before)) (ended_at depth before) (AllEnded before)
        (close-in depth before _ k
        (rules-then last (last_frames depth (runs_of before)) (decoded_at depth (runs_of before)) (AllEnded before)
        (λ t. frames-in depth _ (runs_of before) (AllEnded before) (last-first (runs_of before)) refl)))

    stop-in : (before : History) (units : List NalUnit) (tail : Tail) (end : ℕ) (stop : Stop) (calls : List Told) → EndsWith before →
        IsStopAfter extent before (remainder units tail end) stop calls → ToSome (ended_at extent.depth before) calls
    stop-in before units tail end stop calls k (AtNext unit later e (AtBytes place fault f n)) = none-in calls (ended_at extent.depth before) n
    stop-in before units tail end stop calls k (AtNext unit later e (InCourse sound runs)) = unit-in extent before unit k calls (Err stop) runs
    stop-in before units tail end stop calls k (AtTail e h n) = none-in calls (ended_at extent.depth before) n
    stop-in before units tail end stop calls k (AtEnd e t h) =
        runs-in (AllEnded before) (end_steps extent.depth before (8 * end)) calls (Err stop) (ended_at extent.depth before) (end-in before (8 * end) k) h

    -- of a stream with a yes, up to all pictures
    pub whole-in-order : (bytes : List ℕ) (told : List Told) (summary : Summary) (h : Holds extent bytes told summary) →
        InOrder [] told (decoded_at extent.depth (runs_of h.units))
    whole-in-order bytes told summary h =
        let a = ended_at extent.depth h.units in
        let b = decoded_at extent.depth (runs_of h.units) in
        let last = runs-in (AllEnded h.units) (end_steps extent.depth h.units (8 * length bytes)) h.last (Ok tt) a
        (end-in h.units (8 * length bytes) (holds h.units h.first h.legal)) h.end in
        subst (λ t. InOrder [] t b) (sym h.calls_are)
        (in-both h.first h.last [] a b (legal-in h.units h.first h.legal) (subst (λ x. InOrder a h.last x) last.2 last.1))

    pub verdict-in : (bytes : List ℕ) (told : List Told) (answer : Result Summary Stop) → Verdict extent bytes told answer → ToSome [] told
    verdict-in bytes told (Ok summary) h = (decoded_at extent.depth (runs_of h.units), whole-in-order bytes told summary h)
    verdict-in bytes told (Err stop) h =
        let s = stop-in h.before h.units h.tail (length bytes) stop h.last (holds h.before h.first h.legal) h.stops in (
          s.0,
          subst (λ t. InOrder [] t s.0) (sym h.calls_are)
              (in-both h.first h.last [] (ended_at extent.depth h.before) s.0 (legal-in h.before h.first h.legal) s.1),
        )

  -- so is a front of it
  pub front-in : (told rest : List Told) → ToSome [] (told ++ rest) → ToSome [] told
  front-in told rest t = let parts = in-parts told rest [] t.0 t.1 in (parts.0, parts.1)

-- ---- one unit more

-- No fewer pictures have ended after a legal unit, and what it tells is of those.
pub unit-grows : (extent : Extent) (before : History) (r : ReadUnit) (calls : List Told) → IsLegal extent before r calls →
    (ended_in before ≤ ended_in (r ∷ before)) × AreOf (ended_in (r ∷ before)) calls
unit-grows extent before r calls l =
    let any : List CodedPicture → Type 0 = λ pictures. Unit {0} in
    let u = unit-in any extent before r.unit (λ m e. tt) calls (Ok r.content) l.runs in (
      u.1,
      of-more (length (ended_at extent.depth (r ∷ before))) (ended_in (r ∷ before)) calls
          (few extent.depth (ended_pictures (goes_on (r ∷ before)) false (runs_of (r ∷ before))))
          (in-of any calls (ended_at extent.depth before) (ended_at extent.depth (r ∷ before)) u.0),
    )
  where
    few : (depth : Depth) (pictures : List CodedPicture) → length (decoded_at depth pictures) ≤ length pictures
    few depths.Units pictures = omega arith
    few depths.Headers pictures = omega arith
    few depths.Full pictures = omega arith

frames-of : (n : ℕ) (depth : Depth) (written : List (Entry Shown)) → Each (IsFirst n) written → AreOf n (outcome_of (told_frames depth written)).calls
frames-of n depths.Units written h = tt
frames-of n depths.Headers written h = tt
frames-of n depths.Full [] h = tt
frames-of n depths.Full (e ∷ written) h = (h.0, frames-of n depths.Full written h.1)

-- What the end of a picture tells is of the pictures that have ended then.
pub closing-of : (depth : Depth) (before : History) →
    AreOf (length (ended_pictures (goes_on before) true (runs_of before))) (outcome_of (closing_frames depth before)).calls
unfolding ◌then◌
closing-of depth before = by depth (goes_on before) (runs_of before)
  where
    by : (depth : Depth) (on : Bool) (pictures : List CodedPicture) →
        AreOf (length (ended_pictures on true pictures)) (outcome_of (if on then end_frames depth pictures else nothing)).calls
    by depth false pictures = tt
    by depth true [] = tt
    by depths.Units true (p ∷ ps) = tt
    by depths.Headers true (p ∷ ps) = tt
    by depths.Full true (p ∷ ps) =
        (omega arith, frames-of (length (p ∷ ps)) depths.Full _ (ended-first p ps (within_newest (p ∷ ps)).buffer (within-first p ps).1).0)
