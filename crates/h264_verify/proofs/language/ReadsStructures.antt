-- Structures that are read from a bit on, and a slice with its slice data.
use Rattle.std.proofs.Common.{◌≡◌, ℕ, Bool, true, false, List, [], ◌∷◌, Some, Result, Ok, Err, refl, ap, sym, ◌∙◌, subst, length, ◌==◌, eqb-true}
use Rattle.h264_verify.specs.declared.state.Depth.{Depth}
use Rattle.h264_verify.specs.declared.state.Depth.TheVariants as depths
use Rattle.h264_base.specs.declared.stop.Stop.{Stop}
use Rattle.h264_base.specs.declared.stop.Stop.TheVariants.{No, Outside, Memory, Read, Write}
use Rattle.h264_base.specs.Call.{Call, span}
use Rattle.h264_base.specs.Run.{run}
use Rattle.h264_verify.specs.Telling.{Told, took_with, Family}
use Rattle.h264_verify.proofs.language.ToldAsIs.{elements-tell, elements-front}
use Rattle.h264_base.specs.Body.{Body}
use Rattle.h264_base.specs.Grammar.{Grammar, Done, ◌>>=◌ as ◌bind◌}
use Rattle.h264_base.specs.Meets.{Reader, Meets, MeetsBy, Answers, AnswersBy, Is}
use Rattle.h264_units.specs.Stream.{NalUnit}
use Rattle.h264_rbsp.specs.Rbsp.{body_of}
use Rattle.h264_sps.specs.declared.sps.Sps.{Sps}
use Rattle.h264_sps.specs.Sps.{sps}
use Rattle.h264_pps.specs.Pps.{pps}
use Rattle.h264_pps.specs.declared.Pps.{Pps}
use Rattle.h264_header.specs.declared.header.Header.{Header}
use Rattle.h264_near.specs.Coded.{CodedMacroblock}
use Rattle.h264_sets.specs.Sets.{Maps}
use Rattle.h264_header.specs.Layout.{sets_of}
use Rattle.h264_lists.specs.declared.slot.RefSlot.{RefSlot}
use Rattle.h264_picture.specs.Context.{slice_context}
use Rattle.h264_vectors.specs.declared.slice.SliceContext.{SliceContext}
use Rattle.h264_verify.specs.Content.{Content}
use Rattle.h264_verify.specs.Content as contents
use Rattle.h264_verify.specs.Outcome.{Outcome, ◌>>=◌, Plays, PlaysBy}
use Rattle.h264_verify.specs.History.{History, maps_of}
use Rattle.h264_verify.specs.Pictures.{CodedSlice, CodedPicture, with_sets, sets_at, begins_at, runs_of}
use Rattle.h264_verify.specs.Slices.{first_mb_demands}
use Rattle.h264_verify.specs.declared.state.Extent.{Extent}
use Rattle.h264_verify.specs.Order.{content, data_course, coded_before}
use Rattle.h264_verify.specs.Data.{coded_so_far, data_in, data_by, slice_data_at}
use Rattle.h264_header.specs.declared.header.SliceUnit.{SliceUnit}
use Rattle.h264_header.specs.Header.{header}
use Rattle.h264_base.specs.declared.rule.Rule.TheVariants.{FirstMb}
use Rattle.h264_verify.specs.Demands.{judged}
use Rattle.h264_units.specs.UnitHeader.{header_of, nal_unit_type, is_slice}
use Rattle.h264_verify.specs.Units.{slice_unit, slice_unit_of}
use Rattle.h264_verify.proofs.language.SliceSteps.{ok-true}
use Rattle.h264_verify.specs.CourseOutcome.{structure_from, outcome_of}
use Rattle.h264_verify.specs.UnitOutcome.{joins}
use Rattle.h264_verify.specs.Memory.{reads_slices, is_kind_read}
use Rattle.h264_verify.proofs.judged.WantOfMemory.{passed-content, slice-content, sps-content, pps-content}
use Rattle.h264_verify.proofs.language.OutcomesPlayed.{gives-plays}
use Rattle.h264_verify.proofs.language.Courses.{outcome}
use Rattle.h264_verify.proofs.language.CourseParts.{seen, structure-seen}
use Rattle.h264_verify.proofs.language.Played.{starts, read, unread, ended}

-- What meets a grammar from a bit on plays its outcome, with the bit after it.
module _ {A S X : Type 0} (frames : Family) (took : S → List Call → Type 0) (failures : S → ℕ) (view : X → A) (g : Grammar A) (body : Body) (i j : ℕ)
    (s s' : S) where
  from-meets : (r : Result X Stop) → MeetsBy (span took failures s s') (Is view) g (record { body = body; at = i }) j r →
      AnswersBy (span took failures s s') (Is view) g (record { body = body; at = i }) j r →
      PlaysBy (span (took_with frames took) failures s s') (λ (x : X). (view x, j)) (structure_from g body i) r
  from-meets (Ok x) m a = (
    m.2 ∙ ap (λ (v : A). let r : Result (A × ℕ) Stop = Ok (v, j) in r) m.1,
    elements-tell frames took s s' body (run g body i).elements m.3,
    m.4,
  )
  from-meets (Err (No bit rule)) m a = (m.0, elements-tell frames took s s' body (run g body i).elements m.1, m.2)
  from-meets (Err (Outside bit feature)) m a = (m.0, elements-tell frames took s s' body (run g body i).elements m.1, m.2)
  from-meets (Err Memory) m a = absurd a
  from-meets (Err Read) m a = absurd a
  from-meets (Err Write) m a = (elements-front frames took s s' body (run g body i).elements m.0, m.1)

-- the same for a value that is seen otherwise
module _ {A B S X : Type 0} (took : S → List Told → Type 0) (failures : S → ℕ) (view : X → A × ℕ) (f : A → B) (g : Grammar A) (body : Body) (i : ℕ) (s s' : S)
  where
    abbrev as_seen : Outcome (B × ℕ)
    as_seen = outcome (structure_from g body i).calls (seen f (structure_from g body i).answer)

    seen-by : (r : Result X Stop) → PlaysBy (span took failures s s') view (structure_from g body i) r →
        PlaysBy (span took failures s s') (λ (x : X). (f (view x).0, (view x).1)) as_seen r
    seen-by (Ok x) p = (ap (seen f) p.0, p.1, p.2)
    seen-by (Err (No bit rule)) p = (ap (seen f) p.0, p.1, p.2)
    seen-by (Err (Outside bit feature)) p = (ap (seen f) p.0, p.1, p.2)
    seen-by (Err Memory) p = p
    seen-by (Err Read) p = p
    seen-by (Err Write) p = p

    pub plays-seen : (r : Result X Stop) → Plays (span took failures s s') view (structure_from g body i) r →
        Plays (span took failures s s') (λ (x : X). (f (view x).0, (view x).1)) (structure_from (◌bind◌ g (λ y. Done (f y))) body i) r
    plays-seen r p = subst (λ (o : Outcome (B × ℕ)). Plays (span took failures s s') (λ (x : X). (f (view x).0, (view x).1)) o r)
        (sym (structure-seen body f g i)) (record { plays = seen-by r p.plays })

pub meets-from : {A S X : Type 0} (frames : Family) (took : S → List Call → Type 0) (failures : S → ℕ) (view : X → A) (g : Grammar A) (body : Body) (i : ℕ)
    (old new : Reader) (s s' : S) (r : Result X Stop) → old ≡ record { body = body; at = i } → Meets (span took failures s s') (Is view) g old new r →
    Answers (span took failures s s') (Is view) g old new r →
    Plays (span (took_with frames took) failures s s') (λ (x : X). (view x, new.at)) (structure_from g body i) r
meets-from frames took failures view g body i old new s s' r e m a =
    let m' = subst (λ o. Meets (span took failures s s') (Is view) g o new r) e m in
    let a' = subst (λ o. Answers (span took failures s s') (Is view) g o new r) e a in
    record { plays = from-meets frames took failures view g body i new.at s s' r m'.meets a' }

-- a slice's number is its first_mb_in_slice
pub number-is : (pps : Pps) (sps : Sps) (header : Header) (list : List RefSlot) (s : CodedSlice) (n : ℕ) (c : SliceContext) → c ≡
    slice_context pps sps header list → header ≡ record s.header { marking = header.marking } → s.header.first_mb_in_slice.value ≡ n → c.number ≡ n
unfolding slice_context
number-is pps sps header list s n c e h f = ap (λ (x : SliceContext). x.number) e ∙ ap (λ (x : Header). x.first_mb_in_slice.value) h ∙ f

-- how many macroblocks are coded before a slice, by its rule
coded-same : (begins : Bool) (pictures : List CodedPicture) → coded_before begins pictures ≡ length (coded_so_far begins pictures)
coded-same true pictures = refl
coded-same false pictures = refl

place-by : (a b bit : ℕ) → (let r : Result (Unit {0}) Stop = Ok tt in r ≡ judged (record { rule = FirstMb; bit = bit; met = a == b } ∷ [])) → a ≡ b
place-by a b bit h = eqb-true a b (ok-true (a == b) tt (No bit FirstMb) h)

pub placed : (begins : Bool) (pictures : List CodedPicture) (h : Header) →
    (let r : Result (Unit {0}) Stop = Ok tt in r ≡ judged (first_mb_demands depths.Full (coded_before begins pictures) h)) →
    h.first_mb_in_slice.value ≡ length (coded_so_far begins pictures)
placed begins pictures h p = place-by h.first_mb_in_slice.value (coded_before begins pictures) h.first_mb_in_slice.bit p ∙ coded-same begins pictures

-- a unit that is passed over
pub passed-read : {S : Type 0} (extent : Extent) (took : S → List Told → Type 0) (failures : S → ℕ) (before : History) (unit : NalUnit) (s : S) →
    is_kind_read extent.depth (nal_unit_type (header_of unit)) ≡ false →
    Plays (span took failures s s) (λ (u : Unit {0}). (contents.Passed, 0))
    (structure_from (content extent (nal_unit_type (header_of unit)) before unit) (body_of unit) 0) (Ok tt)
unfolding run
passed-read extent took failures before unit s e =
    subst (λ (g : Grammar Content). Plays (span took failures s s) (λ (u : Unit {0}). (contents.Passed, 0)) (structure_from g (body_of unit) 0) (Ok tt))
    (sym (passed-content extent (nal_unit_type (header_of unit)) before unit e)) (gives-plays took failures (λ (u : Unit {0}). (contents.Passed, 0)) tt s)

-- a parameter set was read
pub sps-read : {S : Type 0} (extent : Extent) (frames : Family) (took : S → List Call → Type 0) (failures : S → ℕ) (before : History) (unit : NalUnit)
    (old new : Reader) (s s' : S) (r : Result Sps Stop) → nal_unit_type (header_of unit) ≡ 7 → old ≡ record { body = body_of unit; at = 0 } →
    Meets (span took failures s s') (Is (λ (x : Sps). x)) (sps extent.target) old new r →
    Answers (span took failures s s') (Is (λ (x : Sps). x)) (sps extent.target) old new r →
    Plays (span (took_with frames took) failures s s') (λ (x : Sps). (contents.OfSps x, new.at))
    (structure_from (content extent (nal_unit_type (header_of unit)) before unit) (body_of unit) 0) r
sps-read extent frames took failures before unit old new s s' r kind o meets answers =
    subst (λ (g : Grammar Content). Plays (span (took_with frames took) failures s s') (λ (x : Sps). (contents.OfSps x, new.at))
    (structure_from g (body_of unit) 0) r) (sym (sps-content extent (nal_unit_type (header_of unit)) before unit kind))
    (plays-seen (took_with frames took) failures (λ (x : Sps). (x, new.at)) contents.OfSps (sps extent.target) (body_of unit) 0 s s' r
    (meets-from frames took failures (λ (x : Sps). x) (sps extent.target) (body_of unit) 0 old new s s' r o meets answers))

pub pps-read : {S : Type 0} (extent : Extent) (frames : Family) (took : S → List Call → Type 0) (failures : S → ℕ) (before : History) (unit : NalUnit)
    (old new : Reader) (s s' : S) (r : Result Pps Stop) → nal_unit_type (header_of unit) ≡ 8 → old ≡ record { body = body_of unit; at = 0 } →
    Meets (span took failures s s') (Is (λ (x : Pps). x)) (pps extent.target) old new r →
    Answers (span took failures s s') (Is (λ (x : Pps). x)) (pps extent.target) old new r →
    Plays (span (took_with frames took) failures s s') (λ (x : Pps). (contents.OfPps x, new.at))
    (structure_from (content extent (nal_unit_type (header_of unit)) before unit) (body_of unit) 0) r
pps-read extent frames took failures before unit old new s s' r kind o meets answers =
    subst (λ (g : Grammar Content). Plays (span (took_with frames took) failures s s') (λ (x : Pps). (contents.OfPps x, new.at))
    (structure_from g (body_of unit) 0) r) (sym (pps-content extent (nal_unit_type (header_of unit)) before unit kind))
    (plays-seen (took_with frames took) failures (λ (x : Pps). (x, new.at)) contents.OfPps (pps extent.target) (body_of unit) 0 s s' r
    (meets-from frames took failures (λ (x : Pps). x) (pps extent.target) (body_of unit) 0 old new s s' r o meets answers))

-- the header of a slice was read, where slices are read
pub header-read : {S X : Type 0} (extent : Extent) (frames : Family) (took : S → List Call → Type 0) (failures : S → ℕ) (before : History) (unit : NalUnit)
    (byte : ℕ) (sets : Maps) (u : SliceUnit) (h : Header) (old new : Reader) (s s' : S) (r : Result X Stop) → reads_slices extent.depth ≡ true →
    is_slice (nal_unit_type (header_of unit)) ≡ true → sets ≡ maps_of before → byte ≡ header_of unit → u ≡ slice_unit_of byte →
    old ≡ record { body = body_of unit; at = 0 } → Meets (span took failures s s') (Is (λ (x : X). h)) (header (sets_of sets) u) old new r →
    Answers (span took failures s s') (Is (λ (x : X). h)) (header (sets_of sets) u) old new r →
    Plays (span (took_with frames took) failures s s') (λ (x : X). (contents.OfSlice h [], new.at))
    (structure_from (content extent (nal_unit_type (header_of unit)) before unit) (body_of unit) 0) r
header-read {X} extent frames took failures before unit byte sets u h old new s s' r reads slice m b e o meets answers =
    let unit-is : u ≡ slice_unit unit = e ∙ ap slice_unit_of b in
    let p = meets-from frames took failures (λ (x : X). h) (header (sets_of sets) u) (body_of unit) 0 old new s s' r o meets answers in
    let q = subst (λ (w : Maps). Plays (span (took_with frames took) failures s s') (λ (x : X). (h, new.at))
    (structure_from (header (sets_of w) u) (body_of unit) 0) r) m p in
    let w = subst (λ (v : SliceUnit). Plays (span (took_with frames took) failures s s') (λ (x : X). (h, new.at))
    (structure_from (header (sets_of (maps_of before)) v) (body_of unit) 0) r) unit-is q in
    subst (λ (g : Grammar Content). Plays (span (took_with frames took) failures s s') (λ (x : X). (contents.OfSlice h [], new.at))
    (structure_from g (body_of unit) 0) r) (sym (slice-content extent (nal_unit_type (header_of unit)) before unit reads slice))
    (plays-seen (took_with frames took) failures (λ (x : X). (h, new.at)) (λ k. contents.OfSlice k []) (header (sets_of (maps_of before)) (slice_unit unit))
    (body_of unit) 0 s s' r w)

-- the same structure at the same bit
pub data-there : {S X : Type 0} (took : S → List Told → Type 0) (failures : S → ℕ) (view : X → List CodedMacroblock × ℕ) (pictures : List CodedPicture)
    (s : CodedSlice) (begins there : Bool) (body at_body : Body) (bit : ℕ) (s1 s2 : S) (r : Result X Stop) → begins ≡ there → body ≡ at_body →
    Plays (span took failures s1 s2) view (structure_from (data_in begins pictures s) body bit) r →
    Plays (span took failures s1 s2) view (structure_from (data_in there pictures s) at_body bit) r
data-there took failures view pictures s begins there body at_body bit s1 s2 r e b p =
    subst (λ (x : Bool). Plays (span took failures s1 s2) view (structure_from (data_in x pictures s) at_body bit) r) e
    (subst (λ (w : Body). Plays (span took failures s1 s2) view (structure_from (data_in begins pictures s) w bit) r) b p)

-- Slice data were read, or stop, and the slice joins the units before it.
module _ {S : Type 0} (took : S → List Told → Type 0) (failures : S → ℕ) (before : History) (unit : NalUnit) (h : Header) (sets : Pps × Sps)
    (named : sets_at before h ≡ Some sets) (ms : List CodedMacroblock) (bit end : ℕ) (s s' : S) where
  abbrev body_data : Grammar (List CodedMacroblock)
  body_data = data_in (begins_at before h) (runs_of before) (with_sets unit h [] sets)

  data-is : slice_data_at before unit h ≡ body_data
  unfolding slice_data_at
  data-is = ap (λ o. data_by o before unit h) named

  abbrev Joined : Depth → Result (Unit {0}) Stop → Type 0
  Joined depth r = Plays (span took failures s s') (λ (x : Unit {0}). record { unit = unit; content = contents.OfSlice h ms } ∷ before)
      (outcome_of (data_course depth before unit (contents.OfSlice h []) bit) >>= joins before unit) r

  by-answer : (r : Result (Unit {0}) Stop) →
      Plays (span took failures s s') (λ (x : Unit {0}). (contents.OfSlice h ms, end))
      (structure_from (◌bind◌ (slice_data_at before unit h) (λ k. Done (contents.OfSlice h k))) (body_of unit) bit) r → Joined depths.Full r
  by-answer (Ok x) p = ended took failures (read took failures (starts took failures (joins before unit)
      (data_course depths.Full before unit (contents.OfSlice h []) bit) s) p)
      (gives-plays took failures (λ (x : Unit {0}). record { unit = unit; content = contents.OfSlice h ms } ∷ before) x s')
  by-answer (Err e) p = unread took failures (starts took failures (joins before unit) (data_course depths.Full before unit (contents.OfSlice h []) bit) s) p

  pub data-joins : (depth : Depth) → depth ≡ depths.Full → (r : Result (Unit {0}) Stop) →
      Plays (span took failures s s') (λ x. (ms, end)) (structure_from body_data (body_of unit) bit) r → Joined depth r
  data-joins depth full r p =
      let d = subst (λ (g : Grammar (List CodedMacroblock)). Plays (span took failures s s') (λ (x : Unit {0}). (ms, end))
      (structure_from g (body_of unit) bit) r) (sym data-is) p in
      subst (λ (m : Depth). Joined m r) (sym full)
      (by-answer r (plays-seen took failures (λ (x : Unit {0}). (ms, end)) (contents.OfSlice h) (slice_data_at before unit h) (body_of unit) bit s s' r d))
