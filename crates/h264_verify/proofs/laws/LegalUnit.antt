-- What a unit that is legal has met, and what it tells of decoded pictures.
use Rattle.std.proofs.Common.{◌≡◌, ℕ, ◌*◌, true, List, [], ◌∷◌, length, Option, Some, None, Ok, refl}
use Rattle.std.proofs.Common.{subst, if◌then◌else◌}
use Rattle.std.specs.Option.{is_some}
use Rattle.h264_verify.specs.Units.{extent_at, unit_call, slice_unit}
use Rattle.h264_base.specs.declared.mode.Target.{Target}
use Rattle.h264_verify.specs.declared.state.Depth.TheVariants as depths
use Rattle.h264_base.specs.Body.{Body}
use Rattle.h264_base.specs.Grammar.{Grammar, Element, Says}
use Rattle.h264_base.proofs.Gives.{Gives, gives-any, gives-both, gives-weaker, gives-derived}
use Rattle.h264_rbsp.specs.Rbsp.{body_of}
use Rattle.h264_units.specs.Stream.{NalUnit}
use Rattle.h264_sps.specs.declared.sps.Sps.{Sps}
use Rattle.h264_sps.specs.Sps.{sps}
use Rattle.h264_pps.specs.declared.Pps.{Pps}
use Rattle.h264_bits.specs.declared.element.Found.{Found}
use Rattle.h264_header.specs.declared.header.Header.{Header}
use Rattle.h264_header.specs.declared.header.Marking.{Marking}
use Rattle.h264_header.specs.declared.header.SliceUnit.{SliceUnit}
use Rattle.h264_header.specs.Header.{header}
use Rattle.h264_header.specs.Layout.{sets_of}
use Rattle.h264_header.specs.Picture.{is_idr}
use Rattle.h264_verify.specs.Telling.{Told, Said}
use Rattle.h264_verify.specs.Content.{Content}
use Rattle.h264_verify.specs.Content as contents
use Rattle.h264_verify.specs.Course.{Reads, Ends, ◌>>◌, tells}
use Rattle.h264_units.specs.UnitHeader.{header_of, nal_unit_type, ends_picture}
use Rattle.h264_verify.specs.Order.{header_demands, closing_demands, close_if, content, content_steps, data_course, content_course, unit_course}
use Rattle.h264_verify.specs.History.{History, ReadUnit, maps_of}
use Rattle.h264_verify.specs.Verdict.{IsLegal}
use Rattle.h264_verify.proofs.language.MetRules.{Met, IsMet, AreMet, runs-met, steps-met, rules-met, closing-met}
use Rattle.h264_verify.proofs.judged.HeaderSets.{HasSets, sets-given, content-gives}
use Rattle.h264_verify.proofs.judged.HeaderMarking.{IsOfUnit, marked-of, header-gives as unit-gives}
use Rattle.h264_verify.proofs.samples.NamedSizes.{LeavesAlone}
use Rattle.h264_verify.specs.Sound.{is_own, IsMarked}

-- what the derivation of a structure gives
pub given : {A : Type 0} (P : A → Type 0) (g : Grammar A) (body : Body) (i : ℕ) (es : List Element) (x : A) (j : ℕ) → Gives g P →
    Says g body i es (Ok (x, j)) → P x
given P g body i es x j h s = gives-derived g P body i es j x h s

-- ---- a unit

-- What a unit after these with this content has met, in its parts.
pub record HasMet (target : Target) (before : History) (unit : NalUnit) (c : Content) : Type 0 where
  pub header : AreMet (header_demands (8 * unit.from) (header_of unit))
  pub ends : AreMet (if ends_picture (nal_unit_type (header_of unit)) then closing_demands before else [])
  pub found : Content
  pub bit : ℕ
  pub elements : List Element
  pub says : Says (content (extent_at depths.Full target) (nal_unit_type (header_of unit)) before unit) (body_of unit) 0 elements (Ok (found, bit))
  pub rules : IsMet (content_steps depths.Full before unit found)
  pub following : Met (data_course depths.Full before unit found bit) (λ x. x ≡ c)

pub has-met : (target : Target) (before : History) (r : ReadUnit) (calls : List Told) → IsLegal (extent_at depths.Full target) before r calls →
    HasMet target before r.unit r.content
has-met target before r calls l =
    let unit = r.unit in
    let ends = ends_picture (nal_unit_type (header_of unit)) in
    let demands = header_demands (8 * unit.from) (header_of unit) in
    let says = tells (Said (unit_call unit.from (header_of unit) (length unit.body)) ∷ []) in
    let closes = close_if ends depths.Full before in
    let rest = content_course (extent_at depths.Full target) before unit in
    let Is : Content → Type 0 = λ x. x ≡ r.content in
    let first = rules-met demands (says >> closes >> rest) Is (runs-met (unit_course (extent_at depths.Full target) before unit) calls r.content l.runs) in
    let ended = steps-met closes rest Is (steps-met says (closes >> rest) Is first.1).1 in
    let read = ended.1 in
    let last = steps-met (content_steps depths.Full before unit read.1) (data_course depths.Full before unit read.1 read.2) Is read.4 in
    record {
      header = first.0;
      ends = closing-met ends depths.Full before ended.0;
      found = read.1;
      bit = read.2;
      elements = read.0;
      says = read.3;
      rules = last.0;
      following = last.1;
    }

-- ---- the header of a slice

-- it has its sets, and is one of its unit
pub record IsHeader (sets : ℕ → Option (Pps × Sps)) (u : SliceUnit) (h : Header) : Type 0 where
  pub named : is_some (sets h.pic_parameter_set_id.value) ≡ true
  pub unit : IsOfUnit u h

header-gives : (sets : ℕ → Option (Pps × Sps)) (u : SliceUnit) → Gives (header sets u) (IsHeader sets u)
header-gives sets u = gives-weaker (header sets u) _ (IsHeader sets u)
    (gives-both (HasSets sets) (IsOfUnit u) (header sets u) (sets-given sets u) (unit-gives sets u)) (λ h b. record { named = b.0; unit = b.1 })

-- ---- what stands in a unit

abbrev pub IsContent : History → NalUnit → Content → Type 0
IsContent before unit (contents.OfSps set) = Unit {0}
IsContent before unit (contents.OfPps set) = Unit {0}
IsContent before unit (contents.OfSlice h macroblocks) = IsHeader (sets_of (maps_of before)) (slice_unit unit) h
IsContent before unit contents.Passed = Unit {0}

pub is-content : (target : Target) (before : History) (unit : NalUnit) (c : Content) (m : HasMet target before unit c) → IsContent before unit m.found
is-content target before unit c m =
    given (IsContent before unit) _ (body_of unit) 0 m.elements m.found m.bit
    (content-gives (IsContent before unit) (extent_at depths.Full target) (nal_unit_type (header_of unit)) before unit (gives-any (sps target)) (λ set. tt)
    (λ slice. header-gives (sets_of (maps_of before)) (slice_unit unit)) tt) m.says

-- a slice of an IDR picture has a marking that leaves its frame alone
leaves-alone : (marking : Option (Found Marking)) → is_some marking ≡ true → is_own marking ≡ true → LeavesAlone marking
leaves-alone None s o = cc
leaves-alone (Some found) s o = o

pub marked-alone : (h : Header) → IsMarked h → is_idr h ≡ true → LeavesAlone h.marking
marked-alone h m i = leaves-alone h.marking (m.some (m.idr i)) (m.own i)

-- it is marked as its unit says
pub header-marked : (before : History) (unit : NalUnit) (h : Header) → AreMet (header_demands (8 * unit.from) (header_of unit)) →
    IsHeader (sets_of (maps_of before)) (slice_unit unit) h →
    IsMarked h
header-marked before unit h m k = marked-of (header_of unit) (slice_unit unit) h refl m.1.0 k.unit

-- ---- slice data

-- what is read last
pub read-gives : (body : Body) (g : Grammar Content) (bit : ℕ) (c : Content) (P : Content → Type 0) → Gives g P →
    Met (Reads body bit g (λ whole end. Ends whole)) (λ x. x ≡ c) → P c
read-gives body g bit c P h m = subst P m.4 (given P g body bit m.0 m.1 m.2 h m.3)
