-- Where want of memory comes from.
use Rattle.std.proofs.Common.{◌≡◌, ℕ, ◌==◌, ◌&&◌, ◌||◌, Bool, true, false, Option, Some, None, List, [], ◌∷◌, Result, Ok, Err, refl, ap, sym, ◌∙◌, subst}
use Rattle.std.proofs.Common.{if◌then◌else◌, arith}
use Rattle.std.proofs.lemmas.Bool.Decides.{nat_tests}
use Rattle.std.proofs.lemmas.Bool.{and_parts}
use Rattle.std.specs.Prelude.{IsErrOf}
use Rattle.h264_verify.specs.declared.state.Depth.{Depth}
use Rattle.h264_verify.specs.declared.state.Depth.TheVariants as depths
use Rattle.h264_base.specs.declared.stop.Stop.{Stop}
use Rattle.h264_base.specs.declared.stop.Stop.TheVariants.{No, Outside, Memory, Read, Write}
use Rattle.h264_base.specs.Call.{Call, span}
use Rattle.h264_base.specs.Body.{Body}
use Rattle.h264_base.specs.Grammar.{Grammar, Done, ◌>>=◌ as ◌bind◌}
use Rattle.h264_base.specs.Meets.{Reader, Meets, Answers, Is}
use Rattle.h264_units.specs.Stream.{NalUnit}
use Rattle.h264_rbsp.specs.Rbsp.{body_of}
use Rattle.h264_sps.specs.declared.sps.Sps.{Sps}
use Rattle.h264_pps.specs.declared.Pps.{Pps}
use Rattle.h264_header.specs.declared.header.Header.{Header}
use Rattle.h264_header.specs.declared.header.SliceUnit.{SliceUnit}
use Rattle.h264_header.specs.Layout.{sets_of}
use Rattle.h264_header.specs.Header.{header as header_syntax}
use Rattle.h264_sets.specs.Sets.{Maps}
use Rattle.h264_verify.specs.Content as contents
use Rattle.h264_verify.specs.Outcome.{IsNamed}
use Rattle.h264_units.specs.UnitHeader.{header_of, nal_unit_type, is_slice}
use Rattle.h264_verify.specs.History.{History, maps_of}
use Rattle.h264_verify.specs.Pictures.{CodedPicture, runs_of, begins_at}
use Rattle.h264_verify.specs.declared.decoder.Decoder.{Decoder}
use Rattle.h264_verify.specs.declared.decoder.Format.{Format}
use Rattle.h264_verify.specs.Keeping.{KeepsFrames, WhereMade, format_in}
use Rattle.h264_verify.specs.Memory.{format_of, reads_slices, is_kind_read, bytes_of, HasAnotherFormat, BeginsAnotherFormat}
use Rattle.h264_verify.specs.declared.state.Extent.{Extent}
use Rattle.h264_sps.specs.Sps.{sps}
use Rattle.h264_pps.specs.Pps.{pps}
use Rattle.h264_verify.specs.Order.{content}
use Rattle.h264_verify.specs.Units.{slice_unit, slice_unit_of, other_content, header_content}
use Rattle.h264_base.proofs.Plain.{choose-true}
use Rattle.h264_verify.specs.Telling.{Family}

-- a reader wants no memory
pub answers-memory : {X A S : Type 0} (took : S → List Call → Type 0) (failures : S → ℕ) (R : X → A → Type 0) (g : Grammar A) (old new : Reader) (s s' : S)
    (r : Result X Stop) → Meets (span took failures s s') R g old new r → Answers (span took failures s s') R g old new r → IsErrOf r Memory → ⊥
answers-memory {X} took failures R g old new s s' r read a m = subst (λ (q : Result X Stop). Answers (span took failures s s') R g old new q) m a

-- nor does a rule that is not met
pub named-memory : {X : Type 0} (e : Stop) → IsNamed e → (let r : Result X Stop = Err e in IsErrOf r Memory) → ⊥
named-memory (No bit rule) n m = cc
named-memory (Outside bit feature) n m = cc
named-memory Memory n m = n
named-memory Read n m = n
named-memory Write n m = n

-- one error in two types
pub error-as : {X Y : Type 0} (e : Stop) → ((let r : Result X Stop = Err e in IsErrOf r Memory) → ⊥) → (let r : Result Y Stop = Err e in IsErrOf r Memory) → ⊥
error-as {X} e h m = let is : e ≡ Memory = cc in h (ap (λ (x : Stop). let r : Result X Stop = Err x in r) is)

-- nor a sink that failed
pub write-alone : {X : Type 0} (e : Stop) → e ≡ Write → (let r : Result X Stop = Err e in IsErrOf r Memory) → ⊥
write-alone e w m = cc

-- ---- what is read

pub unread : (t : Bool) (b : Body) (o : Option Body) → o ≡ None → o ≡ (if t then Some b else None) → t ≡ false
unread true b o n e = cc
unread false b o n e = refl

pub read-bytes : (t : Bool) (b x : Body) (o : Option Body) → o ≡ Some x → o ≡ (if t then Some b else None) → (t ≡ true) × (x ≡ b)
read-bytes true b x o s e = (refl, cc)
read-bytes false b x o s e = cc

pub bytes-by : (depth : Depth) (unit : NalUnit) (byte : ℕ) (o : Option Body) → byte ≡ header_of unit → o ≡ bytes_of depth unit →
    o ≡ (if is_kind_read depth (nal_unit_type byte) then Some (body_of unit) else None)
bytes-by depth unit byte o e b = subst (λ (x : ℕ). o ≡ (if is_kind_read depth (nal_unit_type x) then Some (body_of unit) else None)) (sym e) b

-- a unit that is not read is passed over
if-read : {A : Type 0} (slice reads : Bool) (a p : A) → (slice && reads) ≡ false → reads ≡ true → (if slice then a else p) ≡ p
if-read true reads a p e r = cc
if-read false reads a p e r = refl

other-passed : (depth : Depth) (kind : ℕ) (before : History) (unit : NalUnit) → (is_slice kind && reads_slices depth) ≡ false →
    other_content depth kind before unit ≡ Done contents.Passed
other-passed depths.Units kind before unit e = refl
other-passed depths.Headers kind before unit e = if-read (is_slice kind) true _ _ e refl
other-passed depths.Full kind before unit e = if-read (is_slice kind) true _ _ e refl

third : {A : Type 0} (one two three : Bool) (a b c p : A) → (one || two || three) ≡ false → (three ≡ false → c ≡ p) →
    (if one then a else (if two then b else c)) ≡ p
third true two three a b c p e f = cc
third false true three a b c p e f = cc
third false false three a b c p e f = f e

pub passed-content : (extent : Extent) (kind : ℕ) (before : History) (unit : NalUnit) → is_kind_read extent.depth kind ≡ false →
    content extent kind before unit ≡ Done contents.Passed
unfolding content
passed-content extent kind before unit e = third (kind == 7) (kind == 8) (is_slice kind && reads_slices extent.depth) _ _
    (other_content extent.depth kind before unit) _ e (other-passed extent.depth kind before unit)

-- what is in a set's unit
pub sps-content : (extent : Extent) (kind : ℕ) (before : History) (unit : NalUnit) → kind ≡ 7 →
    content extent kind before unit ≡ ◌bind◌ (sps extent.target) (λ set. Done (contents.OfSps set))
unfolding content
sps-content extent kind before unit e =
    subst (λ (k : ℕ). content extent k before unit ≡ ◌bind◌ (sps extent.target) (λ set. Done (contents.OfSps set))) (sym e) refl

pub pps-content : (extent : Extent) (kind : ℕ) (before : History) (unit : NalUnit) → kind ≡ 8 →
    content extent kind before unit ≡ ◌bind◌ (pps extent.target) (λ set. Done (contents.OfPps set))
unfolding content
pps-content extent kind before unit e =
    subst (λ (k : ℕ). content extent k before unit ≡ ◌bind◌ (pps extent.target) (λ set. Done (contents.OfPps set))) (sym e) refl

-- what is in a slice's
no-set : {A : Type 0} (one two : Bool) (a b c : A) → one ≡ false → two ≡ false → (if one then a else (if two then b else c)) ≡ c
no-set true two a b c e f = cc
no-set false true a b c e f = cc
no-set false false a b c e f = refl

slice-is-no-set : (kind : ℕ) → is_slice kind ≡ true → ((kind == 7) ≡ false) × ((kind == 8) ≡ false)
slice-is-no-set kind h = by (kind == 1) refl (kind == 5) refl h
  where
    by : (a : Bool) → (kind == 1) ≡ a → (b : Bool) → (kind == 5) ≡ b → (a || b) ≡ true → ((kind == 7) ≡ false) × ((kind == 8) ≡ false)
    by true e b f t = let one : kind ≡ 1 = grind (arith, nat_tests) in rw one (refl, refl)
    by false e true f t = let five : kind ≡ 5 = grind (arith, nat_tests) in rw five (refl, refl)
    by false e false f t = absurd cc

other-slice : (depth : Depth) (kind : ℕ) (before : History) (unit : NalUnit) → reads_slices depth ≡ true → is_slice kind ≡ true →
    other_content depth kind before unit ≡ header_content before unit
other-slice depths.Units kind before unit r s = cc
other-slice depths.Headers kind before unit r s = choose-true (is_slice kind) _ _ s
other-slice depths.Full kind before unit r s = choose-true (is_slice kind) _ _ s

pub slice-content : (extent : Extent) (kind : ℕ) (before : History) (unit : NalUnit) → reads_slices extent.depth ≡ true → is_slice kind ≡ true →
    content extent kind before unit ≡ header_content before unit
unfolding content
slice-content extent kind before unit r s =
    let no = slice-is-no-set kind s in
    no-set (kind == 7) (kind == 8) _ _ (other_content extent.depth kind before unit) no.0 no.1 ∙ other-slice extent.depth kind before unit r s

last-of : (one two three : Bool) → (one || two || three) ≡ true → one ≡ false → two ≡ false → three ≡ true
last-of true two three e f g = cc
last-of false true three e f g = cc
last-of false false three e f g = e

-- and one that is read, and no set, is a slice
pub read-slice : (depth : Depth) (kind : ℕ) → is_kind_read depth kind ≡ true → (kind == 7) ≡ false → (kind == 8) ≡ false → (is_slice kind ≡ true) ×
    (reads_slices depth ≡ true)
read-slice depth kind e f g = and_parts (is_slice kind) (reads_slices depth) (last-of (kind == 7) (kind == 8) (is_slice kind && reads_slices depth) e f g)

-- ---- a picture of another format

-- the decoder has the format of the newest picture
another-by : (frames : Family) (on : Bool) (pictures : List CodedPicture) (old new : Decoder) (sps : Sps) → KeepsFrames frames on false pictures old →
    new.format ≡ old.format → (new.format ≡ Some (format_of sps) → ⊥) → HasAnotherFormat pictures sps
another-by frames on [] old new sps k e never = tt
another-by frames on (p ∷ ps) old new sps k e never = λ same. never (e ∙ k.format ∙ ap (λ (f : Format). Some f) (sym same))

pub is-another : (frames : Family) (on : Bool) (pictures : List CodedPicture) (old : Option Decoder) (new : Decoder) (sps : Sps) →
    WhereMade depths.Full (KeepsFrames frames on false pictures) old → new.format ≡ format_in old → (new.format ≡ Some (format_of sps) → ⊥) →
    HasAnotherFormat pictures sps
unfolding WhereMade
is-another frames on pictures None new sps k e never = absurd k
is-another frames on pictures (Some old) new sps k e never = another-by frames on pictures old new sps k e never

-- the slice of this header begins such a picture
module _ {X S : Type 0} (took : S → List Call → Type 0) (failures : S → ℕ) (before : History) (unit : NalUnit) (maps : Maps)
    (maps-are : maps ≡ maps_of before) (byte : ℕ) (byte-is : byte ≡ header_of unit) (of : SliceUnit) (of-is : of ≡ slice_unit_of byte) (h : Header) where
  pub begins-another : (old new : Reader) (s s' : S) (x : X) → old ≡ record { body = body_of unit; at = 0 } →
      Meets (span took failures s s') (Is (λ (y : X). h)) (header_syntax (sets_of maps) of) old new (let r : Result X Stop = Ok x in r) →
      Answers (span took failures s s') (Is (λ (y : X). h)) (header_syntax (sets_of maps) of) old new (let r : Result X Stop = Ok x in r) →
      (sets : Pps × Sps) → sets_of maps h.pic_parameter_set_id.value ≡ Some sets → begins_at before h ≡ true → HasAnotherFormat (runs_of before) sets.1 →
      BeginsAnotherFormat before unit
  begins-another old new s s' x first read answers sets names begins another =
      let unit-is : of ≡ slice_unit unit = of-is ∙ ap (λ (b : ℕ). slice_unit_of b) byte-is in
      let a = subst (λ (o : Reader). Answers (span took failures s s') (Is (λ (y : X). h)) (header_syntax (sets_of maps) of) o new
      (let r : Result X Stop = Ok x in r)) first answers in
      let b = subst (λ (m : Maps). Answers (span took failures s s') (Is (λ (y : X). h)) (header_syntax (sets_of m) of)
      (record { body = body_of unit; at = 0 }) new (let r : Result X Stop = Ok x in r)) maps-are a in
      let d = subst (λ (u : SliceUnit). Answers (span took failures s s') (Is (λ (y : X). h)) (header_syntax (sets_of (maps_of before)) u)
      (record { body = body_of unit; at = 0 }) new (let r : Result X Stop = Ok x in r)) unit-is b in
      record {
        header = d.1;
        elements = d.0;
        end = new.at;
        derives = d.3;
        sets = sets;
        names = subst (λ (q : Header). sets_of (maps_of before) q.pic_parameter_set_id.value ≡ Some sets) (sym d.2)
            (subst (λ (m : Maps). sets_of m h.pic_parameter_set_id.value ≡ Some sets) maps-are names);
        begins = subst (λ (q : Header). begins_at before q ≡ true) (sym d.2) begins;
        is_another = another;
      }
