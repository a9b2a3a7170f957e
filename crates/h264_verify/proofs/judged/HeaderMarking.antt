-- What the reading of a header tells of its marking.
use Rattle.std.proofs.Common.{◌≡◌, ℕ, ◌==◌, ◌||◌, nat_lt, not, Bool, true, false, List, Option, Some, None, Result, Ok, Err, OnOk, refl, ap, sym, ◌∙◌, subst}
use Rattle.std.proofs.Common.{arith, if◌then◌else◌}
use Rattle.std.proofs.lemmas.Bool.Decides.{nat_tests}
use Rattle.std.specs.Option.{is_some}
use Rattle.h264_base.specs.Body.{Body}
use Rattle.h264_base.specs.Call.{Call, span}
use Rattle.h264_base.specs.declared.stop.Stop.{Stop}
use Rattle.h264_base.specs.Grammar.{Grammar}
use Rattle.h264_base.specs.Run.{run}
use Rattle.h264_base.specs.Meets.{Reader, Meets, Is}
use Rattle.h264_bits.specs.Forms.{optional}
use Rattle.h264_sps.specs.declared.sps.Sps.{Sps}
use Rattle.h264_pps.specs.declared.Pps.{Pps}
use Rattle.h264_header.specs.declared.header.Header.{Header}
use Rattle.h264_header.specs.declared.header.SliceUnit.{SliceUnit}
use Rattle.h264_header.specs.Header.{header, idr_pic_id}
use Rattle.h264_header.specs.Marking.{dec_ref_pic_marking, idr_marking}
use Rattle.h264_header.specs.Picture.{is_reference}
use Rattle.h264_base.proofs.Gives.{Gives, gives-following, gives-bind, gives-run}
use Rattle.h264_units.specs.UnitHeader.{nal_unit_type, nal_ref_idc, is_never_reference, fits_kind}
use Rattle.h264_verify.specs.Units.{slice_unit_of}
use Rattle.h264_verify.specs.Sound.{IsMarked, is_idr_marking, is_own}

-- what a header takes from its unit
pub record IsOfUnit (u : SliceUnit) (h : Header) : Type 0 where
  pub reference : h.nal_ref_idc ≡ u.nal_ref_idc
  pub idr : is_some h.idr_pic_id ≡ u.idr_pic_flag
  pub marking : is_some h.marking ≡ nat_lt 0 u.nal_ref_idc
  pub own : u.idr_pic_flag ≡ true → is_own h.marking ≡ true

optional-some : {A : Type 0} (b : Bool) (g : Grammar A) → Gives (optional b g) (λ o. is_some o ≡ b)
unfolding optional Gives
optional-some true g = gives-following g _ (λ o. is_some o ≡ true) (λ x. refl)
optional-some false g = refl

-- that of an IDR picture
idr-own : Gives (dec_ref_pic_marking true) (λ m. is_idr_marking m.value ≡ true)
unfolding dec_ref_pic_marking idr_marking Gives
idr-own = gives-following _ _ (λ m. is_idr_marking m.value ≡ true) (λ no_output. gives-following _ _ (λ m. is_idr_marking m.value ≡ true) (λ long_term. refl))

marking-some : (b idr : Bool) → Gives (optional b (dec_ref_pic_marking idr)) (λ o. (is_some o ≡ b) × (idr ≡ true → is_own o ≡ true))
unfolding optional Gives
marking-some false idr = (refl, λ i. refl)
marking-some true true = gives-bind (λ m. is_idr_marking m.value ≡ true)
    (λ o. (is_some o ≡ true) × (true ≡ true → is_own o ≡ true)) (dec_ref_pic_marking true) _ idr-own (λ m h. (refl, λ i. h))
marking-some true false = gives-following _ _ (λ o. (is_some o ≡ true) × (false ≡ true → is_own o ≡ true)) (λ m. (refl, λ i. cc))

pub header-gives : (sets : ℕ → Option (Pps × Sps)) (u : SliceUnit) → Gives (header sets u) (IsOfUnit u)
unfolding header Gives
header-gives sets u =
    gives-following _ _ (IsOfUnit u) (λ first. gives-following _ _ (IsOfUnit u)
    (λ stated. gives-following _ _ (IsOfUnit u) (λ named. gives-following _ _ (IsOfUnit u) (λ num.
    gives-bind (λ o. is_some o ≡ u.idr_pic_flag) (IsOfUnit u) _ _ (optional-some u.idr_pic_flag idr_pic_id) (λ idr i.
    gives-following _ _ (IsOfUnit u) (λ order. gives-following _ _ (IsOfUnit u) (λ kind.
    gives-bind (λ o. (is_some o ≡ nat_lt 0 u.nal_ref_idc) × (u.idr_pic_flag ≡ true → is_own o ≡ true)) (IsOfUnit u) _ _
    (marking-some (nat_lt 0 u.nal_ref_idc) u.idr_pic_flag) (λ marking m.
    gives-following _ _ (IsOfUnit u) (λ qp. gives-following _ _ (IsOfUnit u) (λ filter. record { reference = refl; idr = i; marking = m.0; own = m.1 }))))))))))

pub header-of : (sets : ℕ → Option (Pps × Sps)) (u : SliceUnit) (body : Body) (i : ℕ) (h : Header) (j : ℕ) → (run (header sets u) body i).answer ≡ Ok (h, j) →
    IsOfUnit u h
header-of sets u body i h j e = gives-run (IsOfUnit u) (header sets u) body i j h (header-gives sets u) e

above : (n : ℕ) → nat_lt 0 n ≡ not (n == 0)
above n = grind (arith, nat_tests)

none-of : {A : Type 0} (o : Option A) → is_some o ≡ false → o ≡ None
none-of None e = refl
none-of (Some x) e = cc

fits-five : (kind reference : ℕ) → (kind == 5) ≡ true → fits_kind kind reference ≡ true → not (reference == 0) ≡ true
fits-five kind reference five fits = sym
    (ap (λ (b : Bool). if (b || kind == 7 || kind == 8) then not (reference == 0) else (if is_never_reference kind then reference == 0 else true)) five) ∙
    fits

pub marked-of : (byte : ℕ) (u : SliceUnit) (h : Header) → u ≡ slice_unit_of byte → fits_kind (nal_unit_type byte) (nal_ref_idc byte) ≡ true → IsOfUnit u h →
    IsMarked h
marked-of byte u h e fits k =
    let refers : is_some h.marking ≡ is_reference h = k.marking ∙ above u.nal_ref_idc ∙ ap (λ n. not (n == 0)) (sym k.reference) in
    record {
      some = λ r. refers ∙ r;
      none = λ r. none-of h.marking (refers ∙ r);
      idr = λ i. ap (λ n. not (n == 0)) (k.reference ∙ ap (λ (x : SliceUnit). x.nal_ref_idc) e) ∙
          fits-five (nal_unit_type byte) (nal_ref_idc byte) (sym (ap (λ (x : SliceUnit). x.idr_pic_flag) e) ∙ sym k.idr ∙ i) fits;
      own = λ i. k.own (sym k.idr ∙ i);
    }

-- a header that was read is marked so
pub read-marked : {S X : Type 0} (took : S → List Call → Type 0) (failures : S → ℕ) (sets : ℕ → Option (Pps × Sps)) (u : SliceUnit) (byte : ℕ) (h : Header)
    (old new : Reader) (s s' : S) (r : Result X Stop) → u ≡ slice_unit_of byte → fits_kind (nal_unit_type byte) (nal_ref_idc byte) ≡ true →
    Meets (span took failures s s') (Is (λ (x : X). h)) (header sets u) old new r → OnOk r (IsMarked h)
read-marked took failures sets u byte h old new s s' (Err x) e fits m = tt
read-marked took failures sets u byte h old new s s' (Ok x) e fits m =
    let k = m.meets in
    marked-of byte u h e fits (subst (IsOfUnit u) k.1 (header-of sets u old.body old.at k.0 new.at k.2))
