-- The id of a header names sets that are there.
use Rattle.std.proofs.Common.{◌≡◌, ℕ, ◌≤◌, true, List, Option, Some, None, Result, Ok, Err, refl, subst}
use Rattle.std.specs.Prelude.{OnOk}
use Rattle.std.specs.Option.{is_some, option_map}
use Rattle.std.proofs.lemmas.Bool.{leb-true}
use Rattle.h264_base.specs.declared.stop.Stop.{Stop}
use Rattle.h264_base.specs.Call.{Call, span}
use Rattle.h264_base.specs.Grammar.{◌>>=◌, read_word, check}
use Rattle.h264_base.specs.Meets.{Reader, Meets, Is}
use Rattle.h264_bits.specs.Forms.{natural}
use Rattle.h264_sps.specs.declared.sps.Sps.{Sps}
use Rattle.h264_pps.specs.declared.Pps.{Pps}
use Rattle.h264_header.specs.declared.header.Header.{Header}
use Rattle.h264_header.specs.declared.header.SliceUnit.{SliceUnit}
use Rattle.h264_header.specs.Layout.{layout_of}
use Rattle.h264_header.specs.Header.{named_sets, header}
use Rattle.h264_base.proofs.Gives.{Gives, gives-following, gives-bind, gives-met}

-- an id of at most 255 whose sets are there
pub record IsNamed (sets : ℕ → Option (Pps × Sps)) (id : ℕ) : Type 0 where
  pub small : id ≤ 255
  pub there : is_some (sets id) ≡ true

-- what is seen of a value shows that it is there
pub seen-there : {A B : Type 0} (f : A → B) (o : Option A) → is_some (option_map f o) ≡ true → is_some o ≡ true
seen-there f None h = h
seen-there f (Some x) h = refl

named-gives : (sets : ℕ → Option (Pps × Sps)) → Gives (named_sets sets) (λ n. IsNamed sets n.id.value)
unfolding named_sets read_word check ◌>>=◌ Gives
named-gives sets = λ e t h. record { small = leb-true _ _ t; there = seen-there layout_of (sets (natural e.value)) h }

header-gives : (sets : ℕ → Option (Pps × Sps)) (unit : SliceUnit) → Gives (header sets unit) (λ h. IsNamed sets h.pic_parameter_set_id.value)
unfolding header Gives
header-gives sets unit = gives-following _ _ _
    (λ first. gives-following _ _ _ (λ stated. gives-bind (λ n. IsNamed sets n.id.value) _ (named_sets sets) _ (named-gives sets)
    (λ named h. gives-following _ _ _ (λ num. gives-following _ _ _
    (λ idr. gives-following _ _ _ (λ order. gives-following _ _ _
    (λ kind. gives-following _ _ _ (λ marking. gives-following _ _ _ (λ qp. gives-following _ _ _ (λ filter. h))))))))))

-- so where a header was read
pub header-named : {S : Type 0} {took : S → List Call → Type 0} {failures : S → ℕ} {h : Header} {old new : Reader} {s s' : S} (sets : ℕ → Option (Pps × Sps))
    (unit : SliceUnit) (r : Result (Unit {0}) Stop) → Meets (span took failures s s') (Is (λ _. h)) (header sets unit) old new r →
    OnOk r (IsNamed sets h.pic_parameter_set_id.value)
header-named sets unit (Ok x) m = gives-met (λ v. IsNamed sets v.pic_parameter_set_id.value) (header-gives sets unit) m
header-named sets unit (Err e) m = tt
