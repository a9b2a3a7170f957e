-- Rules one after another, and the sets of a slice.
use Rattle.std.proofs.Common.{OnOk, IsTrue, IsFalse, ◌⊎◌, inl, inr, ◌≡◌, ℕ, Bool, true, false, List, [], ◌∷◌, ◌++◌, Option, Some, None, Result, zero, suc}
use Rattle.std.proofs.Common.{Ok, Err, refl, ap, sym, ◌∙◌, ◌||◌, if◌then◌else◌}
use Rattle.std.specs.Option.{is_some, option_map}
use Rattle.h264_base.specs.declared.rule.Rule.TheVariants.{SetChanged}
use Rattle.h264_base.specs.declared.stop.Stop.{Stop}
use Rattle.h264_base.specs.declared.stop.Stop.TheVariants.{No}
use Rattle.h264_sps.specs.declared.sps.Sps.{Sps}
use Rattle.h264_pps.specs.declared.Pps.{Pps}
use Rattle.h264_sets.specs.Sets.{Maps, pair_of, with_active, IsActive}
use Rattle.h264_sps.proofs.Content.{decides-sps}
use Rattle.h264_header.proofs.Named.{named-pair}
use Rattle.h264_sets.specs.declared.SetPair.{SetPair}
use Rattle.h264_header.specs.declared.header.Header.{Header}
use Rattle.h264_header.specs.Layout.{sets_of}
use Rattle.h264_verify.specs.Content as contents
use Rattle.h264_verify.specs.Demands.{Demand, judged}
use Rattle.h264_verify.specs.History.{with_pair, maps_with}
use Rattle.h264_verify.specs.Slices.{has_content, is_active, set_demand}
use Rattle.h264_base.proofs.Plain.{some-same}

-- one rule before others: met, or not
one-met : (d : Demand) (r : Result (Unit {0}) Stop) → d.met ≡ true → (if d.met then r else Err (No d.bit d.rule)) ≡ r
one-met d r m = ap (λ b. if b then r else Err (No d.bit d.rule)) m

one-unmet : (d : Demand) (r : Result (Unit {0}) Stop) → d.met ≡ false → (if d.met then r else Err (No d.bit d.rule)) ≡ Err (No d.bit d.rule)
one-unmet d r m = ap (λ b. if b then r else Err (No d.bit d.rule)) m

err-on : (d : Demand) (b : Bool) → d.met ≡ b → (x y : Result (Unit {0}) Stop) (e : Stop) → (x ≡ Err e → y ≡ Err e) →
    (if d.met then x else Err (No d.bit d.rule)) ≡ Err e → (if d.met then y else Err (No d.bit d.rule)) ≡ Err e
err-on d true m x y e f h = one-met d y m ∙ f (sym (one-met d x m) ∙ h)
err-on d false m x y e f h = one-unmet d y m ∙ (sym (one-unmet d x m) ∙ h)

pub front-err : (ds es : List Demand) (e : Stop) → judged ds ≡ Err e → judged (ds ++ es) ≡ Err e
front-err [] es e h = cc
front-err (d ∷ ds) es e h = err-on d d.met refl (judged ds) (judged (ds ++ es)) e (front-err ds es e) h

ok-on : (d : Demand) (b : Bool) → d.met ≡ b → (x y z : Result (Unit {0}) Stop) (u : Unit {0}) → (x ≡ Ok u → y ≡ z) →
    (if d.met then x else Err (No d.bit d.rule)) ≡ Ok u → (if d.met then y else Err (No d.bit d.rule)) ≡ z
ok-on d true m x y z u f h = one-met d y m ∙ f (sym (one-met d x m) ∙ h)
ok-on d false m x y z u f h = let g : Err (No d.bit d.rule) ≡ Ok u = sym (one-unmet d x m) ∙ h in cc

pub front-ok : (ds es : List Demand) (x : Unit {0}) → judged ds ≡ Ok x → judged (ds ++ es) ≡ judged es
front-ok [] es x h = refl
front-ok (d ∷ ds) es x h = ok-on d d.met refl (judged ds) (judged (ds ++ es)) (judged es) x (front-ok ds es x) h

-- the active pair says nothing of what an id names
sets-kept : (maps : Maps) (pair : Option SetPair) (id : ℕ) → sets_of (with_pair maps pair) id ≡ sets_of maps id
sets-kept maps None id = refl
sets-kept maps (Some pair) id = refl

pub sets-after : (maps new : Maps) (h : Header) (o : Option (Pps × Sps)) → new ≡ maps_with maps (contents.OfSlice h []) →
    sets_of new h.pic_parameter_set_id.value ≡ o → sets_of maps h.pic_parameter_set_id.value ≡ o
sets-after maps new h o e f = sym (sets-kept maps (pair_of maps h.pic_parameter_set_id.value) h.pic_parameter_set_id.value) ∙
    ap (λ m. sets_of m h.pic_parameter_set_id.value) (sym e) ∙ f

pub sets-before : (maps new : Maps) (h : Header) (o : Option (Pps × Sps)) → new ≡ maps_with maps (contents.OfSlice h []) →
    sets_of maps h.pic_parameter_set_id.value ≡ o → sets_of new h.pic_parameter_set_id.value ≡ o
sets-before maps new h o e f = ap (λ m. sets_of m h.pic_parameter_set_id.value) e ∙
    sets-kept maps (pair_of maps h.pic_parameter_set_id.value) h.pic_parameter_set_id.value ∙ f

-- rules at the front of others: the first that is not met, or the answer of the others
pub stop-at : (ds es : List Demand) (e : Stop) → Err e ≡ judged ds → Err e ≡ judged (ds ++ es)
stop-at ds es e h = sym (front-err ds es e (sym h))

pub pass-by : (ds es : List Demand) (x : Unit {0}) (r : Result (Unit {0}) Stop) → Ok x ≡ judged ds → r ≡ judged es → r ≡ judged (ds ++ es)
pass-by ds es x r h k = k ∙ sym (front-ok ds es x (sym h))

-- one rule at the front of others
pub stop-one : (d : Demand) (ds : List Demand) (e : Stop) → Err e ≡ judged (d ∷ []) → Err e ≡ judged (d ∷ ds)
stop-one d ds e h = stop-at (d ∷ []) ds e h

pub pass-one : (d : Demand) (ds : List Demand) (x : Unit {0}) (r : Result (Unit {0}) Stop) → Ok x ≡ judged (d ∷ []) → r ≡ judged ds → r ≡ judged (d ∷ ds)
pass-one d ds x r h k = pass-by (d ∷ []) ds x r h k

-- so many of these rules are met, and this is the answer of the next
abbrev pub AnswersAt : ℕ → List Demand → Result (Unit {0}) Stop → Type 0
AnswersAt n [] r = ⊥
AnswersAt zero (d ∷ ds) r = r ≡ judged (d ∷ [])
AnswersAt (suc n) (d ∷ ds) r = (x : Unit {0}) × (Ok x ≡ judged (d ∷ [])) × AnswersAt n ds r

pub stops-at : (n : ℕ) (ds : List Demand) (e : Stop) → AnswersAt n ds (Err e) → Err e ≡ judged ds
stops-at n [] e h = absurd h
stops-at zero (d ∷ ds) e h = stop-one d ds e h
stops-at (suc n) (d ∷ ds) e h = pass-one d ds h.0 (Err e) h.1 (stops-at n ds e h.2)

-- all but the last of them are met, and this is the answer of the last
abbrev pub AnswersLast : List Demand → Result (Unit {0}) Stop → Type 0
AnswersLast [] r = ⊥
AnswersLast (d ∷ []) r = r ≡ judged (d ∷ [])
AnswersLast (d ∷ (e ∷ ds)) r = (x : Unit {0}) × (Ok x ≡ judged (d ∷ [])) × AnswersLast (e ∷ ds) r

pub answers-last : (ds : List Demand) (r : Result (Unit {0}) Stop) → AnswersLast ds r → r ≡ judged ds
answers-last [] r h = absurd h
answers-last (d ∷ []) r h = h
answers-last (d ∷ (e ∷ ds)) r h = pass-one d (e ∷ ds) h.0 r h.1 (answers-last (e ∷ ds) r h.2)

pub content-active : (o : Option SetPair) (sps : Sps) → has_content sps o ≡ true → option_map (λ p. SetPair.sps p) o ≡ Some sps
content-active None sps h = cc
content-active (Some pair) sps h = ap Some ((decides-sps pair.sps sps).0 h)

active-content : (o : Option SetPair) (sps : Sps) → option_map (λ p. SetPair.sps p) o ≡ Some sps → has_content sps o ≡ true
active-content None sps e = cc
active-content (Some pair) sps e = (decides-sps pair.sps sps).1 (some-same pair.sps sps e)

-- What activating the sets of a slice answers is the answer of its rule, and this is then kept.
module _ (maps new : Maps) (h : Header) (renews : Bool) (pps : Pps) (sps : Sps) (r : Result (Unit {0}) Stop)
    (named : sets_of maps h.pic_parameter_set_id.value ≡ Some (pps, sps))
    (ok : (pair : SetPair) → pair_of maps h.pic_parameter_set_id.value ≡ Some pair → (IsTrue renews ⊎ IsActive maps pair.sps) → (r ≡ Ok tt) ×
    (new ≡ with_active maps pair)) (changed : (pair : SetPair) → pair_of maps h.pic_parameter_set_id.value ≡ Some pair → IsFalse renews →
    (IsActive maps pair.sps → ⊥) → r ≡ Err (No h.pic_parameter_set_id.bit SetChanged)) where
  abbrev pair : SetPair
  pair = record { pps = pps; sps = sps }

  pair-is : pair_of maps h.pic_parameter_set_id.value ≡ Some pair
  pair-is = named-pair maps h.pic_parameter_set_id.value (pps, sps) named

  abbrev answer : Bool → Result (Unit {0}) Stop
  answer b = if b then Ok tt else Err (No h.pic_parameter_set_id.bit SetChanged)

  by-content : (i a : Bool) → renews ≡ i → is_active maps sps ≡ a → r ≡ answer (i || a)
  by-content true a e f = (ok pair pair-is (inl e)).0
  by-content false true e f = (ok pair pair-is (inr (content-active maps.active sps f))).0
  by-content false false e f = changed pair pair-is e (λ act. let g : true ≡ false = sym (active-content maps.active sps act) ∙ f in cc)

  pub set-judged : r ≡ judged (set_demand renews maps sps h ∷ [])
  set-judged = by-content renews (is_active maps sps) refl refl

  kept : (r' : Result (Unit {0}) Stop) → new ≡ with_active maps pair → OnOk r' (new ≡ maps_with maps (contents.OfSlice h []))
  kept (Ok x) e = e ∙ ap (with_pair maps) (sym pair-is)
  kept (Err e') e = tt

  none : (r' : Result (Unit {0}) Stop) (e : Stop) → r' ≡ Err e → OnOk r' (new ≡ maps_with maps (contents.OfSlice h []))
  none (Ok x) e f = cc
  none (Err e') e f = tt

  by-kept : (i a : Bool) → renews ≡ i → is_active maps sps ≡ a → OnOk r (new ≡ maps_with maps (contents.OfSlice h []))
  by-kept true a e f = kept r (ok pair pair-is (inl e)).1
  by-kept false true e f = kept r (ok pair pair-is (inr (content-active maps.active sps f))).1
  by-kept false false e f = none r _ (changed pair pair-is e (λ act. let g : true ≡ false = sym (active-content maps.active sps act) ∙ f in cc))

  pub set-kept : OnOk r (new ≡ maps_with maps (contents.OfSlice h []))
  set-kept = by-kept renews (is_active maps sps) refl refl

pub some-of : {A : Type 0} (o : Option A) → is_some o ≡ true → (x : A) × (o ≡ Some x)
some-of None h = absurd (cc)
some-of (Some x) h = (x, refl)

pub ok-true : (b : Bool) (x : Unit {0}) (e : Stop) → (let r : Result (Unit {0}) Stop = Ok x in r ≡ (if b then Ok tt else Err e)) → b ≡ true
ok-true true x e h = refl
ok-true false x e h = cc
