-- What derives for the target Baseline derives for MainIP, with the same elements and values.
use Rattle.std.proofs.Common.{◌≡◌, ℕ, ◌==◌, ◌||◌, ◌&&◌, Bool, true, false, List, [], ◌∷◌, ◌++◌, Result, Ok, Err, refl, ap, sym, ◌∙◌, subst, inl}
use Rattle.std.proofs.Common.{inr, if◌then◌else◌}
use Rattle.h264_verify.specs.declared.state.Depth.{Depth}
use Rattle.h264_base.specs.declared.mode.Target.TheVariants.{Baseline, MainIP}
use Rattle.h264_base.specs.declared.rule.Rule.{Rule}
use Rattle.h264_base.specs.declared.stop.Stop.{Stop}
use Rattle.h264_base.specs.declared.stop.Stop.TheVariants.{No}
use Rattle.h264_base.specs.Body.{Body}
use Rattle.h264_base.specs.Grammar.{Grammar, ◌>>=◌, check, Element, Says}
use Rattle.h264_base.specs.Run.{Run, run, stopped}
use Rattle.h264_base.proofs.Steps.{going_on, then_run, run-bind}
use Rattle.h264_base.proofs.OneAnswer.{run-says, run-one}
use Rattle.h264_bits.specs.Forms.{natural}
use Rattle.h264_sps.specs.Sps.{is_judged_profile, profile_and_level, sps}
use Rattle.h264_pps.specs.Pps.{weighted_pred, weighted_bipred, pps}
use Rattle.h264_units.specs.Stream.{NalUnit}
use Rattle.h264_rbsp.specs.Rbsp.{body_of}
use Rattle.h264_verify.specs.Telling.{Told}
use Rattle.h264_verify.specs.Content.{Content}
use Rattle.h264_verify.specs.Course.{Course, Ends, Needs, Tells, Reads, Steps, ◌>>=◌ as ◌then◌, ◌>>◌, Runs}
use Rattle.h264_units.specs.UnitHeader.{header_of, nal_unit_type}
use Rattle.h264_verify.specs.Order.{content, unit_course}
use Rattle.h264_verify.specs.History.{History}
use Rattle.h264_base.specs.declared.summary.Summary.{Summary}
use Rattle.h264_verify.specs.Units.{extent_at, other_content}
use Rattle.h264_verify.specs.Verdict.{AreLegal, Holds}

-- where the first structure gives a value, the second runs as it does
pub record Follows {A : Type 0} (g g' : Grammar A) : Type 0 where
  same : (body : Body) (i : ℕ) (v : A) (j : ℕ) → (run g body i).answer ≡ Ok (v, j) → run g' body i ≡ run g body i

follows-same : {A : Type 0} (g : Grammar A) → Follows g g
follows-same g = record { same = λ body i v j e. refl }

-- part by part
module _ {A B : Type 0} (g g' : Grammar A) (f f' : A → Grammar B) (first : Follows g g') (rest : (x : A) → Follows (f x) (f' x)) (body : Body) (i : ℕ) (v : B)
    (j : ℕ) where
  abbrev next : A → ℕ → Run B
  next x k = run (f x) body k

  abbrev next' : A → ℕ → Run B
  next' x k = run (f' x) body k

  goes-same : (es : List Element) (a : Result (A × ℕ) Stop) → (going_on es next a).answer ≡ Ok (v, j) → going_on es next' a ≡ going_on es next a
  goes-same es (Ok p) h = ap (λ (r : Run B). let w : Run B = record { elements = es ++ r.elements; answer = r.answer } in w) ((rest p.0).same body p.1 v j h)
  goes-same es (Err s) h = refl

  first-same : (a : Result (A × ℕ) Stop) → (run g body i).answer ≡ a → (going_on (run g body i).elements next a).answer ≡ Ok (v, j) →
      run g' body i ≡ run g body i
  first-same (Ok p) e h = first.same body i p.0 p.1 e
  first-same (Err s) e h = absurd (cc)

  then-same : (run (g >>= f) body i).answer ≡ Ok (v, j) → run (g' >>= f') body i ≡ run (g >>= f) body i
  then-same h =
      let k : (then_run (run g body i) next).answer ≡ Ok (v, j) = sym (ap (λ (r : Run B). r.answer) (run-bind g f body i)) ∙ h in
      run-bind g' f' body i
      ∙ ap (λ (r : Run A). then_run r next') (first-same (run g body i).answer refl k)
      ∙ goes-same (run g body i).elements (run g body i).answer k
      ∙ sym (run-bind g f body i)

follows-then : {A B : Type 0} {g g' : Grammar A} {f f' : A → Grammar B} → Follows g g' → ((x : A) → Follows (f x) (f' x)) → Follows (g >>= f) (g' >>= f')
follows-then {g} {g'} {f} {f'} first rest = record { same = λ body i v j h. then-same g g' f f' first rest body i v j h }

-- a rule that is met where another is
check-same : {A : Type 0} (holds holds' : Bool) (s : Stop) (r : Run A) (v : A) (j : ℕ) → (holds ≡ true → holds' ≡ true) →
    (if holds then r else stopped s).answer ≡ Ok (v, j) → (if holds' then r else stopped s) ≡ (if holds then r else stopped s)
check-same true true s r v j k h = refl
check-same true false s r v j k h = absurd (let e : false ≡ true = k refl in cc)
check-same false holds' s r v j k h = absurd (cc)

follows-check : (rule : Rule) (bit : ℕ) (holds holds' : Bool) → (holds ≡ true → holds' ≡ true) → Follows (check rule bit holds) (check rule bit holds')
unfolding check run
follows-check rule bit holds holds' k = record { same = λ body i v j h. check-same holds holds' (No bit rule) _ v j k h }

follows-if : {A : Type 0} (b : Bool) {x x' y y' : Grammar A} → Follows x x' → Follows y y' → Follows (if b then x else y) (if b then x' else y')
follows-if true one other = one
follows-if false one other = other

-- ---- the parameter sets

profile-follows : (n : ℕ) (set0 : Bool) → is_judged_profile Baseline n set0 ≡ true → is_judged_profile MainIP n set0 ≡ true
profile-follows n set0 h = by (n == 66) (n == 77) (n == 88) set0 h
  where
    by : (a b c d : Bool) → (a || (b || c) && d) ≡ true → (a || b || c && d) ≡ true
    by true b c d h = refl
    by false true c d h = refl
    by false false c d h = h

front-follows : Follows (profile_and_level Baseline) (profile_and_level MainIP)
unfolding profile_and_level
front-follows = follows-then (follows-same _)
    (λ profile. follows-then (follows-same _)
    (λ flags. follows-then (follows-check _ _ _ _ (profile-follows (natural profile.value) flags.set0)) (λ _. follows-same _)))

sps-follows : Follows (sps Baseline) (sps MainIP)
unfolding sps
sps-follows = follows-then front-follows (λ front. follows-same _)

weighted-follows : Follows (weighted_pred Baseline) (weighted_pred MainIP)
unfolding weighted_pred
weighted-follows = follows-then (follows-same _) (λ e. follows-then (follows-check _ _ _ _ (λ h. refl)) (λ _. follows-same _))

bipred-follows : Follows (weighted_bipred Baseline) (weighted_bipred MainIP)
unfolding weighted_bipred
bipred-follows = follows-then (follows-same _) (λ e. follows-then (follows-check _ _ _ _ (λ h. refl)) (λ _. follows-same _))

pps-follows : Follows (pps Baseline) (pps MainIP)
unfolding pps
pps-follows =
    follows-then (follows-same _) (λ id. follows-then (follows-same _)
    (λ sps. follows-then (follows-same _) (λ _. follows-then (follows-same _) (λ bottom. follows-then (follows-same _) (λ _.
    follows-then (follows-same _) (λ l0. follows-then (follows-same _)
    (λ l1. follows-then weighted-follows (λ weighted. follows-then bipred-follows (λ bipred. follows-same _)))))))))

-- ---- units

module _ (depth : Depth) where
  content-follows : (kind : ℕ) (before : History) (unit : NalUnit) →
      Follows (content (extent_at depth Baseline) kind before unit) (content (extent_at depth MainIP) kind before unit)
  unfolding content
  content-follows kind before unit =
      follows-if (kind == 7) (follows-then sps-follows (λ set. follows-same _))
      (follows-if (kind == 8) (follows-then pps-follows (λ set. follows-same _)) (follows-same (other_content depth kind before unit)))

  says-follows : {A : Type 0} {g g' : Grammar A} → Follows g g' → (body : Body) (i : ℕ) (es : List Element) (v : A) (j : ℕ) → Says g body i es (Ok (v, j)) →
      Says g' body i es (Ok (v, j))
  says-follows {A} {g} {g'} f body i es v j s =
      let one = run-one g body i es (Ok (v, j)) s in
      let other = f.same body i v j (ap (λ (r : Run A). r.answer) one) ∙ one in
      subst (λ (r : Run A). Says g' body i r.elements r.answer) other (run-says g' body i)

  -- where the first course comes to an end with a value, the second does, with the same calls
  abbrev CourseFollows : {A : Type 0} → Course A → Course A → Type 0
  CourseFollows {A} c d = (calls : List Told) (x : A) → Runs c calls (Ok x) → Runs d calls (Ok x)

  steps-follow : {A : Type 0} (steps : Steps) (c d : Course A) → CourseFollows c d → CourseFollows (steps >> c) (steps >> d)
  unfolding ◌then◌
  steps-follow (Ends u) c d h calls x r = h calls x r
  steps-follow (Needs e steps) c d h calls x (inl r) = inl (r.0, steps-follow steps c d h calls x r.1)
  steps-follow (Needs e steps) c d h calls x (inr r) = inr r
  steps-follow (Tells t steps) c d h calls x r = (r.0, r.1, steps-follow steps c d h r.0 x r.2)
  steps-follow (Reads body bit g next) c d h calls x (inl r) = inl (r.0, r.1, r.2, r.3, r.4, steps-follow (next r.1 r.2) c d h r.3 x r.5, r.6)
  steps-follow (Reads body bit g next) c d h calls x (inr r) = inr r

  reads-follow : {A : Type 0} (body : Body) {g g' : Grammar Content} (next : Content → ℕ → Course A) → Follows g g' →
      CourseFollows (Reads body 0 g next) (Reads body 0 g' next)
  reads-follow body next f calls x (inl r) = inl (r.0, r.1, r.2, r.3, says-follows f body 0 r.0 r.1 r.2 r.4, r.5, r.6)
  reads-follow body next f calls x (inr r) = absurd (let e = r.4 in cc)

  unit-follows : (before : History) (unit : NalUnit) →
      CourseFollows (unit_course (extent_at depth Baseline) before unit) (unit_course (extent_at depth MainIP) before unit)
  unit-follows before unit =
      steps-follow _ _ _ (steps-follow _ _ _ (steps-follow _ _ _
      (reads-follow (body_of unit) _ (content-follows (nal_unit_type (header_of unit)) before unit))))

  legal-follows : (units : History) (calls : List Told) → AreLegal (extent_at depth Baseline) units calls → AreLegal (extent_at depth MainIP) units calls
  legal-follows [] calls l = l
  legal-follows (r ∷ before) calls l = (
    l.0,
    l.1,
    legal-follows before l.0 l.2,
    record { sound = l.3.sound; runs = unit-follows before r.unit l.1 r.content l.3.runs },
    l.4,
  )

  pub holds-follows : (bytes : List ℕ) (told : List Told) (summary : Summary) → Holds (extent_at depth Baseline) bytes told summary →
      Holds (extent_at depth MainIP) bytes told summary
  holds-follows bytes told summary h = record {
    units = h.units;
    stream = h.stream;
    first = h.first;
    last = h.last;
    legal = legal-follows h.units h.first h.legal;
    end = h.end;
    calls_are = h.calls_are;
    summary_is = h.summary_is;
    pictures = h.pictures;
  }
