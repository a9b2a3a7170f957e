-- A course is played part by part.
use Rattle.std.proofs.Common.{◌≡◌, ℕ, Bool, true, false, if◌then◌else◌, List, [], ◌∷◌, ◌++◌, Result, Ok, Err, ap, sym, ◌∙◌, subst, refl, append_assoc}
use Rattle.h264_base.specs.Call.{span}
use Rattle.h264_base.specs.declared.stop.Stop.{Stop}
use Rattle.h264_base.specs.declared.stop.Stop.TheVariants.{No}
use Rattle.h264_base.specs.Body.{Body}
use Rattle.h264_base.specs.Grammar.{Grammar}
use Rattle.h264_verify.specs.Telling.{Told, Tells}
use Rattle.h264_verify.specs.Content.{Content}
use Rattle.h264_verify.specs.Outcome.{Outcome, ◌>>=◌, with_calls, continued, answers, gives, Plays, IsNamed}
use Rattle.h264_verify.specs.Demands.{Demand, judged}
use Rattle.h264_verify.specs.Course.{Course, Ends, Reads, Steps, ◌>>=◌ as ◌then◌, ◌>>◌, needs}
use Rattle.h264_verify.specs.CourseOutcome.{structure_from, outcome_of}
use Rattle.h264_verify.proofs.language.ToldTogether.{tells-none, tells-both}
use Rattle.h264_verify.proofs.language.OutcomesPlayed.{plays-on, plays-stops, gives-plays, answers-plays, plays-as}
use Rattle.h264_verify.proofs.language.Courses.{bind-assoc, gives-same, course-parts, needs-judged}

-- a rule that is not met has a name
named-on : (d : Demand) (x : Result (Unit {0}) Stop) (e : Stop) → (x ≡ Err e → IsNamed e) → (b : Bool) →
    (if b then x else Err (No d.bit d.rule)) ≡ Err e → IsNamed e
named-on d x e f true h = f h
named-on d x e f false h = let k : No d.bit d.rule ≡ e = cc in subst IsNamed k tt

pub err-named : (ds : List Demand) (e : Stop) → judged ds ≡ Err e → IsNamed e
err-named [] e h = cc
err-named (d ∷ ds) e h = named-on d (judged ds) e (err-named ds e) d.met h

bind-is : {A B : Type 0} (o : Outcome A) (x : A) (f : A → Outcome B) → o.answer ≡ Ok x → (o >>= f) ≡ with_calls o.calls (f x)
unfolding ◌>>=◌
bind-is o x f e = ap (continued o.calls f) e

rules-are : (ds : List Demand) (r : Result (Unit {0}) Stop) → r ≡ judged ds → outcome_of (needs ds) ≡ answers r
rules-are ds r h = needs-judged ds ∙ ap answers (sym h)

module _ {S : Type 0} (took : S → List Told → Type 0) (failures : S → ℕ) where
  abbrev pub PlaysAll : {A X : Type 0} → (X → A) → Outcome A → S → S → Result X Stop → Type 0
  PlaysAll view o s s' r = Plays (span took failures s s') view o r

  -- Of this outcome so much was told, from one state of the sink to another, with every rule met. This course is left, and then what it joins.
  pub record ComesTo {A B : Type 0} (join : A → Outcome B) (whole : Outcome B) (rest : Course A) (s0 s : S) : Type 0 where
    pub before : List Told
    pub goes : whole ≡ with_calls before (outcome_of rest >>= join)
    pub tells : Tells took s0 s before
    pub quiet : failures s ≡ failures s0

  pub starts : {A B : Type 0} (join : A → Outcome B) (c : Course A) (s : S) → ComesTo join (outcome_of c >>= join) c s s
  starts join c s = record { before = []; goes = refl; tells = tells-none took s; quiet = refl }

  pub begins : {A : Type 0} (c : Course A) (s : S) → ComesTo gives (outcome_of c) c s s
  begins c s = record { before = []; goes = sym (gives-same (outcome_of c)); tells = tells-none took s; quiet = refl }

  -- a check that tells nothing comes before it
  pub checked : {A B : Type 0} (join : A → Outcome B) (o : Outcome (Unit {0})) (c : Course A) (s : S) (x : Unit {0}) → o ≡ answers (Ok x) →
      ComesTo join (o >>= λ _. outcome_of c >>= join) c s s
  unfolding ◌>>=◌
  checked {B} join o c s x h = record {
    before = [];
    goes = ap (λ (q : Outcome (Unit {0})). continued q.calls (λ _. outcome_of c >>= join) q.answer) h;
    tells = tells-none took s;
    quiet = refl;
  }

  pub ends-plays : {A B X : Type 0} (join : A → Outcome B) {x : A} {s s' : S} {view : X → B} {r : Result X Stop} → PlaysAll view (join x) s s' r →
      PlaysAll view (outcome_of (Ends x) >>= join) s s' r
  unfolding ◌>>=◌
  ends-plays join p = p

  module _ {A B : Type 0} {join : A → Outcome B} {whole : Outcome B} where
    -- the rest is played, and so is the whole
    pub ends : {X : Type 0} {rest : Course A} {s0 s s' : S} {view : X → B} {r : Result X Stop} → ComesTo join whole rest s0 s →
        PlaysAll view (outcome_of rest >>= join) s s' r → PlaysAll view whole s0 s' r
    unfolding ◌>>=◌
    ends {rest} {s0} {s} {s'} {view} {r} c p = plays-as took failures view _ _ s0 s' r c.goes
        (plays-on took failures (λ (x : Unit {0}). x) view (record { calls = c.before; answer = Ok tt }) (λ _. outcome_of rest >>= join) s0 s s' tt r
        (record { plays = (refl, c.tells, c.quiet) }) p)

    -- so much more was told
    further : {rest next : Course A} {s0 s : S} (c : ComesTo join whole rest s0 s) (calls : List Told) (s' : S) →
        (outcome_of rest >>= join) ≡ with_calls calls (outcome_of next >>= join) → Tells took s s' calls → failures s' ≡ failures s →
        ComesTo join whole next s0 s'
    further {next} c calls s' e t q = record {
      before = c.before ++ calls;
      goes = c.goes ∙ ap (λ (o : Outcome B). with_calls c.before o) e ∙
          ap (λ (l : List Told). let o : Outcome B = record { calls = l; answer = (outcome_of next >>= join).answer } in o)
          (sym (append_assoc c.before calls (outcome_of next >>= join).calls));
      tells = tells-both c.tells t;
      quiet = q ∙ c.quiet;
    }

    -- its end
    pub ended : {X : Type 0} {x : A} {s0 s s' : S} {view : X → B} {r : Result X Stop} → ComesTo join whole (Ends x) s0 s →
        PlaysAll view (join x) s s' r → PlaysAll view whole s0 s' r
    unfolding ◌>>=◌
    ended c p = ends c p

    module _ {P X : Type 0} (part : Course P) (next : P → Course A) {s0 s s' : S} {view : X → P} where
      -- a part is played
      pub played : {x : X} → ComesTo join whole (◌then◌ part next) s0 s → PlaysAll view (outcome_of part) s s' (Ok x) →
          ComesTo join whole (next (view x)) s0 s'
      played {x} c p = further {next = next (view x)} c (outcome_of part).calls s'
          (course-parts part next join ∙ bind-is (outcome_of part) (view x) (λ y. outcome_of (next y) >>= join) p.plays.0) p.plays.1 p.plays.2

      -- a part stops, and so does the whole
      pub stops : {Y : Type 0} {view' : Y → B} {e : Stop} → ComesTo join whole (◌then◌ part next) s0 s → PlaysAll view (outcome_of part) s s' (Err e) →
          PlaysAll {X = Y} view' whole s0 s' (Err e)
      stops {view'} {e} c p = ends c (plays-as took failures view' _ _ s s' (Err e) (course-parts part next join)
          (plays-stops took failures view view' (outcome_of part) (λ y. outcome_of (next y) >>= join) s s' e p))

    module _ (ds : List Demand) (rest : Course A) {s0 s : S} where
      -- rules are met
      pub met : {x : Unit {0}} → ComesTo join whole (needs ds >> rest) s0 s → Ok x ≡ judged ds → ComesTo join whole rest s0 s
      met {x} c h = played (needs ds) (λ _. rest) {view = λ (u : Unit {0}). u} c
          (plays-as took failures (λ (u : Unit {0}). u) _ _ s s (Ok x) (rules-are ds (Ok x) h) (gives-plays took failures (λ (u : Unit {0}). u) x s))

      -- one is not
      pub unmet : {Y : Type 0} {view : Y → B} {e : Stop} → ComesTo join whole (needs ds >> rest) s0 s → Err e ≡ judged ds →
          PlaysAll {X = Y} view whole s0 s (Err e)
      unmet {e} c h = stops (needs ds) (λ _. rest) {view = λ (u : Unit {0}). u} c
          (plays-as took failures (λ (u : Unit {0}). u) _ _ s s (Err e) (rules-are ds (Err e) h) (answers-plays took failures e s (err-named ds e (sym h))))

    -- what is left, in another form
    pub left-as : {rest other : Course A} {s0 s : S} → ComesTo join whole rest s0 s → outcome_of rest ≡ outcome_of other → ComesTo join whole other s0 s
    left-as c e = record {
      before = c.before;
      goes = c.goes ∙ ap (λ (o : Outcome A). with_calls c.before (o >>= join)) e;
      tells = c.tells;
      quiet = c.quiet;
    }

    -- the last part stops, or is played, and then what it joins
    pub last-stops : {X Y : Type 0} {rest : Course A} {s0 s s' : S} {view : X → A} {view' : Y → B} {e : Stop} → ComesTo join whole rest s0 s →
        PlaysAll view (outcome_of rest) s s' (Err e) → PlaysAll {X = Y} view' whole s0 s' (Err e)
    last-stops {rest} {s} {s'} {view} {view'} {e} c p = ends c (plays-stops took failures view view' (outcome_of rest) join s s' e p)

    pub last-ends : {X Y : Type 0} {rest : Course A} {s0 s s1 s2 : S} {view : X → A} {view' : Y → B} {x : X} {r : Result Y Stop} →
        ComesTo join whole rest s0 s →
        PlaysAll view (outcome_of rest) s s1 (Ok x) → PlaysAll view' (join (view x)) s1 s2 r → PlaysAll view' whole s0 s2 r
    last-ends {rest} {s} {s1} {s2} {view} {view'} {x} {r} c p q = ends c (plays-on took failures view view' (outcome_of rest) join s s1 s2 x r p q)

    -- what is left is a stop
    pub stopped : {Y : Type 0} {rest : Course A} {s0 s : S} {view : Y → B} {e : Stop} → ComesTo join whole rest s0 s → outcome_of rest ≡ answers (Err e) →
        IsNamed e → PlaysAll {X = Y} view whole s0 s (Err e)
    stopped {s} {e} c h n = last-stops {view = λ (x : A). x} c (plays-as took failures (λ (x : A). x) _ _ s s (Err e) h (answers-plays took failures e s n))

    -- steps have this answer, and tell nothing
    module _ (steps : Steps) (rest : Course A) {s0 s : S} where
      pub answered : {x : Unit {0}} → ComesTo join whole (steps >> rest) s0 s → answers (Ok x) ≡ outcome_of steps → ComesTo join whole rest s0 s
      answered {x} c h = played steps (λ _. rest) {view = λ (u : Unit {0}). u} c
          (plays-as took failures (λ (u : Unit {0}). u) _ _ s s (Ok x) (sym h) (gives-plays took failures (λ (u : Unit {0}). u) x s))

      pub refused : {Y : Type 0} {view : Y → B} {e : Stop} → ComesTo join whole (steps >> rest) s0 s → answers (Err e) ≡ outcome_of steps → IsNamed e →
          PlaysAll {X = Y} view whole s0 s (Err e)
      refused {e} c h n = stops steps (λ _. rest) {view = λ (u : Unit {0}). u} c
          (plays-as took failures (λ (u : Unit {0}). u) _ _ s s (Err e) (sym h) (answers-plays took failures e s n))

    module _ {X : Type 0} {body : Body} {bit : ℕ} {g : Grammar Content} {next : Content → ℕ → Course A} {s0 s s' : S} {view : X → Content × ℕ} where
      -- a structure is read
      pub read : {x : X} → ComesTo join whole (Reads body bit g next) s0 s → PlaysAll view (structure_from g body bit) s s' (Ok x) →
          ComesTo join whole (next (view x).0 (view x).1) s0 s'
      read {x} c p = further {next = next (view x).0 (view x).1} c (structure_from g body bit).calls s'
          (bind-assoc (structure_from g body bit) (λ y. outcome_of (next y.0 y.1)) join ∙
          bind-is (structure_from g body bit) (view x) (λ y. outcome_of (next y.0 y.1) >>= join) p.plays.0) p.plays.1 p.plays.2

      -- it is not
      pub unread : {Y : Type 0} {view' : Y → B} {e : Stop} → ComesTo join whole (Reads body bit g next) s0 s →
          PlaysAll view (structure_from g body bit) s s' (Err e) → PlaysAll {X = Y} view' whole s0 s' (Err e)
      unread {view'} {e} c p = ends c (plays-as took failures view' _ _ s s' (Err e)
          (bind-assoc (structure_from g body bit) (λ y. outcome_of (next y.0 y.1)) join)
          (plays-stops took failures view view' (structure_from g body bit) (λ y. outcome_of (next y.0 y.1) >>= join) s s' e p))

  -- the last part is played, and so is the whole
  pub last : {A X : Type 0} {whole : Outcome A} {rest : Course A} {s0 s s' : S} {view : X → A} {r : Result X Stop} → ComesTo gives whole rest s0 s →
      PlaysAll view (outcome_of rest) s s' r → PlaysAll view whole s0 s' r
  last {rest} {s} {s'} {view} {r} c p = ends c (plays-as took failures view _ _ s s' r (gives-same (outcome_of rest)) p)

  -- rules alone
  pub rules-play : (ds : List Demand) (s : S) (r : Result (Unit {0}) Stop) → r ≡ judged ds → PlaysAll (λ (u : Unit {0}). u) (outcome_of (needs ds)) s s r
  rules-play ds s (Ok x) h = plays-as took failures (λ (u : Unit {0}). u) _ _ s s (Ok x) (rules-are ds (Ok x) h)
      (gives-plays took failures (λ (u : Unit {0}). u) x s)
  rules-play ds s (Err e) h = plays-as took failures (λ (u : Unit {0}). u) _ _ s s (Err e) (rules-are ds (Err e) h)
      (answers-plays took failures e s (err-named ds e (sym h)))

  -- and at the end of a course
  pub rules-last : {whole : Outcome (Unit {0})} (ds : List Demand) {s0 s : S} {r : Result (Unit {0}) Stop} → ComesTo gives whole (needs ds) s0 s →
      r ≡ judged ds →
      PlaysAll (λ (u : Unit {0}). u) whole s0 s r
  rules-last ds {s} {r} c h = last c (rules-play ds s r h)
