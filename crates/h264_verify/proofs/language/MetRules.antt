-- What a course has met that comes to its end.
use Rattle.std.proofs.Common.{◌≡◌, ℕ, Bool, true, false, IsTrue, List, [], ◌∷◌, Result, Ok, Err, inl, inr, refl, if◌then◌else◌}
use Rattle.h264_verify.specs.declared.state.Depth.{Depth}
use Rattle.h264_base.specs.declared.stop.Stop.{Stop}
use Rattle.h264_base.specs.declared.stop.Stop.TheVariants.{No}
use Rattle.h264_base.specs.Grammar.{Element, Says}
use Rattle.h264_verify.specs.Telling.{Told}
use Rattle.h264_verify.specs.Content.{Content}
use Rattle.h264_verify.specs.Demands.{Demand, judged}
use Rattle.h264_verify.specs.Course.{Course, Ends, Needs, Tells, Reads, Steps, ◌>>=◌, ◌>>◌, needs, Runs}
use Rattle.h264_verify.specs.History.{History}
use Rattle.h264_verify.specs.Buffering.{closing_frames}
use Rattle.h264_verify.specs.Order.{whole_steps, closing_demands, close_if}

-- its rules are met, its structures derive, and this holds of what comes of it
abbrev pub Met : {A : Type 0} → Course A → (A → Type 0) → Type 0
Met (Ends x) P = P x
Met (Needs d c) P = IsTrue d.met × Met c P
Met (Tells t c) P = Met c P
Met (Reads body bit g next) P = (es : List Element) × (found : Content) × (end : ℕ) × Says g body bit es (Ok (found, end)) × Met (next found end) P

abbrev pub IsMet : Steps → Type 0
IsMet steps = Met steps (λ u. Unit {0})

-- all of these rules are met
abbrev pub AreMet : List Demand → Type 0
AreMet [] = Unit {0}
AreMet (d ∷ ds) = IsTrue d.met × AreMet ds

pub runs-met : {A : Type 0} (c : Course A) (calls : List Told) (x : A) → Runs c calls (Ok x) → Met c (λ y. y ≡ x)
runs-met (Ends y) calls x h = let e = h.1 in cc
runs-met (Needs d c) calls x (inl h) = (h.0, runs-met c calls x h.1)
runs-met (Needs d c) calls x (inr h) = absurd (let e = h.2 in cc)
runs-met (Tells t c) calls x h = runs-met c h.0 x h.2
runs-met (Reads body bit g next) calls x (inl h) = (h.0, h.1, h.2, h.4, runs-met (next h.1 h.2) h.3 x h.5)
runs-met (Reads body bit g next) calls x (inr h) = absurd (let e = h.4 in cc)

-- ---- part by part

met-parts : {A B : Type 0} (c : Course A) (f : A → Course B) (P : B → Type 0) → Met (c >>= f) P → Met c (λ x. Met (f x) P)
unfolding ◌>>=◌
met-parts (Ends x) f P m = m
met-parts (Needs d c) f P m = (m.0, met-parts c f P m.1)
met-parts (Tells t c) f P m = met-parts c f P m
met-parts (Reads body bit g next) f P m = (m.0, m.1, m.2, m.3, met-parts (next m.1 m.2) f P m.4)

met-weaker : {A : Type 0} (c : Course A) (P Q : A → Type 0) → ((x : A) → P x → Q x) → Met c P → Met c Q
met-weaker (Ends x) P Q f m = f x m
met-weaker (Needs d c) P Q f m = (m.0, met-weaker c P Q f m.1)
met-weaker (Tells t c) P Q f m = met-weaker c P Q f m
met-weaker (Reads body bit g next) P Q f m = (m.0, m.1, m.2, m.3, met-weaker (next m.1 m.2) P Q f m.4)

met-any : {A : Type 0} (c : Course A) (Q : Type 0) → Met c (λ x. Q) → Q
met-any (Ends x) Q m = m
met-any (Needs d c) Q m = met-any c Q m.1
met-any (Tells t c) Q m = met-any c Q m
met-any (Reads body bit g next) Q m = met-any (next m.1 m.2) Q m.4

needs-met : (ds : List Demand) (Q : Type 0) → Met (needs ds) (λ x. Q) → AreMet ds × Q
unfolding needs
needs-met [] Q m = (tt, m)
needs-met (d ∷ ds) Q m = let k = needs-met ds Q m.1 in ((m.0, k.0), k.1)

-- steps, and what comes after them
pub steps-met : {A : Type 0} (steps : Steps) (rest : Course A) (P : A → Type 0) → Met (steps >> rest) P → IsMet steps × Met rest P
steps-met steps rest P m =
    let k = met-parts steps (λ _. rest) P m in
    (met-weaker steps (λ _. Met rest P) (λ _. Unit {0}) (λ x h. tt) k, met-any steps (Met rest P) k)

-- rules, and what comes after them
pub rules-met : {A : Type 0} (ds : List Demand) (rest : Course A) (P : A → Type 0) → Met (needs ds >> rest) P → AreMet ds × Met rest P
rules-met ds rest P m = needs-met ds (Met rest P) (met-parts (needs ds) (λ _. rest) P m)

pub all-met : (ds : List Demand) → IsMet (needs ds) → AreMet ds
all-met ds m = (needs-met ds (Unit {0}) m).0

pub met-judged : (ds : List Demand) → AreMet ds → (let o : Result (Unit {0}) Stop = Ok tt in o ≡ judged ds)
met-judged [] h = refl
met-judged (d ∷ ds) h = by d.met h.0 (met-judged ds h.1)
  where
    by : (b : Bool) → b ≡ true → (let o : Result (Unit {0}) Stop = Ok tt in o ≡ judged ds) →
        (let o : Result (Unit {0}) Stop = Ok tt in o ≡ (if b then judged ds else Err (No d.bit d.rule)))
    by true e k = k
    by false e k = cc

-- ---- the end of the picture that may go on, where it ends

pub closing-met : (ends : Bool) (depth : Depth) (before : History) → IsMet (close_if ends depth before) →
    AreMet (if ends then closing_demands before else [])
closing-met true depth before m =
    (rules-met (closing_demands before) (closing_frames depth before) (λ _. Unit {0})
    (steps-met (whole_steps depth before) (needs (closing_demands before) >> closing_frames depth before) (λ _. Unit {0}) m).1).0
closing-met false depth before m = tt
