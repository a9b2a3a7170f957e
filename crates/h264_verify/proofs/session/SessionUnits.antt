-- The units that a session took.
use Rattle.std.proofs.Common.{◌≡◌, ℕ, ◌+◌, ◌<◌, length, arith, List, [], ◌∷◌, ◌++◌, refl, ap, sym, ◌∙◌, subst, append_assoc}
use Rattle.std.proofs.lemmas.List.{append-nil}
use Rattle.h264_units.specs.Stream.{NalUnit, Next, past, Tail, Splits}
use Rattle.h264_units.proofs.Streams.{same-first, first-not-tail, first-length, splits-after, length-started}
use Rattle.h264_verify.specs.History.{History}
use Rattle.h264_verify.specs.Memory.{BeginWith}
use Rattle.h264_verify.specs.Verdict.{in_order}
use Rattle.h264_verify.specs.Feeding.{ShowsUnits}

pub in-order : (h : History) (us : List NalUnit) → in_order h us ≡ in_order h [] ++ us
in-order [] us = refl
in-order (r ∷ h) us = in-order h (r.unit ∷ us) ∙ sym (append_assoc (in_order h []) (r.unit ∷ []) us) ∙ ap (λ l. l ++ us) (sym (in-order h (r.unit ∷ [])))

pub shows-both : (at : ℕ) (bytes : List ℕ) (us vs : List NalUnit) (mid end : ℕ) (left rest : List ℕ) → ShowsUnits at bytes us mid left →
    ShowsUnits mid left vs end rest → ShowsUnits at bytes (us ++ vs) end rest
shows-both at bytes [] vs mid end left rest a b = subst (λ l. ShowsUnits at l vs end rest) a.1 (subst (λ n. ShowsUnits n left vs end rest) a.0 b)
shows-both at bytes (u ∷ us) vs mid end left rest a b = (a.0, a.1, shows-both (past u) a.0 us vs mid end left rest a.2 b)

-- however the bytes go on
pub shows-more : (at : ℕ) (bytes : List ℕ) (us : List NalUnit) (end : ℕ) (rest more : List ℕ) → ShowsUnits at bytes us end rest →
    ShowsUnits at (bytes ++ more) us end (rest ++ more)
shows-more at bytes [] end rest more a = (a.0, ap (λ l. l ++ more) a.1)
shows-more at bytes (u ∷ us) end rest more a =
    (a.0 ++ more, λ later. moved at u bytes a.0 more later (a.1 (more ++ later)), shows-more (past u) a.0 us end rest more a.2)
  where
    moved : (at : ℕ) (u : NalUnit) (bytes left more later : List ℕ) → Next at (bytes ++ (more ++ later)) u (left ++ (more ++ later)) →
        Next at ((bytes ++ more) ++ later) u ((left ++ more) ++ later)
    moved at u bytes left more later n = subst (λ l. Next at l u ((left ++ more) ++ later)) (sym (append_assoc bytes more later))
        (subst (λ l. Next at (bytes ++ (more ++ later)) u l) (sym (append_assoc left more later)) n)

pub begin-shown : (at : ℕ) (bytes : List ℕ) (us : List NalUnit) (end : ℕ) (rest more : List ℕ) → ShowsUnits at bytes us end rest →
    BeginWith at (bytes ++ more) us end (rest ++ more)
begin-shown at bytes [] end rest more a = (a.0, ap (λ l. l ++ more) a.1)
begin-shown at bytes (u ∷ us) end rest more a = (a.0 ++ more, a.1 more, begin-shown (past u) a.0 us end rest more a.2)

-- the bytes of a unit are some
pub next-some : (at : ℕ) (bytes : List ℕ) (unit : NalUnit) (rest : List ℕ) → Next at bytes unit rest → 0 < length bytes
next-some at bytes unit rest n =
    let l = ap length n.first.whole ∙ length-started n.first.zeros (unit.body ++ rest) in
    omega arith

-- the first of the units of these bytes
pub splits-first : (at : ℕ) (bytes : List ℕ) (unit : NalUnit) (rest : List ℕ) (units : List NalUnit) (tail : Tail) → Next at bytes unit rest →
    Splits at bytes units tail → (later : List NalUnit) × (units ≡ unit ∷ later) × Splits (past unit) rest later tail
splits-first at bytes unit rest [] tail n s = absurd (first-not-tail at bytes unit rest tail n s)
splits-first at bytes unit rest (u ∷ us) tail n s =
    let same = same-first at bytes unit u rest s.0 n.first s.1.first in
    (us, ap (λ (v : NalUnit). v ∷ us) (sym same.unit_is), splits-after at bytes unit u rest s.0 us tail n.first s.1.first s.2)

-- those that were shown are the first, however the bytes go on
pub splits-shown : (at : ℕ) (bytes : List ℕ) (shown : List NalUnit) (end : ℕ) (rest more : List ℕ) (units : List NalUnit) (tail : Tail) →
    ShowsUnits at bytes shown end rest → Splits at (bytes ++ more) units tail → (later : List NalUnit) × (units ≡ shown ++ later) ×
    Splits end (rest ++ more) later tail
splits-shown at bytes [] end rest more units tail a s =
    (units, refl, subst (λ n. Splits n (rest ++ more) units tail) (sym a.0) (subst (λ l. Splits at (l ++ more) units tail) (sym a.1) s))
splits-shown at bytes (u ∷ shown) end rest more units tail a s =
    let f = splits-first at (bytes ++ more) u (a.0 ++ more) units tail (a.1 more) s in
    let r = splits-shown (past u) a.0 shown end rest more f.0 tail a.2 f.2 in
    (r.0, f.1 ∙ ap (λ l. u ∷ l) r.1, r.2)

-- the rest reaches to the end of the bytes
pub shows-length : (at : ℕ) (bytes : List ℕ) (us : List NalUnit) (end : ℕ) (rest : List ℕ) → ShowsUnits at bytes us end rest →
    end + length rest ≡ at + length bytes
shows-length at bytes [] end rest a = ap (λ n. n + length rest) a.0 ∙ ap (λ (l : List ℕ). at + length l) a.1
shows-length at bytes (u ∷ us) end rest a =
    shows-length (past u) a.0 us end rest a.2 ∙
    first-length at bytes u a.0 (subst (λ l. Next at l u a.0) (append-nil bytes) (subst (λ l. Next at (bytes ++ []) u l) (append-nil a.0) (a.1 []))).first
