-- Samples that were compared with what was read, and more of them.
use Rattle.std.proofs.Common.{◌≡◌, ◌≢◌, ℕ, ◌+◌, ◌||◌, Bool, true, false, List, [], ◌∷◌, ◌++◌, length, Option, None, Some, codes, refl, sym, ap₂, ◌∙◌}
use Rattle.std.proofs.Common.{subst, arith}
use Rattle.std.specs.List.{All}
use Rattle.std.specs.Io.KnownBytes.{Keeps}
use Rattle.std.proofs.KnownBytes.{Consumes-nil, Consumes-trans, Consumes-kept}
use Rattle.std.proofs.lemmas.List.{length-append}
use Rattle.h264_lines.specs.Told.{ended}
use Rattle.h264_compare.specs.declared.given.Lack.{Lack}
use Rattle.h264_compare.specs.declared.numbers.Numbers.{Numbers}
use Rattle.h264_compare.specs.declared.shown.ShownFrame.{ShownFrame}
use Rattle.h264_compare.specs.Differences.{differ, differences, squares}
use Rattle.h264_compare.specs.Numbers.{AreNoted}
use Rattle.h264_compare.specs.Given.{Compares, Standing, EndsWith, EndsAt, IsFrameLine}
use Rattle.h264_compare.proofs.Noting.{AreSmall, noted-same, noted-more, noted-longer, differ-same, differ-append, differ-longer}

-- ---- nothing that was given

pub differ-none : (ms : List ℕ) → differ ms [] ≡ false
unfolding differ
differ-none [] = refl
differ-none (m ∷ ms) = refl

pub noted-none : (f : ShownFrame) (byte : ℕ) (n : Numbers) (ms : List ℕ) → AreSmall n → AreNoted f byte n n ms []
unfolding differences squares
noted-none f byte n [] small = noted-same f byte n [] small
noted-none f byte n (m ∷ ms) small =
    let a = noted-same f byte n [] small in record { first = a.first; squares = a.squares; frames = refl; differing = refl; luma = refl }

-- sums fit 64 bits after they were kept
small-after : {f : ShownFrame} {byte : ℕ} {old new : Numbers} {ms gs : List ℕ} → AreNoted f byte old new ms gs → AreSmall new
small-after a c = let e = a.squares c in omega (arith, e)

-- ---- what was compared

pub compares-none : {f : ShownFrame} {byte : ℕ} {s : Standing} → AreSmall s.numbers → Compares f byte s s [] false None
compares-none {f} {byte} {s} small = record {
  given = [];
  read = Consumes-nil s.left;
  noted = noted-same f byte s.numbers [] small;
  differs_are = sym (differ-same []);
  ends = refl;
}

ends-more : (lack : Option Lack) (left : Option (List ℕ)) (ms ms' gs gs' : List ℕ) → length gs ≡ length ms → EndsWith lack left ms' gs' →
    EndsWith lack left (ms ++ ms') (gs ++ gs')
ends-more None left ms ms' gs gs' same e = let a = length-append ms ms' in let b = length-append gs gs' in omega (arith, same, e, a, b)
ends-more (Some lack) left ms ms' gs gs' same e =
    let a = length-append ms ms' in let b = length-append gs gs' in let s = e.0 in (omega (arith, same, s, a, b), e.1)

pub compares-more : {f : ShownFrame} {byte : ℕ} {old mid new : Standing} {ms ms' : List ℕ} {d d' : Bool} {lack : Option Lack} (after : ℕ) →
    after ≡ byte + length ms → Compares f byte old mid ms d None → Compares f after mid new ms' d' lack → Compares f byte old new (ms ++ ms') (d || d') lack
compares-more {f} {byte} {old} {mid} {new} {ms} {ms'} {d} {d'} {lack} after at a b = record {
  given = a.given ++ b.given;
  read = Consumes-trans old.left mid.left new.left a.given b.given a.read b.read;
  noted = noted-more after (sym a.ends) at a.noted b.noted;
  differs_are = ap₂ (λ x y. x || y) a.differs_are b.differs_are ∙ sym (differ-append ms' b.given ms a.given (sym a.ends));
  ends = ends-more lack new.left ms ms' a.given b.given a.ends b.ends;
}

or-false : (b : Bool) → (b || false) ≡ b
or-false true = refl
or-false false = refl

-- the rest was not given
pub compares-lacks : {f : ShownFrame} {byte : ℕ} {old mid new : Standing} {ms : List ℕ} {d : Bool} (rest : List ℕ) (lack : Lack) →
    Compares f byte old mid ms d None → new.numbers ≡ mid.numbers → Keeps mid.left new.left → EndsAt lack new.left →
    Compares f byte old new (ms ++ rest) d (Some lack)
compares-lacks {f} {byte} {old} {mid} {new} {ms} {d} rest lack a same kept ends =
    let at = byte + length ms in
    let b : Compares f at mid new rest false (Some lack) = record {
      given = [];
      read = Consumes-kept mid.left mid.left new.left [] (Consumes-nil mid.left) kept;
      noted = subst (λ n. AreNoted f at mid.numbers n rest []) (sym same) (noted-none f at mid.numbers rest (small-after a.noted));
      differs_are = sym (differ-none rest);
      ends = (omega arith, ends);
    } in
    subst (λ x. Compares f byte old new (ms ++ rest) x (Some lack)) (or-false d) (compares-more at refl a b)

pub compares-is : {f : ShownFrame} {byte : ℕ} {old new : Standing} {ms ms' : List ℕ} {d : Bool} {lack : Option Lack} → ms ≡ ms' →
    Compares f byte old new ms d lack → Compares f byte old new ms' d lack
compares-is {f} {byte} {old} {new} {ms} {ms'} {d} {lack} e a = subst (λ l. Compares f byte old new l d lack) e a

-- ---- the line before a frame

pub frame-line : (word rest : List ℕ) → word ≡ codes "FRAME" → (parameters : List ℕ) × (rest ≡ ended parameters) × All (λ byte. byte ≢ 10) parameters →
    IsFrameLine (word ++ rest)
frame-line word rest begins (parameters, whole, one) = record { parameters = parameters; whole = ap₂ (λ a b. a ++ b) begins whole; one_line = one }

-- ---- samples of which no more was given

pub compares-longer : {f : ShownFrame} {byte : ℕ} {old new : Standing} {ms : List ℕ} {d : Bool} (rest : List ℕ) (lack : Lack) →
    Compares f byte old new ms d (Some lack) → Compares f byte old new (ms ++ rest) d (Some lack)
compares-longer {f} {byte} {old} {new} {ms} {d} rest lack a =
    let short = a.ends.0 in
    let long = length-append ms rest in
    record {
      given = a.given;
      read = a.read;
      noted = noted-longer rest short a.noted;
      differs_are = a.differs_are ∙ sym (differ-longer rest ms a.given short);
      ends = (omega (arith, short, long), a.ends.1);
    }

pub compares-lack : {f : ShownFrame} {byte : ℕ} {old new : Standing} {ms : List ℕ} {d : Bool} {lack lack' : Option Lack} → lack ≡ lack' →
    Compares f byte old new ms d lack → Compares f byte old new ms d lack'
compares-lack {f} {byte} {old} {new} {ms} {d} e a = subst (λ l. Compares f byte old new ms d l) e a
