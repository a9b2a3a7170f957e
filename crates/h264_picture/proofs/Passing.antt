-- Skipped macroblocks that stand still are passed, and slice data go on after them.
use Rattle.std.proofs.Common.{◌≡◌, ℕ, zero, suc, ◌+◌, ◌-◌, ◌*◌, ◌%◌, ◌<◌, ◌≤◌, Bool, List, length, replicate, Option, Some, None, ap, sym, subst, ◌∙◌}
use Rattle.std.proofs.Common.{arith, length-append}
use Rattle.std.proofs.lemmas.List.{append-nil, length-replicate}
use Rattle.h264_base.specs.Call.{Call}
use Rattle.h264_base.specs.Grammar.{Grammar}
use Rattle.h264_base.specs.Meets.{Reader}
use Rattle.h264_base.proofs.Steps.{Leads}
use Rattle.h264_near.specs.Coded.{CodedMacroblock}
use Rattle.h264_near.specs.Keeps.{Keeps}
use Rattle.h264_near.proofs.Places.{remainder}
use Rattle.h264_vectors.specs.Vectors.{zero_vector}
use Rattle.h264_vectors.specs.declared.slice.SliceContext.{SliceContext}
use Rattle.h264_mbsyntax.specs.Slice.{macroblocks, skipped_of}
use Rattle.h264_mbsyntax.specs.Still.{StandStill, with_still}
use Rattle.h264_mbsyntax.specs.declared.slice.Standing.{Standing}
use Rattle.h264_mbsyntax.specs.declared.slice.Standing.TheVariants.{Next, Skipping}
use Rattle.h264_mbsyntax.proofs.Still.{still-on, still-predicted, with-next}
use Rattle.h264_picture.specs.declared.canvas.Canvas.{Canvas}
use Rattle.h264_picture.specs.declared.sequence.Sequence.{Sequence}
use Rattle.h264_picture.specs.declared.slice.Slice.{Slice}
use Rattle.h264_picture.specs.declared.still.Passed.{Passed}
use Rattle.h264_picture.specs.Holds.{HoldsIn, IsPast}
use Rattle.h264_picture.specs.Making.{Making, HasSamples, HasSamplesIn, Reads, setting_of}
use Rattle.h264_picture.specs.Still.{Passes}
use Rattle.h264_picture.proofs.Steps.{past-next, skipped-slice}

-- none of them
pub none-still : (width : ℕ) (slice : SliceContext) (picture : List CodedMacroblock) → StandStill width slice picture 0
none-still width slice picture = record { vectors = λ k h. absurd (omega arith); fits = λ k h. absurd (omega arith) }

pub same-reads : (width size : ℕ) (making : Option Making) (slice : Slice) (picture : List CodedMacroblock) (s : Sequence) →
    Reads width size making slice picture s → Reads width size making slice (with_still slice.context picture 0) s
same-reads width size making slice picture s r = subst (λ (p : List CodedMacroblock). Reads width size making slice p s) (sym (append-nil picture)) r

length-still : (slice : SliceContext) (picture : List CodedMacroblock) (n : ℕ) → length (with_still slice picture n) ≡ length picture + n
length-still slice picture n =
    let own = skipped_of slice picture zero_vector in
    length-append picture (replicate n own) ∙ ap (λ k. length picture + k) (length-replicate n own)

past-still : (slice : SliceContext) (picture : List CodedMacroblock) (n : ℕ) → slice.number ≤ length picture → IsPast picture →
    IsPast (with_still slice picture n)
past-still slice picture zero f p = subst IsPast (sym (append-nil picture)) p
past-still slice picture (suc n) f p =
    let own = skipped_of slice picture zero_vector in
    let one : n + 1 ≡ suc n = omega arith in
    let l = length-still slice picture n in
    subst IsPast (with-next slice picture n ∙ ap (with_still slice picture) one)
    (past-next slice (with_still slice picture n) own (skipped-slice slice picture zero_vector) (omega arith))

no-samples : (making : Option Making) (picture picture' : List CodedMacroblock) (old new : Sequence) → old.canvas ≡ None → HasSamples making picture old →
    HasSamples making picture' new
no-samples None picture picture' old new none h = tt
no-samples (Some making) picture picture' old new none h =
    absurd (subst (λ (o : Option Canvas). HasSamplesIn (setting_of old) making picture o) none h)

-- the column of the next macroblock
column-is : (width size : ℕ) (picture : List CodedMacroblock) (s : Sequence) → HoldsIn width size picture s →
    length picture % width ≡ s.picture.position.column
column-is width size picture s h =
    let a = h.columns in
    let b = h.next in
    let c = s.sound.next in
    let d = s.sound.column in
    remainder _ width s.picture.position.row s.picture.position.column (omega arith) (sym h.next ∙ c ∙
    ap (λ k. s.picture.position.row * k + s.picture.position.column) h.columns)

-- so many more stand in its row
pub row-room : (width size : ℕ) (picture : List CodedMacroblock) (n : ℕ) (s : Sequence) → HoldsIn width size picture s →
    s.picture.position.column + n < s.across → length picture % width + n < width
row-room width size picture n s h room = let c = column-is width size picture s h in let w = h.columns in omega arith

-- so many more
pub reads-still : (width size : ℕ) (making : Option Making) (slice : Slice) (picture : List CodedMacroblock) (n : ℕ) (old new : Sequence) →
    Reads width size making slice picture old → old.canvas ≡ None → Keeps width (with_still slice.context picture n) new.picture.near →
    new.across ≡ old.across → new.size ≡ old.size → new.picture.next ≡ old.picture.next + n → new.mb ≡ old.mb →
    Reads width size making slice (with_still slice.context picture n) new
reads-still width size making slice picture n old new r none k a b c d =
    let l = length-still slice.context picture n in
    record {
      holds = record {
        keeps = k;
        columns = a ∙ r.holds.columns;
        macroblocks = b ∙ r.holds.macroblocks;
        next = (let x = r.holds.next in omega arith);
        past = past-still slice.context picture n r.first r.holds.past;
      };
      first = (let x = r.first in omega arith);
      predicted = rw d (r.predicted ∙ sym (still-predicted slice.context picture n));
      samples = no-samples making picture (with_still slice.context picture n) old new none r.samples;
      makes = r.makes;
    }

-- slice data go on after what was passed
pub passed-on : {S : Type 0} {took : S → List Call → Type 0} {failures : S → ℕ} {g : Grammar (List CodedMacroblock)} {old bits : Reader} {s s' : S}
    (fits : CodedMacroblock → Bool) (width : ℕ) (slice : SliceContext) (left : ℕ) (picture : List CodedMacroblock) (standing : Standing) (passed : Passed) →
    Passes width slice picture standing passed → passed.count ≤ left →
    Leads took failures g (macroblocks fits width slice left standing picture) old bits s s' →
    Leads took failures g (macroblocks fits width slice (left - passed.count) passed.standing (with_still slice picture passed.count)) old bits s s'
passed-on {took = took} {failures = failures} {g = g} {old = old} {bits = bits} {s = s} {s' = s'} fits width slice left picture Next passed p few l =
    let none : left ≡ left - passed.count = let z = p.1 in omega arith in
    rw (p.0, p.1) (subst (λ (q : List CodedMacroblock). Leads took failures g (macroblocks fits width slice (left - 0) Next q) old bits s s')
    (sym (append-nil picture)) (subst (λ k. Leads took failures g (macroblocks fits width slice k Next picture) old bits s s')
    (none ∙ ap (λ k. left - k) p.1) l))
passed-on fits width slice left picture (Skipping bit more) passed p few l =
    rw p.0 (still-on fits width slice bit left more passed.count picture p.2 few p.1 l)

-- and a turn of the loop over macroblocks ends there
pub turn-passed : {S : Type 0} {took : S → List Call → Type 0} {failures : S → ℕ} {g : Grammar (List CodedMacroblock)} {old bits : Reader} {s s' : S}
    (fits : CodedMacroblock → Bool) (width : ℕ) (slice : SliceContext) (left turn : ℕ) (picture : List CodedMacroblock) (standing : Standing) (passed : Passed)
    (K : List CodedMacroblock → Type 0) → Passes width slice picture standing passed → passed.count ≤ left - turn - 1 →
    K (with_still slice picture passed.count) →
    Leads took failures g (macroblocks fits width slice (left - (turn + 1)) standing picture) old bits s s' →
    (now : List CodedMacroblock) × K now ×
    Leads took failures g (macroblocks fits width slice (left - (turn + (1 + passed.count))) passed.standing now) old bits s s'
turn-passed {took = took} {failures = failures} {g = g} {old = old} {bits = bits} {s = s} {s' = s'} fits width slice left turn picture standing passed K p few k
    l =
    let e : left - (turn + 1) - passed.count ≡ left - (turn + (1 + passed.count)) = omega arith in (
      with_still slice picture passed.count,
      k,
      subst (λ n. Leads took failures g (macroblocks fits width slice n passed.standing (with_still slice picture passed.count)) old bits s s') e
          (passed-on fits width slice (left - (turn + 1)) picture standing passed p (omega arith) l),
    )
