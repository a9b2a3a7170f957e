-- In each table of coeff_token no row has more trailing ones than coefficients.
use Rattle.std.proofs.Common.{◌≡◌, ℕ, ◌/◌, ◌%◌, ◌≤◌, ℤ, pos, Bool, true, false, List, [], ◌∷◌, Option, Some, None, Result, Ok, Err, nat_le, ◌&&◌, ◌==◌}
use Rattle.std.proofs.Common.{nat_lt, if◌then◌else◌, refl, ap, sym, ◌∙◌, inl, inr}
use Rattle.std.proofs.lemmas.Bool.{and_parts, leb-true}
use Rattle.h264_base.specs.declared.element_name.ElementName.{ElementName}
use Rattle.h264_base.specs.declared.rule.Rule.{Rule}
use Rattle.h264_base.specs.declared.stop.Stop.{Stop}
use Rattle.h264_base.specs.Body.{Body}
use Rattle.h264_base.specs.Call.{Call, span}
use Rattle.h264_base.specs.Table.{Row, IsRow}
use Rattle.h264_base.specs.Word.{Words, value_at}
use Rattle.h264_base.specs.Grammar.{Found as Seen, Done, read_word}
use Rattle.h264_base.specs.Run.{run, element_run}
use Rattle.h264_base.specs.Meets.{Reader, Meets, Is}
use Rattle.h264_base.proofs.Words.{value-reads}
use Rattle.h264_tables.specs.declared.table.Table.{Table}
use Rattle.h264_tables.specs.declared.table.Table.TheVariants.{CoeffTokenNc0, CoeffTokenNc2, CoeffTokenNc4, CoeffTokenNc8, CoeffTokenChromaDc}
use Rattle.h264_tables.specs.CoeffToken.{coeff_token_nc0, coeff_token_nc2, coeff_token_nc4, coeff_token_nc8, coeff_token_chroma_dc}
use Rattle.h264_tables.specs.Table.{rows_of, code_table}
use Rattle.h264_bits.specs.declared.element.Found.{Found}
use Rattle.h264_bits.specs.Seen.{seen_unsigned}
use Rattle.h264_cavlc.specs.Token.{coeff_token_table}

unfoldable are_tokens : List Row → Bool
are_tokens [] = true
are_tokens (r ∷ rows) = nat_le (r.value % 4) (r.value / 4) && are_tokens rows

row-token : (rows : List Row) (r : Row) → are_tokens rows ≡ true → IsRow rows r → r.value % 4 ≤ r.value / 4
unfolding are_tokens
row-token [] r e m = absurd m
row-token (q ∷ rows) r e (inl same) = let h : q.value % 4 ≤ q.value / 4 = leb-true _ _ (and_parts _ _ e).0 in let v = ap (λ (p : Row). p.value) same in
    rw (← v) h
row-token (q ∷ rows) r e (inr m) = row-token rows r (and_parts _ _ e).1 m

choice-tokens : (a b c d : Bool) → are_tokens
    (rows_of (if a then CoeffTokenChromaDc else if b then CoeffTokenNc0 else if c then CoeffTokenNc2 else if d then CoeffTokenNc4 else CoeffTokenNc8)) ≡ true
unfolding are_tokens coeff_token_nc0 coeff_token_nc2 coeff_token_nc4 coeff_token_nc8 coeff_token_chroma_dc
choice-tokens true b c d = refl
choice-tokens false true c d = refl
choice-tokens false false true d = refl
choice-tokens false false false true = refl
choice-tokens false false false false = refl

table-tokens : (size nc : ℕ) → are_tokens (rows_of (coeff_token_table size nc)) ≡ true
unfolding coeff_token_table
table-tokens size nc = choice-tokens (size == 4) (nat_lt nc 2) (nat_lt nc 4) (nat_lt nc 8)

answer_value : Result (Seen × ℕ) Stop → ℤ
answer_value (Ok x) = x.0.value
answer_value (Err e) = pos 0

found-at : (body : Body) (name : ElementName) (rule : Rule) (i : ℕ) (v : Seen) (j : ℕ) (o : Option (ℤ × ℕ)) →
    (element_run body name rule i (λ k e. run (Done e) body k) o).answer ≡ Ok (v, j) → (x : ℤ × ℕ) × (o ≡ Some x) × (x.0 ≡ v.value)
unfolding run answer_value
found-at body name rule i v j None e = absurd (cc)
found-at body name rule i v j (Some x) e = (x, refl, ap answer_value e)

-- the row of a word that was read
row-read : {S : Type 0} {took : S → List Call → Type 0} {failures : S → ℕ} (rule : Rule) (name : ElementName) (table : Table) {old new : Reader} {s s' : S}
    {f : Found ℕ} → Meets (span took failures s s') (Is seen_unsigned) (read_word rule name (Words (code_table table))) old new (Ok f) → (r : Row) ×
    IsRow (rows_of table) r × (f.value ≡ r.value)
unfolding run read_word
row-read rule name table {old} {new} {f = f} m =
    let x = found-at old.body name rule old.at m.meets.0 new.at (value_at (Words (code_table table)) old.body.bytes old.at) m.meets.2 in
    let w = value-reads (Words (code_table table)) old.body.bytes old.at x.0.0 x.0.1 x.1 in
    let r = w.1 in
    let v : m.meets.0.value ≡ pos f.value = ap (λ (s : Seen). s.value) m.meets.1 in
    let p : pos f.value ≡ pos r.0.value = sym v ∙ sym x.2 ∙ r.3 in
    (r.0, r.1, cc)

pub ones-within : {S : Type 0} {took : S → List Call → Type 0} {failures : S → ℕ} (rule : Rule) (name : ElementName) (table : Table) {old new : Reader}
    {s s' : S} {f : Found ℕ} (size nc : ℕ) → table ≡ coeff_token_table size nc →
    Meets (span took failures s s') (Is seen_unsigned) (read_word rule name (Words (code_table table))) old new (Ok f) → f.value % 4 ≤ f.value / 4
ones-within rule name table {f = f} size nc e m =
    let r = row-read rule name table m in
    let t = ap (λ (t : Table). are_tokens (rows_of t)) e ∙ table-tokens size nc in
    let h = row-token _ r.0 t r.1 in
    let v = r.2 in
    rw v h
