use Rattle.std.proofs.Common.{◌≡◌, ◌≢◌, ℕ, ◌≤◌, ◌<◌, Option, Some, None, inl, inr, ap, arith}
use Rattle.std.proofs.lemmas.Bool.{cases_lt}
use Rattle.std.specs.Option.{option_map}
use Rattle.h264_base.specs.Table.{Row}
use Rattle.h264_tables.specs.declared.front.Entry.{Entry}
use Rattle.h264_tables.specs.Entry.{entry_of}
use Rattle.h264_tables.specs.Front.{front_of, found_of}
use Rattle.h264_tables.specs.Table.{rows_of}
use Rattle.h264_bits.proofs.Tables.{entry-short}
use Rattle.h264_cavlc.specs.Zeros.{run_before_table}
use Rattle.h264_cavlc.proofs.zeros.read_run_before.Goals as goal

found-entry : (o : Option Row) (p : ℕ × ℕ) → 0 < p.0 → p ≡ found_of o → Some (record { length = p.0; value = p.1 }) ≡ option_map {U = Entry} entry_of o
found-entry None p some e = absurd (let z : p.0 ≡ 0 = ap (λ (q : ℕ × ℕ). q.0) e in omega arith)
found-entry (Some r) p some e = ap (λ (q : ℕ × ℕ). let x : Entry = record { length = q.0; value = q.1 } in Some x) e

run-short : (zeros_left bits : ℕ) (p : ℕ × ℕ) → (zeros_left ≡ 0 → p ≡ (0, 0)) →
    (0 < zeros_left → p.0 ≢ 16 → (0 < p.0) × (p ≡ found_of (front_of 16 (rows_of (run_before_table zeros_left)) bits))) → p.0 ≢ 16 → p.0 ≤ 16
run-short zeros_left bits p none word few = elim (cases_lt 0 zeros_left) [
  | inl some ↦ let f = word some few in entry-short (run_before_table zeros_left) bits _ (found-entry _ p f.0 f.1)
  | inr left ↦ let z : p.0 ≡ 0 = ap (λ (q : ℕ × ℕ). q.0) (none (omega arith)) in omega arith
]

pub tell_run_before-requires-clause-short : goal.tell_run_before-requires-clause-short
tell_run_before-requires-clause-short g c = let e = c.short_run_word-length.ensures in
    run-short c.args.zeros_left c.in-Some.front c.short_run_word-length.result e.none e.word c.if-length-ne-LONG.true

pub pass_by-requires-clause-few : goal.pass_by-requires-clause-few
pass_by-requires-clause-few g c =
    let e = c.short_run_word-length.ensures in
    let short = run-short c.args.zeros_left c.in-Some.front c.short_run_word-length.result e.none e.word c.if-length-ne-LONG.true in
    let n = c.from.ensures in
    omega arith

pub pass_by-requires-clause-inside : goal.pass_by-requires-clause-inside
pass_by-requires-clause-inside g c =
    let e = c.short_run_word-length.ensures in
    let short = run-short c.args.zeros_left c.in-Some.front c.short_run_word-length.result e.none e.word c.if-length-ne-LONG.true in
    let n = c.from.ensures in
    let inside = c.in-Some.ensures.together.inside in
    rw c.in-Some.ensures.kept (omega arith)
