use Rattle.std.proofs.Common.{◌≡◌, lt-ltb, inl, inr, refl, arith}
use Rattle.std.proofs.lemmas.Bool.{cases_lt, le-leb, ltb-true, le-ltb}
use Rattle.std.proofs.lemmas.Result.{err_from_is_err_and}
use Rattle.h264_base.specs.Grammar.{Done, ◌>>=◌}
use Rattle.h264_base.proofs.Steps.{bind, stop, done, checked}
use Rattle.h264_cavlc.specs.Zeros.{run_before, coded_run_before, run_before_table}
use Rattle.h264_tables.proofs.Rows.{found-within}
use Rattle.h264_cavlc.proofs.Sizes.{unequal}
use Rattle.h264_cavlc.proofs.zeros.read_any_run_before.Goals as goal

pub read_entry_if-requires-clause-known : goal.read_entry_if-requires-clause-known
read_entry_if-requires-clause-known g c coded =
    let some = ltb-true 0 c.args.zeros_left coded in
    rw (c.run_before_table-table.ensures some)
    (found-within (run_before_table c.args.zeros_left) c.next_16.result c.short_run_word-length.result
    (c.short_run_word-length.ensures.word some c.if-length-eq-LONG.false).1)

pub returns-in_err-found-clause-meets : goal.returns-in_err-found-clause-meets
unfolding run_before coded_run_before ◌>>=◌
returns-in_err-found-clause-meets g c =
    let p = err_from_is_err_and c.from_residual.result c.from_residual.ensures.1 in
    elim (cases_lt 0 c.args.zeros_left) [
      | inl some ↦
          let e = unequal c.args.zeros_left 0 (omega arith) in
          let m = rw (c.run_before_table-table.ensures some, c.next_16.ensures.kept) at c.in_err-found.ensures.meets (lt-ltb 0 c.args.zeros_left some) in
          rw (p.1, p.2, e) (stop _ m)
      | inr none ↦
          let z : c.args.zeros_left ≡ 0 = omega arith in
          let m = rw c.next_16.ensures.kept at c.in_err-found.ensures.nothing (le-ltb 0 c.args.zeros_left none) in
          rw (p.1, p.2, z) (stop (λ v. Done v) m)
    ]

pub returns-in_err-check-clause-meets : goal.returns-in_err-check-clause-meets
unfolding run_before coded_run_before
returns-in_err-check-clause-meets g c =
    let p = err_from_is_err_and c.from_residual-in_err-check.result c.from_residual-in_err-check.ensures.1 in
    elim (cases_lt 0 c.args.zeros_left) [
      | inl some ↦
          let e = unequal c.args.zeros_left 0 (omega arith) in
          let m = rw (c.run_before_table-table.ensures some, c.next_16.ensures.kept) at c.in_ok-found.ensures.meets (lt-ltb 0 c.args.zeros_left some) in
          rw (p.1, p.2, e) (bind _ m (stop _ (checked _ _ _ _ c.in_err-check.ensures)))
      | inr none ↦
          let zero = c.in_ok-found.ensures.zero (le-ltb 0 c.args.zeros_left none) in
          let within = le-leb c.in_ok-found.found.value c.args.zeros_left (omega arith) in
          let broken = rw within at c.in_err-check.ensures.checks.0 in
          absurd (cc)
    ]

pub returns-clause-meets : goal.returns-clause-meets
unfolding run_before coded_run_before ◌>>=◌
returns-clause-meets g c =
    elim (cases_lt 0 c.args.zeros_left) [
      | inl some ↦
          let e = unequal c.args.zeros_left 0 (omega arith) in
          let m = rw (c.run_before_table-table.ensures some, c.next_16.ensures.kept) at c.in_ok-found.ensures.meets (lt-ltb 0 c.args.zeros_left some) in
          rw e (bind _ m (bind _ (checked _ _ _ _ c.in_ok-check.ensures) (done _ _ _ _ _ _ _ refl)))
      | inr none ↦
          let z : c.args.zeros_left ≡ 0 = omega arith in
          let m = rw c.next_16.ensures.kept at c.in_ok-found.ensures.nothing (le-ltb 0 c.args.zeros_left none) in
          rw z (bind (λ v. Done v) m (done _ _ _ _ _ _ _ refl))
    ]
