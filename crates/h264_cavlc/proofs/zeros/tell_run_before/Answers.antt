use Rattle.std.proofs.Common.{◌≡◌, ◌+◌, ◌≤◌, arith, refl}
use Rattle.std.proofs.lemmas.Bool.{le-leb}
use Rattle.std.proofs.lemmas.Result.{err_from_is_err_and}
use Rattle.h264_base.specs.declared.rule.Rule.TheVariants.{ResidualWord}
use Rattle.h264_base.specs.Word.{Words}
use Rattle.h264_base.proofs.Steps.{bind, stop, done, checked}
use Rattle.h264_tables.specs.Table.{code_table}
use Rattle.h264_bits.proofs.Held.{held-word}
use Rattle.h264_cavlc.specs.Zeros.{run_before, coded_run_before, run_before_table}
use Rattle.h264_cavlc.proofs.Sizes.{unequal}
use Rattle.h264_cavlc.proofs.zeros.tell_run_before.Goals as goal

pub returns-in_err-tell_ahead : goal.returns-in_err-tell_ahead
unfolding run_before coded_run_before
returns-in_err-tell_ahead g c =
    let p = err_from_is_err_and c.from_residual.result c.from_residual.ensures.1 in
    let r = c.args.bits.now in
    let some = c.if-zeros_left-gt0.true in
    let e = unequal c.args.zeros_left 0 (λ z. absurd (omega arith)) in
    let inside = c.requires.together.inside in
    let short = c.requires.short in
    let none : r.at + 0 ≡ r.at = omega arith in
    let m = rw (none, c.from-length.ensures, c.from-value.ensures) at c.in_err-tell_ahead.ensures.meets in
    rw (p.1, p.2, e) (stop _ (m ResidualWord (Words (code_table (run_before_table c.args.zeros_left)))
    (held-word (run_before_table c.args.zeros_left) r.body.bytes r.at c.args.word (c.requires.word some) (omega arith))))

pub returns-in_ok-tell_ahead : goal.returns-in_ok-tell_ahead
unfolding run_before coded_run_before
returns-in_ok-tell_ahead g c =
    let r = c.args.bits.now in
    let some = c.if-zeros_left-gt0.true in
    let e = unequal c.args.zeros_left 0 (λ z. absurd (omega arith)) in
    let inside = c.requires.together.inside in
    let short = c.requires.short in
    let none : r.at + 0 ≡ r.at = omega arith in
    let m = rw (none, c.from-length.ensures, c.from-value.ensures) at c.in_ok-tell_ahead.ensures.meets in
    let f = c.in_ok-tell_ahead.field-0 in
    let value : f.value ≡ c.args.word.value = (let v = c.in_ok-tell_ahead.ensures.value in let w = c.from-value.ensures in omega arith) in
    let few : f.value ≤ c.args.zeros_left = (let w = c.requires.few in omega arith) in
    rw e (bind _ (m ResidualWord (Words (code_table (run_before_table c.args.zeros_left)))
    (held-word (run_before_table c.args.zeros_left) r.body.bytes r.at c.args.word (c.requires.word some) (omega arith)))
    (bind _ (checked _ _ _ _ (record { checks = le-leb _ _ few })) (done _ _ _ _ _ _ _ value)))

pub returns-else-zeros_left-gt0 : goal.returns-else-zeros_left-gt0
unfolding run_before
returns-else-zeros_left-gt0 g c =
    let r = c.args.bits.now in
    let z : c.args.zeros_left ≡ 0 = (let f = c.if-zeros_left-gt0.false in omega arith) in
    let length = c.requires.none z in
    let value : c.args.word.value ≡ 0 = (let w = c.requires.few in omega arith) in
    let none : r.at + 0 ≡ r.at = omega arith in
    rw (z, length, value, none) (done _ _ _ _ _ _ _ refl)
