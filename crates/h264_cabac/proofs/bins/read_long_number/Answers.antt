use Rattle.std.proofs.Common.{◌∙◌, ◌+◌, ◌-◌, ◌*◌, ap, arith, sym}
use Rattle.std.proofs.lemmas.Result.{err_from_is_err_and}
use Rattle.h264_cabac.specs.Bins.{decoded}
use Rattle.h264_cabac.specs.Elements.{number_from}
use Rattle.h264_cabac.proofs.Runs.{number-more, number-none, number-end, byte-digit, power-more}
use Rattle.h264_cabac.proofs.bins.read_long_number.Goals as goal

pub returns-in_err-number-clause-value : goal.returns-in_err-number-clause-value
returns-in_err-number-clause-value c =
    let p = err_from_is_err_and c.from_residual.result c.from_residual.ensures.1 in
    let t = c.loop-i-test.true in
    rw p.1 (c.loop-i.invariant.0 ∙ number-none (c.args.n - c.loop-i._i) (c.args.n - (c.loop-i._i + 1)) c.loop-i.number _ (omega arith)
    c.in_err-number.ensures.step)

pub loop-i-preserved : goal.loop-i-preserved
loop-i-preserved c =
    let t = c.loop-i-test.true in
    let l = c.loop-i in
    let low = c.loop-i.invariant.1 in
    let b = byte-digit c.in_ok-number.field-0 in
    let power = power-more c.loop-i._i (c.loop-i._i + 1) (omega arith) in (
      l.invariant.0 ∙ (number-more (c.args.n - l._i) (c.args.n - (l._i + 1)) l.number _ _ _ (omega arith) c.in_ok-number.ensures.step ∙
          ap (λ x. decoded (number_from (c.args.n - (l._i + 1)) (2 * l.number + x)) c.bypass.new.self) (sym b.0)),
      omega arith,
    )

pub returns-clause-value : goal.returns-clause-value
returns-clause-value c =
    let t = c.loop-i-test.false in
    c.loop-i.invariant.0 ∙ number-end (c.args.n - c.loop-i._i) c.loop-i.number _ (omega arith)
