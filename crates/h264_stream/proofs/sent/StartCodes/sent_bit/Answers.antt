use Rattle.std.proofs.Common.{ap, ◌∙◌, arith}
use Rattle.std.proofs.lemmas.List.{drop_all}
use Rattle.h264_stream.specs.Sent.{code_bits_before}
use Rattle.h264_stream.proofs.Sending.{code-bits-next, code-bits-none}
use Rattle.h264_stream.proofs.sent.StartCodes.sent_bit.Goals as goal

pub loop-code-preserved : goal.loop-code-preserved
loop-code-preserved c =
    let e = code-bits-next c.as_slice-code-items.result.now c.args.bit c.loop-code.code-index c.loop-code-test.true in
    omega (arith, e)

pub returns : goal.returns
returns c =
    let items = c.as_slice-code-items.result.now in
    let none = ap (λ l. code_bits_before l c.args.bit) (drop_all c.loop-code.code-index items c.loop-code-test.false) ∙ code-bits-none c.args.bit in
    let same = ap (λ l. code_bits_before l c.args.bit) c.as_slice-code-items.ensures.value in
    omega (arith, none, same)
