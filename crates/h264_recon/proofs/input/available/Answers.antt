use Rattle.std.proofs.Common.{◌∙◌, ap, ◌&&◌, nat_lt}
use Rattle.h264_recon.proofs.Within.{available-is}
use Rattle.h264_recon.proofs.input.available.Goals as goal

pub returns-clause-here : goal.returns-clause-here
returns-clause-here c w xs k e h =
    available-is w xs c.args.slice c.args.constrained c.args.column c.args.row c.width.result c.macroblock_samples-samples.result c.above_right-right.result _
    _ _ _ e h (c.width.ensures ∙ k.sized) (c.macroblock_samples-samples.ensures w xs k) (c.above_right-right.ensures w xs k)
    c.lies.ensures c.lies-2.ensures (c.lies-4.ensures ∙ ap (λ z. nat_lt 0 c.args.row && z) c.lies-3.ensures)
    (c.lies-6.ensures ∙ ap (λ z. nat_lt 0 c.args.column && z) c.lies-5.ensures)
