use Rattle.std.proofs.Common.{◌≡◌, sym, ◌∙◌, length, arith}
use Rattle.h264_deblock.specs.CodedEdges.{named}
use Rattle.h264_deblock.proofs.CodedEdges.{strong-by-p, strong-by-q, beside-intra, even-border}
use Rattle.h264_deblock.proofs.Numbers.{four-word, below-word}
use Rattle.h264_deblock.proofs.strengths.border_strengths.Goals as goal

pub returns-then-edge-clause-here : goal.returns-then-edge-clause-here
returns-then-edge-clause-here c e p q i s =
    strong-by-p c.args.vertical p q c.args.edge.now.intra (beside-intra c.args.vertical c.args.edge.now p i) c.if-edge.true

pub returns-then-own-clause-here : goal.returns-then-own-clause-here
returns-then-own-clause-here c e p q i s = strong-by-q c.args.vertical p q c.args.own.now.intra s.intra c.if-own.true

pub returns-then-is_steady-clause-here : goal.returns-then-is_steady-clause-here
returns-then-is_steady-clause-here c e p q i s =
    let edge = c.args.edge.now in
    let own = c.args.own.now in
    let k : length edge.totals ≡ 4 = omega arith in
    let l : length own.totals ≡ 16 = omega arith in
    let m : length edge.motions ≡ 4 = omega arith in
    let n : length own.motions ≡ 16 = omega arith in
    even-border c.args.vertical edge own p q i s c.if-edge.false c.if-own.false k l m n (e c.if-even.true) (sym c.is_steady.ensures ∙ c.if-is_steady.true)
    (named c.inter.result)
    (c.inter.ensures.here (λ t. absurd (cc)))

pub returns-then-edge-clause-word : goal.returns-then-edge-clause-word
returns-then-edge-clause-word c = four-word

pub returns-then-own-clause-word : goal.returns-then-own-clause-word
returns-then-own-clause-word c = four-word

pub returns-then-is_steady-clause-word : goal.returns-then-is_steady-clause-word
returns-then-is_steady-clause-word c = below-word _ _ _ _ c.inter.ensures.small c.inter.ensures.small c.inter.ensures.small c.inter.ensures.small
