use Rattle.std.proofs.Common.{◌≡◌, sym, ◌∙◌, length, arith}
use Rattle.h264_deblock.proofs.CodedEdges.{four, strong-by-p, beside-intra}
use Rattle.h264_deblock.proofs.Numbers.{four-word, below-word, zero-word-is}
use Rattle.h264_deblock.proofs.Skips.{still-border}
use Rattle.h264_deblock.proofs.skipped.border_strengths.Goals as goal

pub returns-then-edge-clause-here : goal.returns-then-edge-clause-here
returns-then-edge-clause-here c v p q i s = strong-by-p v p q c.args.edge.now.intra (beside-intra v c.args.edge.now p i) c.if-edge.true

pub returns-then-edge-clause-word : goal.returns-then-edge-clause-word
returns-then-edge-clause-word c = four-word

pub returns-then-are_like-clause-here : goal.returns-then-are_like-clause-here
returns-then-are_like-clause-here c v p q i s =
    let edge = c.args.edge.now in
    let t : length edge.totals ≡ 4 = omega arith in
    still-border v edge c.args.own.now p q i s c.if-edge.false t (sym c.are_blank.ensures ∙ c.if-are_blank.true) (sym c.are_like.ensures ∙ c.if-are_like.true)

pub returns-then-are_like-clause-word : goal.returns-then-are_like-clause-word
returns-then-are_like-clause-word c = zero-word-is

pub returns-clause-here : goal.returns-clause-here
returns-clause-here c v p q i s = four v 0 p q _ _ _ _ (c.beside.ensures.here v p q i s) (c.beside-2.ensures.here v p q i s)
    (c.beside-3.ensures.here v p q i s) (c.beside-4.ensures.here v p q i s)

pub returns-clause-word : goal.returns-clause-word
returns-clause-word c = below-word _ _ _ _ c.beside.ensures.small c.beside-2.ensures.small c.beside-3.ensures.small c.beside-4.ensures.small
