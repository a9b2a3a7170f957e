use Rattle.std.proofs.Common.{◌∙◌, subst, sym}
use Rattle.h264_mbsyntax.specs.Holds.{IsPrediction}
use Rattle.h264_recon.specs.Constructed.{IsWithin}
use Rattle.h264_recon.specs.declared.macroblock.Available.{Available}
use Rattle.h264_near.specs.Keeps.{width_of}
use Rattle.h264_recon.proofs.Within.{none-within, used-4x4, used-16x16, unused-pcm, unused-inter}
use Rattle.h264_recon.proofs.input.used.Goals as goal

pub returns-in-Intra4x4-clause-here : goal.returns-in-Intra4x4-clause-here
returns-in-Intra4x4-clause-here c w xs m k e h is =
    let p = subst (λ z. IsPrediction z c.args.read.now m.prediction) c.in-Intra4x4.is is.prediction in
    c.available.ensures.here w xs k e h ∙ used-4x4 m.prediction _ _ _ p

pub returns-in-Intra16x16-clause-here : goal.returns-in-Intra16x16-clause-here
returns-in-Intra16x16-clause-here c w xs m k e h is =
    let p = subst (λ z. IsPrediction z c.args.read.now m.prediction) c.in-Intra16x16.is is.prediction in
    c.available-in-Intra16x16.ensures.here w xs k e h ∙ used-16x16 m.prediction _ _ _ p

pub returns-in-Pcm-clause-within : goal.returns-in-Pcm-clause-within
returns-in-Pcm-clause-within c = subst (λ (a : Available). IsWithin a (width_of c.args.near.now) c.args.column c.args.row) (sym c.no_sides.ensures)
    (none-within _ _ _)

pub returns-in-Pcm-clause-here : goal.returns-in-Pcm-clause-here
returns-in-Pcm-clause-here c w xs m k e h is =
    let p = subst (λ z. IsPrediction z c.args.read.now m.prediction) c.in-Pcm.is is.prediction in
    c.no_sides.ensures ∙ unused-pcm m.prediction _ _ p

pub returns-in-Inter-clause-within : goal.returns-in-Inter-clause-within
returns-in-Inter-clause-within c = subst (λ (a : Available). IsWithin a (width_of c.args.near.now) c.args.column c.args.row) (sym c.no_sides-in-Inter.ensures)
    (none-within _ _ _)

pub returns-in-Inter-clause-here : goal.returns-in-Inter-clause-here
returns-in-Inter-clause-here c w xs m k e h is =
    let p = subst (λ z. IsPrediction z c.args.read.now m.prediction) c.in-Inter.is is.prediction in
    c.no_sides-in-Inter.ensures ∙ unused-inter m.prediction _ _ p.0
