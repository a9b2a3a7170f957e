use Rattle.std.proofs.Common.{subst, refl}
use Rattle.h264_mbsyntax.specs.Holds.{IsPrediction}
use Rattle.h264_mbsyntax.specs.Possible.{IsPossible}
use Rattle.h264_recon.proofs.FromPrediction.{intra-4x4, intra-16x16, from-pcm, from-inter}
use Rattle.h264_recon.proofs.Placed.{points, parted-are, motions-are}
use Rattle.h264_recon.proofs.input.prediction.Goals as goal

pub returns-in-Intra4x4-clause-here : goal.returns-in-Intra4x4-clause-here
returns-in-Intra4x4-clause-here c slice place w xs m h t n a = let p =
    subst (λ z. IsPrediction z c.args.read.now m.prediction) c.in-Intra4x4.is h.prediction in intra-4x4 place m.prediction _ _ p

pub returns-in-Intra16x16-clause-here : goal.returns-in-Intra16x16-clause-here
returns-in-Intra16x16-clause-here c slice place w xs m h t n a = let p =
    subst (λ z. IsPrediction z c.args.read.now m.prediction) c.in-Intra16x16.is h.prediction in intra-16x16 place m.prediction _ _ p

pub returns-in-Pcm-clause-here : goal.returns-in-Pcm-clause-here
returns-in-Pcm-clause-here c slice place w xs m h t n a = let p = subst (λ z. IsPrediction z c.args.read.now m.prediction) c.in-Pcm.is h.prediction in
    from-pcm place m.prediction _ _ p refl

pub returns-in-Inter-clause-points : goal.returns-in-Inter-clause-points
returns-in-Inter-clause-points c = points _ c.args.places.now c.args.read.now.contexts.motions

pub returns-in-Inter-clause-here : goal.returns-in-Inter-clause-here
returns-in-Inter-clause-here c slice place w xs m h t n a =
    let p = subst (λ z. IsPrediction z c.args.read.now m.prediction) c.in-Inter.is h.prediction in
    from-inter place m.prediction _ _ p.0 (motions-are slice c.args.places.now place c.args.read.now.contexts m _ n a h.contexts p.0
    (subst (IsPossible w slice xs) p.0 t) (parted-are _ c.args.places.now c.args.read.now.contexts.motions p.1))
