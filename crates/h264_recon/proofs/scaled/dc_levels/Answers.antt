use Rattle.std.proofs.Common.{◌∙◌, ap, arith, List, ℤ, get_or, replicate, pos, []}
use Rattle.std.proofs.lemmas.List.{get_or_default}
use Rattle.h264_mbsyntax.specs.Stored.{shown}
use Rattle.h264_recon.proofs.scaled.dc_levels.Goals as goal

pub returns : goal.returns
returns c =
    let a = c.args in
    c.shown4.ensures ∙ ap (λ (l : List ℤ). shown 4 (get_or a.totals.now a.c 0) l)
    (get_or_default a.stands.now a.c [] (replicate 4 (pos 0)) (omega (arith, c.told-stands, c.requires)))
