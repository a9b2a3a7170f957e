use Rattle.std.proofs.Common.{refl, subst, sym}
use Rattle.h264_verify.proofs.kept.WhereMade.{MakesNone, full-made, quiet-made}
use Rattle.h264_verify.proofs.state.decoder_for.Goals as goal

pub returns-in-Units : goal.returns-in-Units
returns-in-Units c = λ frames h. quiet-made _ c.args.depth _ refl (subst MakesNone (sym c.in-Units.is) tt)

pub returns-in-Headers : goal.returns-in-Headers
returns-in-Headers c = λ frames h. quiet-made _ c.args.depth _ refl (subst MakesNone (sym c.in-Headers.is) tt)

pub returns-in-Full : goal.returns-in-Full
returns-in-Full c = λ frames h. full-made _ c.args.depth _ c.in-Full.is (c.new.ensures frames h)
