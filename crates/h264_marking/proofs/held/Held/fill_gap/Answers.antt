use Rattle.std.proofs.Common.{refl}
use Rattle.h264_marking.proofs.Room.{filled-some, filled-left, filled-kept}
use Rattle.h264_marking.proofs.held.Held.fill_gap.Goals as goal

pub returns-then-not-fill-clause-answer : goal.returns-then-not-fill-clause-answer
returns-then-not-fill-clause-answer c = let some = filled-some c.args.missing.now _ c.args.self.now c.fill.result c.self.view_is c.fill.ensures.met in
    rw (some, c.if-not-fill.true) refl

pub returns-then-not-fill-clause-held : goal.returns-then-not-fill-clause-held
returns-then-not-fill-clause-held c = filled-left c.args.missing.now _ c.args.self.now c.fill.new.places.items c.self.view_is c.fill.ensures.left

pub returns-clause-answer : goal.returns-clause-answer
returns-clause-answer c = let some = filled-some c.args.missing.now _ c.args.self.now c.fill.result c.self.view_is c.fill.ensures.met in
    rw (some, c.if-not-fill.false) refl

pub returns-clause-held : goal.returns-clause-held
returns-clause-held c = filled-left c.args.missing.now _ c.args.self.now c.fill.new.places.items c.self.view_is c.fill.ensures.left

pub returns-clause-bounded : goal.returns-clause-bounded
returns-clause-bounded c = filled-kept c.args.missing.now c.args.self.now _ (returns-clause-held c)
