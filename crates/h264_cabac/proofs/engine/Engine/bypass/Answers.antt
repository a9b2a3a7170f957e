use Rattle.std.proofs.Common.{sym, ap, ◌∙◌, arith}
use Rattle.h264_cabac.specs.Engine.{bypass}
use Rattle.h264_cabac.proofs.Decisions.{bypass-of, no-bypass, twice-below}
use Rattle.h264_cabac.proofs.engine.Engine.bypass.Goals as goal

pub returns-then-r-self-clause-step : goal.returns-then-r-self-clause-step
returns-then-r-self-clause-step c = ap bypass (sym c.self.view_is) ∙ no-bypass c.self.inside.bytes.now c.self.inside.register c.if-r-self.true

pub reduced-bin-requires-clause-below : goal.reduced-bin-requires-clause-below
reduced-bin-requires-clause-below c =
    let i = c.self.invariant in
    let l = i.loaded in
    (twice-below c.self.inside.bytes.now c.self.inside.register c.passed.result i.stands c.if-r-self.false (omega arith) i.high c.passed.ensures).1

pub refilled-self-inside-requires : goal.refilled-self-inside-requires
refilled-self-inside-requires c =
    let i = c.self.invariant in
    let l = i.loaded in
    c.reduced-bin.ensures.stands c.self.inside.bytes.now
    (twice-below c.self.inside.bytes.now c.self.inside.register c.passed.result i.stands c.if-r-self.false (omega arith) i.high c.passed.ensures).0

pub returns-clause-step : goal.returns-clause-step
returns-clause-step c =
    let i = c.self.invariant in
    let l = i.loaded in
    bypass-of c.self.inside.bytes.now c.args.self.now c.self.inside.register c.passed.result c.reduced-bin.result.1 c.refilled-self-inside.result
    c.reduced-bin.result.0 c.self.view_is i.stands c.if-r-self.false (omega arith) c.passed.ensures (c.reduced-bin.ensures.step c.self.inside.bytes.now)
    c.refilled-self-inside.ensures.same
