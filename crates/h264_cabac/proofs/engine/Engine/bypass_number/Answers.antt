use Rattle.std.proofs.Common.{◌∙◌, Some, sym, ap, arith}
use Rattle.h264_cabac.specs.Engine.{EngineState, bypass_number}
use Rattle.h264_cabac.specs.Register.{engine_of}
use Rattle.h264_cabac.proofs.Parts.{offset-below}
use Rattle.h264_cabac.proofs.Divided.{bypass_number-outside}
use Rattle.h264_cabac.proofs.Quotients.{reduced_by, reduced-is, number-is}
use Rattle.h264_cabac.proofs.engine.Engine.bypass_number.Goals as goal

pub returns-then-n-self-clause-step : goal.returns-then-n-self-clause-step
returns-then-n-self-clause-step c =
    let inside = c.self.invariant.stands.inside in
    ap (bypass_number c.args.n 0) (sym c.self.view_is) ∙
    bypass_number-outside c.args.n 0 (engine_of c.self.inside.bytes.now c.self.inside.register) inside (omega arith)

pub refilled-self-inside-requires : goal.refilled-self-inside-requires
refilled-self-inside-requires c =
    let i = c.self.invariant in
    let s = c.self.invariant.stands.inside in
    let few = c.requires in
    let loaded = i.loaded in
    let low = i.low in
    rw c.divided-number.ensures.register
    (reduced-is c.self.inside.bytes.now c.self.inside.register c.args.n (omega arith) (omega arith) (omega arith) i.stands).stands

pub returns-clause-step : goal.returns-clause-step
returns-clause-step c =
    let i = c.self.invariant in
    let s = c.self.invariant.stands.inside in
    let few = c.requires in
    let loaded = i.loaded in
    let low = i.low in
    let bytes = c.self.inside.bytes.now in
    let r = c.self.inside.register in
    let d = c.divided-number.ensures in
    ap (bypass_number c.args.n 0) (sym c.self.view_is) ∙
    (number-is bytes r c.args.n (omega arith) (omega arith) (omega arith) (offset-below bytes r i.stands) i.stands ∙
    (ap (λ v. Some (v, engine_of bytes (reduced_by r c.args.n))) (sym d.number) ∙
    ap (λ (e : EngineState). Some (c.divided-number.result.0, e)) (sym (c.refilled-self-inside.ensures.same ∙ ap (engine_of bytes) d.register))))
