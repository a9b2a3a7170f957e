use Rattle.std.proofs.Common.{arith, ◌≡◌, rules, refl, ◌+ℤ◌, pos}
use Rattle.std.proofs.lemmas.Int.{to_z-of_z, to_z_pos}
use Rattle.std.specs.Int.{w64}
use mir.Syntax.{w16}
use mir.Val.{SFits, to_z}
use Rattle.h264_vectors.specs.Derived.{component_fits}
use Rattle.h264_vectors.proofs.range.component_fits.Goals as goal

pub returns-then-x-limit-lt0 : goal.returns-then-x-limit-lt0
unfolding component_fits
returns-then-x-limit-lt0 c =
    let f0 : SFits w16 c.args.component = search rules in
    let f2 : SFits w64 c.args.component = search rules in
    let r = c.requires in
    let z : to_z w64 c.args.limit ≡ pos c.args.limit = to_z_pos w64 c.args.limit (omega arith) in
    let f5 : SFits w64 (pos c.args.limit) = search rules in
    let f6 : SFits w64 (c.args.component +ℤ pos c.args.limit) = search rules in
    let t = simp to_z-of_z at (rw z at c.if-x-limit-lt0.true) in
    rw t refl

pub returns-then-limit-x : goal.returns-then-limit-x
unfolding component_fits
returns-then-limit-x c =
    let f0 : SFits w16 c.args.component = search rules in
    let f2 : SFits w64 c.args.component = search rules in
    let r = c.requires in
    let z : to_z w64 c.args.limit ≡ pos c.args.limit = to_z_pos w64 c.args.limit (omega arith) in
    let f5 : SFits w64 (pos c.args.limit) = search rules in
    let f6 : SFits w64 (c.args.component +ℤ pos c.args.limit) = search rules in
    let t = simp to_z-of_z at (rw z at c.if-x-limit-lt0.false) in
    let u = simp to_z-of_z at (rw z at c.if-limit-x.true) in
    rw (t, u) refl

pub returns : goal.returns
unfolding component_fits
returns c =
    let f0 : SFits w16 c.args.component = search rules in
    let f2 : SFits w64 c.args.component = search rules in
    let r = c.requires in
    let z : to_z w64 c.args.limit ≡ pos c.args.limit = to_z_pos w64 c.args.limit (omega arith) in
    let f5 : SFits w64 (pos c.args.limit) = search rules in
    let f6 : SFits w64 (c.args.component +ℤ pos c.args.limit) = search rules in
    let t = simp to_z-of_z at (rw z at c.if-x-limit-lt0.false) in
    let u = simp to_z-of_z at (rw z at c.if-limit-x.false) in
    rw (t, u) refl
