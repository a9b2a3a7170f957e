use Rattle.std.proofs.Common.{rules, sym, ◌∙◌}
use Rattle.std.proofs.lemmas.Int.{to_z-of_z}
use Rattle.std.specs.Int.{w32}
use mir.Val.{SFits}
use Rattle.h264_vectors.proofs.Parts.{derive-off, derive-out, derive-in, none-of, some-of}
use Rattle.h264_vectors.proofs.Partitions.{stay-same, stay-with}
use Rattle.h264_vectors.proofs.derived.derive.Goals as goal

pub returns-then-not-fits-clause-agrees : goal.returns-then-not-fits-clause-agrees
returns-then-not-fits-clause-agrees c width picture places d k a =
    let b = rw c.if-not-fits.true at a in
    derive-off width c.args.around.slice.now picture _ places d c.args.part.place c.args.part.ref_idx c.args.mvd.across c.args.mvd.down b

pub returns-in-None-clause-agrees : goal.returns-in-None-clause-agrees
returns-in-None-clause-agrees c width picture places d k a =
    let b = rw c.if-not-fits.false at a in
    let f0 : SFits w32 c.args.mvd.across = search rules in
    let f1 : SFits w32 c.args.mvd.down = search rules in
    let m = simp to_z-of_z at c.moved.ensures in
    derive-out width c.args.around.slice.now picture _ places d c.args.part.place c.args.part.ref_idx c.args.mvd.across c.args.mvd.down _ b
    (c.predicted_vector-predicted.ensures width picture k) (none-of _ _ (sym c.in-None.is ∙ m))

pub returns-in-Some-clause-agrees : goal.returns-in-Some-clause-agrees
returns-in-Some-clause-agrees c width picture places d k a =
    let b = rw c.if-not-fits.false at a in
    let f0 : SFits w32 c.args.mvd.across = search rules in
    let f1 : SFits w32 c.args.mvd.down = search rules in
    let m = simp to_z-of_z at c.moved.ensures in
    let s = some-of _ _ _ (sym c.in-Some.is ∙ m) in
    derive-in width c.args.around.slice.now picture _ _ places d c.args.part.place c.args.part.ref_idx c.args.mvd.across c.args.mvd.down _ _ b
    (c.predicted_vector-predicted.ensures width picture k) s.0 s.1 (rw c.motion_of.ensures at c.fill.ensures)

pub returns-then-not-fits-clause-alike : goal.returns-then-not-fits-clause-alike
returns-then-not-fits-clause-alike c = stay-same _ _

pub returns-in-None-clause-alike : goal.returns-in-None-clause-alike
returns-in-None-clause-alike c = stay-same _ _

pub returns-in-Some-clause-alike : goal.returns-in-Some-clause-alike
returns-in-Some-clause-alike c = rw c.fill.ensures (stay-with c.args.motions.now c.args.part.place c.motion_of.result)
