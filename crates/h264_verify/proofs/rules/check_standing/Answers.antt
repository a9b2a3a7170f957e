use Rattle.std.proofs.Common.{[], ◌∷◌, false}
use Rattle.h264_verify.specs.Slices.{idr_demand, set_demand}
use Rattle.h264_verify.proofs.language.SliceSteps.{set-judged, set-kept, pass-one, some-of}
use Rattle.h264_verify.proofs.rules.check_standing.Goals as goal

pub returns-then-not-begins-clause-judged : goal.returns-then-not-begins-clause-judged
returns-then-not-begins-clause-judged c =
    λ named is. rw c.if-not-begins.true (set-judged c.args.sets.now c.activate.new.self c.args.header.now false named.0 named.1 c.activate.result is
    c.activate.ensures.ok c.activate.ensures.changed)

pub returns-then-not-begins-clause-activated : goal.returns-then-not-begins-clause-activated
returns-then-not-begins-clause-activated c =
    let some = some-of _ c.requires.named in
    set-kept c.args.sets.now c.activate.new.self c.args.header.now false some.0.0 some.0.1 c.activate.result some.1 c.activate.ensures.ok
    c.activate.ensures.changed

pub returns-clause-judged : goal.returns-clause-judged
returns-clause-judged c = λ named is.
    let met = rw (c.may_begin.ensures, c.is_some-idr.ensures) at c.in_ok-check.ensures in
    let ok = rw c.is_some-idr.ensures at c.activate-2.ensures.ok in
    let changed = rw c.is_some-idr.ensures at c.activate-2.ensures.changed in
    let set = set-judged c.args.sets.now c.activate-2.new.self c.args.header.now _ named.0 named.1 c.activate-2.result is ok changed in
    rw c.if-not-begins.false (pass-one (idr_demand c.args.due c.args.bit c.args.header.now) (set_demand _ c.args.sets.now named.1 c.args.header.now ∷ []) _
    c.activate-2.result met set)

pub returns-clause-activated : goal.returns-clause-activated
returns-clause-activated c =
    let some = some-of _ c.requires.named in
    set-kept c.args.sets.now c.activate-2.new.self c.args.header.now _ some.0.0 some.0.1 c.activate-2.result some.1 c.activate-2.ensures.ok
    c.activate-2.ensures.changed
