use Rattle.std.proofs.Common.{◌≡◌, ap, sym, ◌∙◌, ◌-◌, Option, None}
use Rattle.std.specs.Option.{option_and_then}
use Rattle.h264_picture.specs.declared.sequence.Sequence.{Sequence}
use Rattle.h264_picture.specs.declared.frames.Frames.{Frames}
use Rattle.h264_picture.specs.Lent.{frames_in}
use Rattle.h264_picture.proofs.Canvases.{for-next}
use Rattle.h264_picture.proofs.Turns.{turned, older-place, lent_of}
use Rattle.h264_picture.proofs.work.Work.activate.Goals as goal

pub returns-clause-size : goal.returns-clause-size
returns-clause-size c = rw c.replace.ensures.after c.in-Ok.ensures.size

pub returns-clause-kept : goal.returns-clause-kept
returns-clause-kept c r p some =
    let base = c.args.self.now.base in
    let frames = option_and_then (λ (s : Sequence). frames_in s.canvas) in
    let was = frames c.args.self.now.active in
    let new = frames c.replace.new.dest in
    let before : lent_of base was c.args.self.now.older p ≡ lent_of base was None p = ap (λ (o : Option Frames). lent_of base was o p) r in
    let older : c.frames_of.result ≡ was = c.frames_of.ensures ∙ ap frames c.replace.ensures.value in
    ap (λ (o : Option Frames). lent_of (17 - base) new o p) older ∙
    turned base was new p c.args.self.now.within.0 c.args.self.now.within.1 (λ e. some (before ∙ e)) ∙ sym before

pub returns-clause-older : goal.returns-clause-older
returns-clause-older c r p some =
    let base = c.args.self.now.base in
    let was = option_and_then (λ (s : Sequence). frames_in s.canvas) c.args.self.now.active in
    let before : lent_of base was c.args.self.now.older p ≡ lent_of base was None p = ap (λ (o : Option Frames). lent_of base was o p) r in
    older-place base was p c.args.self.now.within.0 c.args.self.now.within.1 (λ e. some (before ∙ e))

pub returns-clause-places : goal.returns-clause-places
returns-clause-places c = rw c.replace.ensures.after c.in-Ok.ensures.places

pub returns-clause-serves : goal.returns-clause-serves
returns-clause-serves c = rw c.replace.ensures.after c.in-Ok.ensures.serves

pub invariant_of-self-clause-made : goal.invariant_of-self-clause-made
invariant_of-self-clause-made c =
    let old = c.args.self.now in
    let frames = option_and_then (λ (s : Sequence). frames_in s.canvas) in
    for-next old.purpose old.active c.replace.new.dest old.older _ c.in-Ok.sequence old.made c.replace.ensures.after c.in-Ok.ensures.canvas
    (c.frames_of.ensures ∙ ap frames c.replace.ensures.value)
