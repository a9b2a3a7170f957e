use Rattle.std.proofs.Common.{◌∙◌, Some, not, refl, ap}
use Rattle.h264_compare.proofs.Noting.{noted-one, sum-at, first-new, first-kept, first-same}
use Rattle.h264_compare.proofs.numbers.Numbers.note.Goals as goal
use Rattle.h264_compare.proofs.numbers.Numbers.note.Goals.{else-made-given-via-then-made-given+else-is_none, else-made-given-via-else-made-given}

pub returns-then-is_none : goal.returns-then-is_none
returns-then-is_none c =
    let f = c.args.frame in
    noted-one f c.args.byte c.args.made c.args.given c.args.self.now _
    (ap (λ p. Some (record { frame = f.number; place = p; made = c.args.made; given = c.args.given })) c.place_at.ensures
    ∙ first-new f c.args.byte c.args.made c.args.given c.args.self.now.first (c.is_none.ensures ∙ ap not c.if-is_none.true) c.if-made-given.true)
    (λ k. c.add.ensures k ∙ sum-at k _ _ _ _ _ c.plane_at.ensures c.square.ensures) refl refl refl

pub returns-else-made-given : goal.returns-else-made-given
returns-else-made-given c =
    let f = c.args.frame in
    noted-one f c.args.byte c.args.made c.args.given c.args.self.now _
    (elim c.else-made-given.branch [
      | else-made-given-via-then-made-given+else-is_none w ↦ first-kept f c.args.byte c.args.made c.args.given c.args.self.now.first
          (w.is_none.ensures ∙ ap not w.if-is_none.false)
      | else-made-given-via-else-made-given w ↦ first-same f c.args.byte c.args.made c.args.given c.args.self.now.first w.if-made-given.false
    ])
    (λ k. c.add.ensures k ∙ sum-at k _ _ _ _ _ c.plane_at.ensures c.square.ensures) refl refl refl
