use Rattle.std.proofs.Common.{◌<◌, ◌||◌, ◌==◌, not, [], length, slice_index, sym, ap, ◌∙◌, subst, arith}
use Rattle.std.proofs.lemmas.Slice.Eq.{slice_eq-Decides}
use Rattle.std.proofs.lemmas.Bool.Decides.{Decides-eqb}
use Rattle.h264_compare.specs.Differences.{differ}
use Rattle.h264_compare.specs.Numbers.{AreNoted}
use Rattle.h264_compare.proofs.Noting.{AreSmall, noted-same, noted-next, differ-same, differ-next}
use Rattle.h264_compare.proofs.numbers.Numbers.note_run.Goals as goal

pub returns-then-eq-clause-noted : goal.returns-then-eq-clause-noted
returns-then-eq-clause-noted c =
    let small : AreSmall c.args.self.now = c.know_range.ensures in
    let same = (slice_eq-Decides Decides-eqb _ _ _ c.eq.ensures).0 c.if-eq.true in
    subst (λ l. AreNoted c.args.frame c.args.byte c.args.self.now c.args.self.now c.args.made.now l) same
    (noted-same c.args.frame c.args.byte c.args.self.now c.args.made.now small)

pub returns-then-eq-clause-differ : goal.returns-then-eq-clause-differ
returns-then-eq-clause-differ c =
    let same = (slice_eq-Decides Decides-eqb _ _ _ c.eq.ensures).0 c.if-eq.true in
    sym (differ-same c.args.made.now) ∙ ap (differ c.args.made.now) same

pub loop-i-init : goal.loop-i-init
loop-i-init c =
    let small : AreSmall c.args.self.now = c.know_range.ensures in
    (noted-same c.args.frame c.args.byte c.args.self.now [] small, sym (differ-same []))

pub loop-i-preserved : goal.loop-i-preserved
loop-i-preserved c =
    let k = c.loop-i.i in
    let ms = c.args.made.now in
    let gs = c.args.given.now in
    let m : k < length ms = c.loop-i-test.true in
    let g : k < length gs = let e = c.requires.same_length in omega arith in (
      noted-next ms gs k m g c.loop-i.invariant.0 c.note.ensures,
      ap (λ b. b || not (slice_index ms k == slice_index gs k)) c.loop-i.invariant.1 ∙ sym (differ-next ms gs k m g),
    )
