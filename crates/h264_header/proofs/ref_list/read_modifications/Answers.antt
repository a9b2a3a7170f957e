use Rattle.std.proofs.Common.{◌+◌, refl, sym}
use Rattle.std.proofs.lemmas.Result.{err_from_is_err_and}
use Rattle.h264_base.proofs.Steps.{kept, done}
use Rattle.h264_header.specs.RefList.{modification, modifications_if}
use Rattle.h264_header.proofs.Entries.{listed-starts, listed-next, listed-stop, listed-ends, listed-over}
use Rattle.h264_header.proofs.ref_list.read_modifications.Goals as goal

pub returns-then-not-modified : goal.returns-then-not-modified
unfolding modifications_if
returns-then-not-modified g c = rw c.if-not-modified.true (done _ _ _ _ _ _ _ (sym c.requires.empty))

pub loop-turn-init : goal.loop-turn-init
loop-turn-init g c = record {
  rest = listed-starts (modification c.args.greatest c.args.active) (c.args.active + 1) c.args.commands.now.items _ _
      c.requires.empty;
  room = c.requires.room;
}

pub returns-in_err-next : goal.returns-in_err-next
unfolding modifications_if
returns-in_err-next g c = let p = err_from_is_err_and c.from_residual.result c.from_residual.ensures.1 in
    rw (p.1, p.2, c.if-not-modified.false) (listed-stop (modification c.args.greatest c.args.active) (c.args.active + 1) c.loop-turn._turn
    c.loop-turn.commands.items c.loop-turn-test.true c.loop-turn.invariant.rest c.in_err-next.ensures.meets)

pub returns-in-None : goal.returns-in-None
unfolding modifications_if
returns-in-None g c = let m = rw c.in-None.is at c.in_ok-next.ensures.meets in
    rw c.if-not-modified.false (listed-ends (modification c.args.greatest c.args.active) (c.args.active + 1) c.loop-turn._turn c.loop-turn.commands.items _
    c.loop-turn-test.true refl c.loop-turn.invariant.rest m)

pub loop-turn-preserved : goal.loop-turn-preserved
loop-turn-preserved g c =
    let m = rw c.in-Some.is at c.in_ok-next.ensures.meets in
    record {
      rest = listed-next (modification c.args.greatest c.args.active) (c.args.active + 1) c.loop-turn._turn c.loop-turn.commands.items _ c.loop-turn-test.true
          c.push.ensures.items c.loop-turn.invariant.rest m;
      room = let k = kept c.in_ok-next.ensures.meets in let r = c.loop-turn.invariant.room in rw k r;
    }

pub returns : goal.returns
unfolding modifications_if
returns g c = rw c.if-not-modified.false
    (listed-over (modification c.args.greatest c.args.active) (c.args.active + 1) c.loop-turn._turn c.loop-turn.commands.items _ c.loop-turn-test.false refl
    c.loop-turn.invariant.rest)
