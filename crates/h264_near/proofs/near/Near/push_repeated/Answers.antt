use Rattle.std.proofs.Common.{◌≡◌, ◌+◌, ◌%◌, ◌<◌, List, ◌++◌, length, Some, replicate, ◌∙◌, sym, subst, arith}
use Rattle.h264_near.specs.Coded.{CodedMacroblock}
use Rattle.h264_near.specs.Motions.{neighbour}
use Rattle.h264_near.specs.Keeps.{Keeps}
use Rattle.h264_near.proofs.Skips.{stands-left, one-more, column-after, below-next}
use Rattle.h264_near.proofs.near.Near.push_repeated.Goals as goal

pub loop-turn-preserved : goal.loop-turn-preserved
loop-turn-preserved c =
    let v = c.loop-turn.invariant in
    let turn = c.loop-turn._turn in
    record {
      same = c.repeat.ensures.same ∙ v.same;
      keeps = λ width picture s coded k i is room.
          subst (λ p. Keeps width p c.repeat.new.self) (one-more picture turn coded)
          (c.repeat.ensures.keeps width (picture ++ replicate turn coded) s coded (v.keeps width picture s coded k i is (omega arith)) (v.same ∙ i) is
          (rw (column-after width picture turn coded (omega arith)) (omega arith)));
      left = λ width picture s coded k i is room n h motions.
          below-next (λ n. neighbour width (picture ++ replicate n coded) s.slice motions 0 1 ≡ Some (Some s.motion)) turn
          (λ n h. v.left width picture s coded k i is (omega arith) n h motions)
          (stands-left width (picture ++ replicate turn coded) c.loop-turn.self s motions (omega arith)
          (v.keeps width picture s coded k i is (omega arith)) (v.same ∙ i)) n h;
    }

pub returns-clause-keeps : goal.returns-clause-keeps
returns-clause-keeps c width picture s coded k i is room =
    let t : c.loop-turn._turn ≡ c.args.count = let f = c.loop-turn-test.false in let e = c.loop-turn.auto._turn-end in omega arith in
    subst (λ n. Keeps width (picture ++ replicate n coded) c.loop-turn.self) t (c.loop-turn.invariant.keeps width picture s coded k i is (omega arith))
