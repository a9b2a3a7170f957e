use Rattle.std.proofs.Common.{List, ℕ, [], ◌++◌, take, refl, sym, ap, subst, ◌∙◌}
use Rattle.std.proofs.lemmas.Bool.{eqb-true}
use Rattle.std.proofs.lemmas.List.{append_assoc, append-nil, nil_from_length}
use Rattle.h264_strict.specs.StrictUnits.{TookBytes}
use Rattle.h264_strict.proofs.Units.{took-stopped, parts-of}
use Rattle.h264_strict.proofs.strict_units.UnitReader.take.Goals as goal

pub loop-rest-init : goal.loop-rest-init
loop-rest-init c =
    let s = c.args.self.now in
    ([], refl, λ before t. subst (λ (l : List ℕ). TookBytes s.splitter s.extent s.noted l) (sym (append-nil before)) t)

pub loop-rest-preserved : goal.loop-rest-preserved
loop-rest-preserved c =
    let s = c.take_some-n.new.self in
    let rest = c.loop-rest.rest.now in
    let done = c.loop-rest.invariant.0 in
    let more = take c.take_some-n.result rest in (
      done ++ more,
      c.loop-rest.invariant.1 ∙ ap (λ l. done ++ l) (parts-of c.take_some-n.result rest ∙ ap (λ l. more ++ l) (sym c.after-rest.ensures)) ∙
          sym (append_assoc done more c.after-rest.result.now),
      λ before t. subst (λ (l : List ℕ). TookBytes s.splitter s.extent s.noted l) (append_assoc before done more)
          (c.take_some-n.ensures.took (before ++ done) (c.loop-rest.invariant.2 before t)),
    )

-- all bytes were taken
pub returns-else-not-is_empty : goal.returns-else-not-is_empty
returns-else-not-is_empty c before t =
    let s = c.loop-rest.self in
    let done = c.loop-rest.invariant.0 in
    let none = nil_from_length _ (eqb-true _ 0 (sym c.is_empty.ensures ∙ c.if-not-is_empty.false)) in
    subst (λ (l : List ℕ). TookBytes s.splitter s.extent s.noted (before ++ l))
    (sym (c.loop-rest.invariant.1 ∙ ap (λ l. done ++ l) none ∙ append-nil done))
    (c.loop-rest.invariant.2 before t)

-- it looks at no more
pub returns-after-loop-rest : goal.returns-after-loop-rest
returns-after-loop-rest c before t =
    let s = c.loop-rest.self in
    let done = c.loop-rest.invariant.0 in
    let rest = c.loop-rest.rest.now in
    subst (λ (l : List ℕ). TookBytes s.splitter s.extent s.noted l) (append_assoc before done rest ∙ ap (λ l. before ++ l) (sym c.loop-rest.invariant.1))
    (took-stopped s.splitter s.extent s.noted (before ++ done) rest (sym c.is_whole.ensures ∙ c.loop-rest-test.false) (c.loop-rest.invariant.2 before t))
