use Rattle.std.proofs.Common.{List, ℕ, ◌++◌, length, take, sym, subst}
use Rattle.std.proofs.lemmas.Bool.{false_from_ne_true, false≢true}
use Rattle.std.proofs.Math.Seq.{take-length}
use Rattle.h264_strict.specs.StrictExtent.{extent_after}
use Rattle.h264_strict.specs.StrictUnits.{TookBytes}
use Rattle.h264_strict.specs.declared.strict_extent.Extent.{Extent}
use Rattle.h264_strict.proofs.Units.{took-stop, took-some, took-unit}
use Rattle.h264_strict.proofs.strict_units.UnitReader.take_some.Goals as goal

pub returns-in-Err-clause-took : goal.returns-in-Err-clause-took
returns-in-Err-clause-took c before t =
    let s = c.args.self.now in
    let piece = c.args.piece.now in
    let going = subst (λ (r : Extent). TookBytes s.splitter r s.noted before) c.requires.goes t in
    subst (λ (r : Extent). TookBytes c.push.new.self r s.noted (before ++ take (length piece) piece)) (sym c.extent_after-self.ensures)
    (subst (λ (l : List ℕ). TookBytes c.push.new.self (extent_after c.in-Err.stop) s.noted (before ++ l)) (sym (take-length piece))
    (took-stop s.splitter c.push.new.self s.noted before piece c.in-Err.stop going c.in-Err.ensures.err))

pub returns-in-None-clause-took : goal.returns-in-None-clause-took
returns-in-None-clause-took c before t =
    let s = c.args.self.now in
    let piece = c.args.piece.now in
    let going = subst (λ (r : Extent). TookBytes s.splitter r s.noted before) c.requires.goes t in
    subst (λ (r : Extent). TookBytes c.take_unit.new.self r s.noted (before ++ take c.in-Ok.n piece)) (sym c.requires.goes)
    (took-some s.splitter c.push.new.self s.noted before piece c.in-Ok.n going c.in-Ok.ensures.ok c.take_unit.new.self c.in-None.ensures.none
    (false_from_ne_true _ (λ h. false≢true (c.in-None.ensures.when.1 h))))

pub returns-in-Some-clause-took : goal.returns-in-Some-clause-took
returns-in-Some-clause-took c before t =
    let s = c.args.self.now in
    let piece = c.args.piece.now in
    let later = c.note_unit-looked.new.noted in
    let going = subst (λ (r : Extent). TookBytes s.splitter r s.noted before) c.requires.goes t in
    subst (λ (r : Extent). TookBytes c.take_unit.new.self r later (before ++ take c.in-Ok.n piece)) (sym c.extent_of-self.ensures)
    (took-unit s.splitter c.push.new.self s.noted before piece c.in-Ok.n going c.in-Ok.ensures.ok c.take_unit.new.self c.in-Some.unit c.in-Some.ensures.some
    s.runs.1
    c.note_unit-looked.result later c.note_unit-looked.ensures.noted c.note_unit-looked.ensures.unnoted)
